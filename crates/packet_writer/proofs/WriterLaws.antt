-- What the writer stores.
use Prim.Native.Nat.{ℕ, ◌+◌, ◌≤◌}
use mathlib.Core.Path.{◌≡◌, refl, ap, ◌∙◌}
use mathlib.Core.List.{List, ◌∷◌, ◌++◌}
use lib.ListN.{length, drop}
use lib.Seq.{sets, sets-eq}
use native.Mathlib.Omega.{arith}
use Rattle.wire.specs.Numbers.{bytes_of}
use Rattle.layout.specs.Layout.{bytes}
use Rattle.layout.specs.Body.{body_bytes}
use Rattle.packets.specs.Layouts.{header_layout, content_at}
use Rattle.packets.specs.View.{PacketValues}
use Rattle.packets.specs.Packets.{value_bytes, packet_bytes, size_of}
use Rattle.packets.proofs.PacketLaws.{length-packet_bytes}
use Rattle.packets.specs.Packet.{Packet}

-- the content is stored behind number and header
pub behind-header : (v : PacketValues) (l : List ℕ) → sets (sets l 0 (v.kind.number ∷ bytes header_layout v.header)) content_at (body_bytes v.kind.content v.content) ≡ sets l 0 (value_bytes v)
unfolding value_bytes bytes bytes_of
behind-header v l = refl

-- a packet stored at the front keeps the bytes behind
pub stored_front : (p : Packet) (l : List ℕ) → size_of p ≤ length l → sets l 0 (packet_bytes p) ≡ packet_bytes p ++ drop (size_of p) l
stored_front p l h =
    let n = length-packet_bytes p in
    let m : 0 + length (packet_bytes p) ≡ size_of p = omega arith in
    sets-eq (packet_bytes p) l 0 (omega arith) ∙ ap (λ (k : ℕ). packet_bytes p ++ drop k l) m
