-- Laws of the packets' bytes and sizes, and of the writer.
use Prim.Native.Nat.{ℕ, ◌+◌, ◌*◌, ◌≤◌}
use mathlib.Core.Path.{◌≡◌, refl, ap, ◌∙◌}
use mathlib.Core.List.{List, [], ◌∷◌, ◌++◌, append_assoc, append-nil}
use mathlib.Core.Bool.{true}
use lib.ListN.{length, drop, length-append, length-map}
use borrow.Author.Tests.{le-ltb}
use native.Mathlib.Omega.{arith}
use Rattle.std.specs.Borrow.{Bor}
use Rattle.std.specs.Prelude.{Option}
use Rattle.std.specs.Option.{UnwrapsOrElse}
use Rattle.std.specs.Slice.{IsGetRangeResult}
use Rattle.wire.specs.Judged.Judged.{accept}
use Rattle.wire.proofs.NumberLaws.{rest_from}
use Rattle.layout.specs.Layout.{bytes, values_at}
use Rattle.layout.specs.Body.{body_bytes, body_at}
use Rattle.layout.proofs.LayoutLaws.{length-bytes, values_from}
use Rattle.layout.proofs.BodyLaws.{length-body}
use Rattle.adhesion.specs.Constraints.{constraints_body, constraint_of, constraints_of}
use Rattle.adhesion.specs.View.{constraint_view}
use Rattle.adhesion.specs.declared.TemporaryConstraint.{TemporaryConstraint}
use Rattle.packets.specs.Layouts.{header_layout, content_at, content61, kind64, requested_of}
use Rattle.packets.specs.View.{PacketValues, packet_values}
use Rattle.packets.specs.Packets.{value_bytes, values_size, packet_bytes, joined, size_of, size_for, packet_fits, written_count, written_memory}
use Rattle.packets.specs.Packet.{Packet}
use Rattle.packets.specs.declared.Header.{Header}

pub length-values : (v : PacketValues) → length (value_bytes v) ≡ values_size v
unfolding value_bytes
length-values v =
    let a = length-append (bytes header_layout v.header) (body_bytes v.kind.content v.content) in
    let b = length-bytes header_layout v.header in
    let c = length-body v.kind.content v.content in
    omega arith

pub length-packet_bytes : (p : Packet) → length (packet_bytes p) ≡ size_of p
length-packet_bytes p = length-values (packet_values p)

-- of a packet 64: 18, and 16 a row, by its rows and by its bytes
pub size_64 : (h : Header) (rows : List TemporaryConstraint) → size_of (Packet.AdhesionSystem h rows) ≡ 18 + length rows * 16
size_64 h rows = omega (arith, length-map rows constraint_view)

pub told_64 : (s : List ℕ) → size_for (accept kind64) s ≡ 18 + length (constraints_of (body_at constraints_body content_at s)) * 16
told_64 s = omega (arith, length-map (body_at constraints_body content_at s) constraint_of)

-- ---- several packets

pub joined-append : (ps qs : List Packet) → joined (ps ++ qs) ≡ joined ps ++ joined qs
joined-append [] qs = refl
joined-append (p ∷ ps) qs = rw (joined-append ps qs, append_assoc)

pub length-joined : (ps qs : List Packet) → length (joined (ps ++ qs)) ≡ length (joined ps) + length (joined qs)
length-joined ps qs = ap length (joined-append ps qs) ∙ length-append (joined ps) (joined qs)

pub length-one : (p : Packet) (n : ℕ) → size_of p ≡ n → length (joined (p ∷ [])) ≡ n
length-one p n e = ap length (append-nil (packet_bytes p)) ∙ length-packet_bytes p ∙ e

-- ---- the writer where it writes

pub written_all : (p : Packet) (memory : List ℕ) → packet_fits p ≡ true → size_of p ≤ length memory
    → (written_count p memory ≡ accept (size_of p)) × (written_memory p memory ≡ packet_bytes p ++ drop (size_of p) memory)
unfolding written_count written_memory
written_all p memory e h = (rw (e, le-ltb _ _ h), rw (e, le-ltb _ _ h))

-- ---- the content of packet 61 at a position

pub requested_from : (at : ℕ) (s : List ℕ) (r : Option (Bor (List ℕ))) (rest : Bor (List ℕ)) → IsGetRangeResult s at (length s) r → UnwrapsOrElse r (λ x. x.now ≡ []) rest
    → requested_of (values_at content61 0 rest.now) ≡ requested_of (values_at content61 at s)
requested_from at s r rest h e = rw (rest_from s at r rest h e) (ap requested_of (values_from content61 at s))
