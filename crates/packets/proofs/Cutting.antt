-- Bytes cut into packets: the first piece and the rest; and packets that were joined are cut again.
use Rattle.std.specs.Prelude.{if◌then◌else◌}
use Prim.Native.Nat.{ℕ, zero, suc, ◌+◌, ◌≤◌, min}
use mathlib.Core.Path.{◌≡◌, refl, ap, ◌∙◌}
use mathlib.Core.List.{List, [], ◌∷◌, ◌++◌, map, append_assoc}
use mathlib.Core.Bool.{Bool, true, false, ◌&&◌}
use lib.ListN.{length, take, drop, length-append, length-drop}
use lib.Seq.{take-append_seam, drop-append_seam, drop_at}
use lib.Dec.{eqb}
use native.Mathlib.Omega.{arith}
use borrow.Author.Tests.{eqb-false, ne_eqb}
use Rattle.wire.specs.Lists.{All}
use Rattle.wire.proofs.ListLaws.{and_left, and_right}
use Rattle.layout.specs.Layout.{bytes, fits}
use Rattle.layout.specs.Body.{body_bytes, body_fits}
use Rattle.layout.proofs.LayoutLaws.{length-bytes}
use Rattle.layout.proofs.BodyLaws.{size_told}
use Rattle.packets.specs.Layouts.{header_layout, content_at}
use Rattle.packets.specs.View.{packet_values}
use Rattle.packets.specs.Packets.{value_bytes, packet_bytes, joined, size_of, packet_fits, size_at, size_for, front_size, cut, cut_packets}
use Rattle.packets.proofs.PacketLaws.{length-packet_bytes}
use Rattle.packets.proofs.RoundTrips.{known}
use Rattle.packets.specs.Packet.{Packet}

-- ---- the piece in front

pub front-some : (l : List ℕ) → 1 ≤ length l → 1 ≤ front_size l
front-some l h = go (eqb (size_at l) 0) refl
  where
    go : (b : Bool) → eqb (size_at l) 0 ≡ b → 1 ≤ (if b then length l else min (size_at l) (length l))
    go true e = h
    go false e = let z : size_at l ≡ 0 → ⊥ = eqb-false _ _ e in omega arith

-- ---- the first piece and the rest

-- any count of pieces that is large enough gives the same
cut_enough : (j k : ℕ) (l : List ℕ) → length l ≤ j → length l ≤ k → cut j l ≡ cut k l
unfolding cut
cut_enough zero zero l p q = refl
cut_enough zero (suc k) [] p q = refl
cut_enough (suc j) zero [] p q = refl
cut_enough zero (suc k) (b ∷ l) p q = absurd (omega arith)
cut_enough (suc j) zero (b ∷ l) p q = absurd (omega arith)
cut_enough (suc j) (suc k) [] p q = refl
cut_enough (suc j) (suc k) (b ∷ l) p q =
    let n = front_size (b ∷ l) in
    let g : 1 ≤ front_size (b ∷ l) = front-some (b ∷ l) (omega arith) in
    ap (λ (r : List (List ℕ)). take n (b ∷ l) ∷ r) (cut_enough j k (drop n (b ∷ l)) (rw length-drop (omega arith)) (rw length-drop (omega arith)))

pub cut-none : cut_packets [] ≡ []
unfolding cut cut_packets
cut-none = refl

pub cut-first : (l : List ℕ) → 1 ≤ length l → cut_packets l ≡ take (front_size l) l ∷ cut_packets (drop (front_size l) l)
unfolding cut cut_packets
cut-first [] h = absurd (omega arith)
cut-first (b ∷ l) h =
    let n = front_size (b ∷ l) in
    let g : 1 ≤ front_size (b ∷ l) = front-some (b ∷ l) h in
    ap (λ (r : List (List ℕ)). take n (b ∷ l) ∷ r) (cut_enough (length l) (length (drop n (b ∷ l))) (drop n (b ∷ l)) (rw length-drop (omega arith)) (omega arith))

-- ---- packets that were joined

-- the bytes of a packet in its ranges tell its size
size-told : (p : Packet) (rest : List ℕ) → packet_fits p ≡ true → size_at (packet_bytes p ++ rest) ≡ size_of p
unfolding value_bytes
size-told p rest f =
    let v = packet_values p in
    let s = packet_bytes p ++ rest in
    let front : List ℕ = v.kind.number ∷ bytes header_layout v.header in
    let behind : drop content_at s ≡ body_bytes v.kind.content v.content ++ rest
    = ap (drop content_at) (append_assoc front (body_bytes v.kind.content v.content) rest) ∙ drop_at front _ content_at (ap suc (length-bytes header_layout v.header)) in
    let fit = and_right (fits header_layout v.header) _ (and_left (fits header_layout v.header && body_fits v.kind.content v.content) _ f) in
    ap (λ j. size_for j s) (known p).told ∙ ap (λ n. content_at + n) (size_told v.kind.content v.content content_at s rest (known p).sound_content fit behind)

front-packet : (p : Packet) (rest : List ℕ) → packet_fits p ≡ true → front_size (packet_bytes p ++ rest) ≡ length (packet_bytes p)
front-packet p rest f =
    let n : length (packet_bytes p) ≡ size_of p = length-packet_bytes p in
    let m : length (packet_bytes p ++ rest) ≡ length (packet_bytes p) + length rest = length-append (packet_bytes p) rest in
    rw (size-told p rest f, ne_eqb (size_of p) 0 (λ e. omega arith)) (omega arith)

pub cut-joined : (ps : List Packet) → All (λ (p : Packet). packet_fits p ≡ true) ps → cut_packets (joined ps) ≡ map packet_bytes ps
cut-joined [] f = cut-none
cut-joined (p ∷ ps) f =
    let some : 1 ≤ length (packet_bytes p ++ joined ps) = rw length-append (omega (arith, length-packet_bytes p)) in
    cut-first (packet_bytes p ++ joined ps) some
    ∙ rw (front-packet p (joined ps) f.0, take-append_seam, drop-append_seam, cut-joined ps f.1)
