-- The sizes of the buffers: what an event prints fits 16,384 bytes, and an event with its profiles 196,611.
use Prim.Native.Nat.{ℕ, zero, suc, ◌+◌, ◌*◌, ◌/◌, ◌≤◌, ◌<◌}
use mathlib.Core.Path.{◌≡◌, refl}
use mathlib.Core.List.{List, [], ◌∷◌}
use mathlib.Core.Bool.{Bool, true, false, cond}
use lib.ListN.{length, take, drop, length-append, length-take, length-drop}
use lib.Seq.{get_or-drop}
use lib.Dec.{ltb, eqb}
use native.Mathlib.Omega.{arith}
use borrow.Author.Tests.{le-leb}
use Rattle.wire.specs.Numbers.{Bytes, number, flag}
use Rattle.wire.proofs.NumberLaws.{number_bound}
use Rattle.fields.specs.Parse.{field}
use Rattle.fields.specs.Parse.Parse.{good}
use Rattle.fields.proofs.ReaderLaws.{field_good}
use Rattle.packets.specs.Packets.{front_size, cut, cut_packets}
use Rattle.packets.proofs.Cutting.{front-some}
use Rattle.event.specs.Kinds.{kind_of}
use Rattle.event.specs.Event.Event.{Load}
use Rattle.call_values.specs.Call.{Answer, refused, accepted, bytes_written}
use Rattle.player_text.specs.Calls.{Given, some, block, profiles, call}
use Rattle.player_text.specs.Lines.{hex, hex_lines, decimal, most_digits, answer_line, lines, output_bytes, most_lines}

-- ---- lines

length-hex : (l : List ℕ) → length (hex l) ≡ 2 * length l
unfolding hex
length-hex [] = refl
length-hex (b ∷ l) = omega (arith, length-hex l)

length-decimal : (k n : ℕ) → length (decimal k n) ≤ k
unfolding decimal
length-decimal zero n = omega arith
length-decimal (suc k) n = rw length-append (go (ltb n 10) (length-decimal k (n / 10)))
  where
    go : (b : Bool) → length (decimal k (n / 10)) ≤ k → length (cond b [] (decimal k (n / 10))) + 1 ≤ suc k
    go true h = omega arith
    go false h = omega arith

length_packets : (k : ℕ) (l : List ℕ) → length (hex_lines (cut k l)) ≤ 3 * length l
unfolding hex_lines cut
length_packets zero l = omega arith
length_packets (suc k) [] = omega arith
length_packets (suc k) (b ∷ l) =
    let n = front_size (b ∷ l) in
    let g : 1 ≤ front_size (b ∷ l) = front-some (b ∷ l) (omega arith) in
    let rest = simp length-drop at (length_packets k (drop n (b ∷ l))) in
    rw (length-append, length-append, length-hex, length-take) (omega (arith, rest))

length-answer : (a : Answer) → length (answer_line a) ≤ 65
length-answer (refused n bytes) = simp length-append (omega (arith, length-decimal most_digits n, length-decimal most_digits bytes))
length-answer (accepted a) =
    simp length-append (omega (arith, length-decimal most_digits a.state, length-decimal most_digits (flag a.request), length-decimal most_digits a.bytes))

pub lines_fit : (a : Answer) (m : List ℕ) → length m ≤ output_bytes → length (lines a m) ≤ most_lines
unfolding lines cut_packets
lines_fit a m h =
    let t : length (take (bytes_written a) m) ≤ output_bytes = rw length-take (omega arith) in
    let p = length_packets (length (take (bytes_written a) m)) (take (bytes_written a) m) in
    let q = length-append (answer_line a) (hex_lines (cut (length (take (bytes_written a) m)) (take (bytes_written a) m))) in
    omega (arith, t, p, q, length-answer a)

-- ---- events

block-there : (l : List ℕ) → Bytes l → 65537 ≤ length l
    → (b : List ℕ) × (r : List ℕ) × (block l ≡ good b r) × (length l ≤ length r + 65537) × Bytes r
unfolding block some
block-there l h f =
    let n = number 2 l in
    let v : number 2 l < 65536 = number_bound 2 l h in
    let g : number 2 l ≤ length (drop 2 l) = rw length-drop (omega arith) in
    let e : good (number 2 l) (drop 2 l) ≡ field 2 0 65535 l = field_good l 0 2 0 65535 (omega arith) (omega arith) (omega arith) in (
      take n (drop 2 l),
      drop n (drop 2 l),
      rw (← e, le-leb (number 2 l) (length (drop 2 l)) g),
      rw (length-drop, length-drop) (omega arith),
      λ i. rw (get_or-drop, get_or-drop) (h _),
    )

profiles-there : (event : List ℕ) (t : Bool) (l : List ℕ) → Bytes l → 131074 ≤ length l → (g : Given) × (r : List ℕ) × (profiles event t l ≡ good g r)
unfolding profiles
profiles-there event false l h f = (record { event = event; journey = []; book = [] }, l, refl)
profiles-there event true l h f =
    let (j, r, e, n, h₁) = block-there l h (omega arith) in
    let (b, r₂, e₂, n₂, h₂) = block-there r h₁ (omega (arith, n)) in
    (record { event = event; journey = j; book = b }, r₂, rw (e, e₂))

-- 196,611 bytes hold an event with its profiles
pub call-there : (l : List ℕ) → Bytes l → 196611 ≤ length l → (g : Given) × (r : List ℕ) × (call l ≡ good g r)
unfolding call
call-there l h f =
    let (event, r, e, n, h₁) = block-there l h (omega arith) in
    let (g, r₂, e₂) = profiles-there event (eqb (number 1 event) (kind_of Load)) r h₁ (omega (arith, n)) in
    (g, r₂, rw e e₂)
