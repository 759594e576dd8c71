-- The nine conditions of a packet 68 are in their ranges exactly where they are zeros and ones.
use Prim.Native.Nat.{ℕ, zero, suc, ◌≤◌}
use mathlib.Core.Path.{◌≡◌, refl}
use mathlib.Core.List.{List, [], ◌∷◌}
use mathlib.Core.Bool.{true, ◌&&◌}
use native.Mathlib.Omega.{arith}
use lib.ListN.{length}
use lib.Dec.{leb}
use borrow.Author.Tests.{leb-true, le-leb}
use Rattle.wire.specs.Lists.{All, tabulate}
use Rattle.wire.proofs.ListLaws.{and_left, and_right}
use Rattle.layout.specs.Layout.{part, in_parts, parts_fit, fits}
use Rattle.status_word.specs.Word.{weight_of}
use Rattle.status_word.specs.View.{conditions_view}
use Rattle.status_word.specs.Sentences.{ZerosAndOnes}
use Rattle.packets.specs.Layouts.{header_layout, content68}
use Rattle.packets.specs.View.{header_view, ato_status_view}
use Rattle.packets.specs.Packets.{packet_fits}
use Rattle.packets.specs.declared.AtoStatus.{AtoStatus}
use Rattle.packets.specs.Packet.{Packet}

parts_most : (n : ℕ) (weight : ℕ → ℕ) (l : List ℕ) → length l ≡ n
    → parts_fit (tabulate n (λ k. part (weight k) 1)) (in_parts (tabulate n (λ k. part (weight k) 1)) l) ≡ true → All (λ (c : ℕ). c ≤ 1) l
parts_most n weight [] m e = tt
parts_most zero weight (c ∷ l) m e = absurd (omega arith)
parts_most (suc n) weight (c ∷ l) m e = (leb-true c 1 (and_left (leb c 1) _ e), parts_most n (λ k. weight (suc k)) l (omega arith) (and_right (leb c 1) _ e))

pub fits_zeros : (p : AtoStatus) → packet_fits (Packet.AtoStatus p) ≡ true → ZerosAndOnes (conditions_view p.conditions)
fits_zeros p e =
    let content = and_right (fits header_layout (header_view p.header)) _ (and_left (fits header_layout (header_view p.header) && fits content68 (ato_status_view p)) _ e) in
    let word = and_left _ true content in
    record { nine = refl; each = parts_most 9 weight_of (conditions_view p.conditions) refl (and_right (leb p.state 7) _ word) }

zeros_fit : (n : ℕ) (weight : ℕ → ℕ) (l : List ℕ) → length l ≡ n → All (λ (c : ℕ). c ≤ 1) l
    → parts_fit (tabulate n (λ k. part (weight k) 1)) (in_parts (tabulate n (λ k. part (weight k) 1)) l) ≡ true
zeros_fit zero weight l m h = refl
zeros_fit (suc n) weight [] m h = absurd (omega arith)
zeros_fit (suc n) weight (c ∷ l) m h = rw (le-leb c 1 h.0) (zeros_fit n (λ k. weight (suc k)) l (omega arith) h.1)

pub status_fits : (p : AtoStatus) → fits header_layout (header_view p.header) ≡ true → p.state ≤ 7 → ZerosAndOnes (conditions_view p.conditions)
    → packet_fits (Packet.AtoStatus p) ≡ true
status_fits p header state z = rw (header, le-leb p.state 7 state, zeros_fit 9 weight_of (conditions_view p.conditions) refl z.each)
