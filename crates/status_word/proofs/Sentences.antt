-- The sentences: sums by weights, one condition at a time.
use Prim.Native.Nat.{ℕ, zero, suc, ◌+◌, ◌*◌, ◌<◌, ◌≤◌}
use mathlib.Core.Path.{◌≡◌, refl, sym}
use mathlib.Core.List.{List, [], ◌∷◌}
use native.Mathlib.Omega.{arith}
use lib.ListN.{length, get_or, set}
use Rattle.wire.specs.Lists.{All, tabulate}
use Rattle.wire.proofs.ListLaws.{tabulate-at}
use Rattle.layout.specs.Layout.{weighed}
use Rattle.status_word.specs.Word.{weight_of, status_word}
use Rattle.status_word.specs.Sentences.{ZerosAndOnes, Sentences}

-- ---- a number turned from 0 to 1

turned_sum : (ws l : List ℕ) (k : ℕ) → length ws ≡ length l → k < length l → get_or l k 0 ≡ 0 → weighed ws (set l k 1) ≡ weighed ws l + get_or ws k 0
turned_sum [] [] k e h z = absurd (omega arith)
turned_sum [] (n ∷ l) k e h z = absurd (omega arith)
turned_sum (w ∷ ws) [] k e h z = absurd (omega arith)
turned_sum (w ∷ ws) (n ∷ l) zero e h z = rw z (omega arith)
turned_sum (w ∷ ws) (n ∷ l) (suc k) e h z =
    let more : weighed ws (set l k 1) ≡ weighed ws l + get_or ws k 0 = turned_sum ws l k (omega arith) (omega arith) z in
    omega arith

turned : (state : ℕ) (conditions : List ℕ) (k : ℕ) → length conditions ≡ 9 → k < 9 → get_or conditions k 0 ≡ 0
    → status_word state (set conditions k 1) ≡ status_word state conditions + weight_of k
turned state conditions k n h z =
    let sum = turned_sum (tabulate 9 weight_of) conditions k (sym n) (omega arith) z in
    let weight : get_or (tabulate 9 weight_of) k 0 ≡ weight_of k = tabulate-at 9 weight_of k 0 h in
    omega arith

-- ---- equal sums

-- the first weight is w, each further one twice the one before
abbrev Doubling : ℕ → List ℕ → Type 0
Doubling w [] = Unit {0}
Doubling w (x ∷ ws) = (x ≡ w) × Doubling (2 * w) ws

-- numbers below the first weight, and zeros and ones by the weights: by the sum one knows them all
equal_sums : (w : ℕ) (ws : List ℕ) (s t : ℕ) (a b : List ℕ) → Doubling w ws → length a ≡ length ws → length b ≡ length ws → s < w → t < w
    → All (λ (c : ℕ). c ≤ 1) a → All (λ (c : ℕ). c ≤ 1) b → s + weighed ws a ≡ t + weighed ws b → (s ≡ t) × (a ≡ b)
equal_sums w [] s t [] [] d m n h k x y e = (omega arith, refl)
equal_sums w [] s t (p ∷ a) b d m n h k x y e = absurd (omega arith)
equal_sums w [] s t [] (q ∷ b) d m n h k x y e = absurd (omega arith)
equal_sums w (v ∷ ws) s t [] b d m n h k x y e = absurd (omega arith)
equal_sums w (v ∷ ws) s t (p ∷ a) [] d m n h k x y e = absurd (omega arith)
equal_sums w (v ∷ ws) s t (p ∷ a) (q ∷ b) d m n h k x y e =
    let p-most : p ≤ 1 = x.0 in
    let q-most : q ≤ 1 = y.0 in
    let v-is : v ≡ w = d.0 in
    let p-by : v * p ≤ v = one_by p p-most in
    let q-by : v * q ≤ v = one_by q q-most in
    let (first, rest) = equal_sums (2 * w) ws (s + v * p) (t + v * q) a b d.1 (omega arith) (omega arith) (omega arith) (omega arith) x.1 y.1 (omega arith) in
    let (same, same-one) = apart p q p-most q-most h k v-is first in
    (same, λ i. same-one i ∷ rest i)
  where
    one_by : (c : ℕ) → c ≤ 1 → v * c ≤ v
    one_by zero l = omega arith
    one_by (suc zero) l = omega arith
    one_by (suc (suc c)) l = absurd (omega arith)

    apart : (i j : ℕ) → i ≤ 1 → j ≤ 1 → s < w → t < w → v ≡ w → s + v * i ≡ t + v * j → (s ≡ t) × (i ≡ j)
    apart zero zero a b c d z e = (omega arith, refl)
    apart zero (suc zero) a b c d z e = absurd (omega arith)
    apart zero (suc (suc j)) a b c d z e = absurd (omega arith)
    apart (suc zero) zero a b c d z e = absurd (omega arith)
    apart (suc zero) (suc zero) a b c d z e = (omega arith, refl)
    apart (suc zero) (suc (suc j)) a b c d z e = absurd (omega arith)
    apart (suc (suc i)) j a b c d z e = absurd (omega arith)

equal_words : (s t : ℕ) (a b : List ℕ) → s ≤ 15 → t ≤ 15 → ZerosAndOnes a → ZerosAndOnes b → status_word s a ≡ status_word t b → (s ≡ t) × (a ≡ b)
equal_words s t a b h k x y e =
    equal_sums (weight_of 0) (tabulate 9 weight_of) s t a b (refl, (refl, (refl, (refl, (refl, (refl, (refl, (refl, (refl, tt))))))))) x.nine y.nine
    (omega arith) (omega arith) x.each y.each e

pub sentences : Sentences
sentences = record { turned = turned; equal_words = equal_words }
