-- The nine conditions: their number, as zeros and ones, is 511 at most; those that compare as the same are equal.
use Prim.Native.Nat.{ℕ, ◌*◌, ◌^◌, ◌≤◌}
use mathlib.Core.Path.{◌≡◌, ap}
use mathlib.Core.List.{List, [], ◌∷◌}
use mathlib.Core.Bool.{true}
use native.Mathlib.Nat.{mul-one, mul-le-mul_left}
use native.Mathlib.Omega.{arith}
use Rattle.wire.specs.Lists.{All, tabulate, sum}
use Rattle.wire.proofs.ListLaws.{same_equal}
use Rattle.layout.specs.Layout.{weighed}
use Rattle.status_word.specs.Word.{conditions_of}
use Rattle.status_word.specs.View.{conditions_view, conditions_number, same_conditions}
use Rattle.status_word.specs.Sentences.{ZerosAndOnes}
use Rattle.status_word.specs.declared.OperationalConditions.{OperationalConditions}

weighed-most : (ws l : List ℕ) → All (λ (c : ℕ). c ≤ 1) l → weighed ws l ≤ sum ws
weighed-most [] l h = omega arith
weighed-most (w ∷ ws) [] h = omega arith
weighed-most (w ∷ ws) (c ∷ l) h =
    let one : w * c ≤ w * 1 = mul-le-mul_left w h.0 in
    let more : weighed ws l ≤ sum ws = weighed-most ws l h.1 in
    let same : w * 1 ≡ w = mul-one w in
    omega arith

pub number-most : (c : OperationalConditions) → ZerosAndOnes (conditions_view c) → conditions_number c ≤ 511
number-most c z = weighed-most (tabulate 9 (λ k. 2 ^ k)) (conditions_view c) z.each

pub conditions_equal : (a b : OperationalConditions) → same_conditions a b ≡ true → a ≡ b
conditions_equal a b e = ap conditions_of (same_equal (conditions_view a) (conditions_view b) e)
