-- The nine as zeros and ones.
use Prim.Native.Nat.{ℕ, ◌≤◌}
use mathlib.Core.Path.{◌≡◌, refl}
use mathlib.Core.List.{List, [], ◌∷◌, map}
use mathlib.Core.Bool.{Bool, true, false}
use native.Mathlib.Omega.{arith}
use lib.Dec.{eqb}
use Rattle.wire.specs.Numbers.{flag}
use Rattle.wire.specs.Lists.{All, every}
use Rattle.engine_value.specs.Engine.{Route}
use Rattle.engine_value.specs.declared.Position.{Position}
use Rattle.status_word.specs.View.{conditions_view}
use Rattle.status_word.specs.Sentences.{ZerosAndOnes}
use Rattle.position.specs.declared.Standing.{Standing}
use Rattle.conditions.specs.Conditions.{route_conditions, nine, all_of, conditions, O}

flags_most : (l : List Bool) → All (λ (n : ℕ). n ≤ 1) (map flag l)
flags_most [] = tt
flags_most (true ∷ l) = (omega arith, flags_most l)
flags_most (false ∷ l) = (omega arith, flags_most l)

all_ones : (l : List Bool) → all_of l ≡ every (λ n. eqb n 1) (map flag l)
all_ones [] = refl
all_ones (true ∷ l) = all_ones l
all_ones (false ∷ l) = refl

module _ (j : Route) (reports : ℕ) (x : Position) (standing : ℕ → Standing) where
  pub conditions_zeros : ZerosAndOnes (conditions_view (conditions j reports x standing))
  unfolding conditions
  conditions_zeros = record { nine = refl; each = flags_most (nine j.load reports (route_conditions j x standing) standing) }

  -- "O means all nine": each of them is 1
  pub O_ones : O j reports x standing ≡ every (λ n. eqb n 1) (conditions_view (conditions j reports x standing))
  unfolding conditions O
  O_ones = all_ones (nine j.load reports (route_conditions j x standing) standing)
