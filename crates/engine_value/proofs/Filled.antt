-- An array that holds a list from its front on and blank elements behind it.
use Prim.Native.Nat.{ℕ, ◌≤◌}
use Rattle.std.specs.Prelude.{min}
use Rattle.std.proofs.Math.Nat.{min-eq_left, min_comm}
use mathlib.Core.Path.{◌≡◌, refl, sym, ◌∙◌}
use mathlib.Core.List.{List, ◌++◌}
use native.Mathlib.Omega.{arith}
use lib.ListN.{length, take, replicate, length-take, length-append, length-replicate}
use lib.Seq.{take-take}
use Rattle.std.proofs.lemmas.List.{take_at}
use Rattle.engine_value.specs.Engine.{filled}

module _ {A : Type 0} (blank : A) (high : ℕ) where
  pub filled_length : (l : List A) → length (filled high blank l) ≡ high
  filled_length l = simp (length-take, length-append, length-replicate) (omega arith)

  -- a list that fits stands there whole
  pub filled_take : (l : List A) → length l ≤ high → take (length l) (filled high blank l) ≡ l
  filled_take l h = take-take (length l) high (l ++ replicate high blank) h ∙ take_at l (replicate high blank) (length l) refl

-- the front of an array into which a list that fits was copied
pub front_copied : {A : Type 0} (high : ℕ) (l rest : List A) → length l ≤ high → take (min high (length l)) (l ++ rest) ≡ l
front_copied high l rest h = take_at l rest (min high (length l)) (sym (min_comm high (length l) ∙ min-eq_left h))
