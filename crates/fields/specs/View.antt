-- What the code answers for what the definitions read.
use Rattle.std.specs.Prelude.{ℕ, List, Option, Some, None}
use Rattle.std.specs.Borrow.{Bor}
use Rattle.fields.specs.Parse.{Parse}
use Rattle.fields.specs.Parse.Parse.{bad, good}

-- a value as `f` has it, and the bytes behind it
abbrev pub parsed_by : {A B : Type 0} → (A → B) → Option (A × Bor (List ℕ)) → Parse B
parsed_by f None = bad
parsed_by f (Some p) = good (f p.0) p.1.now

-- the same of the value as it is
abbrev pub parsed : {A : Type 0} → Option (A × Bor (List ℕ)) → Parse A
parsed r = parsed_by (λ a. a) r
