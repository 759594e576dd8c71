-- What the code's answers stand for. "For an answer that is an enum, a definition gives this paper's number and values for each of its cases."
use Rattle.std.specs.Prelude.{Result, Ok, Err}
use Rattle.wire.specs.Judged.{Judged}
use Rattle.wire.specs.Judged.Judged.{refuse, accept}
use Rattle.wire.specs.Refusals.{number_of}
use Rattle.wire.specs.declared.Refusal.{Refusal}

-- a value as `f` has it, or the number of the row that refuses
abbrev pub judged_by : {A B : Type 0} → (A → B) → Result A Refusal → Judged B
judged_by f (Ok a) = accept (f a)
judged_by f (Err r) = refuse (number_of r)

-- the same of the value as it is
abbrev pub judged : {A : Type 0} → Result A Refusal → Judged A
judged r = judged_by (λ a. a) r
