-- The history rule as a function: what came of each point, through the reports from the passing moment of the point before.
-- It is proved to say the same as the rule with numbered moments.
use Rattle.std.specs.Prelude.{List, [], ◌∷◌, ℕ, zero, suc, ltb, if◌then◌else◌}
use Rattle.engine_value.specs.Engine.{Route}
use Rattle.timing.specs.Distance.{Report, beyond, leaves}
use Rattle.timing.specs.History.{settles}
use Rattle.position.specs.declared.Standing.{Standing}
use Rattle.position.specs.declared.Standing.TheVariants.{Unused, Targeted, Reached, Passed}

-- what came of a point: passed, with the reports from its passing moment on; reached; not settled; or the point before has no passing moment
pub data PointOutcome : Type 0 where
  passes : List Report → PointOutcome
  reaches not_settled not_looked_at : PointOutcome

-- "departs, thus passes, at the first later position report" that, by document 02, Q-3, has "speed above 0, a known position and d greater than R"
unfoldable pub departing : Route → ℕ → List Report → PointOutcome
departing j k [] = reaches
departing j k (r ∷ rs) = if leaves j r k then passes (r ∷ rs) else departing j k rs

-- "The first of them with .. settles it. With d > margin the point passes there; otherwise it is reached there"
unfoldable pub through : Route → ℕ → List Report → PointOutcome
through j k [] = not_settled
through j k (r ∷ rs) =
    if settles j r k then (if beyond j r k then passes (r ∷ rs) else departing j k rs) else through j k rs

-- "go through the accepted position reports from the passing moment of the point before"
abbrev pub after : Route → ℕ → PointOutcome → PointOutcome
after j k (passes rs) = through j k rs
after j k reaches = not_looked_at
after j k not_settled = not_looked_at
after j k not_looked_at = not_looked_at

-- "Where the load put it behind, that is the load."
unfoldable pub point_outcome : Route → ℕ → List Report → ℕ → PointOutcome
point_outcome j start reports zero = if ltb zero start then passes reports else through j zero reports
point_outcome j start reports (suc k) = if ltb (suc k) start then passes reports else after j (suc k) (point_outcome j start reports k)

abbrev pub standing_for : PointOutcome → Standing
standing_for (passes rs) = Passed
standing_for reaches = Reached
standing_for not_settled = Targeted
standing_for not_looked_at = Unused

unfoldable pub standing_by_reports : Route → ℕ → List Report → ℕ → Standing
standing_by_reports j start reports k = standing_for (point_outcome j start reports k)
