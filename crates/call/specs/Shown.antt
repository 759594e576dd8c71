-- What the engine shows; beside these the nine conditions, `conditions_in`.
use Rattle.std.specs.Prelude.{ℕ, Bool, List, map, min, get_or, ltb, if◌then◌else◌}
use Rattle.std.specs.List.{range_with_len}
use Rattle.adhesion.specs.Constraints.{max_constraints, blank_constraint}
use Rattle.adhesion.specs.declared.TemporaryConstraint.{TemporaryConstraint}
use Rattle.engine_value.specs.Engine.{route_in}
use Rattle.engine_value.specs.declared.Engine.{Engine}
use Rattle.position.specs.Position.{point_count}
use Rattle.position.specs.Standing.{standing, standing_code}

-- the state by its code, 5 where engaged
abbrev pub state_in : Engine → ℕ
state_in e = e.control.state

-- whether AD is requested
abbrev pub request_in : Engine → Bool
request_in e = e.control.request

-- where point k of the journey stands, as a number; 0, not used, where there is no such point
abbrev pub standing_in : Engine → ℕ → ℕ
standing_in e k = if ltb k (point_count (route_in e)) then standing_code (standing e.progress k) else 0

-- 02, Q-7: "the engine shows the rows": how many, whatever its count says: the array holds 31
abbrev pub constraint_count_in : Engine → ℕ
constraint_count_in e = min e.adhesion.count max_constraints

-- row k; blank where there is no such row
abbrev pub constraint_in : Engine → ℕ → TemporaryConstraint
constraint_in e k = if ltb k (constraint_count_in e) then get_or e.adhesion.constraints k blank_constraint else blank_constraint

-- where each of the first n points stands
unfoldable pub standings_in : Engine → ℕ → List ℕ
standings_in e n = map (standing_in e) (range_with_len 0 n)
