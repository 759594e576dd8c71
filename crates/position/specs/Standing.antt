-- Where a point stands. Targeted, reached, passed, not used are document 01's terms (000 §7.2.1).
use Rattle.std.specs.Prelude.{ℕ, Bool, true, false, ◌||◌, eqb, ltb, if◌then◌else◌}
use Rattle.engine_value.specs.declared.Progress.{Progress}
use Rattle.position.specs.declared.Standing.{Standing}
use Rattle.position.specs.declared.Standing.TheVariants.{Unused, Targeted, Reached, Passed}

-- "earlier ones passed, later ones not used"
abbrev pub standing : Progress → ℕ → Standing
standing p k =
    if ltb k p.next then Passed else
    if eqb k p.next then (if p.reached then Reached else Targeted) else
    Unused

abbrev pub is_passed : Standing → Bool
is_passed Unused = false
is_passed Targeted = false
is_passed Reached = false
is_passed Passed = true

abbrev pub is_reached : Standing → Bool
is_reached Unused = false
is_reached Targeted = false
is_reached Reached = true
is_reached Passed = false

-- "reached or passed"
abbrev pub behind : Standing → Bool
behind s = is_reached s || is_passed s

-- a standing as a number; the codes are ours: 0 not used, 1 targeted, 2 reached, 3 passed
abbrev pub standing_code : Standing → ℕ
standing_code Unused = 0
standing_code Targeted = 1
standing_code Reached = 2
standing_code Passed = 3
