-- The nine conditions (001 §6.4.9): functions of the journey in force, the reports, the position, and where each point stands.
use Rattle.std.specs.Prelude.{ℕ, zero, suc, ◌+◌, ◌-◌, Option, Some, None, List, [], ◌∷◌, map, Bool, true, false, not, ◌&&◌, ◌||◌, ltb, leb, if◌then◌else◌}
use Rattle.wire.specs.Numbers.{bit, flag}
use Rattle.engine_value.specs.Engine.{Route}
use Rattle.engine_value.specs.declared.Load.{Load}
use Rattle.engine_value.specs.declared.Position.{Position}
use Rattle.status_word.specs.Word.{conditions_of}
use Rattle.status_word.specs.declared.OperationalConditions.{OperationalConditions}
use Rattle.position.specs.Position.{segment_named, offset_defined, points_loaded, point_count, placed}
use Rattle.position.specs.Standing.{is_passed, behind}
use Rattle.position.specs.declared.Named.{Named}
use Rattle.position.specs.declared.Standing.{Standing}
use Rattle.conditions.specs.declared.RouteConditions.{RouteConditions}

-- "0, 1, 5, 8 are report bits 0, 1, 2, 3."
abbrev pub etcs_fulfilled : ℕ → Bool
etcs_fulfilled reports = bit 0 reports

abbrev pub no_emergency_brake : ℕ → Bool
no_emergency_brake reports = bit 1 reports

abbrev pub no_inconsistency : ℕ → Bool
no_inconsistency reports = bit 2 reports

abbrev pub data_valid : ℕ → Bool
data_valid reports = bit 3 reports

-- "2: End of Journey neither reached nor passed."
abbrev pub end_ahead : Load → (ℕ → Standing) → Bool
end_ahead l standing = l.valid && not (behind (standing l.ending))

-- "3: last point not passed."
abbrev pub last_ahead : Load → (ℕ → Standing) → Bool
last_ahead l standing = l.valid && not (is_passed (standing (points_loaded l - 1)))

-- "first point not passed": of the n points from k on
unfoldable pub first_ahead : (ℕ → Standing) → ℕ → ℕ → ℕ
first_ahead standing zero k = k
first_ahead standing (suc n) k = if is_passed (standing k) then first_ahead standing n (k + 1) else k

-- "4: first point not passed is placed, or none is left."
abbrev pub profiles_there : Route → (ℕ → Standing) → Bool
profiles_there j standing =
    let k = first_ahead standing (point_count j) 0 in
    j.load.valid && (leb (point_count j) k || placed j k)

-- "An offset held from before a load and beyond its segment's new length counts as undefined for the conditions"
abbrev pub too_far : Position → Named → Bool
too_far x s = s.booked && ltb s.length x.offset

-- "6: offset defined and its segment in the journey." By the segment that the position names
abbrev pub located : Option Named → Position → Bool
located None x = false
located (Some s) x = offset_defined x && not (too_far x s)

-- "7: not within a zone of a journey segment in the book, both ends inside." A segment that is not in the book has no zones
abbrev pub outside_zones : Option Named → Position → Bool
outside_zones None x = true
outside_zones (Some s) x = not (located (Some s) x && s.inside)

-- 4, 6 and 7: those that look up the journey's points and segments
abbrev pub route_conditions_by : Option Named → Position → Bool → RouteConditions
route_conditions_by s x profiles = record { profiles = profiles; located = located s x; outside = outside_zones s x }

abbrev pub route_conditions : Route → Position → (ℕ → Standing) → RouteConditions
route_conditions j x standing = route_conditions_by (segment_named j x) x (profiles_there j standing)

-- the nine, in their order. "With no journey 2, 3, 4, 6 are 0 and 7 is 1": there is then no segment and no valid load
abbrev pub nine : Load → ℕ → RouteConditions → (ℕ → Standing) → List Bool
nine l reports w standing =
    etcs_fulfilled reports
    ∷ no_emergency_brake reports
    ∷ end_ahead l standing
    ∷ last_ahead l standing
    ∷ w.profiles
    ∷ no_inconsistency reports
    ∷ w.located
    ∷ w.outside
    ∷ data_valid reports
    ∷ []

abbrev pub all_of : List Bool → Bool
all_of [] = true
all_of (b ∷ bs) = b && all_of bs

-- and as zeros and ones, as packet 68 has them
unfoldable pub conditions : Route → ℕ → Position → (ℕ → Standing) → OperationalConditions
conditions j reports x standing = conditions_of (map flag (nine j.load reports (route_conditions j x standing) standing))

-- the number of all nine
abbrev pub all_conditions : ℕ
all_conditions = 511

-- "O means all nine"
unfoldable pub O : Route → ℕ → Position → (ℕ → Standing) → Bool
O j reports x standing = all_of (nine j.load reports (route_conditions j x standing) standing)
