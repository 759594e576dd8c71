-- Values that the definitions must give for the journey of position/Sample, worked out by hand from document 01, "Nine conditions": the End of
-- Journey is point 3, the last point 4, which is not placed.
use Rattle.std.specs.Prelude.{ℕ, ◌≡◌, Some, List, [], ◌∷◌, map, Bool, true, false, eqb, if◌then◌else◌}
use Rattle.engine_value.specs.Engine.{Route, blank_point, no_route, fresh_position, no_operational, progress, undefined}
use Rattle.engine_value.specs.declared.Position.{Position}
use Rattle.status_word.specs.View.{conditions_number}
use Rattle.position.specs.Position.{segment_named}
use Rattle.position.specs.Standing.{standing}
use Rattle.position.specs.Sample.{journey, at}
use Rattle.position.specs.declared.Named.{Named}
use Rattle.position.specs.declared.Standing.{Standing}
use Rattle.position.specs.declared.Standing.TheVariants.{Unused, Passed}
use Rattle.conditions.specs.Conditions.{etcs_fulfilled, no_emergency_brake, no_inconsistency, data_valid, end_ahead, last_ahead, first_ahead}
use Rattle.conditions.specs.Conditions.{profiles_there, too_far, located, outside_zones, nine, conditions, all_conditions, O}

-- where the points stand: n of them passed, the next targeted or reached
abbrev targeted : ℕ → ℕ → Standing
targeted n = standing (progress n false)

abbrev reached : ℕ → ℕ → Standing
reached n = standing (progress n true)

-- point k alone is passed
abbrev only : ℕ → ℕ → Standing
only k i = if eqb i k then Passed else Unused

-- in the first segment, out of its zone
abbrev here : Position
here = at 17 500 5 0

-- a journey of one point that is not placed, in a segment that is not in the book
abbrev unplaced_journey : Route
unplaced_journey = record {
  load = record { operational = no_operational; valid = true; ending = 0; point_count = 1; segment_count = 1 };
  points = blank_point ∷ [];
  segments = record { nidsp = 501; start = 0; length = 0; zone_count = 0; zones = []; nidc = 17; booked = false; placed = false } ∷ [];
}

-- a segment of length 100 that is found, in the book, with the offset in a zone
abbrev zoned : Named
zoned = record { booked = true; placed = true; inside = true; start = 0; length = 100 }

-- the four that are report bits
abbrev by_reports : ℕ → List Bool
by_reports n = etcs_fulfilled n ∷ no_emergency_brake n ∷ no_inconsistency n ∷ data_valid n ∷ []

-- the nine as one number, condition 0 the least significant bit
abbrev number_of : Route → ℕ → Position → (ℕ → Standing) → ℕ
number_of j reports x standing = conditions_number (conditions j reports x standing)

pub record Anchors : Type 0 where
  -- "0, 1, 5, 8 are report bits 0, 1, 2, 3."
  pub report_bits : map by_reports (0 ∷ 1 ∷ 2 ∷ 4 ∷ 8 ∷ 16 ∷ [])
      ≡ (false ∷ false ∷ false ∷ false ∷ []) ∷ (true ∷ false ∷ false ∷ false ∷ []) ∷ (false ∷ true ∷ false ∷ false ∷ [])
      ∷ (false ∷ false ∷ true ∷ false ∷ []) ∷ (false ∷ false ∷ false ∷ true ∷ []) ∷ (false ∷ false ∷ false ∷ false ∷ []) ∷ []
  -- "2: End of Journey neither reached nor passed."
  pub end_targeted : map (λ n. end_ahead journey.load (targeted n)) (0 ∷ 3 ∷ 4 ∷ 5 ∷ []) ≡ true ∷ true ∷ false ∷ false ∷ []
  pub end_reached : map (λ n. end_ahead journey.load (reached n)) (2 ∷ 3 ∷ 4 ∷ []) ≡ true ∷ false ∷ false ∷ []
  pub end_only : map (λ n. end_ahead journey.load (only n)) (3 ∷ 4 ∷ []) ≡ false ∷ true ∷ []
  -- "3: last point not passed."
  pub last_targeted : map (λ n. last_ahead journey.load (targeted n)) (0 ∷ 3 ∷ 4 ∷ 5 ∷ []) ≡ true ∷ true ∷ true ∷ false ∷ []
  pub last_reached : map (λ n. last_ahead journey.load (reached n)) (3 ∷ 4 ∷ []) ≡ true ∷ true ∷ []
  pub last_only : map (λ n. last_ahead journey.load (only n)) (3 ∷ 4 ∷ []) ≡ true ∷ false ∷ []
  -- "first point not passed"
  pub first_not_passed : map (λ s. first_ahead s 5 0) (targeted 2 ∷ reached 2 ∷ targeted 5 ∷ only 0 ∷ only 1 ∷ []) ≡ 2 ∷ 2 ∷ 5 ∷ 1 ∷ 0 ∷ []
  -- "4: first point not passed is placed, or none is left."
  pub profiles : map (λ n. profiles_there journey (targeted n)) (0 ∷ 3 ∷ 4 ∷ 5 ∷ []) ≡ true ∷ true ∷ false ∷ true ∷ []
  pub profiles_reached : map (λ n. profiles_there journey (reached n)) (3 ∷ 4 ∷ []) ≡ true ∷ false ∷ []
  -- "6: offset defined and its segment in the journey": undefined, no such segment
  pub located_defined : map (λ x. located (segment_named journey x) x) (here ∷ at 17 500 undefined 0 ∷ at 33 501 5 0 ∷ at 17 501 undefined 0 ∷ [])
      ≡ true ∷ false ∷ false ∷ false ∷ []
  -- "An offset held from before a load and beyond its segment's new length counts as undefined for the conditions", placed or not; where a segment is
  -- not in the book it has no length
  pub located_first : map (λ o. located (segment_named journey (at 17 500 o 0)) (at 17 500 o 0)) (100000 ∷ 100001 ∷ []) ≡ true ∷ false ∷ []
  pub located_unplaced : map (λ o. located (segment_named journey (at 33 502 o 0)) (at 33 502 o 0)) (30000 ∷ 30001 ∷ []) ≡ true ∷ false ∷ []
  pub located_unbooked : map (λ o. located (segment_named journey (at 17 501 o 0)) (at 17 501 o 0)) (0 ∷ 1 ∷ 16777214 ∷ []) ≡ true ∷ true ∷ true ∷ []
  pub too_far : map (λ o. too_far (at 17 500 o 0) zoned) (100 ∷ 101 ∷ []) ≡ false ∷ true ∷ []
  -- "7: not within a zone of a journey segment in the book, both ends inside"
  pub outside_first : map (λ o. outside_zones (segment_named journey (at 17 500 o 0)) (at 17 500 o 0)) (19999 ∷ 20000 ∷ 30000 ∷ 30001 ∷ undefined ∷ [])
      ≡ true ∷ false ∷ false ∷ true ∷ true ∷ []
  pub outside_unplaced : map (λ o. outside_zones (segment_named journey (at 33 502 o 0)) (at 33 502 o 0)) (9 ∷ 10 ∷ 20 ∷ 21 ∷ [])
      ≡ true ∷ false ∷ false ∷ true ∷ []
  pub outside_elsewhere : map (λ x. outside_zones (segment_named journey x) x) (at 17 502 15 0 ∷ at 17 501 15 0 ∷ []) ≡ true ∷ true ∷ []
  pub outside_too_far : map (λ o. outside_zones (Some zoned) (at 17 500 o 0)) (100 ∷ 101 ∷ undefined ∷ []) ≡ false ∷ true ∷ true ∷ []
  pub all_nine_lem : all_conditions ≡ 511
  pub in_order : nine journey.load 10 (record { profiles = false; located = true; outside = false }) (targeted 4)
      ≡ false ∷ true ∷ false ∷ true ∷ false ∷ false ∷ true ∷ false ∷ true ∷ []
  -- each of the nine lacking alone, report bit 4 beside them
  pub all_there : number_of journey 15 here (targeted 0) ∷ number_of journey 31 here (targeted 0) ∷ [] ≡ 511 ∷ 511 ∷ []
  pub lacking_reports : map (λ n. number_of journey n here (targeted 0)) (30 ∷ 29 ∷ 27 ∷ 23 ∷ []) ≡ 510 ∷ 509 ∷ 479 ∷ 255 ∷ []
  pub lacking_2 : number_of journey 31 here (reached 3) ≡ 507
  pub lacking_3 : number_of journey 31 here (only 4) ≡ 503
  pub lacking_4 : number_of unplaced_journey 31 (at 17 501 5 0) (targeted 0) ≡ 495
  pub lacking_6 : map (λ x. number_of journey 31 x (targeted 0)) (at 17 500 undefined 0 ∷ at 17 500 100001 0 ∷ at 17 502 5 0 ∷ [])
      ≡ 447 ∷ 447 ∷ 447 ∷ []
  pub lacking_7 : number_of journey 31 (at 17 500 20000 0) (targeted 0) ≡ 383
  -- none left: 2 and 3 are 0, 4 is 1
  pub none_left : number_of journey 0 here (targeted 5) ≡ 208
  -- "With no journey 2, 3, 4, 6 are 0 and 7 is 1."
  pub no_journey : number_of no_route 0 fresh_position (targeted 0) ∷ number_of no_route 31 (at 0 0 5 0) (targeted 0) ∷ [] ≡ 128 ∷ 419 ∷ []
  -- "O means all nine"
  pub O_there : O journey 15 here (targeted 0) ∷ O journey 31 (at 33 500 200 0) (targeted 3) ∷ [] ≡ true ∷ true ∷ []
  pub O_reports : map (λ n. O journey n here (targeted 0)) (30 ∷ 29 ∷ 27 ∷ 23 ∷ []) ≡ false ∷ false ∷ false ∷ false ∷ []
  pub O_points : map (O journey 31 here) (reached 3 ∷ only 4 ∷ targeted 4 ∷ []) ≡ false ∷ false ∷ false ∷ []
  pub O_route : O unplaced_journey 31 (at 17 501 5 0) (targeted 0) ∷ O no_route 31 here (targeted 0) ∷ [] ≡ false ∷ false ∷ []
  pub O_position : map (λ x. O journey 31 x (targeted 0)) (at 17 500 undefined 0 ∷ at 17 500 20000 0 ∷ []) ≡ false ∷ false ∷ []
