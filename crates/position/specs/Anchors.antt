-- Values that the definitions must give for the journey of `Sample`, worked out by hand from document 01, "Timing points".
use Rattle.std.specs.Prelude.{ℕ, ◌≡◌, Option, Some, None, List, [], ◌∷◌, map, Bool, true, false}
use Rattle.engine_value.specs.Engine.{progress}
use Rattle.engine_value.specs.declared.Zone.{Zone}
use Rattle.engine_value.specs.declared.Load.{Load}
use Rattle.position.specs.declared.Named.{Named}
use Rattle.position.specs.declared.Stop.{Stop}
use Rattle.position.specs.declared.Standing.{Standing}
use Rattle.position.specs.declared.Standing.TheVariants.{Unused, Targeted, Reached, Passed}
use Rattle.position.specs.Position.{points_loaded, point_count, placed, in_zone, segment_named, offset_defined, front, front_at, known}
use Rattle.position.specs.Standing.{standing, is_passed, is_reached, behind, standing_code}
use Rattle.position.specs.Skips.{stop_named, stop_in}
use Rattle.position.specs.Sample.{journey_to, journey, at, engine_at}

-- a segment that is found: in the book, placed, the offset in a zone of it, its start and length
abbrev found : Bool → Bool → Bool → ℕ → ℕ → Option Named
found booked placed inside start length = Some (record { booked = booked; placed = placed; inside = inside; start = start; length = length })

-- in a zone of the segment that is found
abbrev inside : Option Named → Bool
inside None = false
inside (Some s) = s.inside

abbrev zone : Zone
zone = record { start = 20000; end = 30000 }

abbrev load_of : ℕ → Load
load_of n = record { operational = 1; valid = true; ending = 0; point_count = n; segment_count = 1 }

abbrev stop : ℕ → Bool → Option Stop
stop k skipped = Some (record { at = k; skipped = skipped })

abbrev standings : List Standing
standings = Unused ∷ Targeted ∷ Reached ∷ Passed ∷ []

pub record Anchors : Type 0 where
  -- "both ends inside"
  pub zone_ends : map (λ o. in_zone o zone) (19999 ∷ 20000 ∷ 30000 ∷ 30001 ∷ []) ≡ false ∷ true ∷ true ∷ false ∷ []
  -- "its segment", by NID_C and NID_SP together
  pub segments : map (segment_named journey) (at 17 500 5 0 ∷ at 33 500 5 0 ∷ at 17 501 5 0 ∷ at 33 502 5 0 ∷ [])
      ≡ found true true false 0 100000 ∷ found true true true 100000 50000 ∷ found false false false 0 0 ∷ found true false false 0 30000 ∷ []
  -- another country, another segment, and one behind the journey's count
  pub no_segment : map (segment_named journey) (at 33 501 5 0 ∷ at 17 502 5 0 ∷ at 33 503 5 0 ∷ []) ≡ None ∷ None ∷ None ∷ []
  -- "inhibition zones: count": each of them, and none behind the count
  pub zones : map (λ o. inside (segment_named journey (at 17 500 o 0))) (19999 ∷ 20000 ∷ 30000 ∷ 30001 ∷ 65000 ∷ [])
      ≡ false ∷ true ∷ true ∷ false ∷ false ∷ []
  pub other_zones : map (λ o. inside (segment_named journey (at 33 500 o 0))) (100 ∷ 101 ∷ 44999 ∷ 45000 ∷ []) ≡ true ∷ false ∷ false ∷ true ∷ []
  -- "a zone of a journey segment in the book": it need not be placed
  pub unplaced_zones : map (λ o. inside (segment_named journey (at 33 502 o 0))) (9 ∷ 10 ∷ 20 ∷ 21 ∷ []) ≡ false ∷ true ∷ true ∷ false ∷ []
  -- "16,777,215 undefined"
  pub defined : map (λ o. offset_defined (at 17 500 o 0)) (0 ∷ 16777214 ∷ 16777215 ∷ []) ≡ true ∷ true ∷ false ∷ []
  -- "The position is known if the offset is defined, its segment placed and the offset within its length", "counted from the journey's start"
  pub first_front : map (λ o. front_at journey (at 17 500 o 0)) (0 ∷ 100000 ∷ 100001 ∷ 16777215 ∷ []) ≡ Some 0 ∷ Some 100000 ∷ None ∷ None ∷ []
  pub second_front : map (λ o. front_at journey (at 33 500 o 0)) (0 ∷ 50000 ∷ 50001 ∷ []) ≡ Some 100000 ∷ Some 150000 ∷ None ∷ []
  pub no_front : map (front_at journey) (at 17 501 0 0 ∷ at 33 502 0 0 ∷ at 33 503 0 0 ∷ at 17 502 0 0 ∷ []) ≡ None ∷ None ∷ None ∷ None ∷ []
  pub undefined_front : front (found true true false 0 20000000) (at 17 500 16777215 0) ≡ None
  pub known_there : map (known journey) (at 17 500 100000 0 ∷ at 17 500 100001 0 ∷ at 33 500 50000 7 ∷ at 33 502 5 0 ∷ [])
      ≡ true ∷ false ∷ true ∷ false ∷ []
  -- "points: count (1, 1-64)"
  pub counts : map points_loaded (load_of 1 ∷ load_of 63 ∷ load_of 64 ∷ []) ≡ 1 ∷ 63 ∷ 64 ∷ []
  pub count : point_count journey ≡ 5
  -- "A point is placed if its segment is"
  pub points_placed : map (placed journey) (0 ∷ 3 ∷ 4 ∷ 64 ∷ []) ≡ true ∷ true ∷ false ∷ false ∷ []
  -- "14 no stop of that name": a passing point is none; trackside may skip it
  pub stops : map (stop_named journey) (7001 ∷ 7002 ∷ 7003 ∷ 7005 ∷ 7006 ∷ 7000 ∷ []) ≡ Some 0 ∷ None ∷ Some 2 ∷ Some 4 ∷ None ∷ None ∷ []
  pub no_stop_behind : stop_named (journey_to 4) 7005 ≡ None
  -- "driver skip already given .. (a trackside skip counts for neither)"
  pub skips : map (stop_in (engine_at (at 17 500 0 0) 0 false)) (7001 ∷ 7003 ∷ 7004 ∷ 7002 ∷ [])
      ≡ stop 0 false ∷ stop 2 false ∷ stop 3 true ∷ None ∷ []
  -- "earlier ones passed, later ones not used"
  pub stands_targeted : map (standing (progress 2 false)) (0 ∷ 1 ∷ 2 ∷ 3 ∷ []) ≡ Passed ∷ Passed ∷ Targeted ∷ Unused ∷ []
  pub stands_reached : map (standing (progress 2 true)) (1 ∷ 2 ∷ 3 ∷ []) ≡ Passed ∷ Reached ∷ Unused ∷ []
  pub passed : map is_passed standings ≡ false ∷ false ∷ false ∷ true ∷ []
  pub reached : map is_reached standings ≡ false ∷ false ∷ true ∷ false ∷ []
  -- "reached or passed"
  pub reached_or_passed : map behind standings ≡ false ∷ false ∷ true ∷ true ∷ []
  pub codes : map standing_code standings ≡ 0 ∷ 1 ∷ 2 ∷ 3 ∷ []
