-- Values that the definitions must give, worked out by hand from document 02, Q-6. The old journey is that of position/Sample: of its five points
-- trackside skips 7003; 7002 is a passing point, 7006 stands behind the count.
use Rattle.std.specs.Prelude.{ℕ, ◌≡◌, List, [], ◌∷◌, map, length, Bool, true, false, Some, None}
use Rattle.engine_value.specs.Engine.{Route, no_route, no_operational, progress}
use Rattle.engine_value.specs.declared.Point.{Point}
use Rattle.engine_value.specs.declared.Progress.{Progress}
use Rattle.packets.specs.declared.PointStatus.TheVariants.{TracksideSkip, TracksideRevoked}
use Rattle.journey.specs.Journey.{JourneyValue, no_atots}
use Rattle.journey.specs.declared.JourneyPoint.{JourneyPoint}
use Rattle.position.specs.Sample.{journey, journey_to}
use Rattle.timing.specs.Changes.{change}
use Rattle.trackside.specs.Trackside.{mark, marks, status_told, trackside_changes, foretell, foretold}
use Rattle.trackside.specs.View.{status_at, changes_from}

-- a point of another country and alignment, not placed: skipped as a stop, else a passing point
abbrev pub point_of : ℕ → Bool → Point
point_of t skipped = record { nidtp = t; place = 0; reach = 0; nidc = 99; alignment = 2; stopping = 7; stop = skipped; trackside = skipped; held = false; placed = false }

abbrev pub journey_of : List Point → Route
journey_of points = record {
  load = record { operational = no_operational; valid = true; ending = 0; point_count = length points; segment_count = 4 };
  points = points;
  segments = journey.segments;
}

-- in another order: 7003 lost the skip, 7001 and 7002 gained it; 7000 is new, 7004 is as it was, 7005 is lacking
abbrev pub renewed : Route
renewed = journey_of (point_of 7003 false ∷ point_of 7001 true ∷ point_of 7000 true ∷ point_of 7002 true ∷ point_of 7004 false ∷ [])

abbrev pub behind_all : Progress
behind_all = progress 5 false

-- ---- the same as values of journeys

abbrev pub journey_point : ℕ → ℕ → Bool → JourneyPoint
journey_point t i skipped = record { nidtp = t; index = i; alignment = 1; stopping = 7; stop = skipped; trackside = skipped; end = false; held = skipped }

abbrev pub value_of : List JourneyPoint → JourneyValue
value_of points = record { head = record { operational = no_operational; seconds = 0; date = 0; atots = no_atots; counter = 0 }; names = []; points = points }

abbrev pub earlier : JourneyValue
earlier = value_of (journey_point 7001 0 false ∷ journey_point 7002 0 false ∷ journey_point 7003 1 true ∷ journey_point 7004 1 false ∷ [])

abbrev pub later : JourneyValue
later = value_of (journey_point 7003 0 false ∷ journey_point 7001 1 true ∷ journey_point 7000 2 true ∷ journey_point 7002 2 true ∷ journey_point 7004 2 false ∷ [])

pub record Anchors : Type 0 where
  -- "each point": those of the count
  pub marked : marks journey ≡ mark 7001 false ∷ mark 7002 false ∷ mark 7003 true ∷ mark 7004 false ∷ mark 7005 false ∷ []
  -- "that gained the trackside skip .. status 7": a stop; a passing point; one that was skipped; behind the count; in the new journey alone
  pub gains : map (λ t. status_told (marks journey) (mark t true)) (7001 ∷ 7002 ∷ 7003 ∷ 7006 ∷ 7000 ∷ []) ≡ Some 7 ∷ Some 7 ∷ None ∷ None ∷ None ∷ []
  -- "each that lost it status 8"
  pub loses : map (λ t. status_told (marks journey) (mark t false)) (7001 ∷ 7002 ∷ 7003 ∷ 7006 ∷ 7000 ∷ []) ≡ None ∷ None ∷ Some 8 ∷ None ∷ None ∷ []
  -- "in the new journey's order", by NID_TP alone, "also where the load puts it behind"
  pub in_order : trackside_changes journey renewed behind_all ≡ change 0 8 behind_all ∷ change 1 7 behind_all ∷ change 3 7 behind_all ∷ []
  pub back : trackside_changes renewed journey (progress 1 false) ≡ change 0 8 (progress 1 false) ∷ change 1 8 (progress 1 false) ∷ change 2 7 (progress 1 false) ∷ []
  -- of the new journey's points, too, those of the count
  pub counted : trackside_changes renewed (journey_to 2) behind_all ≡ change 0 8 behind_all ∷ change 1 8 behind_all ∷ []
  pub unchanged : trackside_changes renewed renewed behind_all ≡ []
  -- "A first journey writes neither."
  pub first : trackside_changes no_route renewed behind_all ≡ []
  -- "which points the list names, in what order and with which status"
  pub foretold_there : foretold earlier later ≡ foretell 7003 8 ∷ foretell 7001 7 ∷ foretell 7002 7 ∷ []
  pub foretold_back : foretold later earlier ≡ foretell 7001 8 ∷ foretell 7002 8 ∷ foretell 7003 7 ∷ []
  pub foretold_same : foretold later later ≡ []
  -- the code's cases
  pub cases : map (status_at journey renewed) (0 ∷ 1 ∷ 2 ∷ 3 ∷ 4 ∷ 5 ∷ []) ≡ Some TracksideRevoked ∷ Some TracksideSkip ∷ None ∷ Some TracksideSkip ∷ None ∷ None ∷ []
  pub as_changes : changes_from behind_all 0 (None ∷ Some TracksideSkip ∷ Some TracksideRevoked ∷ []) ≡ change 1 7 behind_all ∷ change 2 8 behind_all ∷ []
