-- A small journey, of which the values below are worked out by hand: two countries; two placed segments, a third that is not in the book and a
-- fourth that is in the book but not placed, as the third stands before it; a front, a middle and a rear point; the End of Journey before the last.
use Rattle.std.specs.Prelude.{ℕ, List, [], ◌∷◌, Bool, true, false}
use Rattle.engine_value.specs.Engine.{Route, no_operational, fresh_inputs, fresh_control, no_traction, progress, no_adhesion}
use Rattle.engine_value.specs.declared.Zone.{Zone}
use Rattle.engine_value.specs.declared.Segment.{Segment}
use Rattle.engine_value.specs.declared.Point.{Point}
use Rattle.engine_value.specs.declared.Position.{Position}
use Rattle.engine_value.specs.declared.Engine.{Engine}

abbrev zone : ℕ → ℕ → Zone
zone a b = record { start = a; end = b }

-- length 100,000, from 0 on; behind the count stands a zone that does not count
abbrev first : Segment
first = record {
  nidsp = 500;
  start = 0;
  length = 100000;
  zone_count = 1;
  zones = zone 20000 30000 ∷ zone 60000 70000 ∷ [];
  nidc = 17;
  booked = true;
  placed = true;
}

-- of the same NID_SP in the other country; length 50,000, from 100,000 on
abbrev second : Segment
second = record {
  nidsp = 500;
  start = 100000;
  length = 50000;
  zone_count = 2;
  zones = zone 0 100 ∷ zone 45000 50000 ∷ [];
  nidc = 33;
  booked = true;
  placed = true;
}

abbrev third : Segment
third = record { nidsp = 501; start = 0; length = 0; zone_count = 0; zones = []; nidc = 17; booked = false; placed = false }

abbrev fourth : Segment
fourth = record { nidsp = 502; start = 0; length = 30000; zone_count = 1; zones = zone 10 20 ∷ []; nidc = 33; booked = true; placed = false }

-- behind the count: no segment of the journey
abbrev fifth : Segment
fifth = record { nidsp = 503; start = 150000; length = 30000; zone_count = 0; zones = []; nidc = 33; booked = true; placed = true }

-- a point: name, place, R, NID_C, alignment, and whether it is a stop, skipped by trackside, held, placed
abbrev timing_point : ℕ → ℕ → ℕ → ℕ → ℕ → Bool → Bool → Bool → Bool → Point
timing_point t place reach c alignment stop trackside held placed = record {
  nidtp = t;
  place = place;
  reach = reach;
  nidc = c;
  alignment = alignment;
  stopping = 5;
  stop = stop;
  trackside = trackside;
  held = held;
  placed = placed;
}

-- a stop, front; a passing point, middle; a stop that trackside skips, rear, held; a stop, middle, held, the End of Journey; a stop in the third
-- segment; behind the count a stop that is none of the journey's, held
abbrev timing_points : List Point
timing_points =
    timing_point 7001 40000 150 17 0 true false false true
    ∷ timing_point 7002 90000 300 17 1 false false false true
    ∷ timing_point 7003 110000 200 33 2 true true true true
    ∷ timing_point 7004 140000 100 33 1 true false true true
    ∷ timing_point 7005 0 0 17 0 true false false false
    ∷ timing_point 7006 0 0 17 0 true false true false
    ∷ []

-- the journey of the first n points: of the first four each is placed
abbrev pub journey_to : ℕ → Route
journey_to n = record {
  load = record { operational = no_operational; valid = true; ending = 3; point_count = n; segment_count = 4 };
  points = timing_points;
  segments = first ∷ second ∷ third ∷ fourth ∷ fifth ∷ [];
}

abbrev pub journey : Route
journey = journey_to 5

-- NID_C, NID_SP, offset, speed
abbrev pub at : ℕ → ℕ → ℕ → ℕ → Position
at c sp offset speed = record { nidsp = sp; offset = offset; nidc = c; speed = speed }

-- an engine with the journey, at that position, of train length 301, at that progress, where the driver skips the End of Journey
abbrev pub engine_at : Position → ℕ → Bool → Engine
engine_at x n reached = record {
  points = timing_points;
  skips = false ∷ false ∷ false ∷ true ∷ false ∷ [];
  segments = journey.segments;
  load = journey.load;
  train = record { position = x; length = 301 };
  progress = progress n reached;
  inputs = fresh_inputs;
  control = fresh_control;
  traction = no_traction;
  adhesion = no_adhesion;
}
