-- The engine that the load leaves, and those a few calls later, each as a whole value: the examples start from them.
use Rattle.std.specs.Prelude.{ℕ, ◌≡◌, List, [], ◌∷◌, Bool, true, false, replicate, drop}
use Rattle.engine_value.specs.Engine.{Route, blank_zone, blank_segment, blank_point, no_skips, no_route, no_traction, no_adhesion, fresh_position, fresh, progress}
use Rattle.engine_value.specs.declared.Segment.{Segment}
use Rattle.engine_value.specs.declared.Point.{Point}
use Rattle.engine_value.specs.declared.Position.{Position}
use Rattle.engine_value.specs.declared.Progress.{Progress}
use Rattle.engine_value.specs.declared.Inputs.{Inputs}
use Rattle.engine_value.specs.declared.Control.{Control}
use Rattle.engine_value.specs.declared.Engine.{Engine}
use Rattle.call.specs.Call.{step_of}
use Rattle.call.specs.Trials.{loads, after_each, power_on, configured, reports, press, mode, train_length}
use Rattle.call_trials.specs.Journey.{journey_held, book}
use Rattle.call_trials.specs.Calls.{in_a, in_b, report, fault, power_off, load}

-- ---- the journey placed by the book

-- "its start is the sum of the lengths before it"; C is not in the book
abbrev pub segments : List Segment
segments =
    record {
      nidsp = 500;
      start = 0;
      length = 100000;
      zone_count = 1;
      zones = record { start = 5000; end = 6000 } ∷ replicate 3 blank_zone;
      nidc = 17;
      booked = true;
      placed = true;
    }
    ∷ record { nidsp = 500; start = 100000; length = 80000; zone_count = 0; zones = replicate 4 blank_zone; nidc = 34; booked = true; placed = true }
    ∷ record { nidsp = 501; start = 0; length = 0; zone_count = 0; zones = replicate 4 blank_zone; nidc = 34; booked = false; placed = false }
    ∷ replicate 37 blank_segment

-- NID_TP, place from the journey's start, R, NID_C, alignment, stopping data, a stop, trackside skips it
abbrev pub placed_point : ℕ → ℕ → ℕ → ℕ → ℕ → ℕ → Bool → Bool → Point
placed_point nidtp place reach nidc alignment stopping stop trackside = record {
  nidtp = nidtp;
  place = place;
  reach = reach;
  nidc = nidc;
  alignment = alignment;
  stopping = stopping;
  stop = stop;
  trackside = trackside;
  held = false;
  placed = true;
}

abbrev pub points : List Point
points =
    placed_point 7001 20000 150 17 0 0x55 true false
    ∷ placed_point 7002 40000 50 17 1 0 false false
    ∷ placed_point 7003 60000 200 17 2 0 true true
    ∷ placed_point 7004 110000 100 34 2 0x11 true false
    ∷ placed_point 7005 175000 300 34 0 0 true false
    ∷ record { nidtp = 7006; place = 0; reach = 0; nidc = 34; alignment = 0; stopping = 0; stop = true; trackside = false; held = false; placed = false }
    ∷ replicate 58 blank_point

-- the End of Journey is 7004, the fourth
abbrev route_of : List Point → Route
route_of ps = record { load = record { operational = 0x12345678; valid = true; ending = 3; point_count = 6; segment_count = 3 }; points = ps; segments = segments }

abbrev pub route : Route
route = route_of points

-- with 7001 held
abbrev pub route_held : Route
route_held =
    route_of (record { nidtp = 7001; place = 20000; reach = 150; nidc = 17; alignment = 0; stopping = 0x55; stop = true; trackside = false; held = true; placed = true } ∷ drop 1 points)

-- ---- engines

-- of a train of 1,001 cm, with no driver skip. Progress: the first point not passed, and whether it is reached
abbrev pub engine_of : Route → Position → Progress → Inputs → Control → Engine
engine_of r x p i c = record {
  points = r.points;
  skips = no_skips;
  segments = r.segments;
  load = r.load;
  train = record { position = x; length = 1001 };
  progress = p;
  inputs = i;
  control = c;
  traction = no_traction;
  adhesion = no_adhesion;
}

abbrev pub inputs : ℕ → ℕ → ℕ → Inputs
inputs mode lever reports = record { mode = mode; lever = lever; reports = reports }

abbrev pub control : ℕ → Bool → Bool → Control
control state press request = record { state = state; press = press; request = request }

abbrev pub position_in : ℕ → ℕ → ℕ → ℕ → Position
position_in nidc nidsp offset speed = record { nidsp = nidsp; offset = offset; nidc = nidc; speed = speed }

-- CO, no journey
unfoldable pub on : Engine
on = engine_of no_route fresh_position (progress 0 false) (inputs 0 0 0) (control 1 false false)

-- FA
unfoldable pub failed : Engine
failed = engine_of no_route fresh_position (progress 0 false) (inputs 0 0 0) (control 7 false false)

-- CO, with the journey and no position
unfoldable pub started : Engine
started = engine_of route fresh_position (progress 0 false) (inputs 0 0 0) (control 1 false false)

-- RE, before the first point
unfoldable pub ready : Engine
ready = engine_of route (position_in 17 500 10000 0) (progress 0 false) (inputs 0 0 31) (control 4 false true)

-- the same with a press pending
unfoldable pub pressed : Engine
pressed = engine_of route (position_in 17 500 10000 0) (progress 0 false) (inputs 0 0 31) (control 4 true true)

-- EG
unfoldable pub driving : Engine
driving = engine_of route (position_in 17 500 10000 0) (progress 0 false) (inputs 1 0 31) (control 5 false true)

-- DE
unfoldable pub degraded : Engine
degraded = engine_of route (position_in 17 500 10000 0) (progress 0 false) (inputs 1 0 30) (control 6 false true)

-- CO, at the stop 7001
unfoldable pub stopped : Engine
stopped = engine_of route (position_in 17 500 19900 0) (progress 0 true) (inputs 0 0 0) (control 1 false false)

-- CO, 7001 to 7003 passed
unfoldable pub near_b : Engine
near_b = engine_of route (position_in 17 500 90000 1) (progress 3 false) (inputs 0 0 0) (control 1 false false)

-- CO, at the stop 7004, the End of Journey
unfoldable pub ended : Engine
ended = engine_of route (position_in 34 500 11000 0) (progress 3 true) (inputs 0 0 0) (control 1 false false)

-- RE, before 7001, which is held; at it
unfoldable pub before_hold : Engine
before_hold = engine_of route_held (position_in 17 500 10000 0) (progress 0 false) (inputs 0 0 31) (control 4 false true)

unfoldable pub at_hold : Engine
at_hold = engine_of route_held (position_in 17 500 19900 0) (progress 0 true) (inputs 0 0 31) (control 4 false true)

pub record Engines : Type 0 where
  pub to_on : after_each fresh (power_on ∷ train_length 1001 ∷ []) ≡ on
  pub to_failed : (step_of on fault).engine ≡ failed
  pub to_started : (step_of on load).engine ≡ started
  pub to_ready : after_each started (report (in_a 10000 0) ∷ reports 31 ∷ configured ∷ []) ≡ ready
  pub to_pressed : (step_of ready press).engine ≡ pressed
  pub to_driving : (step_of pressed (mode 1)).engine ≡ driving
  pub to_degraded : (step_of driving (reports 30)).engine ≡ degraded
  pub to_stopped : (step_of started (report (in_a 19900 0))).engine ≡ stopped
  pub to_near_b : (step_of started (report (in_a 90000 1))).engine ≡ near_b
  pub to_ended : (step_of near_b (report (in_b 11000 0))).engine ≡ ended
  pub to_before_hold : after_each on (loads journey_held book ∷ report (in_a 10000 0) ∷ reports 31 ∷ configured ∷ []) ≡ before_hold
  pub to_at_hold : (step_of before_hold (report (in_a 19900 0))).engine ≡ at_hold
  -- "Power off returns to fresh."
  pub to_fresh : (step_of driving power_off).engine ≡ fresh
