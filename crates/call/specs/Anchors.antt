-- Values from documents 01 and 02 that the definitions must give. What Trials and Further show from the bytes of calls is not shown again.
use Rattle.std.specs.Prelude.{ℕ, ◌≡◌, List, [], ◌∷◌, map, Bool, true, false, replicate, drop, Some, None}
use Rattle.wire.specs.Numbers.{bytes_of}
use Rattle.wire.specs.Judged.{Judged, ◌>>=◌}
use Rattle.wire.specs.Judged.Judged.{refuse, accept}
use Rattle.engine_value.specs.Engine.{Route, no_route, blank_segment, progress, fresh, no_skips, no_traction, no_adhesion}
use Rattle.engine_value.specs.declared.Segment.{Segment}
use Rattle.engine_value.specs.declared.Point.{Point}
use Rattle.engine_value.specs.declared.Position.{Position}
use Rattle.engine_value.specs.declared.Progress.{Progress}
use Rattle.engine_value.specs.declared.Train.{Train}
use Rattle.engine_value.specs.declared.Inputs.{Inputs}
use Rattle.engine_value.specs.declared.Control.{Control}
use Rattle.engine_value.specs.declared.Traction.{Traction}
use Rattle.engine_value.specs.declared.Adhesion as group
use Rattle.adhesion.specs.Constraints.{blank_constraint}
use Rattle.adhesion.specs.declared.TemporaryConstraint.{TemporaryConstraint}
use Rattle.engine_value.specs.declared.Engine.{Engine}
use Rattle.event.specs.Kinds.{carried}
use Rattle.event.specs.declared.TractionRequest.{TractionRequest}
use Rattle.event.specs.Event.{Event}
use Rattle.event.specs.Event.Event.{PowerOn, Configured, PowerOff, Fault, Reports, Mode, Lever, Press, PositionReport, Length, Load, Skip, Revoke, Traction as Request, Adhesion}
use Rattle.status_word.specs.Anchors.{numbered}
use Rattle.status_word.specs.View.{conditions_number}
use Rattle.packets.specs.declared.Header.{Header}
use Rattle.packets.specs.Packet.{Packet}
use Rattle.journey.specs.declared.Head.{Head}
use Rattle.route.specs.Route.{LoadValue}
use Rattle.position.specs.Position.{point}
use Rattle.timing.specs.Changes.{change}
use Rattle.timing.specs.declared.Reported.{Reported}
use Rattle.call_values.specs.Call.{Call}
use Rattle.call_values.specs.Packets.{point_change}
use Rattle.call.specs.Packets.{change_in}
use Rattle.call.specs.Effect.{kept, cleared, replaced, skip_set, Effect, reported_in, loaded_in, effect, route_after, skips_after, stored}
use Rattle.call.specs.Call.{Step, conditions_in, status_in, settled, step_by, judge, judged}
use Rattle.call.specs.Shown.{standing_in, constraint_in}
use Rattle.call.specs.View.{shown_view}

-- ---- a journey in segment 17/500 of 1,000 m: 7001, a stop; 7002, a stop that trackside skips; 7003, the End of Journey, no stop; 7004, a stop
-- that the driver skips; 7005, a stop. A train of 4 m at 150 m

abbrev pub point_at : ℕ → ℕ → ℕ → Bool → Bool → Point
point_at t place alignment stop trackside =
    record { nidtp = t; place = place; reach = 150; nidc = 17; alignment = alignment; stopping = 0; stop = stop; trackside = trackside; held = false; placed = true }

abbrev pub segment : Segment
segment = record { nidsp = 500; start = 0; length = 100000; zone_count = 0; zones = blank_segment.zones; nidc = 17; booked = true; placed = true }

abbrev pub journey : Route
journey = record {
  load = record { operational = 0x12345678; valid = true; ending = 2; point_count = 5; segment_count = 1 };
  points = point_at 7001 10000 0 true false ∷ point_at 7002 20000 0 true true ∷ point_at 7003 30000 0 false false ∷ point_at 7004 40000 0 true false
      ∷ point_at 7005 50000 0 true false ∷ [];
  segments = segment ∷ [];
}

abbrev pub at : ℕ → ℕ → Position
at offset speed = record { nidsp = 500; offset = offset; nidc = 17; speed = speed }

abbrev pub outside : Position
outside = record { nidsp = 600; offset = 100001; nidc = 18; speed = 6 }

abbrev pub train : ℕ → ℕ → ℕ → Train
train offset speed length = record { position = at offset speed; length = length }

abbrev pub inputs : ℕ → ℕ → ℕ → Inputs
inputs mode lever reports = record { mode = mode; lever = lever; reports = reports }

abbrev pub control : ℕ → Bool → Bool → Control
control state press request = record { state = state; press = press; request = request }

abbrev pub skips : List Bool
skips = false ∷ false ∷ false ∷ true ∷ false ∷ []

-- with what is remembered of the traction requests, and the rows that it shows
abbrev pub engine_with : Traction → group.Adhesion → Route → List Bool → Train → Progress → Inputs → Control → Engine
engine_with t a j driver x p i c =
    record { points = j.points; skips = driver; segments = j.segments; load = j.load; train = x; progress = p; inputs = i; control = c; traction = t; adhesion = a }

abbrev pub engine : Route → List Bool → Train → Progress → Inputs → Control → Engine
engine = engine_with no_traction no_adhesion

-- in state s; mode AD, lever at brake, reports 20
abbrev pub in_state : ℕ → Progress → Engine
in_state s p = engine journey skips (train 15000 7 400) p (inputs 1 2 20) (control s false true)

-- 7001 passed, 7002 targeted; in AV
abbrev pub under_way : Engine
under_way = in_state 3 (progress 1 false)

-- in segment 18/600, which is not the journey's; without a journey; engaged, one cm before the End of Journey
abbrev pub elsewhere : Engine
elsewhere = engine journey skips (record { position = outside; length = 400 }) (progress 1 false) (inputs 1 2 20) (control 3 false true)

abbrev pub unloaded : Engine
unloaded = engine no_route no_skips (train 15000 7 400) (progress 0 false) (inputs 1 2 20) (control 3 false true)

abbrev pub engaged : Engine
engaged = engine journey skips (train 29999 7 400) (progress 2 false) (inputs 1 0 31) (control 5 false true)

-- in RE with a press pending, standing at 7001, which is reached
abbrev pub waiting : Engine
waiting = engine journey skips (train 10000 0 400) (progress 0 true) (inputs 0 0 31) (control 4 true true)

-- ---- traction requests

-- a byte of request, and Q_ATO_SupTB
abbrev pub request : ℕ → ℕ → TractionRequest
request byte suptb = record { request = byte; content = record { m_ato_trabrrq = 1; m_ato_locobrrq = 2; q_ato_suptb = suptb; m_ato_rtbrq = 4 } }

abbrev pub remembering : ℕ → ℕ → Traction
remembering range suptb = record { remembered = true; range = range; suptb = suptb; spare = 0 }

-- `engaged` in state s with the lever at l, and `waiting`, with what is remembered
abbrev pub engaged_in : ℕ → ℕ → Traction → Engine
engaged_in s l t = engine_with t no_adhesion journey skips (train 29999 7 400) (progress 2 false) (inputs 1 l 31) (control s false true)

abbrev pub waiting_with : Traction → Engine
waiting_with t = engine_with t no_adhesion journey skips (train 10000 0 400) (progress 0 true) (inputs 0 0 31) (control 4 true true)

-- ---- slippery rail

abbrev pub row_from : ℕ → TemporaryConstraint
row_from start = record { nidsp = 500; start = start; end = 90000; nidc = 17; category = 2; range = 1 }

abbrev pub icy : List TemporaryConstraint
icy = row_from 100 ∷ row_from 200 ∷ []

-- two rows, with blank ones behind them
abbrev pub icy_group : group.Adhesion
icy_group = record { constraints = row_from 100 ∷ row_from 200 ∷ replicate 29 blank_constraint; count = 2 }

abbrev pub one_group : group.Adhesion
one_group = record { constraints = row_from 300 ∷ replicate 30 blank_constraint; count = 1 }

-- `under_way` in state s, with these rows
abbrev pub slippery_in : ℕ → group.Adhesion → Engine
slippery_in s a = engine_with no_traction a journey skips (train 15000 7 400) (progress 1 false) (inputs 1 2 20) (control s false false)

-- such a row in an event's bytes; one whose start exceeds its end
abbrev pub row_bytes : ℕ → List ℕ
row_bytes start = 0 ∷ 17 ∷ 0 ∷ 0 ∷ 0x01 ∷ 0xF4 ∷ 2 ∷ 1 ∷ 0 ∷ 0 ∷ 0 ∷ start ∷ 0 ∷ 0x01 ∷ 0x5F ∷ 0x90 ∷ []

abbrev pub reversed_bytes : List ℕ
reversed_bytes = 0 ∷ 17 ∷ 0 ∷ 0 ∷ 0x01 ∷ 0xF4 ∷ 2 ∷ 1 ∷ 0 ∷ 0x01 ∷ 0x5F ∷ 0x90 ∷ 0 ∷ 0 ∷ 0 ∷ 255 ∷ []

-- ---- another journey, by the train's rear: with a train of 4 m at 150 m, d of its points is 136 m, 126 m, 151 cm, 150 cm, -354 m

abbrev pub another : Route
another = record {
  load = record { operational = 0x9ABCDEF0; valid = true; ending = 4; point_count = 5; segment_count = 1 };
  points = point_at 8001 1000 2 true false ∷ point_at 8002 2000 2 true false ∷ point_at 8003 14449 2 true false ∷ point_at 8004 14450 2 true false
      ∷ point_at 8005 50000 2 true false ∷ [];
  segments = segment ∷ [];
}

abbrev pub head : Head
head = record { operational = 0x9ABCDEF0; seconds = 2; date = 1; atots = 5; counter = 3 }

abbrev pub loading_of : Route → LoadValue
loading_of j = record { route = j; head = head }

abbrev pub loading : LoadValue
loading = loading_of another

-- ---- the first journey with 7001 held, and the train standing there; a journey of a point at 1 m, the End of Journey, which the train has passed

abbrev pub holding : Route
holding = record {
  load = journey.load;
  points = record { nidtp = 7001; place = 10000; reach = 150; nidc = 17; alignment = 0; stopping = 0; stop = true; trackside = false; held = true; placed = true }
      ∷ drop 1 journey.points;
  segments = segment ∷ [];
}

abbrev pub at_hold : ℕ → Progress → Engine
at_hold s p = engine holding skips (train 10000 0 400) p (inputs 0 0 31) (control s false true)

-- the first journey, with 7001 and 7004 skipped by trackside, and 7002 not
abbrev pub reskipped : Route
reskipped = record {
  load = journey.load;
  points = point_at 7001 10000 0 true true ∷ point_at 7002 20000 0 true false ∷ point_at 7003 30000 0 false false ∷ point_at 7004 40000 0 true true
      ∷ point_at 7005 50000 0 true false ∷ [];
  segments = segment ∷ [];
}

abbrev pub passed_by : Route
passed_by = record {
  load = record { operational = 0x12345678; valid = true; ending = 0; point_count = 1; segment_count = 1 };
  points = point_at 9001 100 0 false false ∷ [];
  segments = segment ∷ [];
}

-- ---- packets

abbrev pub header : ℕ → ℕ → ℕ → Header
header offset speed operational = record { nidc = 17; nidsp = 500; offset = offset; speed = speed; operational = operational }

abbrev pub packet62 : Header → ℕ → ℕ → ℕ → Packet
packet62 h t eoj status =
    Packet.TimingPoint (record { header = h; nidc = 17; nidtp = t; q_eoj_reached = eoj; alignment = 0; status = status; stopping = 0 })

abbrev pub packet65 : Header → Packet
packet65 h = Packet.JpReceived (record { header = h; nidc = 17; atots = 5; date = 1; seconds = 2; counter = 3; status = 0 })

abbrev pub packet68 : Header → ℕ → ℕ → Packet
packet68 h s n = Packet.AtoStatus (record { header = h; state = s; conditions = numbered n })

abbrev pub packet61 : Header → ℕ → Packet
packet61 h suptb = Packet.TractionBrake (record { header = h; requested = (request 0 suptb).content })

abbrev pub packet64 : Header → List TemporaryConstraint → Packet
packet64 h rows = Packet.AdhesionSystem h rows

-- ---- what is asked

-- the number of the row that refuses, 0 where none does
abbrev pub refusal : {A : Type 0} → Judged A → ℕ
refusal (refuse n) = n
refusal (accept a) = 0

abbrev pub reporting : Progress → ℕ → Bool → Bool → Reported
reporting p from departed reached =
    record { progress = p; from = from; departed = departed; reached = reached }

-- an event with profiles that no load takes
abbrev pub does : Engine → Event → Judged Effect
does e v = effect e (255 ∷ []) (255 ∷ []) v

-- the rows that are shown after an event
abbrev pub shows_after : Engine → Event → Judged group.Adhesion
shows_after e v = does e v >>= judge e v (replicate 64 0) >>= (λ (s : Step). accept s.engine.adhesion)

abbrev pub call : List ℕ → ℕ → Call
call event n = record { event = event; journey = 255 ∷ []; book = 255 ∷ []; memory = replicate n 0 }

-- the numbers that calls with those bytes and no memory get in that state
abbrev pub refusals : ℕ → List (List ℕ) → List ℕ
refusals s events = map (λ (l : List ℕ). refusal (judged (in_state s (progress 1 false)) (call l 0))) events

-- what is remembered after an event, and its packets
abbrev pub remembers : Engine → Event → Judged Traction
remembers e v = does e v >>= (λ (f : Effect). accept (step_by e v f).engine.traction)

abbrev pub writes : Engine → Event → Judged (List Packet)
writes e v = does e v >>= (λ (f : Effect). accept (step_by e v f).packets)

-- a report one cm beyond the segment's end; a driver skip
abbrev pub beyond_end : List ℕ
beyond_end = 9 ∷ 0 ∷ 17 ∷ 0 ∷ 0 ∷ 1 ∷ 244 ∷ 0 ∷ 1 ∷ 134 ∷ 161 ∷ 0 ∷ 6 ∷ []

abbrev pub skip : ℕ → List ℕ
skip t = 12 ∷ bytes_of 4 t

-- what an event does that only brings values: the points are not judged
abbrev pub values : Train → Inputs → Effect
values x i =
    record { journey = kept; train = x; progress = progress 1 false; inputs = i; control = control 3 false true; loaded = None; hold_ended = None; changes = []; reached = false }

abbrev pub skipping : ℕ → Bool → ℕ → Effect
skipping k on status = record {
  journey = skip_set k on;
  train = train 15000 7 400;
  progress = progress 1 false;
  inputs = inputs 1 2 20;
  control = control 3 false true;
  loaded = None;
  hold_ended = None;
  changes = change k status (progress 1 false) ∷ [];
  reached = false;
}

pub record Anchors : Type 0 where
  -- "Mode, lever, reports, position and train length come from the latest accepted event since power off that carries them"
  pub brought : map (does under_way) (Mode 0 ∷ Lever 1 ∷ Reports 31 ∷ Length 9 ∷ [])
      ≡ accept (values (train 15000 7 400) (inputs 0 2 20)) ∷ accept (values (train 15000 7 400) (inputs 1 1 20))
      ∷ accept (values (train 15000 7 400) (inputs 1 2 31)) ∷ accept (values (train 15000 7 9) (inputs 1 2 20)) ∷ []
  pub nothing_brought : map (does under_way) (PowerOn ∷ Configured ∷ Fault ∷ Press ∷ Request (request 5 6) ∷ Adhesion icy ∷ []) ≡ replicate 6 (accept (values (train 15000 7 400) (inputs 1 2 20)))
  -- no event but a position report, a load and power off moves the points; no event but the rows of the states uses the press up
  pub points_kept : map (λ (v : Event). does waiting v >>= (λ (f : Effect). accept f.progress))
      (Fault ∷ Reports 0 ∷ Mode 1 ∷ Lever 1 ∷ Press ∷ Length 9 ∷ Skip 7005 ∷ Revoke 7004 ∷ Request (request 5 6) ∷ Adhesion icy ∷ []) ≡ replicate 10 (accept (progress 0 true))
  pub press_kept : map (λ (v : Event). does waiting v >>= (λ (f : Effect). accept f.control))
      (Mode 1 ∷ PositionReport (at 5 6) ∷ Length 9 ∷ Skip 7005 ∷ Revoke 7004 ∷ Adhesion icy ∷ []) ≡ replicate 6 (accept (control 4 true true))
  pub press_loaded : (loaded_in waiting (carried Load) loading).control ≡ control 4 true true
  -- "Other kinds ignore the lent profiles."
  pub ignored : map (λ (v : Event). refusal (does under_way v))
      (PowerOn ∷ Configured ∷ PowerOff ∷ Fault ∷ Reports 0 ∷ Mode 0 ∷ Lever 0 ∷ Press ∷ PositionReport (at 5 6) ∷ Length 9 ∷ Load ∷ Skip 7005 ∷ Revoke 7004 ∷ Request (request 5 6) ∷ Adhesion icy ∷ [])
      ≡ 0 ∷ 0 ∷ 0 ∷ 0 ∷ 0 ∷ 0 ∷ 0 ∷ 0 ∷ 0 ∷ 0 ∷ 7 ∷ 0 ∷ 0 ∷ 0 ∷ 0 ∷ []
  -- "Power off returns to fresh.", and writes the packet 68 of it alone
  pub power_off_lem : does under_way PowerOff >>= judge under_way PowerOff (replicate 19 0)
      ≡ accept (record { engine = fresh; packets = packet68 (record { nidc = 0; nidsp = 0; offset = 16777215; speed = 0; operational = 0xFFFFFFFF }) 0 128 ∷ [] })
  -- "the 62s as they arise": 7002 departs, 7003 is passed, 7004 is reached
  pub report : reported_in under_way (carried (PositionReport (at 5 6))) (reporting (progress 3 true) 2 true true)
      ≡ record {
        journey = kept;
        train = train 5 6 400;
        progress = progress 3 true;
        inputs = inputs 1 2 20;
        control = control 3 false true;
        loaded = None;
        hold_ended = None;
        changes = change 1 2 (progress 2 false) ∷ change 2 0 (progress 3 false) ∷ change 3 1 (progress 3 true) ∷ [];
        reached = true;
      }
  -- at a stop that was reached before, no point became reached
  pub standing_still : (reported_in under_way (carried (PositionReport (at 5 6))) (reporting (progress 1 true) 1 false false)).reached ≡ false
  -- "13 journey segment that is in the book, offset defined and beyond its length": of the new position, not of the one before
  pub row_13 : map (λ (x : Position). refusal (does under_way (PositionReport x))) (at 100000 6 ∷ at 100001 6 ∷ at 16777214 6 ∷ at 16777215 6 ∷ outside ∷ [])
      ≡ 0 ∷ 13 ∷ 13 ∷ 0 ∷ 0 ∷ []
  pub row_13_elsewhere : map (λ (x : Position). refusal (does elsewhere (PositionReport x))) (at 100000 6 ∷ at 100001 6 ∷ outside ∷ []) ≡ 0 ∷ 13 ∷ 0 ∷ []
  -- "Load, judged on the new journey and book with no driver skip": 8003 has d > R, 8004 not; "Driver skips are cleared."
  pub loaded : loaded_in (in_state 3 (progress 1 true)) (carried Load) loading
      ≡ record {
        journey = replaced another;
        train = train 15000 7 400;
        progress = progress 3 false;
        inputs = inputs 1 2 20;
        control = control 3 false true;
        loaded = Some head;
        hold_ended = None;
        changes = [];
        reached = false;
      }
  -- "65 on an accepted load: NID_C (1,024 unless the position is known)", known by the new journey; "points that a load puts behind write none"
  pub first_load : (step_by unloaded Load (loaded_in unloaded (carried Load) loading)).packets
      ≡ packet65 (header 15000 7 0x9ABCDEF0) ∷ packet68 (header 15000 7 0x9ABCDEF0) 2 252 ∷ []
  -- "14 no stop of that name; 15 point reached or passed, driver skip already given, or no driver skip to revoke (a trackside skip counts for neither)":
  -- 7001 is passed, 7002 skipped by trackside, 7003 no stop, 7004 skipped by the driver, 7005 a stop ahead
  pub skips_given : map (λ (t : ℕ). refusal (does under_way (Skip t))) (7001 ∷ 7002 ∷ 7003 ∷ 7004 ∷ 7005 ∷ 7006 ∷ []) ≡ 15 ∷ 0 ∷ 14 ∷ 15 ∷ 0 ∷ 14 ∷ []
  pub skips_revoked : map (λ (t : ℕ). refusal (does under_way (Revoke t))) (7001 ∷ 7002 ∷ 7003 ∷ 7004 ∷ 7005 ∷ 7006 ∷ []) ≡ 15 ∷ 15 ∷ 14 ∷ 0 ∷ 15 ∷ 14 ∷ []
  -- 7005 ahead, targeted, reached, passed; 7004 likewise
  pub skip_ahead : map (λ (p : Progress). refusal (does (in_state 3 p) (Skip 7005))) (progress 3 true ∷ progress 4 false ∷ progress 4 true ∷ progress 5 false ∷ [])
      ≡ 0 ∷ 0 ∷ 15 ∷ 15 ∷ []
  pub revoke_ahead : map (λ (p : Progress). refusal (does (in_state 3 p) (Revoke 7004))) (progress 2 true ∷ progress 3 false ∷ progress 3 true ∷ progress 4 false ∷ [])
      ≡ 0 ∷ 0 ∷ 15 ∷ 15 ∷ []
  -- "5 driver skip, 6 skip revoked"
  pub given : does under_way (Skip 7005) ≡ accept (skipping 4 true 5)
  pub revoked : does under_way (Revoke 7004) ≡ accept (skipping 3 false 6)
  -- "A driver skip lasts until revoked, a load or power off."
  pub skips_after : map (skips_after under_way) (kept ∷ cleared ∷ replaced another ∷ skip_set 4 true ∷ skip_set 3 false ∷ [])
      ≡ skips ∷ replicate 64 false ∷ replicate 64 false ∷ (false ∷ false ∷ false ∷ true ∷ true ∷ []) ∷ replicate 5 false ∷ []
  pub route_after_lem : map (route_after under_way) (kept ∷ cleared ∷ replaced another ∷ skip_set 4 true ∷ []) ≡ journey ∷ no_route ∷ another ∷ journey ∷ []
  -- the engine with an effect's values
  pub stores : stored under_way (record {
    journey = replaced another;
    train = train 5 6 9;
    progress = progress 4 true;
    inputs = inputs 0 1 31;
    control = control 4 true false;
    loaded = Some head;
    hold_ended = None;
    changes = [];
    reached = false;
  })
      ≡ engine another no_skips (train 5 6 9) (progress 4 true) (inputs 0 1 31) (control 4 true false)
  -- conditions 2 to 8 with reports 20, the End of Journey being the third point of five: none passed, it is targeted, reached, passed; all passed
  pub nine : map (λ (p : Progress). conditions_number (conditions_in (in_state 3 p))) (progress 0 false ∷ progress 2 false ∷ progress 2 true ∷ progress 3 false ∷ progress 5 false ∷ [])
      ≡ 252 ∷ 252 ∷ 248 ∷ 248 ∷ 240 ∷ []
  pub status : status_in under_way ≡ record { state = 3; conditions = numbered 252; speed = 7 }
  -- "Q_EOJ_REACHED (after that change; 0 once the End of Journey is reached or passed, else 1)": the standing of the third point, whichever changed
  pub told : map (change_in journey)
      (change 1 0 (progress 2 false) ∷ change 2 0 (progress 3 false) ∷ change 2 1 (progress 2 true) ∷ change 4 5 (progress 1 true) ∷ [])
      ≡ point_change (point journey 1) 0 true ∷ point_change (point journey 2) 0 false ∷ point_change (point journey 2) 1 false
      ∷ point_change (point journey 4) 5 true ∷ []
  -- 02, Q-5: "When a held stop becomes reached, packet 62 with status 3 follows the one with status 1."
  pub reaches_held : writes (at_hold 4 (progress 0 false)) (PositionReport (at 10000 0))
      ≡ accept (packet62 (header 10000 0 0x12345678) 7001 1 1 ∷ packet62 (header 10000 0 0x12345678) 7001 1 3 ∷ [])
  -- it stays reached: nothing more; and "20, a press at a held stop, checked right after 6": in AV 6; targeted, or reached and not held, no row refuses
  pub stays_held : writes (at_hold 4 (progress 0 true)) (PositionReport (at 10000 0)) ≡ accept []
  pub row_20 : map (λ (e : Engine). refusal (judged e (call (8 ∷ []) 0)))
      (at_hold 4 (progress 0 true) ∷ at_hold 3 (progress 0 true) ∷ at_hold 4 (progress 0 false) ∷ waiting ∷ []) ≡ 20 ∷ 6 ∷ 0 ∷ 0 ∷ []
  -- "If an accepted load comes while a held stop is reached, and the new journey has its NID_TP unheld or lacks it": unheld, lacking it, held
  pub load_ends : map (λ (j : Route). (loaded_in (at_hold 4 (progress 0 true)) (carried Load) (loading_of j)).hold_ended) (journey ∷ another ∷ holding ∷ [])
      ≡ Some (point holding 0) ∷ Some (point holding 0) ∷ None ∷ []
  pub load_targeted : (loaded_in (at_hold 4 (progress 0 false)) (carried Load) (loading_of another)).hold_ended ≡ None
  -- "status 4 is written after packet 65, using the old point's fields but the new journey's Q_EOJ_REACHED": its header, too; 8001 to 8003 are behind
  -- the train's front
  pub load_writes : (step_by (at_hold 4 (progress 0 true)) Load (loaded_in (at_hold 4 (progress 0 true)) (carried Load) loading)).packets
      ≡ packet65 (header 10000 0 0x9ABCDEF0) ∷ packet62 (header 10000 0 0x9ABCDEF0) 7001 1 4 ∷ []
  pub load_ends_all : (step_by (at_hold 4 (progress 0 true)) Load (loaded_in (at_hold 4 (progress 0 true)) (carried Load) (loading_of passed_by))).packets
      ≡ packet65 (header 10000 0 0x12345678) ∷ packet62 (header 10000 0 0x12345678) 7001 0 4 ∷ packet68 (header 10000 0 0x12345678) 2 499 ∷ []
  -- 02, Q-6: "each point whose NID_TP is in both journeys and that gained the trackside skip .. status 7, and each that lost it status 8", "also where the load
  -- puts it behind": 7001 is; "A first journey writes neither"; a driver skip, that of 7004, is none
  pub skips_told : (loaded_in under_way (carried Load) (loading_of reskipped)).changes
      ≡ change 0 7 (progress 1 false) ∷ change 1 8 (progress 1 false) ∷ change 3 7 (progress 1 false) ∷ []
  pub first_skips : (loaded_in unloaded (carried Load) (loading_of reskipped)).changes ≡ []
  pub driver_skips : map (λ (j : Route). (loaded_in under_way (carried Load) (loading_of j)).changes) (journey ∷ another ∷ []) ≡ [] ∷ [] ∷ []
  -- they "come after any status 4", that of 7001, "in the new journey's order"
  pub skips_written : (step_by (at_hold 4 (progress 0 true)) Load (loaded_in (at_hold 4 (progress 0 true)) (carried Load) (loading_of reskipped))).packets
      ≡ packet65 (header 10000 0 0x12345678) ∷ packet62 (header 10000 0 0x12345678) 7001 1 4 ∷ packet62 (header 10000 0 0x12345678) 7001 1 7
      ∷ packet62 (header 10000 0 0x12345678) 7002 1 8 ∷ packet62 (header 10000 0 0x12345678) 7004 1 7 ∷ []
  -- "EG: .. else not O or not T: DE", by the conditions after the points moved: the End of Journey is passed
  pub end_in_EG : does engaged (PositionReport (at 30001 9)) >>= judge engaged (PositionReport (at 30001 9)) (replicate 44 0)
      ≡ accept (record {
        engine = engine journey skips (train 30001 9 400) (progress 3 false) (inputs 1 0 31) (control 6 false true);
        packets = packet62 (header 30001 9 0x12345678) 7003 0 0 ∷ packet68 (header 30001 9 0x12345678) 6 507 ∷ [];
      })
  -- 02, Q-1: "the first request writes" (−23: range 1), and nothing else changes
  pub first_request : does (engaged_in 5 0 no_traction) (Request (request 0xE9 7)) >>= judge (engaged_in 5 0 no_traction) (Request (request 0xE9 7)) (replicate 22 0)
      ≡ accept (record { engine = engaged_in 5 0 (remembering 1 7); packets = packet61 (header 29999 7 0x12345678) 7 ∷ [] })
  -- "on a change of range or of Q_ATO_SupTB", from range 2 with 7: 23 with 7, 23 with 6, 22 with 7
  pub requests : map (λ (x : TractionRequest). writes (engaged_in 5 0 (remembering 2 7)) (Request x)) (request 23 7 ∷ request 23 6 ∷ request 22 7 ∷ [])
      ≡ accept [] ∷ accept (packet61 (header 29999 7 0x12345678) 6 ∷ []) ∷ accept (packet61 (header 29999 7 0x12345678) 7 ∷ []) ∷ []
  -- "In EG or DE", "In CO, NA, AV and RE the event is accepted and changes nothing": in CO, NA, AV, RE, EG, DE
  pub requests_in : map (λ (s : ℕ). remembers (engaged_in s 0 (remembering 2 7)) (Request (request 22 9))) (1 ∷ 2 ∷ 3 ∷ 4 ∷ 5 ∷ 6 ∷ [])
      ≡ map accept (remembering 2 7 ∷ remembering 2 7 ∷ remembering 2 7 ∷ remembering 2 7 ∷ remembering 1 9 ∷ remembering 1 9 ∷ [])
  pub written_in : map (λ (s : ℕ). writes (engaged_in s 0 (remembering 2 7)) (Request (request 22 9))) (1 ∷ 3 ∷ 6 ∷ [])
      ≡ accept [] ∷ accept [] ∷ accept (packet61 (header 29999 7 0x12345678) 9 ∷ []) ∷ []
  -- "entering EG forgets both"; from EG to AV (the lever at brake) and to DE (reports 15) they are kept; power off
  pub forgetting : remembers (waiting_with (remembering 2 7)) (Mode 1) ∷ remembers (engaged_in 5 0 (remembering 2 7)) (Lever 2)
      ∷ remembers (engaged_in 5 0 (remembering 2 7)) (Reports 15) ∷ remembers (engaged_in 5 0 (remembering 2 7)) PowerOff ∷ []
      ≡ map accept (no_traction ∷ remembering 2 7 ∷ remembering 2 7 ∷ no_traction ∷ [])
  -- 61 before 68: with the lever at brake the rows lead from EG to AV
  pub request_order : writes (engaged_in 5 2 no_traction) (Request (request 0 7))
      ≡ accept (packet61 (header 29999 7 0x12345678) 7 ∷ packet68 (header 29999 7 0x12345678) 3 511 ∷ [])
  -- a packet 61 has 22 bytes
  pub row_16_request : map (λ (n : ℕ). refusal (judged (engaged_in 5 0 no_traction) (call (14 ∷ 22 ∷ 1 ∷ 2 ∷ 7 ∷ 0 ∷ 4 ∷ []) n))) (0 ∷ 21 ∷ 22 ∷ []) ≡ 16 ∷ 16 ∷ 0 ∷ []
  -- 02, Q-7: "Each accepted such event .. writes packet 64 with its rows; the engine shows the rows of the latest one", also where there are none
  pub slippery : map (λ (v : Event). does (slippery_in 2 one_group) v >>= judge (slippery_in 2 one_group) v (replicate 50 0)) (Adhesion icy ∷ Adhesion [] ∷ [])
      ≡ accept (record { engine = slippery_in 2 icy_group; packets = packet64 (header 15000 7 0x12345678) icy ∷ [] })
      ∷ accept (record { engine = slippery_in 2 no_adhesion; packets = packet64 (header 15000 7 0x12345678) [] ∷ [] }) ∷ []
  -- "the rows of the latest one since power off, else none": other events leave them, a load too; power off and another kind 15 do not
  pub rows_kept : map (λ (v : Event). shows_after (slippery_in 2 icy_group) v)
      (Fault ∷ Reports 0 ∷ Mode 0 ∷ Lever 0 ∷ PositionReport (at 5 6) ∷ Length 9 ∷ Skip 7005 ∷ Request (request 5 6) ∷ []) ≡ replicate 8 (accept icy_group)
  pub rows_loaded : (settled (slippery_in 2 icy_group) Load (slippery_in 2 icy_group) (control 2 false true)).adhesion ≡ icy_group
  pub rows_off : map (shows_after (slippery_in 2 icy_group)) (PowerOff ∷ Adhesion (row_from 300 ∷ []) ∷ []) ≡ accept no_adhesion ∷ accept one_group ∷ []
  -- "and nothing else": a request and a train length write none
  pub none_written : writes (slippery_in 2 icy_group) (Request (request 5 6)) ∷ writes (slippery_in 2 icy_group) (Length 400) ∷ [] ≡ accept [] ∷ accept [] ∷ []
  -- 64 before 68: in AV without all nine conditions the rows lead to NA
  pub slippery_order : writes (slippery_in 3 no_adhesion) (Adhesion icy) ≡ accept (packet64 (header 15000 7 0x12345678) icy ∷ packet68 (header 15000 7 0x12345678) 2 252 ∷ [])
  -- a packet 64 of one row has 34 bytes
  pub row_16_slippery : map (λ (n : ℕ). refusal (judged (slippery_in 2 icy_group) (call (15 ∷ 1 ∷ row_bytes 100) n))) (0 ∷ 33 ∷ 34 ∷ []) ≡ 16 ∷ 16 ∷ 0 ∷ []
  -- "21 .. checked after 2 and before 3": in NP, FA and NA: a reversed row (start 90,000 and end 255), a byte too much, an event that is
  -- right, but for the memory of no byte
  pub row_21_order : map (λ (s : ℕ). refusals s ((15 ∷ 1 ∷ reversed_bytes) ∷ (15 ∷ 0 ∷ 0 ∷ []) ∷ (15 ∷ 0 ∷ []) ∷ [])) (0 ∷ 7 ∷ 2 ∷ [])
      ≡ (21 ∷ 1 ∷ 3 ∷ []) ∷ (21 ∷ 1 ∷ 5 ∷ []) ∷ (21 ∷ 1 ∷ 16 ∷ []) ∷ []
  -- what is shown: how many rows, and row k; blank beyond them, also where an engine counts more than its array holds
  pub shows_rows : map (constraint_in (slippery_in 3 icy_group)) (0 ∷ 1 ∷ 2 ∷ 30 ∷ 31 ∷ []) ≡ row_from 100 ∷ row_from 200 ∷ blank_constraint ∷ blank_constraint ∷ blank_constraint ∷ []
  pub counts_rows : map (λ (a : group.Adhesion). (shown_view (slippery_in 3 a)).constraint_count) (no_adhesion ∷ one_group ∷ icy_group ∷ record { constraints = []; count = 32 } ∷ [])
      ≡ 0 ∷ 1 ∷ 2 ∷ 31 ∷ []
  -- "16 shorter than this event's packets": a 68 has 19 bytes, a 62 and a 68 have 44
  pub row_16 : map (λ (n : ℕ). refusal (judged under_way (call (4 ∷ []) n))) (0 ∷ 18 ∷ 19 ∷ 20 ∷ []) ≡ 16 ∷ 16 ∷ 0 ∷ 0 ∷ []
  pub row_16_two : map (λ (n : ℕ). refusal (judged under_way (call (skip 7005) n))) (25 ∷ 43 ∷ 44 ∷ []) ≡ 16 ∷ 16 ∷ 0 ∷ []
  -- "1 empty ..; 2 field out of range", "3 NP and kind not 1", before what follows; power on, accepted, would write a 68
  pub in_NP : refusals 0 ([] ∷ (5 ∷ 32 ∷ []) ∷ (2 ∷ []) ∷ (3 ∷ []) ∷ (8 ∷ []) ∷ (11 ∷ []) ∷ beyond_end ∷ skip 7006 ∷ (1 ∷ []) ∷ [])
      ≡ 1 ∷ 2 ∷ 3 ∷ 3 ∷ 3 ∷ 3 ∷ 3 ∷ 3 ∷ 16 ∷ []
  -- "5 FA and kind not 3 (kind 1: 4)"
  pub in_FA : refusals 7 ([] ∷ (5 ∷ 32 ∷ []) ∷ (1 ∷ []) ∷ (2 ∷ []) ∷ (8 ∷ []) ∷ (11 ∷ []) ∷ beyond_end ∷ skip 7006 ∷ (3 ∷ []) ∷ [])
      ≡ 1 ∷ 2 ∷ 4 ∷ 5 ∷ 5 ∷ 5 ∷ 5 ∷ 5 ∷ 16 ∷ []
  -- "6 kind 2 outside CO, kind 8 outside RE"; then 7, 13, 14, 15; 16 only where a packet is due, and reports 20 change nothing
  pub in_NA : refusals 2 ((1 ∷ []) ∷ (2 ∷ []) ∷ (8 ∷ []) ∷ (11 ∷ []) ∷ beyond_end ∷ skip 7006 ∷ skip 7001 ∷ skip 7005 ∷ (5 ∷ 20 ∷ []) ∷ [])
      ≡ 4 ∷ 6 ∷ 6 ∷ 7 ∷ 13 ∷ 14 ∷ 15 ∷ 16 ∷ 0 ∷ []
  pub in_CO : refusals 1 ((2 ∷ []) ∷ (8 ∷ []) ∷ []) ≡ 16 ∷ 6 ∷ []
  pub in_RE : refusals 4 ((2 ∷ []) ∷ (8 ∷ []) ∷ []) ≡ 6 ∷ 16 ∷ []
  -- where a point stands: 3 passed, 2 reached, 1 targeted, 0 not used and where there is no such point
  pub stands : map (standing_in (in_state 3 (progress 2 true))) (0 ∷ 1 ∷ 2 ∷ 3 ∷ 4 ∷ 5 ∷ []) ≡ 3 ∷ 3 ∷ 2 ∷ 0 ∷ 0 ∷ 0 ∷ []
  pub stands_past : map (standing_in (in_state 3 (progress 5 false))) (3 ∷ 4 ∷ 5 ∷ 6 ∷ []) ≡ 3 ∷ 3 ∷ 0 ∷ 0 ∷ []
  pub shows : shown_view under_way ≡ record { state = 3; request = true; conditions = 252; point_count = 5; standings = 3 ∷ 1 ∷ replicate 62 0; constraint_count = 0 }
  pub shows_fresh : shown_view fresh ≡ record { state = 0; request = false; conditions = 128; point_count = 0; standings = replicate 64 0; constraint_count = 0 }
