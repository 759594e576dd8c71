-- What an event does, and the places "book" to "skip" of the table of numbers.
use Rattle.std.specs.Prelude.{ℕ, List, [], ◌∷◌, Bool, false, ◌||◌, set, if◌then◌else◌, Option, Some, None}
use Rattle.wire.specs.Judged.{Judged, row, ◌>>=◌, ◌>>◌}
use Rattle.wire.specs.Judged.Judged.{refuse, accept}
use Rattle.engine_value.specs.Engine.{Route, Value, route_in, no_route, no_skips, number_in, train_of, inputs_of, progress, fresh_train, fresh_inputs, fresh_control}
use Rattle.engine_value.specs.declared.Point.{Point}
use Rattle.engine_value.specs.declared.Progress.{Progress}
use Rattle.engine_value.specs.declared.Train.{Train}
use Rattle.engine_value.specs.declared.Inputs.{Inputs}
use Rattle.engine_value.specs.declared.Control.{Control}
use Rattle.engine_value.specs.declared.Engine.{Engine}
use Rattle.event.specs.Event.{Event}
use Rattle.event.specs.Kinds.{Role, off, load, report, other, skip, Carried, newer, role_of, carried}
use Rattle.journey.specs.declared.Head.{Head}
use Rattle.route.specs.Route.{LoadValue, load_of}
use Rattle.position.specs.Standing.{standing, behind}
use Rattle.position.specs.declared.Stop.{Stop}
use Rattle.timing.specs.Load.{target}
use Rattle.timing.specs.Changes.{Change, change, changes_of, status_skipped, status_revoked}
use Rattle.timing.specs.declared.Reported.{Reported}
use Rattle.call_values.specs.Rows.{offset_beyond, same_bool}
use Rattle.hold.specs.Hold.{held_stop_in, hold_ended}
use Rattle.trackside.specs.Trackside.{trackside_changes}
use Rattle.look_up.specs.LookUp.{look_up}
use Rattle.look_up.specs.declared.LookedUp.{LookedUp}

-- what becomes of the journey in force and of the driver skips: kept, cleared by power off, replaced by a load, one skip given or revoked
pub data JourneyAfter : Type 0 where
  kept cleared : JourneyAfter
  replaced : Route → JourneyAfter
  skip_set : ℕ → Bool → JourneyAfter

-- what an event does to the engine, group by group; stamp and NID_ATOTS of the journey that it loaded, the stop whose hold that load ended, the points
-- that changed, and whether one became reached
pub record Effect : Type 0 where
  pub journey : JourneyAfter
  pub train : Train
  pub progress : Progress
  pub inputs : Inputs
  pub control : Control
  pub loaded : Option Head
  pub hold_ended : Option Point
  pub changes : List Change
  pub reached : Bool

-- ---- "Mode, lever, reports, position and train length come from the latest accepted event .. that carries them": the groups with the values that
-- an event brings

abbrev pub numbers_with : Engine → Carried → Value → ℕ
numbers_with e c v = newer (c.number v) (number_in e v)

abbrev pub train_with : Engine → Carried → Train
train_with e c = train_of (newer c.position e.train.position) (numbers_with e c)

abbrev pub inputs_with : Engine → Carried → Inputs
inputs_with e c = inputs_of (numbers_with e c)

-- ---- the effects

-- an event that only brings values, or nothing
abbrev pub values_only : Engine → Carried → Effect
values_only e c =
    record { journey = kept; train = train_with e c; progress = e.progress; inputs = inputs_with e c; control = e.control; loaded = None; hold_ended = None; changes = []; reached = false }

-- "Power off returns to fresh."
abbrev pub power_off : Effect
power_off =
    record { journey = cleared; train = fresh_train; progress = progress 0 false; inputs = fresh_inputs; control = fresh_control; loaded = None; hold_ended = None; changes = []; reached = false }

-- what a position report tells of the points
abbrev pub reported_in : Engine → Carried → Reported → Effect
reported_in e c r =
    record {
      journey = kept;
      train = train_with e c;
      progress = r.progress;
      inputs = inputs_with e c;
      control = e.control;
      loaded = None;
      hold_ended = None;
      changes = changes_of (route_in e) e.progress r;
      reached = r.reached;
    }

-- position: 13
unfoldable pub position_effect : Engine → Carried → LookedUp → Judged Effect
position_effect e c l = do
  row 13 (offset_beyond l.segment (train_with e c).position)
  accept (reported_in e c l.report)

-- "Load, judged on the new journey and book with no driver skip"
abbrev pub progress_loaded : Engine → Carried → Route → Progress
progress_loaded e c j = progress (target j (train_with e c).position (train_with e c).length) false

-- that it puts a point behind changes nothing of it; 02, Q-6: a trackside skip gained or lost does
abbrev pub loaded_in : Engine → Carried → LoadValue → Effect
loaded_in e c l =
    record {
      journey = replaced l.route;
      train = train_with e c;
      progress = progress_loaded e c l.route;
      inputs = inputs_with e c;
      control = e.control;
      loaded = Some l.head;
      hold_ended = hold_ended (held_stop_in e) l.route;
      changes = trackside_changes (route_in e) l.route (progress_loaded e c l.route);
      reached = false;
    }

-- load: 7, 8, then 9 to 12
unfoldable pub load_effect : Engine → Carried → List ℕ → List ℕ → Judged Effect
load_effect e c journey book = do
  l ← load_of journey book
  accept (loaded_in e c l)

-- "5 driver skip, 6 skip revoked"
abbrev pub skipped_in : Engine → Carried → ℕ → Bool → Effect
skipped_in e c k on =
    record {
      journey = skip_set k on;
      train = train_with e c;
      progress = e.progress;
      inputs = inputs_with e c;
      control = e.control;
      loaded = None;
      hold_ended = None;
      changes = change k (if on then status_skipped else status_revoked) e.progress ∷ [];
      reached = false;
    }

-- skip: "14 no stop of that name; 15 point reached or passed, driver skip already given, or no driver skip to revoke (a trackside skip counts
-- for neither)"
unfoldable pub skip_effect : Engine → Carried → Bool → Option Stop → Judged Effect
skip_effect e c on None = refuse 14
skip_effect e c on (Some s) = do
  row 15 (behind (standing e.progress s.at) || same_bool s.skipped on)
  accept (skipped_in e c s.at on)

-- what an event does, by its role. "Other kinds ignore the lent profiles."
abbrev pub effect_as : Role → Engine → Carried → LookedUp → List ℕ → List ℕ → Judged Effect
effect_as off e c l journey book = accept power_off
effect_as load e c l journey book = load_effect e c journey book
effect_as report e c l journey book = position_effect e c l
effect_as other e c l journey book = accept (values_only e c)
effect_as (skip t on) e c l journey book = skip_effect e c on l.stop

unfoldable pub effect : Engine → List ℕ → List ℕ → Event → Judged Effect
effect e journey book event = effect_as (role_of event) e (carried event) (look_up e event) journey book

-- ---- the engine with an effect's values

-- the journey in force
abbrev pub route_after : Engine → JourneyAfter → Route
route_after e kept = route_in e
route_after e cleared = no_route
route_after e (replaced r) = r
route_after e (skip_set k on) = route_in e

-- "A driver skip lasts until revoked, a load or power off."
abbrev pub skips_after : Engine → JourneyAfter → List Bool
skips_after e kept = e.skips
skips_after e cleared = no_skips
skips_after e (replaced r) = no_skips
skips_after e (skip_set k on) = set e.skips k on

abbrev pub stored : Engine → Effect → Engine
stored e f =
    record {
      points = (route_after e f.journey).points;
      skips = skips_after e f.journey;
      segments = (route_after e f.journey).segments;
      load = (route_after e f.journey).load;
      train = f.train;
      progress = f.progress;
      inputs = f.inputs;
      control = f.control;
      traction = e.traction;
      adhesion = e.adhesion;
    }
