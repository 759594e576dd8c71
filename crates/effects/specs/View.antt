-- What the code's answers stand for.
use Rattle.std.specs.Prelude.{ℕ, ◌≡◌, ◌++◌, Bool, false, ◌&&◌, if◌then◌else◌}
use Rattle.std.specs.Prelude.{Some, None, is_some, option_map}
use Rattle.wire.specs.Lists.{tabulate}
use Rattle.engine_value.specs.Engine.{Route, max_points, route_in, progress}
use Rattle.engine_value.specs.View.{route_view}
use Rattle.engine_value.specs.declared.Engine.{Engine}
use Rattle.timing.specs.declared.Reported.{Reported}
use Rattle.conditions.specs.declared.RouteConditions.{RouteConditions}
use Rattle.hold.specs.Hold.{held_stop_in, hold_ended}
use Rattle.trackside.specs.View.{status_at}
use Rattle.look_up.specs.LookUp.{route_conditions_in}
use Rattle.event_packets.specs.View.{told_hold, told_view, changes_view}
use Rattle.event_packets.specs.declared.Told.{Told}
use Rattle.packets.specs.View.{status_number}
use Rattle.packets.specs.declared.PointStatus.{PointStatus}
use Rattle.event_packets.specs.declared.Changes.{Changes}
use Rattle.event_packets.specs.declared.Received.{Received}
use Rattle.call_values.specs.Packets.{country}
use Rattle.call.specs.Effect as model
use Rattle.call.specs.Effect.{route_after, stored}
use Rattle.effects.specs.declared.JourneyAfter.{JourneyAfter}
use Rattle.effects.specs.declared.Effect.{Effect}

-- what becomes of the journey
abbrev pub journey_view : JourneyAfter → model.JourneyAfter
journey_view JourneyAfter.Kept = model.JourneyAfter.kept
journey_view JourneyAfter.Cleared = model.JourneyAfter.cleared
journey_view (JourneyAfter.Replaced j) = model.JourneyAfter.replaced (route_view j)
journey_view (JourneyAfter.SkipSet at on) = model.JourneyAfter.skip_set at on

-- the effect
abbrev pub effect_view : Effect → model.Effect
effect_view f =
    record {
      journey = journey_view f.journey;
      train = f.train;
      progress = f.progress;
      inputs = f.inputs;
      control = f.control;
      loaded = option_map (λ (r : Received). r.head) f.received;
      hold_ended = told_hold f.told;
      changes = told_view f.progress f.told ++ changes_view f.changes;
      reached = is_some f.changes.last;
    }

-- what stands beside it: conditions 4, 6 and 7 after it, and the NID_C of a packet 65
pub record Beside (e : Engine) (f : Effect) : Type 0 where
  pub after : f.after ≡ route_conditions_in (stored e (effect_view f))
  pub nidc : (r : Received) → f.received ≡ Some r → r.nidc ≡ country (route_after e (journey_view f.journey)) f.train.position

abbrev pub no_changes : Changes
no_changes = record { first = None; from = 0; to = 0; last = None; held = None }

-- the changes of a report; `k` is the first point not passed before it; `held`: that after it is held
abbrev pub reported_changes : ℕ → Reported → Bool → Changes
reported_changes k t held =
    record {
      first = if t.departed then Some (record { index = k; status = status_number PointStatus.Departed; after = progress t.from false }) else None;
      from = t.from;
      to = t.progress.next;
      last = if t.reached then Some (record { index = t.progress.next; status = status_number PointStatus.Stopped; after = t.progress }) else None;
      held = if t.reached && held then Some (record { index = t.progress.next; status = status_number PointStatus.Held; after = t.progress }) else None;
    }

-- what a load of the journey j tells of the journey before it
pub record TellsOf (e : Engine) (j : Route) (t : Told) : Type 0 where
  pub hold : t.hold_ended ≡ hold_ended (held_stop_in e) j
  pub skips : t.statuses ≡ tabulate max_points (status_at (route_in e) j)

-- the groups of an engine as they are
abbrev pub unchanged : Engine → RouteConditions → Effect
unchanged e after =
    record {
      journey = JourneyAfter.Kept;
      train = e.train;
      progress = e.progress;
      inputs = e.inputs;
      control = e.control;
      received = None;
      told = None;
      changes = no_changes;
      after = after;
    }
