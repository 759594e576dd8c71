-- What an event looks up in the journey in force and the driver skips.
use Rattle.std.specs.Prelude.{Option, None, if◌then◌else◌}
use Rattle.engine_value.specs.Engine.{route_in}
use Rattle.engine_value.specs.declared.Position.{Position}
use Rattle.engine_value.specs.declared.Engine.{Engine}
use Rattle.event.specs.Event.{Event}
use Rattle.event.specs.Kinds.{Role, is_report, is_skip, skip_name, newer, role_of, carried}
use Rattle.position.specs.Position.{segment_named}
use Rattle.position.specs.Skips.{stop_in}
use Rattle.position.specs.Standing.{standing}
use Rattle.position.specs.declared.Stop.{Stop}
use Rattle.timing.specs.Distance.{report_from}
use Rattle.timing.specs.Report.{report_of, no_report}
use Rattle.timing.specs.declared.Reported.{Reported}
use Rattle.conditions.specs.Conditions.{route_conditions}
use Rattle.conditions.specs.declared.RouteConditions.{RouteConditions}
use Rattle.look_up.specs.declared.LookedUp.{LookedUp}

-- the position after an event
abbrev pub position_after : Engine → Event → Position
position_after e event = newer (carried event).position e.train.position

-- what a position report brings, by the role of the event
abbrev pub report_as : Role → Engine → Position → Reported
report_as r e x = if is_report r then report_of (route_in e) (report_from e x) e.progress else no_report e.progress

-- the stop that a driver skip names
abbrev pub stop_as : Role → Engine → Option Stop
stop_as r e = if is_skip r then stop_in e (skip_name r) else None

-- conditions 4, 6 and 7 as an engine has them
abbrev pub route_conditions_in : Engine → RouteConditions
route_conditions_in e = route_conditions (route_in e) e.train.position (standing e.progress)

-- all of it
abbrev pub look_up : Engine → Event → LookedUp
look_up e event =
    record {
      before = route_conditions_in e;
      segment = segment_named (route_in e) (position_after e event);
      report = report_as (role_of event) e (position_after e event);
      stop = stop_as (role_of event) e;
    }
