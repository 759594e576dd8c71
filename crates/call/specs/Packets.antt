-- The packets of an event by the engine before it, and by the one after it.
use Rattle.std.specs.Prelude.{List, ◌++◌, map, Option}
use Rattle.engine_value.specs.Engine.{Route, route_in}
use Rattle.engine_value.specs.declared.Point.{Point}
use Rattle.engine_value.specs.declared.Engine.{Engine}
use Rattle.event.specs.Event.{Event}
use Rattle.event.specs.Kinds.{carried}
use Rattle.packets.specs.Packet.{Packet}
use Rattle.position.specs.Position.{point}
use Rattle.position.specs.Standing.{standing}
use Rattle.timing.specs.Changes.{Change}
use Rattle.conditions.specs.Conditions.{end_ahead}
use Rattle.state_codes.specs.Codes.{state_at}
use Rattle.traction.specs.Requests.{written_content}
use Rattle.traction.specs.View.{remembered_in}
use Rattle.call_values.specs.Packets.{PointChange, point_change, hold_revoked, traction_brakes, adhesion_systems}

-- a change of a point, as its packet tells it: "Q_EOJ_REACHED (after that change ..)", by the progress after it
abbrev pub change_in : Route → Change → PointChange
change_in j c = point_change (point j c.index) c.status (end_ahead j.load (standing c.after))

-- all of an event, by the engine after it: the hold that a load ended, and the changes of the journey's points
abbrev pub changes_in : Engine → Option Point → List Change → List PointChange
changes_in m ended changes = hold_revoked ended (end_ahead m.load (standing m.progress)) ++ map (change_in (route_in m)) changes

-- the packets that one kind of event alone writes: here they join, by the engine before the event, the event and the engine after it.
-- 02, Q-1: packet 61 of a traction request; Q-7: packet 64 of slippery rail
abbrev pub own_packets : Engine → Event → Engine → List Packet
own_packets e event m =
    traction_brakes (route_in m) m.train.position
    (written_content (state_at e.control.state) event (remembered_in e.traction) (remembered_in m.traction))
    ++ adhesion_systems (route_in m) m.train.position (carried event).constraints
