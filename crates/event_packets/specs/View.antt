-- The packets that the code's `Writes` stands for, with the values of the engine after the event.
use Rattle.std.specs.Prelude.{ℕ, ◌≡◌, ◌-◌, List, [], ◌∷◌, ◌++◌, map}
use Rattle.std.specs.Prelude.{Option, Some, None, option_map}
use Rattle.adhesion.specs.View.{constraints_view}
use denote.Ref.{Bor}
use Rattle.std.proofs.lemmas.List.Edits.{sets}
use Rattle.engine_value.specs.Engine.{route_in}
use Rattle.engine_value.specs.declared.Point.{Point}
use Rattle.engine_value.specs.declared.Progress.{Progress}
use Rattle.engine_value.specs.declared.Engine.{Engine}
use Rattle.packets.specs.Packets.{joined}
use Rattle.packets.specs.Packet.{Packet}
use Rattle.timing.specs.Changes as timing
use Rattle.timing.specs.Changes.{change, passings, status_hold_revoked}
use Rattle.position.specs.Standing.{standing}
use Rattle.conditions.specs.Conditions.{end_ahead}
use Rattle.call.specs.Packets.{change_in, changes_in}
use Rattle.call_values.specs.Packets as packets
use Rattle.call_values.specs.Packets.{header, in_order, point_change, timing_point, jp_received_of, traction_brakes, adhesion_systems, ato_status}
use Rattle.event_packets.specs.declared.Change.{Change}
use Rattle.event_packets.specs.declared.Changes.{Changes}
use Rattle.trackside.specs.View.{changes_from}
use Rattle.event_packets.specs.declared.Told.{Told}
use Rattle.event_packets.specs.declared.Received.{Received}
use Rattle.event_packets.specs.declared.Status.{Status}
use Rattle.event_packets.specs.declared.Writes.{Writes}

abbrev pub change_view : Change → timing.Change
change_view c = change c.index c.status c.after

abbrev pub status_view : Status → packets.Status
status_view s = record { state = s.state; conditions = s.conditions; speed = s.speed }

-- what there is, as a list
abbrev pub listed : {A : Type 0} → Option A → List A
listed None = []
listed (Some a) = a ∷ []

-- the changes of the points
abbrev pub changes_view : Changes → List timing.Change
changes_view c =
    map change_view (listed c.first)
    ++ (passings (c.to - c.from) c.from ++ (map change_view (listed c.last) ++ map change_view (listed c.held)))

-- of a load: the stop whose hold it ended, and the changes that it tells of, from the progress that it leaves
abbrev pub told_hold : Option (Bor Told) → Option Point
told_hold None = None
told_hold (Some t) = t.now.hold_ended

abbrev pub told_view : Progress → Option (Bor Told) → List timing.Change
told_view p None = []
told_view p (Some t) = changes_from p 0 t.now.statuses

-- ---- the packets, with the header of an engine

abbrev pub packets62 : Engine → List timing.Change → List Packet
packets62 e l = map (timing_point (route_in e) e.train.position) (map (change_in (route_in e)) l)

-- of the stop whose hold a load ended
abbrev pub revoked_packet : Engine → Point → Packet
revoked_packet e p = timing_point (route_in e) e.train.position (point_change p status_hold_revoked (end_ahead e.load (standing e.progress)))

abbrev pub jp_received_view : Engine → Received → Packet
jp_received_view e r = jp_received_of (header (route_in e) e.train.position) r.nidc r.head

abbrev pub packets_view : Engine → Writes → List Packet
packets_view e w =
    in_order
    (map (jp_received_view e) (listed w.received))
    (map (timing_point (route_in e) e.train.position) (changes_in e (told_hold w.told) (told_view e.progress w.told ++ changes_view w.changes)))
    (traction_brakes (route_in e) e.train.position w.requested ++ adhesion_systems (route_in e) e.train.position (option_map constraints_view w.constraints))
    (map (ato_status (route_in e) e.train.position e.control.state) (listed w.status))

-- packets put from a position on: what is then put from the position r on stands behind them
abbrev pub Put : ℕ → List Packet → List ℕ → List ℕ → ℕ → Type 0
Put at ps before after r = (more : List ℕ) → sets after r more ≡ sets before at (joined ps ++ more)
