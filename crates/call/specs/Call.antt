-- The meaning of a call: the table of numbers from top to bottom, else the new engine, its answer and the output memory.
use Rattle.std.specs.Prelude.{ℕ, List, [], ◌++◌, length, drop, ltb, if◌then◌else◌, Option, Some, option_map}
use Rattle.wire.specs.Judged.{Judged, row, ◌>>=◌, ◌>>◌}
use Rattle.wire.specs.Judged.Judged.{refuse, accept}
use Rattle.adhesion.specs.declared.TemporaryConstraint.{TemporaryConstraint}
use Rattle.engine_value.specs.Engine.{route_in, adhesion_of, with_control}
use Rattle.engine_value.specs.declared.Adhesion.{Adhesion}
use Rattle.engine_value.specs.declared.Control.{Control}
use Rattle.engine_value.specs.declared.Engine.{Engine}
use Rattle.event.specs.Events.{event_of}
use Rattle.event.specs.Kinds.{is_off, newer, kind_of, role_of, carried}
use Rattle.event.specs.Event.{Event}
use Rattle.packets.specs.Packets.{joined}
use Rattle.status_word.specs.declared.OperationalConditions.{OperationalConditions}
use Rattle.packets.specs.Packet.{Packet}
use Rattle.position.specs.Standing.{standing}
use Rattle.state_codes.specs.Codes.{state_at}
use Rattle.conditions.specs.Conditions.{conditions}
use Rattle.state_codes.specs.Numbers.{power_rows, state_row}
use Rattle.hold.specs.Hold.{held_stop_in, hold_row}
use Rattle.states.specs.ControlGroup.{control_after}
use Rattle.traction.specs.Requests.{remembered_after}
use Rattle.traction.specs.View.{remembered_in, traction_of}
use Rattle.call_values.specs.Call.{Call, Answer, refused, accepted}
use Rattle.call_values.specs.declared.Accepted.{Accepted}
use Rattle.call_values.specs.Packets.{Status, packets_of, packets_refused}
use Rattle.call.specs.Packets.{changes_in, own_packets}
use Rattle.call.specs.Effect.{Effect, effect, stored}

-- what a call answers and leaves
pub record Outcome : Type 0 where
  pub answer : Answer
  pub engine : Engine
  pub memory : List ℕ

-- the nine conditions
unfoldable pub conditions_in : Engine → OperationalConditions
conditions_in e = conditions (route_in e) e.inputs.reports e.train.position (standing e.progress)

abbrev pub status_in : Engine → Status
status_in e = record { state = e.control.state; conditions = conditions_in e; speed = e.train.position.speed }

-- an accepted event: the engine after it, and its packets
pub record Step : Type 0 where
  pub engine : Engine
  pub packets : List Packet

abbrev pub step_to : Engine → Event → Effect → Engine → Step
step_to e event f m = record {
  engine = m;
  packets = packets_of (route_in m) m.train.position f.loaded (changes_in m f.hold_ended f.changes) (own_packets e event m) (status_in e) (status_in m);
}

-- 02, Q-7: "the engine shows the rows of the latest one since power off, else none": those that it shows from an event on that alters them
abbrev pub rows_shown : Event → Option (List TemporaryConstraint)
rows_shown event = if is_off (role_of event) then Some [] else (carried event).constraints

abbrev pub adhesion_after : Event → Adhesion → Adhesion
adhesion_after event a = newer (option_map adhesion_of (rows_shown event)) a

-- engine m with the control group after the event, with what is then remembered of the traction requests, and with the rows that it then shows
abbrev pub settled : Engine → Event → Engine → Control → Engine
settled e event m c =
    with_control m c (traction_of (remembered_after (state_at e.control.state) event (state_at c.state) (remembered_in e.traction))) (adhesion_after event e.adhesion)

-- "After each accepted event": the rows of the states over the event's values
abbrev pub step_by : Engine → Event → Effect → Step
step_by e event f =
    step_to e event f (settled e event (stored e f) (control_after f.inputs f.control event f.reached (conditions_in (stored e f))))

-- ---- the four parts of a call: what the event looks up and its effect (`look_up` in `effect`), the judgement of the effect (`judge`), and what is
-- stored (`stored`, `outcome_of`)

-- output: "16 shorter than this event's packets"
unfoldable pub judge : Engine → Event → List ℕ → Effect → Judged Step
judge e event memory f = do
  row 16 (ltb (length memory) (length (joined (step_by e event f).packets)))
  accept (step_by e event f)

-- the table of numbers
unfoldable pub judged : Engine → Call → Judged Step
judged e c = do
  event ← event_of c.event
  power_rows (state_at e.control.state) (kind_of event)
  state_row (state_at e.control.state) (kind_of event)
  hold_row (held_stop_in e) (kind_of event)
  f ← effect e c.journey c.book event
  judge e event c.memory f

-- a call's packets stand at the front of its memory; the bytes behind keep their values
abbrev pub with_packets : List Packet → List ℕ → List ℕ
with_packets packets memory = let bytes = joined packets in bytes ++ drop (length bytes) memory

-- what a call writes that is refused by number n: 02, Q-4, with the engine as it stands
abbrev pub packets_refused_in : Engine → ℕ → List ℕ → List Packet
packets_refused_in e n memory = packets_refused (route_in e) e.train.position n (length memory)

-- "An accepted event returns state, request and bytes written"
abbrev pub returned : Step → Accepted
returned s = record { state = s.engine.control.state; request = s.engine.control.request; bytes = length (joined s.packets) }

-- "Every refusal .. changes neither engine nor memory", but for the memory where 02, Q-4, has a packet: "The result of a refusal gains the byte count", "Engine
-- state after a refusal is still that before it"
unfoldable pub outcome_of : Engine → List ℕ → Judged Step → Outcome
outcome_of e memory (refuse n) =
    let packets = packets_refused_in e n memory in
    record { answer = refused n (length (joined packets)); engine = e; memory = with_packets packets memory }
outcome_of e memory (accept s) = record { answer = accepted (returned s); engine = s.engine; memory = with_packets s.packets memory }

unfoldable pub step_of : Engine → Call → Outcome
step_of e c = outcome_of e c.memory (judged e c)
