-- THE CLAIM (demand 3): one statement over every list of calls, refused ones included, on one fresh engine. It assumes nothing.
use Rattle.std.specs.Prelude.{◌≡◌, ◌≢◌, ◌↔◌, ◌⊎◌, true, List, [], ◌∷◌, ◌++◌, map, ℕ, ◌≤◌, ◌<◌, length, drop, get_or, Option, Some, None, is_some}
use Rattle.wire.specs.Judged.Judged.{refuse, accept}
use Rattle.adhesion.specs.Constraints.{blank_constraint}
use Rattle.adhesion.specs.declared.TemporaryConstraint.{TemporaryConstraint}
use Rattle.engine_value.specs.Engine.{route_in, fresh, max_points, adhesion_of}
use Rattle.engine_value.specs.declared.Position.{Position}
use Rattle.engine_value.specs.declared.Engine.{Engine}
use Rattle.event.specs.declared.TractionRequest.{TractionRequest}
use Rattle.event.specs.Event.Event.{PositionReport, Traction, Adhesion}
use Rattle.status_word.specs.View.{conditions_number}
use Rattle.packets.specs.Packets.{packet_of, packet_bytes, joined}
use Rattle.status_word.specs.declared.OperationalConditions.{OperationalConditions}
use Rattle.packets.specs.declared.TimingPoint.{TimingPoint}
use Rattle.packets.specs.declared.AtoStatus.{AtoStatus}
use Rattle.packets.specs.Packet.{Packet}
use Rattle.position.specs.Position.{point, point_count, known, placed}
use Rattle.timing.specs.Distance.{beyond}
use Rattle.position.specs.Standing.{standing, standing_code}
use Rattle.timing.specs.Changes.{status_passed}
use Rattle.position.specs.declared.Standing.{Standing}
use Rattle.conditions.specs.Sentences.{ZonesBooked}
use Rattle.state_codes.specs.Codes.{code}
use Rattle.states.specs.States.{wanted}
use Rattle.state_codes.specs.declared.EtcsMode.TheVariants.{Other}
use Rattle.state_codes.specs.declared.State.TheVariants.{EG, DE}
use Rattle.traction.specs.View.{traction_of}
use Rattle.call_values.specs.Call.{Call, refused, accepted, bytes_written}
use Rattle.call_values.specs.declared.Accepted.{Accepted}
use Rattle.call.specs.Call.{Outcome, step_of, conditions_in}
use Rattle.call.specs.Shown.{constraint_in}
use Rattle.call.specs.View.{shown_view}
use Rattle.call.specs.declared.Shown.{Shown}
use Rattle.whole_list.specs.Values.{History, event_of_call, constraints_by, route_by, report_at}
use Rattle.whole_list.specs.Rules.{StandsBy, standing_by, conditions_by, values_by, JustReached, became_reached_by, AtHeldStop, state_by, request_by, upto, Engaged}
use Rattle.whole_list.specs.Requests.{traction_by}
use Rattle.whole_list.specs.Table.{held_stop_by, table_by, written_by, answer_by}
use Rattle.whole_list.specs.Calls.{engine_after, trace, history_of, last_answer, accepted_calls}
use Rattle.whole_list.specs.Recorded.{packets_after, number_in, last_status, In}

-- 1. "Engaged is state 5, in the engine and in the last accepted answer": e is the engine, h the history, `last` the last accepted answer
pub record EngagedExactly (e : Engine) (h : History) (last : Option Accepted) : Type 0 where
  pub in_engine : (e.control.state ≡ 5) ↔ Engaged h
  pub in_answer : (a : Accepted) → last ≡ Some a → (a.state ≡ 5) ↔ Engaged h
  pub answered : h ≢ [] → (a : Accepted) × (last ≡ Some a)

-- 2. the journey in force is that of the load in force, and each of its points stands where the history rule puts it
pub record PointsStand (e : Engine) (h : History) : Type 0 where
  pub in_force : route_in e ≡ route_by h
  pub each : (k : ℕ) → k < point_count (route_by h) → (s : Standing) → (standing e.progress k ≡ s) ↔ StandsBy h k s

abbrev pub bytes_of_each : List Packet → List (List ℕ)
bytes_of_each l = map packet_bytes l

-- a packet 68 with these values
pub record StatusPacket (packet : List ℕ) (state : ℕ) (conditions : OperationalConditions) : Type 0 where
  pub status : AtoStatus
  pub read : packet_of packet ≡ accept (Packet.AtoStatus status)
  pub state_is : status.state ≡ state
  pub conditions_are : status.conditions ≡ conditions

-- 3. no packet 68 before the first accepted event; from then on "the last packet 68 names the present state and conditions", those of the rows
-- and the rules for the history, and these are the engine's
pub record StatusWritten (e : Engine) (h : History) (last : Option (List ℕ)) : Type 0 where
  pub before : h ≡ [] → last ≡ None
  pub since : h ≢ [] → (packet : List ℕ) × (last ≡ Some packet) × StatusPacket packet (code (state_by h)) (conditions_by h)
  pub state : e.control.state ≡ code (state_by h)
  pub conditions : conditions_in e ≡ conditions_by h

-- 02, Q-1: the call c is a kind 14 made in EG or DE, and range and Q_ATO_SupTB were those of no request before it, or are others after it
pub record RequestWrites (h : History) (c : Call) : Type 0 where
  pub request : TractionRequest
  pub is_request : event_of_call c ≡ Traction request
  pub in_state_lem : (state_by h ≡ EG) ⊎ (state_by h ≡ DE)
  pub changed : (traction_by h ≡ None) ⊎ (traction_by (c ∷ h) ≢ traction_by h)

-- a packet of that number is among them
abbrev pub Has : ℕ → List (List ℕ) → Type 0
Has n l = (packet : List ℕ) × In packet l × (number_in packet ≡ n)

-- 02, Q-7: the call c is a kind 15
pub record Slippery (c : Call) : Type 0 where
  pub rows : List TemporaryConstraint
  pub is_adhesion : event_of_call c ≡ Adhesion rows

-- 4. a call c at the engine e, after the history h, gives r
pub record JudgedByTable (e : Engine) (h : History) (c : Call) (r : Outcome) : Type 0 where
  -- "It is accepted if it answers a state and not a number, as it does exactly when no row of the table of numbers refuses it."
  pub is_accepted : ((a : Accepted) × (r.answer ≡ accepted a)) ↔ (table_by h c ≡ accept tt)
  pub number : (n : ℕ) → ((bytes : ℕ) × (r.answer ≡ refused n bytes)) ↔ (table_by h c ≡ refuse n)
  pub answer : r.answer ≡ answer_by h c
  -- "Engine state after a refusal is still that before it"
  pub refused_engine : (n : ℕ) → table_by h c ≡ refuse n → r.engine ≡ e
  -- accepted or refused: its packets by the rules, and its old bytes from there on; with no packet the memory stays as it was
  pub memory : r.memory ≡ joined (written_by h c) ++ drop (length (joined (written_by h c))) c.memory
  -- the count that it answers is theirs
  pub bytes : bytes_written r.answer ≡ length (joined (written_by h c))
  pub as_long : length r.memory ≡ length c.memory
  -- cut from the front they are these packets; "The packet reader returns the packet's fields": of each of them, those that the rules give
  pub packets : packets_after r.answer r.memory ≡ bytes_of_each (written_by h c)
  pub read_back : map packet_of (packets_after r.answer r.memory) ≡ map accept (written_by h c)
  -- a packet 61 stands among them exactly when the call is a request that changes range or Q_ATO_SupTB, or is the first
  pub traction : table_by h c ≡ accept tt → Has 61 (packets_after r.answer r.memory) ↔ RequestWrites h c
  -- 02, Q-7: a packet 64 stands among them exactly for an accepted kind 15
  pub slippery : Has 64 (packets_after r.answer r.memory) ↔ ((table_by h c ≡ accept tt) × Slippery c)

-- 5. what is computed of a history, and what the rules say of it word by word, are the same
pub record AsRuled (h : History) : Type 0 where
  -- the history rule
  pub stands : (k : ℕ) (s : Standing) → (standing_by h k ≡ s) ↔ StandsBy h k s
  -- "A point became reached at a report if the history rule has it so after, not before, that report", which is the last event of the history
  pub became : (became_reached_by h ≡ true) ↔ JustReached h
  -- 02, Q-5: "a held stop is reached"
  pub held : (is_some (held_stop_by h) ≡ true) ↔ AtHeldStop h
  -- condition 7 by its sentence (conditions/Sentences): what is not in the book has no zones
  pub zones : ZonesBooked (route_by h)

-- 6. what the host's calls show of the engine
pub record ShownBy (s : Shown) (h : History) : Type 0 where
  pub state : s.state ≡ code (state_by h)
  pub request : s.request ≡ request_by h
  pub conditions : s.conditions ≡ conditions_number (conditions_by h)
  pub count : s.point_count ≡ point_count (route_by h)
  -- one code for each of 64 points, 0 where there is no such point
  pub as_many : length s.standings ≡ max_points
  pub each : (k : ℕ) → k < point_count (route_by h) → get_or s.standings k 0 ≡ standing_code (standing_by h k)
  pub no_point : (k : ℕ) → point_count (route_by h) ≤ k → get_or s.standings k 0 ≡ 0

-- 7. 02, Q-7: "the engine shows the rows of the latest one since power off, else none": how many, and row k; blank from the count on
pub record ShowsRows (e : Engine) (rows : List TemporaryConstraint) : Type 0 where
  pub group : e.adhesion ≡ adhesion_of rows
  pub count : (shown_view e).constraint_count ≡ length rows
  pub each : (k : ℕ) → constraint_in e k ≡ get_or rows k blank_constraint

pub record WholeList (calls : List Call) : Type 0 where
  pub engaged : EngagedExactly (engine_after calls) (history_of calls) (last_answer None (trace fresh calls))
  pub points : PointsStand (engine_after calls) (history_of calls)
  pub status : StatusWritten (engine_after calls) (history_of calls) (last_status None (trace fresh calls))
  pub judged : (earlier : List Call) (c : Call) (later : List Call) → calls ≡ earlier ++ (c ∷ later)
      → JudgedByTable (engine_after earlier) (history_of earlier) c (step_of (engine_after earlier) c)
  pub request : (engine_after calls).control.request ≡ request_by (history_of calls)
  -- 02, Q-1: "the range as a fact of the events since EG": what the engine remembers is that
  pub traction : (engine_after calls).traction ≡ traction_of (traction_by (history_of calls))
  pub as_ruled : AsRuled (history_of calls)
  pub shown : ShownBy (shown_view (engine_after calls)) (history_of calls)
  pub slippery : ShowsRows (engine_after calls) (constraints_by (history_of calls))

-- ---- corollaries

-- a packet 62 that was written at a position report, which ends the history h, and is of a point of the journey in force
pub record WrittenAt (h : History) (packet : List ℕ) : Type 0 where
  pub position : Position
  pub c : Call
  pub earlier : History
  pub at_report : h ≡ c ∷ earlier
  pub is_report_lem : event_of_call c ≡ PositionReport position
  pub index : ℕ
  pub one_of_them : index < point_count (route_by h)
  pub its_name : (p : TimingPoint) → packet_of packet ≡ accept (Packet.TimingPoint p) → p.nidtp ≡ (point (route_by h) index).nidtp

-- what holds of each packet 62 that the call c writes after the calls `earlier`
abbrev pub Each62 : List Call → Call → (List ℕ → TimingPoint → Type 0) → Type 0
Each62 earlier c Holds =
    let r = step_of (engine_after earlier) c in
    (packet : List ℕ) → In packet (packets_after r.answer r.memory) → (p : TimingPoint) → packet_of packet ≡ accept (Packet.TimingPoint p) → Holds packet p

-- nothing ahead is recorded as passed: a packet 62 of status 0 was written at a position report, is of a point of the journey in force, and at that
-- very report the position was known, the point placed and d > margin
pub record TrulyPassed (h : History) (packet : List ℕ) : Type 0 where
  pub written : WrittenAt h packet
  pub is_known : known (route_by h) written.position ≡ true
  pub is_placed : placed (route_by h) written.index ≡ true
  pub is_beyond : beyond (route_by h) (report_at h) written.index ≡ true

abbrev pub NothingAhead : List Call → Call → Type 0
NothingAhead earlier c = Each62 earlier c (λ packet p. p.status ≡ status_passed → TrulyPassed (c ∷ history_of earlier) packet)

-- refused calls leave no trace in engine and history: the list with its refused calls taken out ends in the same. What they recorded is not meant: a packet 65 of
-- status 1 stands in the memory of a call whose profiles were turned down
pub record NoTrace (calls : List Call) : Type 0 where
  pub same_engine : engine_after (accepted_calls fresh calls) ≡ engine_after calls
  pub same_history : history_of (accepted_calls fresh calls) ≡ history_of calls

-- "AD request: .. given if wanted and (given before or mode other)": there was a moment with mode other, and at it and ever since the
-- request was wanted
pub record Requested (h : History) : Type 0 where
  pub from : ℕ
  pub within : from ≤ length h
  pub mode_other : (values_by (upto h from)).mode ≡ Other
  pub wanted_since : (v : ℕ) → from ≤ v → v ≤ length h → wanted (state_by (upto h v)) (values_by (upto h v)) ≡ true

-- it is given exactly then
abbrev pub RequestExactly : List Call → Type 0
RequestExactly calls = ((engine_after calls).control.request ≡ true) ↔ Requested (history_of calls)
