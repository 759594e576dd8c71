-- Document 02, Q-5, over every list of calls: which calls get 20, and which packets 62 have status 3 and status 4.
use Rattle.std.specs.Prelude.{◌≡◌, ◌↔◌, false, List, ◌∷◌, ◌++◌, ℕ, ◌<◌}
use Rattle.wire.specs.Judged.Judged.{refuse, accept}
use Rattle.engine_value.specs.declared.Point.{Point}
use Rattle.engine_value.specs.declared.Position.{Position}
use Rattle.event.specs.Events.{event_of}
use Rattle.event.specs.Kinds.{load}
use Rattle.event.specs.Event.Event.{Press, PositionReport}
use Rattle.packets.specs.Packets.{packet_of, packet_bytes}
use Rattle.packets.specs.declared.TimingPoint.{TimingPoint}
use Rattle.packets.specs.Packet.{Packet}
use Rattle.position.specs.Position.{point, point_count}
use Rattle.position.specs.declared.Standing.TheVariants.{Reached}
use Rattle.timing.specs.Changes.{status_stopped, status_held, status_hold_revoked}
use Rattle.conditions.specs.Conditions.{end_ahead}
use Rattle.state_codes.specs.declared.State.TheVariants.{RE}
use Rattle.call_values.specs.Call.{Call}
use Rattle.call_values.specs.Packets.{header, timing_point_of}
use Rattle.call.specs.Call.{step_of}
use Rattle.whole_list.specs.Values.{History, event_of_call, role_of_call, position_by, route_by}
use Rattle.whole_list.specs.Rules.{StandsBy, HeldBy, AtHeldStop, standing_by, state_by}
use Rattle.whole_list.specs.Table.{table_by}
use Rattle.whole_list.specs.Calls.{engine_after, history_of}
use Rattle.whole_list.specs.Recorded.{packets_after, number_in, In}

-- "A press while a held stop is reached": the call c, after the history h; in RE, since 3, 5 or 6 refuses it elsewhere
pub record PressHeld (h : History) (c : Call) : Type 0 where
  pub is_press : event_of c.event ≡ accept Press
  pub in_RE : state_by h ≡ RE
  pub at_stop : AtHeldStop h

-- "When a held stop becomes reached": stop k, at the call c
pub record BecomesHeld (h : History) (c : Call) (k : ℕ) : Type 0 where
  pub accepted : table_by h c ≡ accept tt
  pub position : Position
  pub is_report_lem : event_of_call c ≡ PositionReport position
  pub after : HeldBy (c ∷ h) k
  pub before : ¬ StandsBy h k Reached

-- "If an accepted load comes while a held stop is reached, and the new journey has its NID_TP unheld or lacks it": stop k of the journey before
pub record HoldEnds (h : History) (c : Call) (k : ℕ) : Type 0 where
  pub accepted : table_by h c ≡ accept tt
  pub is_load_lem : role_of_call c ≡ load
  pub before : HeldBy h k
  pub not_kept : (i : ℕ) → i < point_count (route_by (c ∷ h)) → (point (route_by (c ∷ h)) i).nidtp ≡ (point (route_by h) k).nidtp
      → (point (route_by (c ∷ h)) i).held ≡ false

-- the bytes of a packet 62 of that point and status, with the header and the Q_EOJ_REACHED that a history leaves
abbrev pub bytes62 : History → Point → ℕ → List ℕ
bytes62 h p status = packet_bytes (timing_point_of (header (route_by h) (position_by h)) p status (end_ahead (route_by h).load (standing_by h)))

-- a packet 62 of that status
pub record Is62 (packet : List ℕ) (status : ℕ) : Type 0 where
  pub told : TimingPoint
  pub read : packet_of packet ≡ accept (Packet.TimingPoint told)
  pub status_is : told.status ≡ status

-- the call c, after the history h, which writes these packets
pub record HeldTold (h : History) (c : Call) (packets : List (List ℕ)) : Type 0 where
  -- "Turned away: 20, a press at a held stop, checked right after 6."
  pub twenty : (table_by h c ≡ refuse 20) ↔ PressHeld h c
  -- "packet 62 with status 3 follows the one with status 1"; there is no other of that status
  pub held : (k : ℕ) → BecomesHeld h c k → (before after : List (List ℕ))
      × (packets ≡ before ++ (bytes62 (c ∷ h) (point (route_by h) k) status_stopped ∷ bytes62 (c ∷ h) (point (route_by h) k) status_held ∷ after))
  pub held_alone : (packet : List ℕ) → In packet packets → Is62 packet status_held
      → (k : ℕ) × BecomesHeld h c k × (packet ≡ bytes62 (c ∷ h) (point (route_by h) k) status_held)
  -- "status 4 is written after packet 65, using the old point's fields but the new journey's Q_EOJ_REACHED"; there is no other of that status
  pub revoked : (k : ℕ) → HoldEnds h c k → (packet65 : List ℕ) × (after : List (List ℕ))
      × (packets ≡ packet65 ∷ bytes62 (c ∷ h) (point (route_by h) k) status_hold_revoked ∷ after) × (number_in packet65 ≡ 65)
  pub revoked_alone : (packet : List ℕ) → In packet packets → Is62 packet status_hold_revoked
      → (k : ℕ) × HoldEnds h c k × (packet ≡ bytes62 (c ∷ h) (point (route_by h) k) status_hold_revoked)

abbrev pub EachHeld : List Call → Call → Type 0
EachHeld earlier c = let r = step_of (engine_after earlier) c in HeldTold (history_of earlier) c (packets_after r.answer r.memory)
