-- Document 02, Q-3, over every list of calls: what is recorded as departed has left, what has left is recorded as departed, and creeping at a platform
-- leaves no trace. The departure is told by its three tests, and not by `leaves`.
use Rattle.std.specs.Prelude.{◌≡◌, ◌≢◌, true, List, ◌∷◌, ◌++◌, ℕ, ◌<◌, Some}
use Rattle.wire.specs.Judged.Judged.{accept}
use Rattle.engine_value.specs.declared.Position.{Position}
use Rattle.event.specs.Event.Event.{PositionReport}
use Rattle.event.specs.Kinds.{off, load}
use Rattle.packets.specs.Packets.{packet_of}
use Rattle.packets.specs.declared.TimingPoint.{TimingPoint}
use Rattle.packets.specs.Packet.{Packet}
use Rattle.position.specs.Position.{point, front_at}
use Rattle.timing.specs.Distance.{exceeds_reach}
use Rattle.timing.specs.Changes.{status_departed}
use Rattle.position.specs.declared.Standing.TheVariants.{Reached, Passed}
use Rattle.call_values.specs.Call.{Call}
use Rattle.call.specs.Call.{step_of}
use Rattle.whole_list.specs.Values.{History, event_of_call, role_of_call, route_by, length_by}
use Rattle.whole_list.specs.Rules.{StandsBy, ReachedBy}
use Rattle.whole_list.specs.Table.{table_by}
use Rattle.whole_list.specs.Calls.{engine_after, history_of}
use Rattle.whole_list.specs.Recorded.{packets_after, In}
use Rattle.whole_list.specs.WholeList.{WrittenAt, Each62}

-- "a report with speed above 0, a known position and d greater than R" of point k: the position of the report, which ends the history h
pub record Leaves (h : History) (x : Position) (k : ℕ) : Type 0 where
  pub moves : 0 < x.speed
  pub front : ℕ
  pub is_known : front_at (route_by h) x ≡ Some front
  pub is_beyond : exceeds_reach front (length_by h) (point (route_by h) k) ≡ true

-- ---- truly departed

-- a packet 62 of status 2 was written at a position report and is of a point of the journey in force, which the history rule has as reached before
-- that report and as passed after it; and that very report leaves it
pub record TrulyDeparted (h : History) (packet : List ℕ) : Type 0 where
  pub written : WrittenAt h packet
  pub was_reached : StandsBy written.earlier written.index Reached
  pub is_passed : StandsBy h written.index Passed
  pub left : Leaves h written.position written.index

abbrev pub EachTrulyDeparted : List Call → Call → Type 0
EachTrulyDeparted earlier c = Each62 earlier c (λ packet p. p.status ≡ status_departed → TrulyDeparted (c ∷ history_of earlier) packet)

-- ---- and surely

-- the call c, after the calls `earlier`, is an accepted report that leaves point k, which is reached
pub record Leaving (earlier : List Call) (c : Call) (k : ℕ) : Type 0 where
  pub before : ReachedBy (history_of earlier) k
  pub position : Position
  pub is_report_lem : event_of_call c ≡ PositionReport position
  pub accepted : table_by (history_of earlier) c ≡ accept tt
  pub left : Leaves (c ∷ history_of earlier) position k

-- then k is passed, and a packet 62 of status 2 that names it is among those that the call writes
pub record SurelyDeparted (earlier : List Call) (c : Call) (k : ℕ) : Type 0 where
  pub is_passed : StandsBy (c ∷ history_of earlier) k Passed
  pub packet : List ℕ
  pub among : let r = step_of (engine_after earlier) c in In packet (packets_after r.answer r.memory)
  pub told : TimingPoint
  pub read : packet_of packet ≡ accept (Packet.TimingPoint told)
  pub status_is : told.status ≡ status_departed
  pub its_name : told.nidtp ≡ (point (route_by (history_of earlier)) k).nidtp

-- ---- creeping leaves no trace

-- "Until then, or until a load or power off, it stays reached": the call c, accepted after the history h, is none of these for point k
pub record Keeps (h : History) (k : ℕ) (c : Call) : Type 0 where
  pub no_load : role_of_call c ≢ load
  pub no_power_off : role_of_call c ≢ off
  pub no_departure : (x : Position) → event_of_call c ≡ PositionReport x → ¬ Leaves (c ∷ h) x k

-- point k is reached after the calls `earlier`, and each of some more calls that is accepted is none of these
pub record Creeping (earlier more : List Call) (k : ℕ) : Type 0 where
  pub before : ReachedBy (history_of earlier) k
  pub each : (some : List Call) (c : Call) (others : List Call) → more ≡ some ++ (c ∷ others)
      → table_by (history_of (earlier ++ some)) c ≡ accept tt → Keeps (history_of (earlier ++ some)) k c

-- then k is reached after all of them, as after any first of them, and no position report among them writes a packet 62
pub record NoTraceOfCreeping (earlier more : List Call) (k : ℕ) : Type 0 where
  pub still_reached : StandsBy (history_of (earlier ++ more)) k Reached
  pub no_62 : (some : List Call) (c : Call) (others : List Call) → more ≡ some ++ (c ∷ others)
      → (x : Position) → event_of_call c ≡ PositionReport x → Each62 (earlier ++ some) c (λ packet p. ⊥)
