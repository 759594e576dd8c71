-- Document 02, Q-4, over every list of calls: a packet 65 of status 1 is that of profiles turned down, and of nothing else.
use Rattle.std.specs.Prelude.{◌≡◌, ◌↔◌, List, [], ◌∷◌, ℕ, ◌≤◌, ◌<◌, length, Option}
use Rattle.wire.specs.Judged.Judged.{refuse, accept}
use Rattle.event.specs.Kinds.{load}
use Rattle.packets.specs.Packets.{packet_of}
use Rattle.packets.specs.declared.JpReceived.{JpReceived}
use Rattle.packets.specs.Packet.{Packet}
use Rattle.call_values.specs.Call.{Call}
use Rattle.call_values.specs.Packets.{jp_turned_down}
use Rattle.call.specs.Call.{Outcome, step_of}
use Rattle.whole_list.specs.Values.{History, role_of_call, position_by, route_by}
use Rattle.whole_list.specs.Table.{table_by}
use Rattle.whole_list.specs.Calls.{engine_after, history_of}
use Rattle.whole_list.specs.Recorded.{packets_after, newest, In}
use Rattle.whole_list.specs.WholeList.{bytes_of_each}

-- "A load refused by 7 to 12": the call c, after the history h
pub record TurnedDown (h : History) (c : Call) : Type 0 where
  pub number : ℕ
  pub is_refused : table_by h c ≡ refuse number
  pub from_7 : 7 ≤ number
  pub to_12 : number ≤ 12

-- a packet 65 of that status is among them
abbrev pub Has65 : ℕ → List (List ℕ) → Type 0
Has65 status l = (packet : List ℕ) × In packet l × ((p : JpReceived) × (packet_of packet ≡ accept (Packet.JpReceived p)) × (p.status ≡ status))

-- the call c, after the history h, gives r
pub record Received (h : History) (c : Call) (r : Outcome) : Type 0 where
  -- these numbers are of a load only
  pub of_load_lem : TurnedDown h c → role_of_call c ≡ load
  -- status 1 exactly where profiles are turned down and the packet fits
  pub turned_down : Has65 1 (packets_after r.answer r.memory) ↔ (TurnedDown h c × (29 ≤ length c.memory))
  -- then that packet is all that is written, with "the header of the engine as it stands, the content's NID_C by 01's rule against the journey in force"
  pub alone : TurnedDown h c → 29 ≤ length c.memory
      → packets_after r.answer r.memory ≡ bytes_of_each (jp_turned_down (route_by h) (position_by h) ∷ [])
  -- "If even that does not fit, nothing is written", and no other refusal writes
  pub not_fitting : TurnedDown h c → length c.memory < 29 → r.memory ≡ c.memory
  pub nothing_else : (n : ℕ) → table_by h c ≡ refuse n → ¬ TurnedDown h c → r.memory ≡ c.memory
  -- status 0 exactly where a load is accepted
  pub accepted_load : Has65 0 (packets_after r.answer r.memory) ↔ ((table_by h c ≡ accept tt) × (role_of_call c ≡ load))
  -- no packet of a refused call is a 68: the last one stays the last
  pub status_kept : (n : ℕ) → table_by h c ≡ refuse n → (o : Option (List ℕ)) → newest o (packets_after r.answer r.memory) ≡ o

abbrev pub EachReceived : List Call → Call → Type 0
EachReceived earlier c = Received (history_of earlier) c (step_of (engine_after earlier) c)
