-- Document 02, Q-6, over every list of calls: which packets 62 have status 7 and status 8, foretold from the values of two journeys, and of which points.
use Rattle.std.specs.Prelude.{◌≡◌, List, [], ◌∷◌, map, Bool, ◌||◌, ℕ, eqb, ◌<◌, Option, Some, None}
use Rattle.wire.specs.Judged.Judged.{refuse, accept}
use Rattle.wire.specs.Lists.{those}
use Rattle.event.specs.Kinds.{off, load, report, other, skip}
use Rattle.packets.specs.declared.TimingPoint.{TimingPoint}
use Rattle.journey.specs.Journey.{JourneyValue, journey_value}
use Rattle.position.specs.Position.{point, point_count}
use Rattle.timing.specs.Changes.{status_trackside_skip, status_trackside_revoked}
use Rattle.trackside.specs.Trackside.{Foretold, foretell, foretold}
use Rattle.trackside.specs.Sentences.{Gained, Lost}
use Rattle.call_values.specs.Call.{Call}
use Rattle.call.specs.Call.{step_of}
use Rattle.whole_list.specs.Values.{History, role_of_call, route_by}
use Rattle.whole_list.specs.Table.{table_by}
use Rattle.whole_list.specs.Calls.{engine_after, history_of}
use Rattle.whole_list.specs.Recorded.{packets_after, timing_points, In}
use Rattle.whole_list.specs.Held.{bytes62, Is62}

-- ---- the journeys, decoded from the calls' bytes

-- the values of a call's journey; its book is not looked at
unfoldable pub journey_of_call : Call → Option JourneyValue
journey_of_call c = elim (journey_value c.journey) [ refuse n ↦ None | accept j ↦ Some j ]

-- those of the load in force
unfoldable pub journey_by : History → Option JourneyValue
journey_by [] = None
journey_by (c ∷ h) = elim (role_of_call c) [ off ↦ None | load ↦ journey_of_call c | report ↦ journey_by h | other ↦ journey_by h | skip t on ↦ journey_by h ]

-- "A first journey writes neither."
abbrev pub foretold_from : Option JourneyValue → JourneyValue → List Foretold
foretold_from None new = []
foretold_from (Some old) new = foretold old new

-- ---- what the packets tell

abbrev pub tells_skip : TimingPoint → Bool
tells_skip p = eqb p.status status_trackside_skip || eqb p.status status_trackside_revoked

-- the packets 62 of status 7 and 8: which points they name, in what order and with which status
abbrev pub skips_told : List (List ℕ) → List Foretold
skips_told packets = map (λ (p : TimingPoint). foretell p.nidtp p.status) (those tells_skip (timing_points packets))

-- ---- the claim

-- the call c, after the history h, is an accepted load
pub record Loads (h : History) (c : Call) : Type 0 where
  pub accepted : table_by h c ≡ accept tt
  pub is_load_lem : role_of_call c ≡ load

-- it gives point k of its journey the trackside skip; it takes it
pub record Gives (h : History) (c : Call) (k : ℕ) : Type 0 where
  pub loads : Loads h c
  pub one_of_them : k < point_count (route_by (c ∷ h))
  pub gained : Gained (route_by h) (route_by (c ∷ h)) k

pub record Takes (h : History) (c : Call) (k : ℕ) : Type 0 where
  pub loads : Loads h c
  pub one_of_them : k < point_count (route_by (c ∷ h))
  pub lost : Lost (route_by h) (route_by (c ∷ h)) k

-- the bytes of a packet 62 of that status, with "the new point's fields", and header and Q_EOJ_REACHED as the load leaves them
abbrev pub bytes_new : History → Call → ℕ → ℕ → List ℕ
bytes_new h c k status = bytes62 (c ∷ h) (point (route_by (c ∷ h)) k) status

-- the call c, after the history h, which writes these packets
pub record SkipsTold (h : History) (c : Call) (packets : List (List ℕ)) : Type 0 where
  -- "Someone holding both journeys can foretell which points the list names, in what order and with which status."
  pub as_foretold : Loads h c → (new : JourneyValue) × (journey_value c.journey ≡ accept new) × (skips_told packets ≡ foretold_from (journey_by h) new)
  -- no other call tells of one
  pub nothing_else : ¬ Loads h c → skips_told packets ≡ []
  -- "each point whose NID_TP is in both journeys and that gained the trackside skip writes packet 62 with status 7"; there is no other of that status
  pub gained : (k : ℕ) → Gives h c k → In (bytes_new h c k status_trackside_skip) packets
  pub gained_alone : (packet : List ℕ) → In packet packets → Is62 packet status_trackside_skip → (k : ℕ) × Gives h c k × (packet ≡ bytes_new h c k status_trackside_skip)
  -- "and each that lost it status 8"; there is no other of that status
  pub lost : (k : ℕ) → Takes h c k → In (bytes_new h c k status_trackside_revoked) packets
  pub lost_alone : (packet : List ℕ) → In packet packets → Is62 packet status_trackside_revoked → (k : ℕ) × Takes h c k × (packet ≡ bytes_new h c k status_trackside_revoked)

abbrev pub EachSkip : List Call → Call → Type 0
EachSkip earlier c = let r = step_of (engine_after earlier) c in SkipsTold (history_of earlier) c (packets_after r.answer r.memory)
