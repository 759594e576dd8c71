-- The table of numbers, and what a call writes and answers, by the rules: functions of the history and the call. Nothing here is of crate `call`.
use Rattle.std.specs.Prelude.{Bool, ◌||◌, List, [], ◌∷◌, ◌++◌, ℕ, zero, suc, ◌+◌, length, ltb, leb, if◌then◌else◌, Option, Some, None}
use Rattle.wire.specs.Judged.{Judged, then_judge, row, ◌>>=◌, ◌>>◌}
use Rattle.wire.specs.Judged.Judged.{refuse, accept}
use Rattle.engine_value.specs.Engine.{Route}
use Rattle.engine_value.specs.declared.Point.{Point}
use Rattle.event.specs.Events.{event_of}
use Rattle.event.specs.Kinds.{kind_of, carried, off, load, report, other, skip}
use Rattle.journey.specs.declared.Head.{Head}
use Rattle.route.specs.Route.{LoadValue, load_of}
use Rattle.packets.specs.Packets.{joined}
use Rattle.packets.specs.Packet.{Packet}
use Rattle.position.specs.Position.{point, point_count, segment_named}
use Rattle.position.specs.Standing.{behind}
use Rattle.timing.specs.Changes.{status_passed, status_stopped, status_departed, status_held, status_skipped, status_revoked, when}
use Rattle.position.specs.Skips.{stop_named}
use Rattle.position.specs.declared.Standing.{Standing}
use Rattle.position.specs.declared.Standing.TheVariants.{Unused, Targeted, Reached, Passed}
use Rattle.state_codes.specs.Codes.{code}
use Rattle.hold.specs.Hold.{held_stop, hold_row, hold_ended}
use Rattle.trackside.specs.Trackside.{each_told}
use Rattle.conditions.specs.Conditions.{end_ahead}
use Rattle.state_codes.specs.Numbers.{power_rows, state_row}
use Rattle.call_values.specs.Packets.{PointChange, point_change, hold_revoked, Status, traction_brakes, adhesion_systems, packets_of, packets_refused}
use Rattle.call_values.specs.Rows.{offset_beyond, same_bool}
use Rattle.call_values.specs.Call.{Call, Answer, refused, accepted}
use Rattle.call_values.specs.declared.Accepted.{Accepted}
use Rattle.traction.specs.Requests.{written_content}
use Rattle.whole_list.specs.Values.{History, event_of_call, load_of_call, role_of_call, position_by, route_by, skipped_by}
use Rattle.whole_list.specs.Rules.{standing_by, conditions_by, state_by, request_by}
use Rattle.whole_list.specs.Requests.{traction_by}

-- ---- the points that an event changed, by where the history rule has them

-- 02, Q-5: "When a held stop becomes reached, packet 62 with status 3 follows the one with status 1."; `ahead` tells whether the End of Journey is neither
-- reached nor passed
abbrev pub becomes_reached : Point → Bool → List PointChange
becomes_reached p ahead = point_change p status_stopped ahead ∷ when p.held (point_change p status_held ahead)

-- "0 passed, 1 stopped, 2 departed", by where a point stands before and after a position report. "A departure writes status 2 and no 0"
abbrev pub change_at : Standing → Standing → Point → Bool → List PointChange
change_at Passed after p ahead = []
change_at Reached Passed p ahead = point_change p status_departed ahead ∷ []
change_at Reached Reached p ahead = []
change_at Reached Targeted p ahead = []
change_at Reached Unused p ahead = []
change_at Targeted Passed p ahead = point_change p status_passed ahead ∷ []
change_at Targeted Reached p ahead = becomes_reached p ahead
change_at Targeted Targeted p ahead = []
change_at Targeted Unused p ahead = []
change_at Unused Passed p ahead = point_change p status_passed ahead ∷ []
change_at Unused Reached p ahead = becomes_reached p ahead
change_at Unused Targeted p ahead = []
change_at Unused Unused p ahead = []

-- "after that change": the points up to k stand as after the report, the later ones still as before it
abbrev pub standing_then : (ℕ → Standing) → (ℕ → Standing) → ℕ → ℕ → Standing
standing_then before after k i = if leb i k then after i else before i

-- of the n points from k on
unfoldable pub changes_from : Route → (ℕ → Standing) → (ℕ → Standing) → ℕ → ℕ → List PointChange
changes_from j before after zero k = []
changes_from j before after (suc n) k =
    change_at (before k) (after k) (point j k) (end_ahead j.load (standing_then before after k)) ++ changes_from j before after n (k + 1)

-- "5 driver skip, 6 skip revoked"
abbrev pub skip_change : Route → Option ℕ → Bool → Bool → List PointChange
skip_change j None on ahead = []
skip_change j (Some k) on ahead = point_change (point j k) (if on then status_skipped else status_revoked) ahead ∷ []

-- the held stop that is reached, by the history rule and the mark of the load in force
abbrev pub held_stop_by : History → Option Point
held_stop_by h = held_stop (route_by h) (standing_by h)

-- "points that a load puts behind write none" for that; 02, Q-5: a load that ends a hold "status 4", with "the new journey's Q_EOJ_REACHED"
abbrev pub hold_change : History → Call → List PointChange
hold_change h c = hold_revoked (hold_ended (held_stop_by h) (route_by (c ∷ h))) (end_ahead (route_by (c ∷ h)).load (standing_by (c ∷ h)))

-- 02, Q-6: "each point whose NID_TP is in both journeys and that gained the trackside skip .. status 7, and each that lost it status 8", with "the new
-- point's fields"
abbrev pub trackside_by : History → Call → List PointChange
trackside_by h c =
    let new = route_by (c ∷ h) in
    each_told (route_by h) new (λ k s. point_change (point new k) s (end_ahead new.load (standing_by (c ∷ h))))

-- Q-6: they "come after any status 4"
abbrev pub load_changes : History → Call → List PointChange
load_changes h c = hold_change h c ++ trackside_by h c

unfoldable pub changes_by : History → Call → List PointChange
changes_by h c = elim (role_of_call c) [
  | off ↦ []
  | load ↦ load_changes h c
  | report ↦ changes_from (route_by h) (standing_by h) (standing_by (c ∷ h)) (point_count (route_by h)) 0
  | other ↦ []
  | skip t on ↦ skip_change (route_by h) (stop_named (route_by h) t) on (end_ahead (route_by h).load (standing_by h))
]

-- ---- the packets of the call c, accepted after the history h

abbrev pub head_of : Option LoadValue → Option Head
head_of None = None
head_of (Some l) = Some l.head

abbrev pub head_of_call : Call → Option Head
head_of_call c = elim (role_of_call c) [ off ↦ None | load ↦ head_of (load_of_call c) | report ↦ None | other ↦ None | skip t on ↦ None ]

abbrev pub status_by : History → Status
status_by h = record { state = code (state_by h); conditions = conditions_by h; speed = (position_by h).speed }

-- the packets that one kind of event alone writes: packet 61 of a traction request; 02, Q-7: "Each accepted such event, and nothing else, writes packet 64 with its rows"
abbrev pub own_by : History → Call → List Packet
own_by h c =
    traction_brakes (route_by (c ∷ h)) (position_by (c ∷ h)) (written_content (state_by h) (event_of_call c) (traction_by h) (traction_by (c ∷ h)))
    ++ adhesion_systems (route_by (c ∷ h)) (position_by (c ∷ h)) (carried (event_of_call c)).constraints

unfoldable pub packets_by : History → Call → List Packet
packets_by h c = packets_of (route_by (c ∷ h)) (position_by (c ∷ h)) (head_of_call c) (changes_by h c) (own_by h c) (status_by h) (status_by (c ∷ h))

abbrev pub accepted_by : History → Call → Accepted
accepted_by h c = record { state = code (state_by (c ∷ h)); request = request_by (c ∷ h); bytes = length (joined (packets_by h c)) }

-- ---- the table of numbers

-- "14 no stop of that name; 15 point reached or passed, driver skip already given, or no driver skip to revoke"
abbrev pub skip_rows : History → Option ℕ → Bool → Judged (Unit {0})
skip_rows h None on = refuse 14
skip_rows h (Some k) on = row 15 (behind (standing_by h k) || same_bool (skipped_by h k) on)

-- "7 to 12", "13 journey segment that is in the book, offset defined and beyond its length", 14 and 15
unfoldable pub kind_rows : History → Call → Judged (Unit {0})
kind_rows h c = elim (role_of_call c) [
  | off ↦ accept tt
  | load ↦ then_judge (load_of c.journey c.book) (λ l. accept tt)
  | report ↦ let x = position_by (c ∷ h) in row 13 (offset_beyond (segment_named (route_by h) x) x)
  | other ↦ accept tt
  | skip t on ↦ skip_rows h (stop_named (route_by h) t) on
]

-- event, power, state, book, journey, position, skip, output: "16 shorter than this event's packets"
unfoldable pub table_by : History → Call → Judged (Unit {0})
table_by h c = do
  event ← event_of c.event
  power_rows (state_by h) (kind_of event)
  state_row (state_by h) (kind_of event)
  hold_row (held_stop_by h) (kind_of event)
  kind_rows h c
  row 16 (ltb (length c.memory) (length (joined (packets_by h c))))

-- ---- every call: what it writes, and what it answers

-- "A load refused by 7 to 12 writes packet 65 with status 1"
abbrev pub packets_refused_by : History → Call → ℕ → List Packet
packets_refused_by h c n = packets_refused (route_by h) (position_by h) n (length c.memory)

-- the packets of a call of which the table says so
abbrev pub packets_if : History → Call → Judged (Unit {0}) → List Packet
packets_if h c (refuse n) = packets_refused_by h c n
packets_if h c (accept u) = packets_by h c

abbrev pub written_by : History → Call → List Packet
written_by h c = packets_if h c (table_by h c)

-- "It is accepted if it answers a state and not a number"
abbrev pub answer_if : History → Call → Judged (Unit {0}) → Answer
answer_if h c (refuse n) = refused n (length (joined (packets_refused_by h c n)))
answer_if h c (accept u) = accepted (accepted_by h c)

abbrev pub answer_by : History → Call → Answer
answer_by h c = answer_if h c (table_by h c)
