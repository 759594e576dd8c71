-- Document 02, Q-1: what is remembered of the traction requests, and when packet 61 is written.
use Rattle.std.specs.Prelude.{ℕ, Bool, true, false, not, ◌&&◌, ◌||◌, Option, Some, None, eqb, if◌then◌else◌}
use Rattle.wire.specs.Numbers.{magnitude}
use Rattle.event.specs.Kinds.{is_off, role_of, carried}
use Rattle.event.specs.declared.TractionRequest.{TractionRequest}
use Rattle.event.specs.Event.{Event}
use Rattle.packets.specs.declared.Requested.{Requested}
use Rattle.state_codes.specs.Codes.{is}
use Rattle.state_codes.specs.declared.State.{State}
use Rattle.state_codes.specs.declared.State.TheVariants.{EG, DE}
use Rattle.traction.specs.Ranges.{range_after}
use Rattle.traction.specs.declared.Remembered.{Remembered}

abbrev pub remembered : ℕ → ℕ → Remembered
remembered range suptb = record { range = range; suptb = suptb }

abbrev pub range_in : Option Remembered → Option ℕ
range_in None = None
range_in (Some r) = Some r.range

-- "Its size without sign falls in range ..": a request's range and its Q_ATO_SupTB, after those of the request before
abbrev pub requested : Option Remembered → TractionRequest → Remembered
requested m x = remembered (range_after (range_in m) (magnitude x.request)) x.content.q_ato_suptb

-- "In EG or DE"
abbrev pub driving : State → Bool
driving s = is s EG || is s DE

-- the request of an event that comes in that state. "In CO, NA, AV and RE the event is accepted and changes nothing"
abbrev pub made : State → Event → Option TractionRequest
made s event = if driving s then (carried event).traction else None

-- "entering EG forgets both"; 01: "Power off returns to fresh."
abbrev pub forgets : State → Event → State → Bool
forgets before event after = is_off (role_of event) || (is after EG && not (is before EG))

abbrev pub with_request : Option Remembered → Option TractionRequest → Option Remembered
with_request m None = m
with_request m (Some x) = Some (requested m x)

-- what is remembered after an event that comes in the state `before` and leads to `after`
abbrev pub remembered_after : State → Event → State → Option Remembered → Option Remembered
remembered_after before event after m = if forgets before event after then None else with_request m (made before event)

-- "on a change of range or of Q_ATO_SupTB; .. so the first request writes"
abbrev pub changed : Option Remembered → Option Remembered → Bool
changed None after = true
changed (Some b) None = true
changed (Some b) (Some a) = not (eqb a.range b.range) || not (eqb a.suptb b.suptb)

abbrev pub content_if : Bool → Option TractionRequest → Option Requested
content_if false o = None
content_if true None = None
content_if true (Some x) = Some x.content

-- "In EG or DE the packet is written ..": its content, by what is remembered before the event and after it
abbrev pub written_content : State → Event → Option Remembered → Option Remembered → Option Requested
written_content s event before after = content_if (changed before after) (made s event)
