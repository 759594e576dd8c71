-- The rows of the states, the press, the AD request.
use Rattle.std.specs.Prelude.{Bool, true, false, not, ◌&&◌, ◌||◌, ℕ, if◌then◌else◌}
use Rattle.wire.specs.Numbers.{bit}
use Rattle.event.specs.Event.{Event}
use Rattle.event.specs.Kinds.{Row, SwitchOn, Configure, SwitchOff, Fail, EngagePress, ByState, row_of}
use Rattle.state_codes.specs.Codes.{is, is_ad, is_neutral, is_brake}
use Rattle.state_codes.specs.declared.State.{State}
use Rattle.state_codes.specs.declared.State.TheVariants.{NP, CO, NA, AV, RE, EG, DE, FA}
use Rattle.states.specs.declared.Values.{Values}
use Rattle.states.specs.declared.Machine.{Machine}

abbrev pub machine : State → Bool → Machine
machine s p = record { state = s; press = p }

-- "T is report bit 4; N lever neutral."
abbrev pub T : ℕ → Bool
T reports = bit 4 reports

abbrev pub N : Values → Bool
N v = is_neutral v.lever

-- "Let U be NA if not O; RE if O, T, N and mode other; else AV."
abbrev pub U : Values → State
U v = if not v.O then NA else if v.T && (N v && not (is_ad v.mode)) then RE else AV

-- "RE: with a press pending, O, T, N and AD: EG, which uses the press up; else U, a press kept only if RE stays."
abbrev pub from_re : Bool → Values → Machine
from_re press v =
    if press && (v.O && (v.T && (N v && is_ad v.mode))) then machine EG false else machine (U v) (press && is (U v) RE)

-- "EG: lever at brake, mode other, or a point reached in this event (003, ATO-OR-068): U; else not O or not T: DE; else EG."
abbrev pub from_eg : Bool → Values → State
from_eg reached v =
    if is_brake v.lever || (not (is_ad v.mode) || reached) then U v else
    if not v.O || not v.T then DE else
    EG

-- "DE: lever at brake or mode other: U; else DE."
abbrev pub from_de : Values → State
from_de v = if is_brake v.lever || not (is_ad v.mode) then U v else DE

-- the row of the state before, for an event with no row of its own; `press`: one is pending, or made in this event
abbrev pub by_state : State → Bool → Bool → Values → Machine
by_state NP press reached v = machine NP false
by_state CO press reached v = machine CO false
by_state NA press reached v = machine (U v) false
by_state AV press reached v = machine (U v) false
by_state RE press reached v = from_re press v
by_state EG press reached v = machine (from_eg reached v) false
by_state DE press reached v = machine (from_de v) false
by_state FA press reached v = machine FA false

-- "After each accepted event: power on gives CO; CO waits for configured, then U; fault gives FA until power off. NA, AV: U. .."
abbrev pub by_row : Machine → Row → Bool → Values → Machine
by_row m SwitchOn reached v = machine CO false
by_row m Configure reached v = machine (U v) false
by_row m SwitchOff reached v = machine NP false
by_row m Fail reached v = machine FA false
by_row m EngagePress reached v = by_state m.state true reached v
by_row m ByState reached v = by_state m.state m.press reached v

unfoldable pub machine_after : Machine → Event → Bool → Values → Machine
machine_after m event reached v = by_row m (row_of event) reached v

-- "AD request (000 §9.12): wanted in RE, EG, DE, and in AV with AD and N"
abbrev pub wanted : State → Values → Bool
wanted s v = is s RE || (is s EG || (is s DE || (is s AV && (is_ad v.mode && N v))))

-- "given if wanted and (given before or mode other)"
abbrev pub given : State → Values → Bool → Bool
given s v before = wanted s v && (before || not (is_ad v.mode))
