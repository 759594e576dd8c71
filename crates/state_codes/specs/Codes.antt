-- The codes of states, modes and levers.
use Rattle.std.specs.Prelude.{ℕ, Bool, true, false, eqb, if◌then◌else◌}
use Rattle.state_codes.specs.declared.State.{State}
use Rattle.state_codes.specs.declared.State.TheVariants.{NP, CO, NA, AV, RE, EG, DE, FA}
use Rattle.state_codes.specs.declared.EtcsMode.{EtcsMode}
use Rattle.state_codes.specs.declared.EtcsMode.TheVariants.{Other, AD}
use Rattle.state_codes.specs.declared.DriverLever.{DriverLever}
use Rattle.state_codes.specs.declared.DriverLever.TheVariants.{Neutral, Traction, Brake}

-- "Codes (ours, since SUBSET-126 sets them): 0 NP, 1 CO, 2 NA, 3 AV, 4 RE, 5 EG, 6 DE, 7 FA."
abbrev pub code : State → ℕ
code NP = 0
code CO = 1
code NA = 2
code AV = 3
code RE = 4
code EG = 5
code DE = 6
code FA = 7

-- the state of a code; no call leaves one above 7
abbrev pub state_at : ℕ → State
state_at n =
    if eqb n (code NP) then NP else
    if eqb n (code CO) then CO else
    if eqb n (code NA) then NA else
    if eqb n (code AV) then AV else
    if eqb n (code RE) then RE else
    if eqb n (code EG) then EG else
    if eqb n (code DE) then DE else
    FA

abbrev pub is : State → State → Bool
is a b = eqb (code a) (code b)

-- "ETCS mode (1: 0 other, 1 AD)"
abbrev pub mode_at : ℕ → EtcsMode
mode_at n = if eqb n 1 then AD else Other

abbrev pub is_ad : EtcsMode → Bool
is_ad Other = false
is_ad AD = true

-- "lever (1: 0 neutral, 1 traction, 2 brake)"
abbrev pub lever_at : ℕ → DriverLever
lever_at n = if eqb n 0 then Neutral else if eqb n 1 then Traction else Brake

abbrev pub is_neutral : DriverLever → Bool
is_neutral Neutral = true
is_neutral Traction = false
is_neutral Brake = false

abbrev pub is_brake : DriverLever → Bool
is_brake Neutral = false
is_brake Traction = false
is_brake Brake = true
