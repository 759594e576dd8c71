-- Values from document 01, worked out by hand: the rows of the states for every O, T, lever and mode, the press, the AD request, the control group.
use Rattle.std.specs.Prelude.{ℕ, ◌≡◌, Bool, true, false, List, [], ◌∷◌, ◌++◌, map, replicate}
use Rattle.engine_value.specs.Engine.{fresh_position}
use Rattle.engine_value.specs.declared.Control.{Control}
use Rattle.engine_value.specs.declared.Inputs.{Inputs}
use Rattle.status_word.specs.Anchors.{numbered}
use Rattle.event.specs.Kinds.{Row, SwitchOn, Configure, SwitchOff, Fail, EngagePress, ByState, kinds}
use Rattle.event.specs.Event.Event.{PowerOn, Configured, PowerOff, Fault, Reports, Mode, Lever, Press, PositionReport}
use Rattle.state_codes.specs.declared.State.{State}
use Rattle.state_codes.specs.declared.State.TheVariants.{NP, CO, NA, AV, RE, EG, DE, FA}
use Rattle.state_codes.specs.declared.EtcsMode.{EtcsMode}
use Rattle.state_codes.specs.declared.EtcsMode.TheVariants.{Other, AD}
use Rattle.state_codes.specs.declared.DriverLever.{DriverLever}
use Rattle.state_codes.specs.declared.DriverLever.TheVariants.{Neutral, Traction, Brake}
use Rattle.states.specs.States.{machine, T, N, U, from_re, from_eg, from_de, by_state, by_row, machine_after, wanted, given}
use Rattle.states.specs.ControlGroup.{values_in, machine_in, control_after}
use Rattle.states.specs.declared.Values.{Values}
use Rattle.states.specs.declared.Machine.{Machine}

-- ---- arguments and tables

abbrev pub values : Bool → Bool → DriverLever → EtcsMode → Values
values o t lever mode = record { O = o; T = t; lever = lever; mode = mode }

-- a line has lever neutral, traction, brake, each in mode other and in AD
abbrev pub line : {A : Type 0} → (Values → A) → Bool → Bool → List A
line f o t =
    f (values o t Neutral Other) ∷ f (values o t Neutral AD)
    ∷ f (values o t Traction Other) ∷ f (values o t Traction AD)
    ∷ f (values o t Brake Other) ∷ f (values o t Brake AD)
    ∷ []

-- a table has a line for O and T, for O alone, for T alone, for neither
abbrev pub table : {A : Type 0} → (Values → A) → List (List A)
table f = line f true true ∷ line f true false ∷ line f false true ∷ line f false false ∷ []

-- a line of one value, and a table of one line
abbrev pub six : {A : Type 0} → A → List A
six a = replicate 6 a

abbrev pub four : {A : Type 0} → List A → List (List A)
four l = replicate 4 l

-- O, T, N and mode other; O, T, N and AD; T, N and AD
abbrev pub waiting : Values
waiting = values true true Neutral Other

abbrev pub driving : Values
driving = values true true Neutral AD

abbrev pub hindered : Values
hindered = values false true Neutral AD

abbrev pub still : State → Machine
still s = machine s false

abbrev pub pressed : State → Machine
pressed s = machine s true

abbrev pub states : List State
states = NP ∷ CO ∷ NA ∷ AV ∷ RE ∷ EG ∷ DE ∷ FA ∷ []

abbrev pub rows : List Row
rows = SwitchOn ∷ Configure ∷ SwitchOff ∷ Fail ∷ EngagePress ∷ ByState ∷ []

abbrev pub inputs : ℕ → ℕ → ℕ → Inputs
inputs mode lever reports = record { mode = mode; lever = lever; reports = reports }

abbrev pub control : ℕ → Bool → Bool → Control
control state press request = record { state = state; press = press; request = request }

pub record Anchors : Type 0 where
  -- "T is report bit 4; N lever neutral."
  pub T_bit : map T (0 ∷ 15 ∷ 16 ∷ 31 ∷ []) ≡ false ∷ false ∷ true ∷ true ∷ []
  pub neutral : table N ≡ four (true ∷ true ∷ false ∷ false ∷ false ∷ false ∷ [])
  -- "Let U be NA if not O; RE if O, T, N and mode other; else AV."
  pub u : table U ≡ (RE ∷ AV ∷ AV ∷ AV ∷ AV ∷ AV ∷ []) ∷ six AV ∷ six NA ∷ six NA ∷ []
  -- "RE: with a press pending, O, T, N and AD: EG, which uses the press up; else U, a press kept only if RE stays."
  pub RE_pressed : table (from_re true)
      ≡ (pressed RE ∷ still EG ∷ still AV ∷ still AV ∷ still AV ∷ still AV ∷ []) ∷ six (still AV) ∷ six (still NA) ∷ six (still NA) ∷ []
  pub RE_still : table (from_re false)
      ≡ (still RE ∷ still AV ∷ still AV ∷ still AV ∷ still AV ∷ still AV ∷ []) ∷ six (still AV) ∷ six (still NA) ∷ six (still NA) ∷ []
  -- "EG: lever at brake, mode other, or a point reached in this event (003, ATO-OR-068): U; else not O or not T: DE; else EG."
  pub EG_unreached : table (from_eg false)
      ≡ (RE ∷ EG ∷ AV ∷ EG ∷ AV ∷ AV ∷ [])
      ∷ (AV ∷ DE ∷ AV ∷ DE ∷ AV ∷ AV ∷ [])
      ∷ (NA ∷ DE ∷ NA ∷ DE ∷ NA ∷ NA ∷ [])
      ∷ (NA ∷ DE ∷ NA ∷ DE ∷ NA ∷ NA ∷ [])
      ∷ []
  pub EG_reached : table (from_eg true) ≡ (RE ∷ AV ∷ AV ∷ AV ∷ AV ∷ AV ∷ []) ∷ six AV ∷ six NA ∷ six NA ∷ []
  -- "DE: lever at brake or mode other: U; else DE."
  pub DE_row : table from_de
      ≡ (RE ∷ DE ∷ AV ∷ DE ∷ AV ∷ AV ∷ [])
      ∷ (AV ∷ DE ∷ AV ∷ DE ∷ AV ∷ AV ∷ [])
      ∷ (NA ∷ DE ∷ NA ∷ DE ∷ NA ∷ NA ∷ [])
      ∷ (NA ∷ DE ∷ NA ∷ DE ∷ NA ∷ NA ∷ [])
      ∷ []
  -- "NA, AV: U. RE: .. EG: .. DE: ..", a press dropped outside RE, a point reached seen in EG alone
  pub by_waiting : map (λ s. by_state s true false waiting) states
      ≡ still NP ∷ still CO ∷ still RE ∷ still RE ∷ pressed RE ∷ still RE ∷ still RE ∷ still FA ∷ []
  pub by_driving : map (λ s. by_state s true false driving) states
      ≡ still NP ∷ still CO ∷ still AV ∷ still AV ∷ still EG ∷ still EG ∷ still DE ∷ still FA ∷ []
  pub by_hindered : map (λ s. by_state s true false hindered) states
      ≡ still NP ∷ still CO ∷ still NA ∷ still NA ∷ still NA ∷ still DE ∷ still DE ∷ still FA ∷ []
  pub by_reached : map (λ s. by_state s false true driving) states
      ≡ still NP ∷ still CO ∷ still AV ∷ still AV ∷ still AV ∷ still AV ∷ still DE ∷ still FA ∷ []
  pub press_reached : map (λ s. by_state s true true waiting) states
      ≡ still NP ∷ still CO ∷ still RE ∷ still RE ∷ pressed RE ∷ still RE ∷ still RE ∷ still FA ∷ []
  -- "power on gives CO; CO waits for configured, then U; fault gives FA until power off"
  pub row_CO : map (λ r. by_row (still CO) r false hindered) rows ≡ still CO ∷ still NA ∷ still NP ∷ still FA ∷ still CO ∷ still CO ∷ []
  pub row_RE : map (λ r. by_row (still RE) r false waiting) rows ≡ still CO ∷ still RE ∷ still NP ∷ still FA ∷ pressed RE ∷ still RE ∷ []
  pub row_AD : map (λ r. by_row (still RE) r false driving) rows ≡ still CO ∷ still AV ∷ still NP ∷ still FA ∷ still EG ∷ still AV ∷ []
  pub row_pressed : map (λ r. by_row (pressed RE) r false driving) rows ≡ still CO ∷ still AV ∷ still NP ∷ still FA ∷ still EG ∷ still EG ∷ []
  pub row_reached : map (λ r. by_row (still EG) r true driving) rows ≡ still CO ∷ still AV ∷ still NP ∷ still FA ∷ still AV ∷ still AV ∷ []
  pub row_FA : map (λ r. by_row (still FA) r false waiting) rows ≡ still CO ∷ still RE ∷ still NP ∷ still FA ∷ still FA ∷ still FA ∷ []
  -- the kinds 1 to 15, in RE with a press pending and now in AD; a press; a point reached
  pub by_kind : map (λ e. machine_after (pressed RE) e false driving) kinds
      ≡ still CO ∷ still AV ∷ still NP ∷ still FA ∷ replicate 11 (still EG)
  pub press_kind : machine_after (still RE) Press false waiting ≡ pressed RE
  pub reached_kind : machine_after (still EG) (PositionReport fresh_position) true driving ≡ still AV
  -- "AD request (000 §9.12): wanted in RE, EG, DE, and in AV with AD and N"
  pub wanting : map (λ s. table (wanted s)) states
      ≡ four (six false) ∷ four (six false) ∷ four (six false) ∷ four (false ∷ true ∷ false ∷ false ∷ false ∷ false ∷ [])
      ∷ four (six true) ∷ four (six true) ∷ four (six true) ∷ four (six false) ∷ []
  -- "given if wanted and (given before or mode other)"
  pub given_before : map (λ s. table (λ v. given s v true)) states
      ≡ four (six false) ∷ four (six false) ∷ four (six false) ∷ four (false ∷ true ∷ false ∷ false ∷ false ∷ false ∷ [])
      ∷ four (six true) ∷ four (six true) ∷ four (six true) ∷ four (six false) ∷ []
  pub not_before : map (λ s. table (λ v. given s v false)) states
      ≡ four (six false) ∷ four (six false) ∷ four (six false) ∷ four (six false)
      ∷ replicate 3 (four (true ∷ false ∷ true ∷ false ∷ true ∷ false ∷ [])) ++ (four (six false) ∷ [])
  -- what the rows look at, by the codes that the engine keeps
  pub looked_at : values_in (inputs 1 2 16) (numbered 511) ∷ values_in (inputs 0 1 15) (numbered 510) ∷ values_in (inputs 1 0 31) (numbered 255) ∷ []
      ≡ values true true Brake AD ∷ values false false Traction Other ∷ values false true Neutral AD ∷ []
  pub kept : map machine_in (control 4 true false ∷ control 5 false true ∷ []) ≡ pressed RE ∷ still EG ∷ []
  -- state, press and request after: power on; configured; the press; the AD report
  pub powers_on : control_after (inputs 0 0 0) (control 0 false false) PowerOn false (numbered 128) ≡ control 1 false false
  pub configures : control_after (inputs 0 0 31) (control 1 false false) Configured false (numbered 511) ≡ control 4 false true
  pub presses : control_after (inputs 0 0 31) (control 4 false true) Press false (numbered 511) ≡ control 4 true true
  pub engages : control_after (inputs 1 0 31) (control 4 true true) (Mode 1) false (numbered 511) ≡ control 5 false true
  -- from there: a stop reached; T lost, then the brake; a fault; power off
  pub stops : control_after (inputs 1 0 31) (control 5 false true) (PositionReport fresh_position) true (numbered 511) ≡ control 3 false true
  pub degrades : control_after (inputs 1 0 15) (control 5 false true) (Reports 15) false (numbered 511) ≡ control 6 false true
  pub brakes : control_after (inputs 1 2 15) (control 6 false true) (Lever 2) false (numbered 511) ≡ control 3 false false
  pub fails : control_after (inputs 1 0 31) (control 5 false true) Fault false (numbered 511) ≡ control 7 false false
  pub powers_off : control_after (inputs 0 0 0) (control 7 false false) PowerOff false (numbered 128) ≡ control 0 false false
  -- "False turns: .. DE back to EG when conditions return; lever back to neutral in AV starting a request while still in AD"
  pub stays_DE : control_after (inputs 1 0 31) (control 6 false true) (Reports 31) false (numbered 511) ≡ control 6 false true
  pub unasked : control_after (inputs 1 0 31) (control 3 false false) (Lever 0) false (numbered 511) ≡ control 3 false false
