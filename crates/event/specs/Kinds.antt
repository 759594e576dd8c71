-- What each kind of event is: its number, what it carries, its row of the states, what it is to the journey and its points, and which value it
-- brings. A kind is said here and nowhere else; reader, effects, rules and proofs go by content, row, role and value.
use Rattle.std.specs.Prelude.{ℕ, Bool, true, false, Option, Some, None, List, [], ◌∷◌, eqb, if◌then◌else◌}
use Rattle.layout.specs.Layout.{Field, Value as ValueOf, field, to_highest}
use Rattle.layout.specs.Body.{Body, BodyValues}
use Rattle.layout.specs.Body.Body.{fields, rows}
use Rattle.layout.specs.Layout.Content.{free, up_to, between, signed}
use Rattle.engine_value.specs.Engine.{max2, max4, max_nidc, undefined, fresh_position, Value, mode, lever, reports, train_length, place}
use Rattle.engine_value.specs.declared.Position.{Position}
use Rattle.adhesion.specs.Constraints.{max_constraints, row_layout, constraints_of}
use Rattle.adhesion.specs.declared.TemporaryConstraint.{TemporaryConstraint}
use Rattle.packets.specs.Layouts.{content61, requested_of}
use Rattle.event.specs.declared.TractionRequest.{TractionRequest}
use Rattle.event.specs.Event.{Event}
use Rattle.event.specs.Event.Event.{PowerOn, Configured, PowerOff, Fault, Reports, Mode, Lever, Press, PositionReport, Length, Load, Skip, Revoke, Traction, Adhesion}

-- what stands behind the kind byte, and the event of its values
pub record Content : Type 0 where
  pub body : Body
  pub event : BodyValues body → Event

-- no field
abbrev pub bare : Event → Content
bare e = record { body = fields []; event = λ v. e }

-- one field
abbrev pub one : (f : Field) → (ValueOf f.content → Event) → Content
one f event = record { body = fields (f ∷ []); event = λ v. event v.0 }

-- the row of the states that an event takes: one of its own, or that of the state before
pub data Row : Type 0 where
  SwitchOn Configure SwitchOff Fail EngagePress ByState : Row

-- to the journey and its points: power off, a load, a position report, a driver skip given or revoked, nothing
pub data Role : Type 0 where
  off load report other : Role
  skip : ℕ → Bool → Role

-- which role it is
abbrev pub is_off : Role → Bool
is_off off = true
is_off load = false
is_off report = false
is_off other = false
is_off (skip t on) = false

abbrev pub is_load : Role → Bool
is_load off = false
is_load load = true
is_load report = false
is_load other = false
is_load (skip t on) = false

abbrev pub is_report : Role → Bool
is_report off = false
is_report load = false
is_report report = true
is_report other = false
is_report (skip t on) = false

-- of a driver skip, f of the NID_TP that it names and of whether it is given or revoked; of another role, a
abbrev pub of_skip : {A : Type 0} → Role → A → (ℕ → Bool → A) → A
of_skip off a f = a
of_skip load a f = a
of_skip report a f = a
of_skip other a f = a
of_skip (skip t on) a f = f t on

abbrev pub is_skip : Role → Bool
is_skip r = of_skip r false (λ t on. true)

abbrev pub skip_given : Role → Bool
skip_given r = of_skip r false (λ t on. on)

-- 0 for another role
abbrev pub skip_name : Role → ℕ
skip_name r = of_skip r 0 (λ t on. t)

-- what an event brings
pub data Brings : Type 0 where
  nothing : Brings
  number : Value → ℕ → Brings
  position : Position → Brings
  traction : TractionRequest → Brings
  constraints : List TemporaryConstraint → Brings

-- a value after an event, from what the event brings and the value before
abbrev pub newer : {A : Type 0} → Option A → A → A
newer None a = a
newer (Some b) a = b

pub record Kind : Type 0 where
  pub number : ℕ
  pub content : Content
  pub row : Row
  pub role : Role
  pub brings : Brings

abbrev pub is : ℕ → Content → Row → Role → Brings → Kind
is n c w r b = record { number = n; content = c; row = w; role = r; brings = b }

-- "NID_C (2, 0-1023), NID_SP (4), offset (4; 16,777,215 undefined, none higher), speed (2)": NID_SP and speed, which packets
-- carry on, to the highest number of their bytes
abbrev pub position_content : Content
position_content = record {
  body = fields (field "NID_C" 2 (up_to max_nidc) ∷ field "NID_SP" 4 (up_to max4) ∷ field "offset" 4 (up_to undefined) ∷ field "speed" 2 (up_to max2) ∷ []);
  event = λ v. let (c, (sp, (o, (s, _)))) = v in PositionReport (record { nidsp = sp; offset = o; nidc = c; speed = s });
}

-- 02: "one signed byte, the request from −100 to 100, then the five bytes of packet 61 as SUBSET-140 lists them"; "its content is free", and packets
-- carry it on
abbrev pub traction_content : Content
traction_content = record {
  body = fields (field "request" 1 (signed 100) ∷ to_highest content61);
  event = λ v. Traction (record { request = v.0; content = requested_of v.1 });
}

-- 02, Q-7: "count (0-31) and that many rows", as in packet 64, which carries them on
abbrev pub adhesion_content : Content
adhesion_content = record { body = rows max_constraints (to_highest row_layout); event = λ vs. Adhesion (constraints_of vs) }

abbrev pub no_request : TractionRequest
no_request = record { request = 0; content = record { m_ato_trabrrq = 0; m_ato_locobrrq = 0; q_ato_suptb = 0; m_ato_rtbrq = 0 } }

-- ---- the table

-- "1 power on; 2 configured; 3 power off; 4 fault; 5 reports (1: bit 0 ETCS conditions, .. 4 train conditions; 5-7 zero); 6 ETCS mode (1: 0 other,
-- 1 AD); 7 lever (1: 0 neutral, 1 traction, 2 brake); 8 engage press; 9 position: ..; 10 train length (4, 1-100,000); 11 load, with journey and book
-- lent beside it; 12 driver skip (4, NID_TP); 13 driver revokes skip (4)"; 02, Q-1: 14, the traction request; Q-7: 15, slippery rail
abbrev pub kind : Event → Kind
kind PowerOn = is 1 (bare PowerOn) SwitchOn other nothing
kind Configured = is 2 (bare Configured) Configure other nothing
kind PowerOff = is 3 (bare PowerOff) SwitchOff off nothing
kind Fault = is 4 (bare Fault) Fail other nothing
kind (Reports n) = is 5 (one (field "reports" 1 (up_to 31)) Reports) ByState other (number reports n)
kind (Mode n) = is 6 (one (field "ETCS mode" 1 (up_to 1)) Mode) ByState other (number mode n)
kind (Lever n) = is 7 (one (field "lever" 1 (up_to 2)) Lever) ByState other (number lever n)
kind Press = is 8 (bare Press) EngagePress other nothing
kind (PositionReport x) = is 9 position_content ByState report (position x)
kind (Length n) = is 10 (one (field "train length" 4 (between 1 100000)) Length) ByState other (number train_length n)
kind Load = is 11 (bare Load) ByState load nothing
kind (Skip t) = is 12 (one (field "NID_TP" 4 free) Skip) ByState (skip t true) nothing
kind (Revoke t) = is 13 (one (field "NID_TP" 4 free) Revoke) ByState (skip t false) nothing
kind (Traction x) = is 14 traction_content ByState other (traction x)
kind (Adhesion rs) = is 15 adhesion_content ByState other (constraints rs)

-- each kind once, at some value: its number and its content do not depend on that
abbrev pub kinds : List Event
kinds =
    PowerOn ∷ Configured ∷ PowerOff ∷ Fault ∷ Reports 0 ∷ Mode 0 ∷ Lever 0 ∷ Press ∷ PositionReport fresh_position ∷ Length 0 ∷ Load ∷ Skip 0 ∷ Revoke 0
    ∷ Traction no_request ∷ Adhesion [] ∷ []

abbrev pub kind_of : Event → ℕ
kind_of e = (kind e).number

abbrev pub row_of : Event → Row
row_of e = (kind e).row

abbrev pub role_of : Event → Role
role_of e = (kind e).role

-- which of the kept values it brings
pub record Carried : Type 0 where
  pub number : Value → Option ℕ
  pub position : Option Position
  pub traction : Option TractionRequest
  pub constraints : Option (List TemporaryConstraint)

abbrev pub bringing : Brings → Carried
bringing nothing = record { number = λ v. None; position = None; traction = None; constraints = None }
bringing (number w n) = record { number = λ v. if eqb (place v) (place w) then Some n else None; position = None; traction = None; constraints = None }
bringing (position x) = record { number = λ v. None; position = Some x; traction = None; constraints = None }
bringing (traction x) = record { number = λ v. None; position = None; traction = Some x; constraints = None }
bringing (constraints rs) = record { number = λ v. None; position = None; traction = None; constraints = Some rs }

abbrev pub carried : Event → Carried
carried e = bringing (kind e).brings

-- 02, Q-7: the rows of an event; one that brings none has none
abbrev pub event_constraints : Event → List TemporaryConstraint
event_constraints e = newer (carried e).constraints []
