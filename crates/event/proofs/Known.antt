-- The table of the kinds read backwards: the event, from its row, its role or the value that it brings.
use Prim.Native.Nat.{ℕ}
use mathlib.Core.Path.{◌≡◌, refl, sym, ◌∙◌}
use mathlib.Core.Bool.{true, false, false≢true}
use Rattle.std.specs.Prelude.{Option, Some, None}
use lib.Dec.{eqb}
use Rattle.engine_value.specs.Engine.{mode}
use Rattle.engine_value.specs.declared.Position.{Position}
use Rattle.event.specs.Kinds.{Row, SwitchOn, Configure, SwitchOff, Fail, EngagePress, ByState, kind_of, row_of}
use Rattle.event.specs.Kinds.{Role, off, load, report, other, skip, Kind, kind, bringing, carried}
use mathlib.Core.List.{List}
use Rattle.adhesion.specs.declared.TemporaryConstraint.{TemporaryConstraint}
use Rattle.event.specs.declared.TractionRequest.{TractionRequest}
use Rattle.event.specs.Event.{Event}

abbrev pub OfRow : Row → ℕ → Event → Type 0
OfRow SwitchOn n e = (e ≡ Event.PowerOn) × (n ≡ 1)
OfRow Configure n e = (e ≡ Event.Configured) × (n ≡ 2)
OfRow SwitchOff n e = (e ≡ Event.PowerOff) × (n ≡ 3)
OfRow Fail n e = (e ≡ Event.Fault) × (n ≡ 4)
OfRow EngagePress n e = (e ≡ Event.Press) × (n ≡ 8)
OfRow ByState n e = (eqb n 1 ≡ false) × (eqb n 8 ≡ false)

abbrev pub OfRole : Role → Event → Type 0
OfRole off e = e ≡ Event.PowerOff
OfRole load e = e ≡ Event.Load
OfRole report e = (x : Position) × (e ≡ Event.PositionReport x)
OfRole other e = Unit {0}
OfRole (skip t true) e = e ≡ Event.Skip t
OfRole (skip t false) e = e ≡ Event.Revoke t

-- a mode that an event brings is a mode report's, a position that it brings a position report's, a traction request one of kind 14, rows of slippery rail are
-- those of kind 15
abbrev pub OfMode : Option ℕ → Event → Type 0
OfMode None e = Unit {0}
OfMode (Some n) e = e ≡ Event.Mode n

abbrev pub OfPosition : Option Position → Event → Type 0
OfPosition None e = Unit {0}
OfPosition (Some x) e = e ≡ Event.PositionReport x

abbrev pub OfConstraints : Option (List TemporaryConstraint) → Event → Type 0
OfConstraints None e = Unit {0}
OfConstraints (Some rs) e = e ≡ Event.Adhesion rs

abbrev pub OfTraction : Option TractionRequest → Event → Type 0
OfTraction None e = Unit {0}
OfTraction (Some x) e = e ≡ Event.Traction x

pub record Known (k : Kind) (e : Event) : Type 0 where
  pub row : OfRow k.row k.number e
  pub role : OfRole k.role e
  pub mode : OfMode ((bringing k.brings).number mode) e
  pub position : OfPosition (bringing k.brings).position e
  pub traction : OfTraction (bringing k.brings).traction e
  pub constraints : OfConstraints (bringing k.brings).constraints e

pub known : (e : Event) → Known (kind e) e
known Event.PowerOn = record { row = (refl, refl); role = tt; mode = tt; position = tt; traction = tt; constraints = tt }
known Event.Configured = record { row = (refl, refl); role = tt; mode = tt; position = tt; traction = tt; constraints = tt }
known Event.PowerOff = record { row = (refl, refl); role = refl; mode = tt; position = tt; traction = tt; constraints = tt }
known Event.Fault = record { row = (refl, refl); role = tt; mode = tt; position = tt; traction = tt; constraints = tt }
known (Event.Reports n) = record { row = (refl, refl); role = tt; mode = tt; position = tt; traction = tt; constraints = tt }
known (Event.Mode n) = record { row = (refl, refl); role = tt; mode = refl; position = tt; traction = tt; constraints = tt }
known (Event.Lever n) = record { row = (refl, refl); role = tt; mode = tt; position = tt; traction = tt; constraints = tt }
known Event.Press = record { row = (refl, refl); role = tt; mode = tt; position = tt; traction = tt; constraints = tt }
known (Event.PositionReport x) = record { row = (refl, refl); role = (x, refl); mode = tt; position = refl; traction = tt; constraints = tt }
known (Event.Length n) = record { row = (refl, refl); role = tt; mode = tt; position = tt; traction = tt; constraints = tt }
known Event.Load = record { row = (refl, refl); role = refl; mode = tt; position = tt; traction = tt; constraints = tt }
known (Event.Skip t) = record { row = (refl, refl); role = refl; mode = tt; position = tt; traction = tt; constraints = tt }
known (Event.Revoke t) = record { row = (refl, refl); role = refl; mode = tt; position = tt; traction = tt; constraints = tt }
known (Event.Traction x) = record { row = (refl, refl); role = tt; mode = tt; position = tt; traction = refl; constraints = tt }
known (Event.Adhesion rs) = record { row = (refl, refl); role = tt; mode = tt; position = tt; traction = tt; constraints = refl }

pub press_of : (e : Event) → eqb (kind_of e) 8 ≡ true → e ≡ Event.Press
press_of e q = go (row_of e) (kind_of e) (known e).row q
  where
    go : (w : Row) (n : ℕ) → OfRow w n e → eqb n 8 ≡ true → e ≡ Event.Press
    go SwitchOn n k q = absurd (false≢true (rw k.1 at q))
    go Configure n k q = absurd (false≢true (rw k.1 at q))
    go SwitchOff n k q = absurd (false≢true (rw k.1 at q))
    go Fail n k q = absurd (false≢true (rw k.1 at q))
    go EngagePress n k q = k.0
    go ByState n k q = absurd (false≢true (sym k.1 ∙ q))

pub mode_of : (e : Event) → OfMode ((carried e).number mode) e
mode_of e = (known e).mode

pub traction-of : (e : Event) → OfTraction (carried e).traction e
traction-of e = (known e).traction

pub constraints-of : (e : Event) → OfConstraints (carried e).constraints e
constraints-of e = (known e).constraints

pub position_of : (e : Event) → OfPosition (carried e).position e
position_of e = (known e).position
