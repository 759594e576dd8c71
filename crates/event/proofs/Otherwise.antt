-- What an event is not, where an arm of a `match` has told that it is none of one variant.
use Prim.Native.Nat.{ℕ}
use mathlib.Core.Path.{◌≡◌, refl}
use mathlib.Core.Bool.{true, false}
use Rattle.std.specs.Prelude.{Option, Some, None}
use Rattle.engine_value.specs.declared.Position.{Position}
use Rattle.event.specs.declared.TractionRequest.{TractionRequest}
use Rattle.event.specs.Event.{Event}
use Rattle.event.specs.Kinds.{Role, off, load, report, other, skip, is_report, skip_name, role_of, carried}
use Rattle.event.proofs.Known.{OfRole, OfTraction, known, traction-of}

pub no_report_lem : (e : Event) → ((x : Position) → e ≡ Event.PositionReport x → ⊥) → is_report (role_of e) ≡ false
no_report_lem e k = go (role_of e) (known e).role
  where
    go : (r : Role) → OfRole r e → is_report r ≡ false
    go off q = refl
    go load q = refl
    go report q = absurd (k q.0 q.1)
    go other q = refl
    go (skip t on) q = refl

pub no_skip : (e : Event) → ((t : ℕ) → e ≡ Event.Skip t → ⊥) → ((t : ℕ) → e ≡ Event.Revoke t → ⊥) → 0 ≡ skip_name (role_of e)
no_skip e k l = go (role_of e) (known e).role
  where
    go : (r : Role) → OfRole r e → 0 ≡ skip_name r
    go off q = refl
    go load q = refl
    go report q = refl
    go other q = refl
    go (skip t true) q = absurd (k t q)
    go (skip t false) q = absurd (l t q)

pub no_traction_lem : (e : Event) → ((x : TractionRequest) → e ≡ Event.Traction x → ⊥) → (carried e).traction ≡ None
no_traction_lem e k = go (carried e).traction (traction-of e)
  where
    go : (y : Option TractionRequest) → OfTraction y e → y ≡ None
    go None q = refl
    go (Some x) q = absurd (k x q)
