-- A call whose event is neither power off nor a load leaves the points and the segments as they were.
use Rattle.std.proofs.Common.{ℕ, ◌≡◌, refl, List, Bool, true, false}
use Rattle.std.specs.Prelude.{Option, Some, None, ltb, ◌||◌, length}
use Rattle.wire.specs.Judged.{Judged, then_judge, row}
use Rattle.wire.specs.Judged.Judged.{refuse, accept}
use Rattle.engine_value.specs.declared.Engine.{Engine}
use Rattle.event.specs.Events.{event_of}
use Rattle.event.specs.Event.{Event}
use Rattle.event.specs.Kinds.{Role, off, load, report, other, skip, is_off, is_load, Carried, kind_of, role_of, carried}
use Rattle.packets.specs.Packets.{joined}
use Rattle.position.specs.declared.Stop.{Stop}
use Rattle.state_codes.specs.Codes.{state_at}
use Rattle.state_codes.specs.Numbers.{power_rows, state_row}
use Rattle.hold.specs.Hold.{held_stop_in, hold_row}
use Rattle.look_up.specs.declared.LookedUp.{LookedUp}
use Rattle.look_up.specs.LookUp.{look_up}
use Rattle.call_values.specs.Call.{Call}
use Rattle.call.specs.Effect as model
use Rattle.call.specs.Effect.{values_only, reported_in, skipped_in, position_effect, skip_effect, effect_as, effect, stored}
use Rattle.call.specs.Call.{Step, judge, judged, step_by, outcome_of, step_of}
use Rattle.engine.specs.View.{SameJourney, KeepsJourney}

module _ (e : Engine) (memory : List ℕ) where
  abbrev Kept : Judged Step → Type 0
  Kept x = SameJourney e (outcome_of e memory x).engine

  nothing : (n : ℕ) → Kept (refuse n)
  unfolding outcome_of
  nothing n = (refl, refl)

  behind : {A : Type 0} (p : Judged A) (f : A → Judged Step) → ((a : A) → Kept (f a)) → Kept (then_judge p f)
  behind (refuse n) f h = nothing n
  behind (accept a) f h = h a

  -- a row of the effect, and then the judgement of one that keeps both
  behind_row : (event : Event) (p : Judged (Unit {0})) (f : model.Effect) → SameJourney e (stored e f) → Kept (then_judge (then_judge p (λ u. accept f)) (judge e event memory))
  unfolding judge outcome_of
  behind_row event (refuse n) f s = nothing n
  behind_row event (accept u) f s = behind (row 16 (ltb (length memory) (length (joined (step_by e event f).packets)))) (λ u. accept (step_by e event f)) (λ u. s)

  skipped : (event : Event) (c : Carried) (on : Bool) (s : Option Stop) → Kept (then_judge (skip_effect e c on s) (judge e event memory))
  unfolding skip_effect
  skipped event c on None = nothing 14
  skipped event c on (Some s) = behind_row event _ (skipped_in e c s.at on) (refl, refl)

  by_role : (event : Event) (r : Role) → is_off r ≡ false → is_load r ≡ false → (c : Carried) (l : LookedUp) (journey book : List ℕ)
      → Kept (then_judge (effect_as r e c l journey book) (judge e event memory))
  unfolding position_effect
  by_role event off o n c l journey book = absurd (let q = o in cc)
  by_role event load o n c l journey book = absurd (let q = n in cc)
  by_role event report o n c l journey book = behind_row event _ (reported_in e c l.report) (refl, refl)
  by_role event other o n c l journey book = behind_row event (accept tt) (values_only e c) (refl, refl)
  by_role event (skip t on) o n c l journey book = skipped event c on l.stop

  by_event : (journey book : List ℕ) (read : Judged Event)
      → KeepsJourney read e
      (outcome_of e memory
      (then_judge read (λ event. then_judge (power_rows (state_at e.control.state) (kind_of event)) (λ a. then_judge (state_row (state_at e.control.state) (kind_of event)) (λ b. then_judge (hold_row (held_stop_in e) (kind_of event))
      (λ d. then_judge (effect e journey book event) (judge e event memory))))))).engine
  unfolding effect
  by_event journey book (refuse n) = nothing n
  by_event journey book (accept event) = λ o n.
      behind (power_rows (state_at e.control.state) (kind_of event)) _
      (λ a. behind (state_row (state_at e.control.state) (kind_of event)) _
      (λ b. behind (hold_row (held_stop_in e) (kind_of event)) _ (λ d. by_role event (role_of event) o n (carried event) (look_up e event) journey book)))

pub keeps_journey : (e : Engine) (c : Call) → KeepsJourney (event_of c.event) e (step_of e c).engine
unfolding step_of judged
keeps_journey e c = by_event e c.memory c.journey c.book (event_of c.event)
