-- The rows of the states at the engine of a history lead to the engine of the history with the event.
use mathlib.Core.Path.{◌≡◌, refl, sym, ◌∙◌, ap}
use mathlib.Core.Bool.{Bool, true, false}
use mathlib.Core.List.{List, [], ◌∷◌}
use Rattle.std.specs.Prelude.{Option, Some, None, option_map, if◌then◌else◌}
use Rattle.adhesion.specs.declared.TemporaryConstraint.{TemporaryConstraint}
use Rattle.event.specs.Kinds.{is_off, newer, carried}
use Rattle.engine_value.specs.Engine.{adhesion_of, with_control}
use Rattle.engine_value.specs.declared.Control.{Control}
use Rattle.event.specs.Event.{Event}
use Rattle.event.specs.Kinds.{Role, off, load, report, other, skip, row_of, role_of}
use Rattle.event.proofs.Known.{OfRole, known}
use Rattle.state_codes.specs.Codes.{code, state_at, mode_at, lever_at}
use Rattle.conditions.proofs.NineLaws.{O_ones}
use Rattle.state_codes.proofs.CodeLaws.{state_code}
use Rattle.states.specs.States.{machine, T, by_row, machine_after, given}
use Rattle.states.specs.declared.Values.{Values}
use Rattle.states.specs.declared.Machine.{Machine}
use Rattle.state_codes.specs.declared.State.{State}
use Rattle.traction.specs.Requests.{remembered_after}
use Rattle.traction.specs.declared.Remembered.{Remembered}
use Rattle.traction.specs.View.{remembered_in, traction_of}
use Rattle.traction.proofs.Laws.{told_again}
use Rattle.states.specs.ControlGroup.{values_in, machine_in, control_of, control_after}
use Rattle.call.specs.Effect.{stored}
use Rattle.call_values.specs.Call.{Call}
use Rattle.call.specs.Call.{conditions_in, adhesion_after, settled, step_by}
use Rattle.whole_list.specs.Values.{History, event_of_call, role_of_call, latest, constraints_by, mode_by, lever_by, reports_by, position_by, route_by}
use Rattle.whole_list.specs.Rules.{standing_by, conditions_by, values_by, became_reached_by, machine_by, state_by, request_by}
use Rattle.whole_list.specs.Requests.{traction_by}
use Rattle.whole_list.proofs.Requests.{remembered-is}
use Rattle.whole_list.proofs.Fields.{inputs_by, control_by, engine_of, conditions-is}
use Rattle.whole_list.proofs.FieldsEffect.{until_off, effect_of, stored_is}

conditions-stored : (h : History) (c : Call) → conditions_in (stored (engine_of h) (effect_of h c)) ≡ conditions_by (c ∷ h)
unfolding conditions_in
conditions-stored h c = ap conditions_in (stored_is h c) ∙ conditions-is (c ∷ h)

pub conditions-in : (h : History) → conditions_in (engine_of h) ≡ conditions_by h
unfolding conditions_in
conditions-in h = conditions-is h

values-is : (h : History) → values_in (inputs_by h) (conditions_by h) ≡ values_by h
unfolding values_by conditions_by
values-is h = λ i. record {
  O = sym (O_ones (route_by h) (reports_by h) (position_by h) (standing_by h)) i;
  T = T (reports_by h);
  lever = lever_at (lever_by h);
  mode = mode_at (mode_by h);
}

-- power off does not look at the state before
module _ (m : Machine) (r : Bool) (v : Values) where
  machine_kept : (e : Event) → machine_after (machine (state_at (until_off (role_of e) 0 (code m.state))) (until_off (role_of e) false m.press)) e r v ≡ machine_after m e r v
  unfolding machine_after
  machine_kept e = go (role_of e) (known e).role
    where
      same : by_row (machine (state_at (code m.state)) m.press) (row_of e) r v ≡ by_row m (row_of e) r v
      same = ap (λ s. by_row (machine s m.press) (row_of e) r v) (state_code m.state)

      go : (x : Role) → OfRole x e → by_row (machine (state_at (until_off x 0 (code m.state))) (until_off x false m.press)) (row_of e) r v ≡ by_row m (row_of e) r v
      go off k = rw k refl
      go load k = same
      go report k = same
      go other k = same
      go (skip t on) k = same

  given_kept : (e : Event) (before : Bool) → given (machine_after m e r v).state v (until_off (role_of e) false before) ≡ given (machine_after m e r v).state v before
  unfolding machine_after
  given_kept e b = go (role_of e) (known e).role
    where
      go : (x : Role) → OfRole x e → given (by_row m (row_of e) r v).state v (until_off x false b) ≡ given (by_row m (row_of e) r v).state v b
      go off k = rw k refl
      go load k = refl
      go report k = refl
      go other k = refl
      go (skip t on) k = refl

pub control-is : (h : History) (c : Call) → control_after (effect_of h c).inputs (effect_of h c).control (event_of_call c) (became_reached_by (c ∷ h)) (conditions_in (stored (engine_of h) (effect_of h c))) ≡ control_by (c ∷ h)
unfolding control_after machine_by request_by
control-is h c =
    let before : Control = (effect_of h c).control in
    let e = event_of_call c in
    let r = became_reached_by (c ∷ h) in
    let v : Values = values_by (c ∷ h) in
    let value-is : values_in (inputs_by (c ∷ h)) (conditions_in (stored (engine_of h) (effect_of h c))) ≡ v = ap (values_in (inputs_by (c ∷ h))) (conditions-stored h c) ∙ values-is (c ∷ h) in
    let machine-is : machine_after (machine_in before) e r v ≡ machine_after (machine_by h) e r v = machine_kept (machine_by h) r v e in
    ap (λ u. control_of before u (machine_after (machine_in before) e r u)) value-is
    ∙ ap (λ m. control_of before v m) machine-is
    ∙ λ i. record {
      state = code (state_by (c ∷ h));
      press = (machine_by (c ∷ h)).press;
      request = given_kept (machine_by h) r v e (request_by h) i;
    }

-- what it then remembers of the traction requests
traction-is : (h : History) (c : Call)
    → traction_of (remembered_after (state_at (code (state_by h))) (event_of_call c) (state_at (code (state_by (c ∷ h)))) (remembered_in (traction_of (traction_by h)))) ≡ traction_of (traction_by (c ∷ h))
traction-is h c =
    let e = event_of_call c in
    ap (λ (m : Option Remembered). traction_of (remembered_after (state_at (code (state_by h))) e (state_at (code (state_by (c ∷ h)))) m)) (told_again (traction_by h))
    ∙ ap (λ (s : State). traction_of (remembered_after s e (state_at (code (state_by (c ∷ h)))) (traction_by h))) (state_code (state_by h))
    ∙ ap (λ (s : State). traction_of (remembered_after (state_by h) e s (traction_by h))) (state_code (state_by (c ∷ h)))
    ∙ ap traction_of (remembered-is h c)

-- the rows that it then shows
adhesion-is : (h : History) (c : Call) → adhesion_after (event_of_call c) (adhesion_of (constraints_by h)) ≡ adhesion_of (constraints_by (c ∷ h))
unfolding latest
adhesion-is h c = go (is_off (role_of_call c)) (carried (event_of_call c)).constraints
  where
    go : (b : Bool) (o : Option (List TemporaryConstraint))
        → newer (option_map adhesion_of (if b then Some [] else o)) (adhesion_of (constraints_by h)) ≡ adhesion_of (if b then [] else newer o (constraints_by h))
    go true o = refl
    go false None = refl
    go false (Some rows) = refl

-- the engine after the event
pub engine-is : (h : History) (c : Call) → (step_by (engine_of h) (event_of_call c) (effect_of h c)).engine ≡ engine_of (c ∷ h)
engine-is h c =
    ap (λ m. settled (engine_of h) (event_of_call c) m (step_by (engine_of h) (event_of_call c) (effect_of h c)).engine.control) (stored_is h c)
    ∙ ap (λ x. settled (engine_of h) (event_of_call c) (with_control (engine_of (c ∷ h)) x (engine_of h).traction (engine_of h).adhesion) x) (control-is h c)
    ∙ (λ i. with_control (engine_of (c ∷ h)) (control_by (c ∷ h)) (traction-is h c i) (adhesion-is h c i))
