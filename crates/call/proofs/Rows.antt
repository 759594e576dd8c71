-- Laws of what an engine shows, and of a call by the rows that it went through.
use Prim.Native.Nat.{ℕ, ◌≤◌, ◌<◌}
use mathlib.Core.Path.{◌≡◌, refl}
use mathlib.Core.Bool.{Bool, true, false}
use native.Mathlib.Omega.{arith}
use lib.ListN.{length, length-append, length-drop}
use lib.Dec.{ltb}
use borrow.Author.Tests.{lt-ltb, le-ltb, ltb-false}
use Rattle.wire.specs.Judged.{Judged, then_judge, row}
use Rattle.wire.specs.Judged.Judged.{refuse, accept}
use Rattle.engine_value.specs.Engine.{route_in, fresh}
use Rattle.engine_value.specs.declared.Engine.{Engine}
use Rattle.event.specs.Events.{event_of}
use Rattle.event.specs.Kinds.{kind_of}
use Rattle.event.specs.Event.{Event}
use Rattle.packets.specs.Packets.{joined}
use Rattle.status_word.specs.View.{conditions_number}
use Rattle.status_word.proofs.ConditionLaws.{number-most}
use Rattle.position.specs.Position.{point_count}
use Rattle.position.specs.Standing.{standing, standing_code}
use Rattle.conditions.specs.Conditions.{conditions}
use Rattle.conditions.proofs.NineLaws.{conditions_zeros}
use Rattle.state_codes.specs.Codes.{state_at}
use Rattle.state_codes.specs.Numbers.{power_rows, state_row}
use Rattle.hold.specs.Hold.{held_stop_in, hold_row}
use Rattle.states.specs.States.{machine_after}
use Rattle.states.specs.ControlGroup.{control_after}
use Rattle.call.specs.Effect.{Effect, power_off, effect}
use Rattle.call_values.specs.Call.{Call}
use Rattle.call_values.proofs.Laws.{refused_fits}
use Rattle.call.specs.Call.{conditions_in, Step, step_by, judge, judged, outcome_of, step_of}
use Rattle.call.specs.Shown.{standing_in}

-- ---- what an engine shows

pub nine_most : (e : Engine) → conditions_number (conditions_in e) ≤ 511
unfolding conditions_in
nine_most e =
    number-most (conditions (route_in e) e.inputs.reports e.train.position (standing e.progress))
    (conditions_zeros (route_in e) e.inputs.reports e.train.position (standing e.progress))

module _ (e : Engine) (k : ℕ) where
  pub standing_there : k < point_count (route_in e) → standing_code (standing e.progress k) ≡ standing_in e k
  standing_there h = rw (lt-ltb k (point_count (route_in e)) h)

  pub standing_past : point_count (route_in e) ≤ k → 0 ≡ standing_in e k
  standing_past h = rw (le-ltb k (point_count (route_in e)) h)

-- "Power off returns to fresh."
pub off_fresh : (e : Engine) → (step_by e Event.PowerOff power_off).engine ≡ fresh
unfolding control_after machine_after
off_fresh e = refl

-- ---- a call by the rows

then_accepts : {A B : Type 0} (m : Judged A) (f : A → Judged B) (b : B) → then_judge m f ≡ accept b → (a : A) × (m ≡ accept a) × (f a ≡ accept b)
then_accepts (refuse n) f b e = cc
then_accepts (accept a) f b e = (a, refl, e)

row_accepts : (n : ℕ) (b : Bool) → row n b ≡ accept tt → b ≡ false
row_accepts n true e = cc
row_accepts n false e = refl

module _ (e : Engine) (c : Call) where
  -- what an accepted call went through, from top to bottom
  pub record Taken (s : Step) : Type 0 where
    pub event : Event
    pub made : Effect
    pub is_event : event_of c.event ≡ accept event
    pub powered : power_rows (state_at e.control.state) (kind_of event) ≡ accept tt
    pub allowed : state_row (state_at e.control.state) (kind_of event) ≡ accept tt
    pub not_held : hold_row (held_stop_in e) (kind_of event) ≡ accept tt
    pub does : effect e c.journey c.book event ≡ accept made
    pub fits : length (joined s.packets) ≤ length c.memory
    pub result : s ≡ step_by e event made

  pub taken : (s : Step) → judged e c ≡ accept s → Taken s
  unfolding judged judge
  taken s h =
      let a = then_accepts (event_of c.event) _ s h in
      let b = then_accepts (power_rows (state_at e.control.state) (kind_of a.0)) _ s a.2 in
      let d = then_accepts (state_row (state_at e.control.state) (kind_of a.0)) _ s b.2 in
      let k = then_accepts (hold_row (held_stop_in e) (kind_of a.0)) _ s d.2 in
      let f = then_accepts (effect e c.journey c.book a.0) _ s k.2 in
      let t = ltb (length c.memory) (length (joined (step_by e a.0 f.0).packets)) in
      let g = then_accepts (row 16 t) _ s f.2 in
      let q : s ≡ step_by e a.0 f.0 = cc g.2 in
      record {
        event = a.0;
        made = f.0;
        is_event = a.1;
        powered = b.1;
        allowed = d.1;
        not_held = k.1;
        does = f.1;
        fits = rw q (ltb-false (length c.memory) _ (row_accepts 16 t g.1));
        result = q;
      }

  -- an accepted call
  pub accepted_is : (s : Step) → judged e c ≡ accept s → step_of e c ≡ outcome_of e c.memory (accept s)
  unfolding step_of
  accepted_is s h = rw h

  outcome_length : (j : Judged Step) → ((s : Step) → j ≡ accept s → length (joined s.packets) ≤ length c.memory) → length (outcome_of e c.memory j).memory ≡ length c.memory
  unfolding outcome_of
  outcome_length (refuse n) h =
      let k = refused_fits (route_in e) e.train.position n (length c.memory) in
      simp (length-append, length-drop) (omega (arith, k.0))
  outcome_length (accept s) h = let k = h s refl in simp (length-append, length-drop) (omega arith)

  -- the memory stays as long as it is
  pub memory_length : length (step_of e c).memory ≡ length c.memory
  unfolding step_of
  memory_length = outcome_length (judged e c) (λ s h. (taken s h).fits)
