-- An effect that is judged: the engine after it, its packets, and 16.
use Rattle.std.proofs.Common.{ℕ, ◌≡◌, refl, sym, ap, ◌∙◌, List, ◌++◌, map, length, Bool, true, false}
use Rattle.std.specs.Prelude.{is_some, option_map, ltb, if◌then◌else◌}
use Rattle.std.specs.Bool.{then_some}
use Rattle.wire.specs.Numbers.{flag}
use Rattle.wire.specs.Judged.{row, then_judge}
use Rattle.wire.specs.Judged.Judged.{refuse, accept}
use Rattle.engine_value.specs.Engine.{route_in}
use Rattle.engine_value.specs.declared.Engine.{Engine}
use Rattle.adhesion.specs.View.{constraints_view}
use Rattle.event.specs.Event.{Event}
use Rattle.event.specs.Kinds.{carried}
use Rattle.status_word.specs.Word.{conditions_of}
use Rattle.status_word.specs.declared.OperationalConditions.{OperationalConditions}
use Rattle.packets.specs.Packets.{joined}
use Rattle.packets.specs.Packet.{Packet}
use Rattle.position.specs.Standing.{standing}
use Rattle.conditions.specs.Conditions.{nine, conditions}
use Rattle.conditions.specs.declared.RouteConditions.{RouteConditions}
use Rattle.states.specs.ControlGroup.{control_after}
use Rattle.state_codes.specs.Codes.{state_at}
use Rattle.traction.specs.Requests.{remembered_after, written_content}
use Rattle.traction.specs.View.{remembered_in, traction_of}
use Rattle.call_values.specs.Packets.{status_due, packets_of}
use Rattle.call.specs.Packets.{changes_in, own_packets}
use Rattle.call.specs.Effect.{route_after}
use Rattle.call.specs.Call.{Step, conditions_in, status_in, rows_shown, step_by, judge}
use Rattle.event_packets.specs.View.{status_view, told_hold, told_view, changes_view, packets_view}
use Rattle.event_packets.proofs.Stored.{packets_in}
use Rattle.event_packets.specs.declared.Received.{Received}
use Rattle.effects.specs.View.{journey_view, effect_view, Beside}
use Rattle.effects.specs.declared.Effect.{Effect}
use Rattle.judge.specs.View.{status_of, engine_after, step_view}
use Rattle.judge.specs.declared.Judgement.{Judgement}

-- ---- an effect that is judged

row_is : (b : Bool) (s : Step) → then_judge (row 16 b) (λ a. accept s) ≡ (if b then refuse 16 else accept s)
row_is true s = refl
row_is false s = refl

module _ (e : Engine) (v : Event) (memory : List ℕ) (f : Effect) (t : Judgement) (effect : t.effect ≡ f) (beside : Beside e f) (shows : OperationalConditions)
    (nine_after : shows ≡ conditions_of (map flag (nine (route_after e (journey_view f.journey)).load f.inputs.reports f.after (standing f.progress))))
    (rows : t.control ≡ control_after f.inputs f.control v (is_some f.changes.last) shows)
    (traction : t.traction ≡ traction_of (remembered_after (state_at e.control.state) v (state_at t.control.state) (remembered_in e.traction)))
    (loaded : t.writes.received ≡ f.received)
    (told : t.writes.told ≡ f.told)
    (changes : t.writes.changes ≡ f.changes)
    (requested : t.writes.requested ≡ written_content (state_at e.control.state) v (remembered_in e.traction) (remembered_in t.traction))
    (constraints : option_map constraints_view t.writes.constraints ≡ (carried v).constraints)
    (rows_are : option_map constraints_view t.shown ≡ rows_shown v)
    (status : t.writes.status ≡ then_some (status_due (status_in e) (status_view (status_of t.control f.train shows))) shows) where
  abbrev step : Step
  step = step_by e v (effect_view f)

  conditions_are : shows ≡ conditions_in step.engine
  unfolding conditions_in conditions
  conditions_are = nine_after ∙ ap (λ (w : RouteConditions). conditions_of (map flag (nine (route_after e (journey_view f.journey)).load f.inputs.reports w (standing f.progress)))) beside.after

  control_is : t.control ≡ step.engine.control
  unfolding conditions_in
  control_is = rows ∙ ap (control_after f.inputs f.control v (is_some f.changes.last)) conditions_are

  engine_is : engine_after e t ≡ step.engine
  unfolding conditions_in
  engine_is = rw (effect, traction, control_is, rows_are)

  status_are : status_view (status_of t.control f.train shows) ≡ status_in step.engine
  status_are = λ i. record { state = (control_is i).state; conditions = conditions_are i; speed = f.train.position.speed }

  traction_is : t.writes.requested ≡ written_content (state_at e.control.state) v (remembered_in e.traction) (remembered_in step.engine.traction)
  traction_is = requested ∙ ap (λ (m : Engine). written_content (state_at e.control.state) v (remembered_in e.traction) (remembered_in m.traction)) engine_is

  -- conditions and state of the packet 68 are those of the engine after the event
  due_is : t.writes.status ≡ then_some (status_due (status_in e) (status_in step.engine)) (status_in step.engine).conditions
  due_is = status ∙ (λ i. then_some (status_due (status_in e) (status_are i)) (conditions_are i))

  packets_are : packets_view (engine_after e t) t.writes ≡ step.packets
  packets_are =
      ap (λ (m : Engine). packets_view m t.writes) engine_is
      ∙ packets_in step.engine t.writes _ _ (status_in e) (status_in step.engine) (λ r h. beside.nidc r (sym loaded ∙ h)) due_is refl traction_is constraints
      ∙ (λ i. packets_of (route_in step.engine) f.train.position (option_map (λ (r : Received). r.head) (loaded i)) (changes_in step.engine (told_hold (told i)) (told_view f.progress (told i) ++ changes_view (changes i))) (own_packets e v step.engine) (status_in e) (status_in step.engine))

  step_is : step_view e t ≡ step
  step_is = λ i. record { engine = engine_is i; packets = packets_are i }

  module _ (room size : ℕ) (lent : room ≡ length memory) (sized : size ≡ length (joined (packets_view (engine_after e t) t.writes))) where
    size_is : size ≡ length (joined step.packets)
    size_is = sized ∙ ap (λ (l : List Packet). length (joined l)) packets_are

    pub by_room : judge e v memory (effect_view f) ≡ (if ltb room size then refuse 16 else accept (step_view e t))
    unfolding judge
    by_room = rw (lent, size_is, step_is) (row_is (ltb (length memory) (length (joined step.packets))) step)
