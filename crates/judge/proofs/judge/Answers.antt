use Rattle.std.proofs.Common.{ℕ, ◌≡◌, ◌∙◌, sym, refl, ap, ap₂, List, map, length}
use Rattle.std.specs.Prelude.{ltb, if◌then◌else◌}
use Rattle.std.specs.Bool.{then_some}
use borrow.Author.Tests.{lt-ltb, le-ltb}
use Rattle.wire.specs.Judged.Judged.{refuse, accept}
use Rattle.wire.specs.Numbers.{flag}
use Rattle.status_word.specs.Word.{conditions_of}
use Rattle.position.specs.Standing.{standing}
use Rattle.conditions.specs.Conditions.{nine}
use Rattle.states.specs.ControlGroup.{control_after}
use Rattle.call_values.specs.Packets.{status_due}
use Rattle.call.specs.Call as model
use Rattle.event.specs.View.{event_view}
use Rattle.event_packets.specs.View.{status_view}
use Rattle.effects.specs.View.{effect_view, Beside}
use Rattle.judge.specs.View.{engine_after, step_view}
use Rattle.judge.specs.declared.Judgement.{Judgement}
use Rattle.judge.proofs.Laws.{by_room}
use Rattle.judge.proofs.judge.Goals as goal
use Rattle.judge.proofs.judge.Goals.{After-size-size}

-- what is judged
abbrev judgement : After-size-size → Judgement
judgement c =
    record {
      effect = c.args.f.now;
      control = c.control_after-control.result;
      traction = c.traction_after-traction.result;
      shown = c.rows_shown-shown.result;
      writes = record { received = c.args.f.now.received; told = c.args.f.now.told; changes = c.args.f.now.changes; requested = c.content_written.result; constraints = c.constraints.result; status = c.then_some.result };
      size = c.size-size.result;
    }

-- the judgement, whether or not the packets fit
judged : (c : After-size-size) (memory : List ℕ) → c.args.room ≡ length memory → Beside c.args.o.now.engine.now c.args.f.now
    → model.judge c.args.o.now.engine.now (event_view c.args.o.now.event) memory (effect_view c.args.f.now)
    ≡ (if ltb c.args.room c.size-size.result then refuse 16 else accept (step_view c.args.o.now.engine.now (judgement c)))
judged c memory r k =
    let o = c.args.o.now in
    let e = o.engine.now in
    let f = c.args.f.now in
    let shows = c.conditions_of-conditions.result in
    let due = c.status_due-due.ensures ∙ ap₂ status_due c.status_in.ensures (ap status_view c.status.ensures) in
    by_room e (event_view o.event) memory f (judgement c) refl k shows
    (c.conditions_of-conditions.ensures ∙ ap (λ l. conditions_of (map flag (nine l f.inputs.reports f.after (standing f.progress)))) c.load.ensures)
    (c.control_after-control.ensures ∙ ap (λ b. control_after f.inputs f.control (event_view o.event) b shows) c.is_some.ensures) c.traction_after-traction.ensures refl refl refl c.content_written.ensures c.constraints.ensures c.rows_shown-shown.ensures
    (c.then_some.ensures ∙ ap (λ d. then_some d shows) due) c.args.room c.size-size.result r (c.size-size.ensures (engine_after e (judgement c)))

pub returns-then-room-size-clause-step : goal.returns-then-room-size-clause-step
returns-then-room-size-clause-step c = λ memory r k. sym (judged (goal.at.returns-then-room-size-clause-step c).After-size-size memory r k ∙ rw (lt-ltb _ _ c.if-room-size.true) refl)

pub returns-clause-step : goal.returns-clause-step
returns-clause-step c = λ memory r k. sym (judged (goal.at.returns-clause-step c).After-size-size memory r k ∙ rw (le-ltb _ _ c.if-room-size.false) refl)
