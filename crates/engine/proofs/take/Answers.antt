-- Each exit has gone through the rows before it.
use Rattle.std.proofs.Common.{◌≡◌, ◌∙◌, sym, refl, ap, subst, rules}
use Rattle.wire.specs.Judged.Judged.{accept}
use Rattle.hold.specs.Hold.{rows_of_state}
use Rattle.event.specs.Kinds.{off, report, skip, other, kind_of, role_of}
use Rattle.call.specs.Call as model
use Rattle.effects.specs.View.{effect_view, Beside}
use Rattle.judge.specs.View.{engine_after}
use Rattle.event.specs.View.{event_view}
use Rattle.engine.specs.View.{call}
use Rattle.engine.proofs.Laws.{refused_by, accepted_by, unread, not_allowed, Occurs, no_effect, has_effect}
use Rattle.engine.proofs.take.Goals as goal
use Rattle.engine.proofs.take.Goals.{After-role, After-judge, in-Off, in-Report+in_ok-f-in-Report, in-Skip+in_ok-f-in-Skip, in-Other}

-- the event that is read occurs, and power and state allow it
occurs : (c : After-role) → Occurs c.args.e.now (call c.args.event.now c.args.journey.now c.args.book.now c.args.out.now) c.new-o.result
occurs c =
    let event = c.new-o.ensures.event in
    record {
      engine = c.new-o.ensures.engine;
      read = ap accept event ∙ c.in_ok-v.ensures;
      allowed = c.in_ok-rows_of_state.ensures ∙ ap (rows_of_state c.args.e.now) (c.kind.ensures ∙ ap kind_of (sym event));
    }

pub returns-in_err-v : goal.returns-in_err-v
returns-in_err-v c =
    let a = c.args in
    let k = call a.event.now a.journey.now a.book.now a.out.now in
    refused_by a.e.now k c.from_residual.result c.in_err-v.field-0.0 (search rules) (unread a.e.now k _ c.in_err-v.ensures)

pub returns-in_err-rows_of_state : goal.returns-in_err-rows_of_state
returns-in_err-rows_of_state c =
    let a = c.args in
    let k = call a.event.now a.journey.now a.book.now a.out.now in
    refused_by a.e.now k c.from_residual-in_err-rows_of_state.result c.in_err-rows_of_state.field-0.0 (search rules)
    (not_allowed a.e.now k (event_view c.in_ok-v.v) c.in_ok-v.ensures _ (c.in_err-rows_of_state.ensures ∙ ap (rows_of_state a.e.now) c.kind.ensures))

pub returns-in_err-f-in-Report : goal.returns-in_err-f-in-Report
returns-in_err-f-in-Report c =
    let a = c.args in
    let k = call a.event.now a.journey.now a.book.now a.out.now in
    let o = occurs (goal.at.returns-in_err-f-in-Report c).After-role in
    refused_by a.e.now k c.from_residual-in_err-f-in-Report.result c.in_err-f-in-Report.field-0.0 (search rules)
    (no_effect a.e.now k c.new-o.result o report c.in-Report.ensures.role _ c.in_err-f-in-Report.ensures.effect)

pub returns-in_err-f-in-Skip : goal.returns-in_err-f-in-Skip
returns-in_err-f-in-Skip c =
    let a = c.args in
    let k = call a.event.now a.journey.now a.book.now a.out.now in
    let o = occurs (goal.at.returns-in_err-f-in-Skip c).After-role in
    let role = c.in-Skip.ensures.role in
    refused_by a.e.now k c.from_residual-in_err-f-in-Skip.result c.in_err-f-in-Skip.field-0.0 (search rules)
    (no_effect a.e.now k c.new-o.result o (skip c.in-Skip.nidtp c.in-Skip.on) role _ (c.in_err-f-in-Skip.ensures.effect c.in-Skip.nidtp c.in-Skip.on (sym role)))

pub returns-in-Load : goal.returns-in-Load
returns-in-Load c =
    let event = c.new-o.ensures.event in
    c.load.ensures c.args.event.now c.in_ok-v.ensures (c.in_ok-rows_of_state.ensures ∙ ap (rows_of_state c.args.e.now) c.kind.ensures) (c.in-Load.ensures.role ∙ ap role_of event)

-- so is that of another event
judged : (c : After-judge) → Occurs c.args.e.now (call c.args.event.now c.args.journey.now c.args.book.now c.args.out.now) c.new-o.result
    → (Beside c.new-o.result.engine.now c.match-role.f)
    × (model.judge c.new-o.result.engine.now (event_view c.new-o.result.event) c.args.out.now (effect_view c.match-role.f)
    ≡ model.judged c.args.e.now (call c.args.event.now c.args.journey.now c.args.book.now c.args.out.now))
judged c o =
    let e = c.args.e.now in
    let k = call c.args.event.now c.args.journey.now c.args.book.now c.args.out.now in
    let v = c.new-o.result in
    let f = c.match-role.f in
    elim c.match-role.branch [
      | in-Off w ↦ (
        subst (λ f. Beside v.engine.now f) (sym w.f-is) (w.power_off-f.ensures.beside v.engine.now),
        has_effect e k v o off w.in-Off.ensures.role (effect_view f) (ap accept (ap effect_view w.f-is ∙ w.power_off-f.ensures.effect)),
      )
      | in-Report+in_ok-f-in-Report w ↦ (
        subst (λ f. Beside v.engine.now f) (sym w.f-is) (w.in_ok-f-in-Report.ensures.beside (sym w.in-Report.ensures.role)),
        has_effect e k v o report w.in-Report.ensures.role (effect_view f) (ap accept (ap effect_view w.f-is) ∙ w.in_ok-f-in-Report.ensures.effect),
      )
      | in-Skip+in_ok-f-in-Skip w ↦
          let role = w.in-Skip.ensures.role in (
            subst (λ f. Beside v.engine.now f) (sym w.f-is) (w.in_ok-f-in-Skip.ensures.beside w.in-Skip.nidtp w.in-Skip.on (sym role)),
            has_effect e k v o (skip w.in-Skip.nidtp w.in-Skip.on) role (effect_view f) (ap accept (ap effect_view w.f-is) ∙ w.in_ok-f-in-Skip.ensures.effect w.in-Skip.nidtp w.in-Skip.on (sym role)),
          )
      | in-Other w ↦ (
        subst (λ f. Beside v.engine.now f) (sym w.f-is) (w.values-f.ensures.beside (sym w.in-Other.ensures.role)),
        has_effect e k v o other w.in-Other.ensures.role (effect_view f) (ap accept (ap effect_view w.f-is ∙ w.values-f.ensures.effect)),
      )
    ]

pub returns-in_err-t : goal.returns-in_err-t
returns-in_err-t c =
    let a = c.args in
    let k = call a.event.now a.journey.now a.book.now a.out.now in
    let p = goal.at.returns-in_err-t c in
    let j = judged p.After-judge (occurs p.After-role) in
    refused_by a.e.now k c.from_residual-in_err-t.result c.in_err-t.field-0.0 (search rules) (c.in_err-t.ensures.step a.out.now refl j.0 ∙ j.1)

pub returns : goal.returns
returns c =
    let a = c.args in
    let k = call a.event.now a.journey.now a.book.now a.out.now in
    let p = goal.at.returns c in
    let f = c.match-role.f in
    let t = c.in_ok-t in
    let o = occurs p.After-role in
    let j = judged p.After-judge o in
    accepted_by a.e.now k c.new-o.result o t.t (t.ensures.step a.out.now refl j.0 ∙ j.1) (t.ensures.size (engine_after a.e.now t.t)) t.ensures.fits
    _ _ _ c.accept.ensures.engine c.accept.ensures.answer c.accept.ensures.output
