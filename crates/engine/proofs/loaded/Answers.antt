-- Each exit of a load whose profiles are read.
use Rattle.std.proofs.Common.{◌≡◌, ◌∙◌, sym, ap, subst, refl, List, ℕ}
use Rattle.engine_value.specs.Engine.{Route}
use Rattle.engine_value.specs.declared.Engine.{Engine}
use Rattle.wire.specs.Judged.Judged.{accept}
use Rattle.hold.specs.Hold.{rows_of_state}
use Rattle.event.specs.Events.{event_of}
use Rattle.event.specs.View.{event_view}
use Rattle.event.specs.Kinds.{load, kind_of, role_of, carried}
use Rattle.call.specs.Call as model
use Rattle.route.specs.Route.{load_of}
use Rattle.route.specs.View.{loaded_view}
use Rattle.effects.specs.View.{effect_view, TellsOf}
use Rattle.judge.specs.View.{engine_after}
use Rattle.engine.specs.View.{call}
use Rattle.engine.proofs.Laws.{err_is, refused_by, accepted_by, Occurs, has_effect, load_taken}
use Rattle.engine.proofs.loaded.Goals as goal
use Rattle.engine.proofs.loaded.Goals.{After-new-o, After-load}

-- the load occurs, and is one still there
occurs : (c : After-new-o) (bytes journey book : List ℕ) → accept (event_view c.args.event) ≡ event_of bytes → accept tt ≡ rows_of_state c.args.e.now (kind_of (event_view c.args.event))
    → Occurs c.args.e.now (call bytes journey book c.args.out.now) c.new-o.result
occurs c bytes journey book read allowed =
    let event = c.new-o.ensures.event in
    record {
      engine = c.new-o.ensures.engine;
      read = ap accept event ∙ read;
      allowed = allowed ∙ ap (λ v. rows_of_state c.args.e.now (kind_of v)) (sym event);
    }

its_role : (c : After-new-o) → load ≡ role_of (event_view c.args.event) → load ≡ role_of (event_view c.new-o.result.event)
its_role c role = role ∙ ap role_of (sym c.new-o.ensures.event)

-- its effect is judged
load_judged : (c : After-load) (bytes journey book : List ℕ) → Occurs c.args.e.now (call bytes journey book c.args.out.now) c.new-o.result → load ≡ role_of (event_view c.new-o.result.event) → accept (loaded_view c.args.l.now) ≡ load_of journey book
    → model.judge c.new-o.result.engine.now (event_view c.new-o.result.event) c.args.out.now (effect_view c.load.result)
    ≡ model.judged c.args.e.now (call bytes journey book c.args.out.now)
load_judged c bytes journey book o role taken =
    let a = c.args in
    let v = c.new-o.result in
    let told : TellsOf v.engine.now (loaded_view a.l.now).route c.told-told.result =
    subst (λ (e : Engine). TellsOf e (loaded_view a.l.now).route c.told-told.result) (sym c.new-o.ensures.engine) (subst (λ (j : Route). TellsOf a.e.now j c.told-told.result) c.route.ensures c.told-told.ensures) in
    has_effect a.e.now (call bytes journey book a.out.now) v o load role (effect_view c.load.result)
    (ap accept (c.load.ensures.effect (sym role) told) ∙ load_taken v.engine.now (carried (event_view v.event)) journey book (loaded_view a.l.now) taken)

pub returns-in_err-t : goal.returns-in_err-t
returns-in_err-t c = λ bytes journey book read allowed role taken.
    let a = c.args in
    let p = goal.at.returns-in_err-t c in
    let k = call bytes journey book a.out.now in
    refused_by a.e.now k c.from_residual.result c.in_err-t.field-0.0 (err_is _ _ c.from_residual.ensures.1)
    (c.in_err-t.ensures.step a.out.now refl c.load.ensures.beside ∙ load_judged p.After-load bytes journey book (occurs p.After-new-o bytes journey book read allowed) (its_role p.After-new-o role) taken)

pub returns : goal.returns
returns c = λ bytes journey book read allowed role taken.
    let a = c.args in
    let p = goal.at.returns c in
    let k = call bytes journey book a.out.now in
    let t = c.in_ok-t in
    let o = occurs p.After-new-o bytes journey book read allowed in
    accepted_by a.e.now k c.new-o.result o t.t (t.ensures.step a.out.now refl c.load.ensures.beside ∙ load_judged p.After-load bytes journey book o (its_role p.After-new-o role) taken)
    (t.ensures.size (engine_after a.e.now t.t)) t.ensures.fits _ _ _ c.accept.ensures.engine c.accept.ensures.answer c.accept.ensures.output
