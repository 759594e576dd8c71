-- A load that is read and allowed: its profiles are turned down, or read.
use Rattle.std.proofs.Common.{rules}
use Rattle.event.specs.View.{event_view}
use Rattle.engine.specs.View.{call}
use Rattle.engine.proofs.Laws.{refused_by, not_loaded}
use Rattle.engine.proofs.load.Goals as goal

pub returns-in_err-l : goal.returns-in_err-l
returns-in_err-l c = λ bytes read allowed role.
    let a = c.args in
    let k = call bytes a.journey.now a.book.now a.out.now in
    refused_by a.e.now k c.from_residual.result c.in_err-l.field-0.0 (search rules) (not_loaded a.e.now k (event_view a.event) read allowed role _ c.in_err-l.ensures)

pub returns : goal.returns
returns c = λ bytes read allowed role. c.loaded.ensures bytes c.args.journey.now c.args.book.now read allowed role c.in_ok-l.ensures
