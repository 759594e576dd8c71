-- The rows, and then what profiles turned down write.
use Rattle.std.proofs.Common.{subst, sym}
use Rattle.event.specs.Events.{event_of}
use Rattle.wire.specs.Refusals.{number_of}
use Rattle.wire.specs.View.{judged}
use Rattle.engine.specs.View.{call, Takes, take_of, KeepsJourney}
use Rattle.engine.proofs.Keeps.{keeps_journey}
use Rattle.engine.proofs.Laws.{taken, turned_down}
use Rattle.engine.proofs.step.Goals as goal

pub returns-in-Ok : goal.returns-in-Ok
returns-in-Ok c =
    let a = c.args in
    let k = call a.event.now a.journey.now a.book.now a.out.now in
    let s =
    taken a.e.now k c.take.new.e c.take.new.out c.in-Ok.a
    (subst (λ r. Takes (take_of a.e.now k) c.take.new.e (judged r) c.take.new.out) c.in-Ok.is c.take.ensures) in
    record { engine = s.engine; answer = s.answer; output = s.output; journey = subst (KeepsJourney (event_of a.event.now) a.e.now) (sym s.engine) (keeps_journey a.e.now k) }

pub returns-in-Err : goal.returns-in-Err
returns-in-Err c =
    let a = c.args in
    let k = call a.event.now a.journey.now a.book.now a.out.now in
    let s =
    turned_down a.e.now k c.take.new.e c.take.new.out (number_of c.in-Err.row)
    (subst (λ r. Takes (take_of a.e.now k) c.take.new.e (judged r) c.take.new.out) c.in-Err.is c.take.ensures)
    c.write.result c.write.new.out c.write.ensures.bytes c.write.ensures.output in
    record { engine = s.engine; answer = s.answer; output = s.output; journey = subst (KeepsJourney (event_of a.event.now) a.e.now) (sym s.engine) (keeps_journey a.e.now k) }
