-- What is left of the run is there still behind an event.
use mathlib.Core.Path.{sym, ◌∙◌}
use Rattle.player.proofs.Laws.{run-next, end-next}
use Rattle.player.proofs.Player.play_whole.Goals as goal

pub loop-c-preserved : goal.loop-c-preserved
loop-c-preserved g c =
    let l = c.loop-c in
    let (k, f, e, d) = l.invariant in
    let (j, fewer, q) = run-next k l.self.engine l.self.memory _ _ _ (sym c.in-Some.ensures) f in
    (j, fewer, rw (c.play_on.ensures.engine, c.play_on.ensures.output) (q ∙ e), end-next _ l.rest.now _ _ d (sym c.in-Some.ensures))
