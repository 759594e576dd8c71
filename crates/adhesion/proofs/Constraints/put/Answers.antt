use Rattle.std.proofs.Common.{arith, ◌∙◌}
use Rattle.adhesion.specs.View.{constraints_view}
use Rattle.adhesion.proofs.Laws.{put_first, put_next}
use Rattle.adhesion.proofs.Constraints.put.Goals as goal

pub loop-k-init : goal.loop-k-init
loop-k-init c = put_first (constraints_view c.args.self) c.args.at c.args.out.now c.put.new.out c.count.result c.put.ensures c.count.ensures

pub loop-k-preserved : goal.loop-k-preserved
loop-k-preserved c =
    put_next (constraints_view c.args.self) c.args.at c.loop-k.k (omega (arith, c.count-k-end.ensures)) c.loop-k.out c.put-in-loop-k.new.out
    (rw (← c.row.ensures, ← c.from.ensures) c.put-in-loop-k.ensures)
    ∙ c.loop-k.invariant
