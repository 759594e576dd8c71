use Rattle.std.proofs.Common.{rules}
use Rattle.adhesion.specs.View.{constraints_view}
use Rattle.engine.proofs.Laws.{rows_next, rows_whole}
use Rattle.engine.proofs.copy_rows.Goals as goal

pub loop-k-preserved : goal.loop-k-preserved
loop-k-preserved c = (
  search rules,
  rw c.row.ensures (rows_next (constraints_view c.args.c) c.loop-k.to c.loop-k.k c.loop-k-test.true c.loop-k.invariant.0 c.loop-k.invariant.1),
)

pub returns : goal.returns
returns c = rows_whole (constraints_view c.args.c) c.loop-k.to c.loop-k.k c.loop-k-test.false c.loop-k.invariant.0 c.loop-k.invariant.1
