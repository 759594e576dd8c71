use Rattle.std.proofs.Common.{rules, ◌∙◌}
use Rattle.event_packets.proofs.Stored.{passed_next}
use Rattle.event_packets.proofs.Output.put_passed.Goals as goal

pub loop-k-preserved : goal.loop-k-preserved
loop-k-preserved c = (
  search rules,
  λ more. passed_next c.args.e.now c.args.to c.loop-k.k c.loop-k-test.true c.timing_point.result _ c.from.ensures c.timing_point.ensures _ _ _ _ c.put.ensures.put more ∙ c.loop-k.invariant.1 more,
)
