use Rattle.std.proofs.lemmas.Iterator.{YieldsList-from_slice, YieldsList-from_take}
use Rattle.std.proofs.lemmas.Iterator.Consumers.{YieldsList-end}
use Rattle.std.proofs.lemmas.List.{take-map}
use Rattle.segment_record.proofs.first_items.Goals as goal

pub returns : goal.returns
returns g c =
    let first = YieldsList-from_take g.row.N (YieldsList-from_slice c.args.list.now cc) cc in
    let end = YieldsList-end first c.loop-x.yielded _ c.loop-x.yielded_by _ _ c.in-None.is c.next.ensures.steps in
    rw (c.loop-x.invariant.items, end.0, take-map)
