use Rattle.std.proofs.Common.{rules, tests}
use Rattle.std.proofs.lemmas.Iterator.{YieldsList-from_slice}
use Rattle.std.proofs.lemmas.Iterator.Search.{any_from_yields_List}
use Rattle.fields.proofs.name_twice.Goals as goal

pub loop-first-preserved : goal.loop-first-preserved
loop-first-preserved g c =
    let eq = g.T.Name.PartialEq.eq in
    let name = g.T.Bears.name in
    let e = any_from_yields_List (λ y. eq (name y) c.name-name.result) _ _ c.any.result c.any.ensures.ran (YieldsList-from_slice c.in-Some.behind.now cc) (λ x b q k. search (rules, tests)) in
    rw (c.in-Some.ensures.cases.0, ← c.name-name.ensures, ← e, c.if-any.false) at c.loop-first.invariant
