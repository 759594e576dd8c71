use Rattle.std.proofs.Common.{rules, tests}
use Rattle.std.proofs.lemmas.Iterator.{YieldsList-from_slice}
use Rattle.std.proofs.lemmas.Iterator.Search.{all_from_yields_List}
use Rattle.std.specs.Prelude.{not}
use Rattle.wire.specs.Numbers.{bit}
use Rattle.fields.proofs.map_fits.Goals as goal

pub returns-then-all : goal.returns-then-all
returns-then-all c =
    let m = c.args.map in
    let a = all_from_yields_List (λ k. bit k m) _ _ _ c.all.ensures.ran (YieldsList-from_slice c.args.standing.now cc) (λ x b q k. search (rules, tests)) in
    let b = all_from_yields_List (λ k. not (bit k m)) _ _ _ c.all-then-all.ensures.ran (YieldsList-from_slice c.args.clear.now cc) (λ x b q k. search (rules, tests)) in
    rw (← a, c.if-all.true) b
