use Rattle.std.proofs.Common.{rules, tests, arith, ◌∙◌, get_or, length}
use Rattle.std.proofs.lemmas.Iterator.{YieldsList-from_range}
use Rattle.std.proofs.lemmas.Iterator.Search.{any_from_yields_List}
use Rattle.adhesion.specs.Constraints.{reversed, blank_constraint}
use Rattle.adhesion.specs.View.{constraints_view}
use Rattle.adhesion.proofs.Laws.{any_indexed}
use Rattle.adhesion.proofs.Constraints.reversed.Goals as goal

pub returns : goal.returns
returns c =
    let rows = constraints_view c.args.self in
    let each = any_from_yields_List (λ k. reversed (get_or rows k blank_constraint)) _ _ _ c.any.ensures.ran (YieldsList-from_range 0 (length rows) (length rows) (cc) (omega arith)) (λ k b q h. search (rules, tests)) in
    each ∙ any_indexed blank_constraint rows reversed
