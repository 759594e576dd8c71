use Rattle.std.proofs.Common.{rules, tests, ◌∙◌, ℕ}
use Rattle.std.proofs.lemmas.Iterator.{YieldsList-from_slice}
use Rattle.std.proofs.lemmas.Iterator.Search.{position_from_yields_List}
use Rattle.traction.specs.Ranges.{range, holds}
use Rattle.traction.proofs.Laws.{first_of_five}
use Rattle.traction.proofs.lowest.Goals as goal

pub returns : goal.returns
returns c =
    let n = position_from_yields_List (λ (r : ℕ × ℕ). holds (range r.0 r.1) c.args.size) _ _ _ c.position.ensures.ran (YieldsList-from_slice _ c.iter.ensures.rest) (λ x b q k. search (rules, tests)) in
    c.unwrap_or.ensures ∙ rw n (first_of_five _ _ _ _ _)
