use Rattle.std.proofs.Common.{◌≡◌, true, false, rules, tests}
use Rattle.std.proofs.lemmas.Iterator.{first_from_Range}
use Rattle.timing.specs.Load.{put_behind}
use Rattle.timing.specs.View.{journey_of, report_view}
use Rattle.timing.proofs.Laws.{target_found}
use Rattle.timing.proofs.Located.first_left.Goals as goal

pub returns : goal.returns
returns c =
    let j = journey_of c.args.self.now.report in
    let r = report_view c.args.self.now.report in
    rw (c.unwrap_or.ensures, c.max.ensures, ← c.points_loaded-until.ensures)
    (target_found j r _ _ _
    (first_from_Range _ _ _ _ (λ k. put_behind j r k ≡ false) (λ k. put_behind j r k ≡ true) c.find.ensures.ran
    (λ x q k. search (rules, tests))
    (λ x q k. (search rules, search (rules, tests)))))
