use Rattle.std.proofs.Common.{leb, rules, tests}
use Rattle.std.proofs.lemmas.List.Sorted.{answers_always}
use Rattle.journey.specs.declared.JourneyPoint.{JourneyPoint}
use Rattle.journey_rows.proofs.Points.{sorted_falls}
use Rattle.journey_rows.proofs.index_falls.Goals as goal

pub returns : goal.returns
returns c =
    sorted_falls (λ (p : JourneyPoint). p.index) c.args.points.now _
    (c.is_sorted_by.ensures.cases (λ (p q : JourneyPoint). leb p.index q.index) (answers_always _ _ _ (λ f a r g k. search (rules, tests))))
