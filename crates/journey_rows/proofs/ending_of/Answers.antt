use Rattle.std.proofs.Common.{◌≡◌, ◌∙◌, rules, tests}
use Rattle.std.proofs.lemmas.Iterator.{YieldsList-from_slice}
use Rattle.std.proofs.lemmas.Iterator.Search.{position_from_yields_List}
use Rattle.std.specs.List.{position}
use Rattle.journey.specs.declared.JourneyPoint.{JourneyPoint}
use Rattle.journey_rows.proofs.Points.{ending_position}
use Rattle.journey_rows.proofs.ending_of.Goals as goal

pub returns : goal.returns
returns c =
    let ps = c.args.points.now in
    let n : c.position.result ≡ position (λ (p : JourneyPoint). p.end) ps =
    position_from_yields_List (λ (p : JourneyPoint). p.end) _ _ _ c.position.ensures.ran (YieldsList-from_slice ps cc) (λ x b q k. search (rules, tests)) in
    c.unwrap_or.ensures ∙ rw n (ending_position ps)
