use Rattle.std.proofs.Common.{ltb, rules, tests}
use Rattle.std.proofs.lemmas.Iterator.{YieldsList-from_slice, YieldsList-from_map}
use Rattle.std.proofs.lemmas.Iterator.Consumers.{YieldsList-at, YieldsList-from_filter}
use Rattle.engine_value.specs.declared.Point.{Point}
use Rattle.journey_rows.proofs.Points.{run_rises}
use Rattle.journey_rows.proofs.places_rise.Goals as goal

pub returns : goal.returns
returns c =
    let run = c.is_sorted_by.ensures.runs in
    run_rises run.0 c.is_sorted_by.result run.1 run.2.0 (run.2.1 ltb (λ x y r q k. search (rules, tests))).0
    (YieldsList-from_map _ (λ (p : Point). p.place)
    (YieldsList-at c.map.ensures.source (YieldsList-from_filter _ (λ (p : Point). p.placed)
    (YieldsList-at c.filter.ensures.source (YieldsList-from_slice c.args.points.now cc)) c.filter.ensures.closure (λ x b q k. search (rules, tests))))
    c.map.ensures.closure (λ x r q k. search rules))
