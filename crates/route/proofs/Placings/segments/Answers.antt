use Rattle.std.proofs.Common.{rules, tests, ap, ◌∙◌, get_or, map}
use Rattle.engine_value.specs.Engine.{filled, blank_segment}
use Rattle.route.proofs.InArray.{from_fn_is, filled_is, segment_here}
use Rattle.route.proofs.Placing.{segment_in}
use Rattle.route.proofs.Placings.segments.Goals as goal

pub returns : goal.returns
returns c =
    let on = c.as_slice-placed.result.now in
    from_fn_is _ _ (λ k. get_or (map segment_in on) k blank_segment) (λ k y q a. (search rules, search (rules, tests, segment_here))) c.from_fn.result 40 blank_segment c.from_fn.ensures.items
    ∙ filled_is blank_segment 40 (map segment_in on)
    ∙ ap (filled 40 blank_segment) (ap (map segment_in) c.as_slice-placed.ensures.value ∙ c.args.self.now.read.segments)
