use Rattle.std.proofs.Common.{rules, tests, ◌∙◌, get_or}
use Rattle.engine_value.specs.Engine.{blank_zone}
use Rattle.route.proofs.InArray.{from_fn_is, filled_is}
use Rattle.route.proofs.filled.Goals as goal

pub returns : goal.returns
returns c =
    let zs = c.args.zones.now in
    from_fn_is _ _ (λ k. get_or zs k blank_zone) (λ k y q a. search (rules, tests)) c.from_fn.result 4 blank_zone c.from_fn.ensures.items ∙ filled_is blank_zone 4 zs
