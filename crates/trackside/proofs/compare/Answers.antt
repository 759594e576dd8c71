use Rattle.std.proofs.Common.{rules, tests, ◌∙◌}
use Rattle.std.specs.Prelude.{None}
use Rattle.engine_value.specs.View.{route_view}
use Rattle.route.proofs.InArray.{from_fn_is}
use Rattle.trackside.specs.View.{status_at}
use Rattle.trackside.proofs.Laws.{table_is}
use Rattle.trackside.proofs.compare.Goals as goal

pub returns : goal.returns
returns c =
    let f = status_at (route_view c.args.old) (route_view c.args.new) in
    from_fn_is _ _ f (λ k y q a. search (rules, tests)) c.from_fn.result 64 None c.from_fn.ensures.items ∙ table_is 64 f
