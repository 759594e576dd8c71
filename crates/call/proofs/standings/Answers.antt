use Rattle.std.proofs.Common.{rules}
use Rattle.route.proofs.InArray.{from_fn_is}
use Rattle.call.specs.Shown.{standing_in, standings_in}
use Rattle.call.proofs.standings.Goals as goal

pub returns : goal.returns
unfolding standings_in
returns c = from_fn_is _ _ (standing_in c.args.e.now) (λ k y q a. search rules) c.from_fn.result 64 0 c.from_fn.ensures.items
