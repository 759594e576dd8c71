use mathlib.Core.Path.{refl, ap}
use Rattle.engine_value.specs.View.{route_view}
use Rattle.conditions.proofs.route_conditions.Goals as goal

pub returns : goal.returns
returns c = let profiles = c.profiles_there-profiles.ensures (route_view c.args.place.journey) refl (ap (λ p. p.placed) c.point.ensures) in cc
