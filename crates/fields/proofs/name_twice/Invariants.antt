use Rattle.std.specs.Prelude.{◌≡◌, length}
use Rattle.wire.specs.Lists.{twice}
use Rattle.fields.proofs.name_twice.Given as goal

-- what is left decides
abbrev pub invariant-loop-first : goal.invariant-loop-first
invariant-loop-first g l = twice (λ a b. g.T.Name.PartialEq.eq (g.T.Bears.name a) (g.T.Bears.name b)) l.rest ≡ twice (λ a b. g.T.Name.PartialEq.eq (g.T.Bears.name a) (g.T.Bears.name b)) l.items

abbrev pub decreases-loop-first : goal.decreases-loop-first
decreases-loop-first g l = length l.rest
