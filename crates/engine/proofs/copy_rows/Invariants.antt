use Rattle.std.proofs.Common.{◌≡◌, length, take}
use Rattle.engine_value.specs.Engine.{filled}
use Rattle.adhesion.specs.Constraints.{max_constraints, blank_constraint}
use Rattle.adhesion.specs.View.{constraints_view}
use Rattle.engine.proofs.copy_rows.Given as goal

abbrev pub invariant-loop-k : goal.invariant-loop-k
invariant-loop-k l =
    (length l.to ≡ max_constraints) × (take l.k l.to ≡ take l.k (filled max_constraints blank_constraint (constraints_view l.c)))
