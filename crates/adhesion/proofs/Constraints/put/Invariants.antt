use Rattle.std.proofs.Common.{◌≡◌, drop, ◌+◌, ◌*◌}
use Rattle.std.proofs.lemmas.List.Edits.{sets}
use Rattle.std.specs.Prelude.{flat_map}
use Rattle.layout.specs.Layout.{bytes}
use Rattle.layout.specs.Body.{body_bytes}
use Rattle.adhesion.specs.Constraints.{row_layout, constraints_body}
use Rattle.adhesion.specs.View.{constraints_view, constraints_values}
use Rattle.adhesion.proofs.Constraints.put.Given as goal

-- the rows that are left to put, behind what is there, make the whole
abbrev pub invariant-loop-k : goal.invariant-loop-k
invariant-loop-k l =
    let rows = constraints_values (constraints_view l.fn.self) in
    sets l.out (l.at + 1 + 16 * l.k) (flat_map (bytes row_layout) (drop l.k rows)) ≡ sets l.fn.out l.at (body_bytes constraints_body rows)
