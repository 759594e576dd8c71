-- What the values of the code say.
use Rattle.std.specs.Prelude.{List, map}
use Rattle.layout.specs.Layout.{Values}
use Rattle.layout.specs.Body.{body_at}
use Rattle.adhesion.specs.Constraints.{row_layout, constraints_body, constraints_of}
use Rattle.adhesion.specs.declared.TemporaryConstraint.{TemporaryConstraint}
use Rattle.adhesion.specs.declared.Constraints.{Constraints}

abbrev pub constraint_view : TemporaryConstraint → Values row_layout
constraint_view r = (r.nidc, (r.nidsp, (r.category, (r.range, (r.start, (r.end, tt))))))

abbrev pub constraints_values : List TemporaryConstraint → List (Values row_layout)
constraints_values rows = map constraint_view rows

-- the rows that stand in the lent bytes
abbrev pub constraints_view : Constraints → List TemporaryConstraint
constraints_view c = constraints_of (body_at constraints_body 0 c.content.now)
