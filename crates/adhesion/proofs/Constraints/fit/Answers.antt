use Rattle.std.proofs.Common.{rules, tests, arith, ◌∙◌, ◌≤◌, refl, get_or, length}
use Rattle.std.proofs.lemmas.Iterator.{YieldsList-from_range}
use Rattle.std.proofs.lemmas.Iterator.Search.{all_from_yields_List}
use Rattle.layout.specs.Layout.{fits}
use Rattle.adhesion.specs.Constraints.{row_layout, max_constraints, blank_constraint}
use Rattle.std.proofs.lemmas.List.{length-map}
use borrow.Author.Tests.{le-leb}
use Rattle.adhesion.specs.View.{constraint_view, constraints_view, constraints_values}
use Rattle.adhesion.proofs.Laws.{all_fit}
use Rattle.adhesion.proofs.Constraints.fit.Goals as goal

pub returns-then-from-le-MAX_CONSTRAINTS : goal.returns-then-from-le-MAX_CONSTRAINTS
returns-then-from-le-MAX_CONSTRAINTS c =
    let rows = constraints_view c.args.self in
    let each = all_from_yields_List (λ k. fits row_layout (constraint_view (get_or rows k blank_constraint))) _ _ _ c.all.ensures.ran (YieldsList-from_range 0 (length rows) (length rows) (cc) (omega arith)) (λ k b q h. search (rules, tests)) in
    let few : length (constraints_values rows) ≤ max_constraints = omega (arith, length-map rows constraint_view) in
    each ∙ all_fit rows ∙ rw (le-leb _ max_constraints few) refl
