use Rattle.std.proofs.Common.{arith, ◌≡◌, ◌∙◌, ap, sym, ◌+◌, ◌*◌, length}
use Rattle.std.proofs.lemmas.List.{length-map}
use Rattle.layout.specs.Body.{body_size, body_at, body_fits}
use Rattle.adhesion.specs.Constraints.{constraints_body, constraint_of, constraints_of}
use Rattle.adhesion.specs.View.{constraints_view, constraints_values}
use Rattle.adhesion.proofs.Laws.{values_remade}
use Rattle.event.specs.Event.{Event}
use Rattle.event.specs.Events.{event_rows, event_with}
use Rattle.event.proofs.Adhesion.{event_body, same_rows, same_fit}
use Rattle.event.proofs.read_adhesion.Goals as goal

pub returns : goal.returns
unfolding event_with
returns c =
    let s = c.args.s.now in
    let v = body_at constraints_body 1 s in
    let rows = c.get-c.ensures in
    let count : length (constraints_view c.get-c.result) ≡ length v = ap length rows ∙ length-map v constraint_of in
    let size : 2 + 16 * c.from.result ≡ 1 + (1 + length v * 16) = omega (arith, c.from.ensures, c.count.ensures) in
    let fit : c.fit.result ≡ body_fits event_body v = c.fit.ensures ∙ ap (λ r. body_fits constraints_body (constraints_values r)) rows ∙ ap (body_fits constraints_body) (values_remade v) ∙ sym (same_fit s (λ i. omega (arith, c.type_inv.s i))) in
    c.event_rows.ensures
    ∙ (λ i. event_rows (size i) (fit i) (Event.Adhesion (rows i)) s)
    ∙ ap (λ w. event_rows (1 + body_size event_body w) (body_fits event_body w) (Event.Adhesion (constraints_of w)) s) (sym (same_rows s))
