use Rattle.std.proofs.Common.{rules, arith, ◌≡◌, ◌∙◌, sym, ap, length}
use Rattle.std.specs.Prelude.{is_some}
use Rattle.std.specs.List.{count_by}
use Rattle.trackside.proofs.Laws.{counted, counted_most}
use Rattle.event_packets.specs.View.{told_view}
use Rattle.event_packets.proofs.told_count.Goals as goal

pub returns-clause-value : goal.returns-clause-value
returns-clause-value c = λ p.
    let t = c.in-Some.t in
    let n : c.count.result ≡ count_by is_some t.now.statuses = search rules in
    n ∙ counted p 0 t.now.statuses ∙ ap (λ o. length (told_view p o)) (sym c.in-Some.is)

pub returns-clause-most : goal.returns-clause-most
returns-clause-most c =
    let t = c.in-Some.t in
    let n : c.count.result ≡ count_by is_some t.now.statuses = search rules in
    omega (arith, n, counted_most t.now.statuses)
