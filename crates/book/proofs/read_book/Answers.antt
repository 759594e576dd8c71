use Rattle.std.proofs.Common.{◌≡◌, ◌∙◌, length, map, take, sym, ap}
use Rattle.std.proofs.lemmas.Result.{err_from_is_err_and}
use Rattle.wire.specs.Judged.Judged.{accept}
use Rattle.wire.specs.declared.Refusal.{Refusal}
use Rattle.segment_record.specs.View.{entry_view}
use Rattle.book.proofs.Whole.{refused, one_more, taken_in, some_left, over_refused, segment_refused, point_refused, accepted}
use Rattle.book.proofs.read_book.Goals as goal
use Rattle.book.proofs.read_book.Goals.{then-over-via-then-over, then-over-via-else-over+then-name_twice, then-over-via-else-over+else-name_twice+then-point_twice}

pub returns-in_err-e : goal.returns-in_err-e
returns-in_err-e c =
    let l = some_left (length c.loop-rest.rest.now) c.loop-rest-test.ensures in
    let p = err_from_is_err_and c.from_residual.result c.from_residual.ensures.1 in
    let none = rw c.in_err-e.ensures.ok_part at c.read_segment.ensures in
    let form = rw c.in_err-e.ensures.ok_part at c.in_err-e.ensures.value in
    let row : c.in_err-e.field-0.0 ≡ Refusal.BookForm = cc in
    let i = c.loop-rest in
    rw (p.1, p.2, row) (refused c.args.s.now i.rest.now (map entry_view (take i.count i.entries)) i.over i.invariant.held l none)

pub loop-rest-preserved : goal.loop-rest-preserved
loop-rest-preserved c =
    let l = some_left (length c.loop-rest.rest.now) c.loop-rest-test.ensures in
    let some = rw c.in_ok-e.ensures.ok_part at c.read_segment.ensures in
    let i = c.loop-rest in
    one_more i.entries i.count c.args.s.now i.rest.now i.over i.invariant c.in_ok-e.e c.in_ok-e.behind.now l some _ _ _ c.keep-kept.ensures.size c.keep-kept.ensures.room c.keep-kept.ensures.full c.from-count.ensures

pub returns-then-over : goal.returns-then-over
returns-then-over c =
    let i = c.loop-rest in
    let kept = take i.count i.entries in
    let end = c.loop-rest-test.ensures in
    elim c.then-over.branch [
      | then-over-via-then-over w ↦ over_refused c.args.s.now i.rest.now kept i.over i.invariant.held end w.if-over.true
      | then-over-via-else-over+then-name_twice w ↦ segment_refused c.args.s.now i.rest.now kept i.over i.invariant.held end (sym w.if-name_twice.true ∙ w.name_twice.ensures)
      | then-over-via-else-over+else-name_twice+then-point_twice w ↦
          point_refused c.args.s.now i.rest.now kept i.over i.invariant.held end w.if-over.false (sym w.if-point_twice.true ∙ w.point_twice.ensures)
    ]

pub returns : goal.returns
returns c =
    let i = c.loop-rest in
    ap accept (taken_in i.entries i.count i.invariant.few)
    ∙ accepted c.args.s.now i.rest.now (take i.count i.entries) i.over i.invariant.held c.loop-rest-test.ensures c.if-over.false
    (sym c.if-name_twice.false ∙ c.name_twice.ensures)
    (sym c.if-point_twice.false ∙ c.point_twice.ensures)
