use Rattle.std.proofs.Common.{rules, tests, ap, ◌∙◌}
use Rattle.std.specs.Prelude.{eqb, ◌&&◌, find, map}
use Rattle.std.proofs.lemmas.Iterator.{YieldsList-from_slice}
use Rattle.std.proofs.lemmas.Iterator.Search.{find_from_yields_List}
use Rattle.segment_record.specs.declared.Entry.{Entry}
use Rattle.segment_record.specs.Record.{BookSegment}
use Rattle.segment_record.specs.View.{entry_view}
use Rattle.book.proofs.Whole.{find-map}
use Rattle.book.proofs.find.Goals as goal

pub returns : goal.returns
returns c =
    let a = c.args in
    let l = c.entries.result.now in
    let named = λ (g : BookSegment). eqb g.nidc a.nidc && eqb g.nidsp a.nidsp in
    let e = find_from_yields_List (λ (x : Entry). eqb x.nidc a.nidc && eqb x.nidsp a.nidsp) _ _ c.find.result c.find.ensures.ran (YieldsList-from_slice l cc) (λ x b q k. search (rules, tests)) in
    rw (c.copied.ensures, e) (find-map entry_view named l ∙ ap (λ l. find named (map entry_view l)) c.entries.ensures)
