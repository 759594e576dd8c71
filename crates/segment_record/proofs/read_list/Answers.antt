use Rattle.std.proofs.Common.{rules, tests, ◌≡◌, true}
use Rattle.std.specs.Simd.{first_chunks}
use Rattle.std.proofs.lemmas.Iterator.{YieldsList-from_slice}
use Rattle.std.proofs.lemmas.Iterator.Search.{all_from_yields_List}
use borrow.Author.Tests.{le-leb, lt-leb}
use Rattle.fields.proofs.ReaderLaws.{parsed_then_some}
use Rattle.segment_record.proofs.Takes.{list_read, chunks_front}
use Rattle.segment_record.proofs.read_list.Goals as goal

pub returns-in_err-list : goal.returns-in_err-list
returns-in_err-list g c =
    let stands : c.args.present ≡ true = cc in
    rw (c.from_residual-in_err-list.ensures, stands, list_read c.requires.takes c.args.most c.in_ok-n.n c.args.s.now c.in_ok-n.s.now c.in_ok-n.ensures, lt-leb _ _ c.in_err-list.ensures.cases)

pub returns : goal.returns
returns g c =
    let stands : c.args.present ≡ true = cc in
    let n = c.in_ok-n.n in
    let r = c.in_ok-n.s.now in
    let here = c.in_ok-list.ensures.cases in
    let list : c.as_chunks.result.0.now ≡ first_chunks g.row.K n r = rw (c.as_chunks.ensures.front, here.1) (chunks_front g.row.K n r c.requires.some here.0) in
    let fit = all_from_yields_List (λ x. g.T.ListItem.fits c.args.length (g.T.ListItem.value_of x)) _ _ c.all.result c.all.ensures.ran (YieldsList-from_slice c.as_chunks.result.0.now cc) (λ x b q k. search (rules, tests)) in
    rw (c.then_some.ensures, parsed_then_some, fit, list, here.2, stands, list_read c.requires.takes c.args.most n c.args.s.now r c.in_ok-n.ensures, le-leb _ _ here.0)
