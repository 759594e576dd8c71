use Rattle.std.proofs.Common.{◌≡◌, ap, List, ◌<◌, length, get_or, arith}
use Rattle.std.specs.Option.{is_some, unwrap_or, option_and}
use Rattle.book.specs.View.{book_view}
use Rattle.journey.specs.View.{value_view}
use Rattle.journey.specs.Journey.{blank_name}
use Rattle.journey.specs.declared.Name.{Name}
use Rattle.route.specs.Limits.{record_view}
use Rattle.std.proofs.lemmas.List.{length-map}
use Rattle.wire.proofs.ListLaws.{tabulate-length}
use Rattle.route.specs.Placing.{segment_of, segment_at}
use Rattle.route.proofs.Placing.{segment_in, sound_at, length_within, start_within, fits, placing_none, placing_more, placing_end}
use Rattle.route.proofs.Placings.new.Goals as goal
use Rattle.route.proofs.Placings.new.Goals.{After-segment_of-segment}

-- the name of the turn, and its segment
abbrev name : After-segment_of-segment → Name
name c = get_or c.names-names.result.now c.loop-name.name-index blank_name

drawn : (c : After-segment_of-segment)
    → c.segment_of-segment.result ≡ segment_of (name c) (is_some (option_and c.find-entry.result c.loop-name.start)) (unwrap_or (option_and c.find-entry.result c.loop-name.start) 0) (record_view c.find-entry.result)
drawn c = rw c.and.ensures at c.segment_of-segment.ensures (sound_at (book_view c.args.book.now) c.requires (name c) c.find-entry.result c.find-entry.ensures)

few : (c : After-segment_of-segment) → c.loop-name.name-index < 40
few c = omega (arith, c.loop-name-test.true, c.names-names.ensures.fits)

pub loop-name-init : goal.loop-name-init
loop-name-init c = rw c.new-segments.ensures (placing_none (book_view c.args.book.now) (value_view c.args.journey.now).names)

pub invariant_of-push : goal.invariant_of-push
invariant_of-push c =
    let o = (goal.at.invariant_of-push c).After-segment_of-segment in
    record { fit = fits (book_view c.args.book.now) c.requires (name o) c.find-entry.result c.find-entry.ensures c.loop-name.start _ (drawn o) c.loop-name.name-index c.loop-name.invariant.sum (few o) }

pub overflow_add-segment : goal.overflow_add-segment
overflow_add-segment c =
    let o = (goal.at.overflow_add-segment c).After-segment_of-segment in
    let b = book_view c.args.book.now in
    let len = length_within b c.requires (name o) c.find-entry.result c.find-entry.ensures c.loop-name.start _ (drawn o) in
    omega (arith, len, start_within b c.requires (name o) c.find-entry.result c.find-entry.ensures c.loop-name.start _ (drawn o) c.loop-name.name-index c.loop-name.invariant.sum, few o)

pub loop-name-preserved : goal.loop-name-preserved
loop-name-preserved c =
    let o = (goal.at.loop-name-preserved c).After-segment_of-segment in
    let v = c.names-names.ensures.value in
    let names = (value_view c.args.journey.now).names in
    let at = ap (λ (l : List Name). get_or l c.loop-name.name-index blank_name) v in
    let h : c.loop-name.name-index < length names = omega (arith, ap length v, c.loop-name-test.true) in
    rw (c.then_some-start.ensures, c.push.ensures.items) (placing_more (book_view c.args.book.now) names c.loop-name.name-index c.loop-name.segments.items c.loop-name.start (name o) _ c.requires h at c.find-entry.ensures (drawn o) c.loop-name.invariant)

pub invariant_of-result : goal.invariant_of-result
invariant_of-result c =
    let v = c.names-names.ensures.value in
    let names = (value_view c.args.journey.now).names in
    let e : c.loop-name.name-index ≡ length names = omega (arith, ap length v, c.loop-name-test.false, c.loop-name.auto.name-index-end) in
    record { read = placing_end (book_view c.args.book.now) names c.loop-name.name-index c.loop-name.segments.items c.loop-name.start e c.loop-name.invariant }

pub push-requires : goal.push-requires
push-requires c =
    let o = (goal.at.push-requires c).After-segment_of-segment in
    let f = c.loop-name.invariant in
    omega (arith, length-map c.loop-name.segments.items segment_in, ap length f.segments, tabulate-length c.loop-name.name-index (segment_at (book_view c.args.book.now) (value_view c.args.journey.now).names), few o)
