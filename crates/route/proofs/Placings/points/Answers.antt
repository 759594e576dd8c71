use Rattle.std.proofs.Common.{rules, ◌≡◌, ◌∙◌, sym, ap, subst, false, List, ◌<◌, length, get_or, replicate, eqb, arith}
use Rattle.std.specs.Prelude.{if◌then◌else◌}
use Rattle.wire.specs.Judged.Judged.{refuse, accept}
use Rattle.wire.specs.Lists.{twice}
use Rattle.engine_value.specs.declared.Point.{Point}
use Rattle.book.specs.View.{book_view}
use Rattle.journey.specs.Journey.{blank_journey_point}
use Rattle.journey.specs.View.{value_view}
use Rattle.journey.specs.declared.JourneyPoint.{JourneyPoint}
use Rattle.journey_rows.specs.Rows.{index_beyond, nidtps, ends}
use Rattle.route.specs.Limits.{record_view}
use Rattle.route.specs.Placing.{point_at}
use Rattle.route.specs.View.{point_on}
use Rattle.route.specs.declared.placed.Placed.{Placed}
use Rattle.route.proofs.Placing.{read_long, within-at, lacks, turn, Points, points_none, points_more, points_end}
use Rattle.route.proofs.Placings.points.Goals as goal
use Rattle.route.proofs.Placings.points.Goals.{After-default-points, After-index-on-p, In-loop-k}

-- row 11 by the journey alone does not refuse
all-within : (c : After-default-points) → index_beyond (value_view c.args.self.now.journey.now) ≡ false
all-within c = sym c.index_beyond.ensures ∙ c.if-index_beyond.false

none-twice : (c : After-default-points) → twice eqb (nidtps (value_view c.args.self.now.journey.now).points) ≡ false
none-twice c = ap (λ (l : List JourneyPoint). twice eqb (nidtps l)) (sym c.points-from.ensures.value) ∙ sym c.nidtp_twice.ensures ∙ c.if-nidtp_twice.false

one_end : (c : After-default-points) → ends (value_view c.args.self.now.journey.now).points ≡ 1
one_end c = ap ends (sym c.points-from.ensures.value) ∙ sym c.ends.ensures ∙ c.if-ends-ne1.false

pub loop-k-init : goal.loop-k-init
loop-k-init c =
    let s = c.args.self.now in
    subst (λ (b : Point). Points (book_view s.book.now) (value_view s.journey.now) 0 (replicate 64 b)) (sym (search rules)) (points_none (book_view s.book.now) (value_view s.journey.now))

-- the point of the turn is on a segment of the journey
abbrev point : After-index-on-p → JourneyPoint
point c = get_or (value_view c.args.self.now.journey.now).points c.loop-k.k blank_journey_point

there : (c : In-loop-k) → c.loop-k.k < length (value_view c.args.self.now.journey.now).points
there c = omega (arith, ap length c.points-from.ensures.value, c.loop-k-test.true)

pub bounds-on-p : goal.bounds-on-p
bounds-on-p c =
    let o = goal.at.bounds-on-p c in
    let s = c.args.self.now in
    let w = within-at (value_view s.journey.now) c.loop-k.k blank_journey_point (all-within o.After-default-points) (there o.In-loop-k) in
    let same = ap (λ (l : List JourneyPoint). (get_or l c.loop-k.k blank_journey_point).index) c.points-from.ensures.value in
    omega (arith, w, same, ap length c.as_slice-on.ensures.value, read_long (book_view s.book.now) (value_view s.journey.now).names s.segments.items s.read)

-- what the book says of it
said : (c : After-index-on-p) → index_beyond (value_view c.args.self.now.journey.now) ≡ false
    → point_on (get_or c.points-from.result.now c.loop-k.k blank_journey_point) c.index-on-p.result.segment (record_view c.index-on-p.result.entry)
    ≡ (if lacks (book_view c.args.self.now.book.now) (value_view c.args.self.now.journey.now) (point c) then refuse 11 else accept (point_at (book_view c.args.self.now.book.now) (value_view c.args.self.now.journey.now).names (point c)))
said c a =
    let s = c.args.self.now in
    let v = value_view s.journey.now in
    let on = c.index-on-p.result in
    let same = ap (λ (l : List JourneyPoint). get_or l c.loop-k.k blank_journey_point) c.points-from.ensures.value in
    let w = within-at v c.loop-k.k blank_journey_point a (omega (arith, ap length c.points-from.ensures.value, c.loop-k-test.true)) in
    ap (λ (p : JourneyPoint). point_on p on.segment (record_view on.entry)) same
    ∙ turn (book_view s.book.now) v s.segments.items on (point c) s.read w (c.index-on-p.is ∙ ap (λ (l : List Placed). get_or l (get_or c.points-from.result.now c.loop-k.k blank_journey_point).index on) c.as_slice-on.ensures.value ∙ ap (λ (p : JourneyPoint). get_or s.segments.items p.index on) same)

pub loop-k-preserved : goal.loop-k-preserved
loop-k-preserved c =
    let o = goal.at.loop-k-preserved c in
    let s = c.args.self.now in
    let few : c.loop-k.k < 64 = omega (arith, c.loop-k-test.true, c.points-from.ensures.fits) in
    points_more (book_view s.book.now) (value_view s.journey.now) c.loop-k.k c.loop-k.points blank_journey_point (there o.In-loop-k) c.loop-k.invariant c.in_ok-points.field-0 few
    (c.in_ok-points.ensures ∙ said o.After-index-on-p (all-within o.After-default-points))

pub returns : goal.returns
returns c =
    let o = (goal.at.returns c).After-default-points in
    let p = c.args.self.now in
    let s = c.points-from.ensures in
    let e : c.loop-k.k ≡ length (value_view p.journey.now).points = omega (arith, ap length s.value, c.loop-k-test.false, c.loop-k.auto.k-end) in
    points_end (book_view p.book.now) (value_view p.journey.now) c.loop-k.k c.loop-k.points c.loop-k.invariant e (omega (arith, ap length s.value, e, s.fits)) (all-within o) (none-twice o) (one_end o)
