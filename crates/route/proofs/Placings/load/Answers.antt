use Rattle.std.proofs.Common.{◌≤◌, ◌∙◌, sym, ap, length, arith}
use Rattle.std.proofs.lemmas.Result.{err_from_is_err_and}
use Rattle.book.specs.View.{book_view}
use Rattle.journey.specs.View.{value_view}
use Rattle.route.proofs.Placing.{eleven_refuses, index_refuses, places_refuse, loads}
use Rattle.route.proofs.Placings.load.Goals as goal
use Rattle.route.proofs.Placings.load.Goals.{After-index_falls, then-index_falls-via-then-index_falls, then-index_falls-via-else-index_falls+then-not-places_rise}

pub returns-in_err-points : goal.returns-in_err-points
returns-in_err-points c =
    let s = c.args.self.now in
    let p = err_from_is_err_and c.from_residual.result c.from_residual.ensures.1 in
    rw (p.1, p.2) (sym (eleven_refuses (book_view s.book.now) (value_view s.journey.now) _ (sym c.name_twice.ensures ∙ c.if-name_twice.false) (sym c.in_err-points.ensures)))

most : (c : After-index_falls) → length (value_view c.args.self.now.journey.now).points ≤ 64
most c = omega (arith, ap length c.points-from.ensures.value, c.points-from.ensures.fits)

pub returns-then-index_falls : goal.returns-then-index_falls
returns-then-index_falls c =
    let o = (goal.at.returns-then-index_falls c).After-index_falls in
    let s = c.args.self.now in
    let same = c.points-from.ensures.value in
    let a = sym c.name_twice.ensures ∙ c.if-name_twice.false in
    elim c.then-index_falls.branch [
      | then-index_falls-via-then-index_falls w ↦
          sym (index_refuses (book_view s.book.now) (value_view s.journey.now) _ a (sym c.in_ok-points.ensures) (rw same at (sym c.index_falls.ensures ∙ w.if-index_falls.true)))
      | then-index_falls-via-else-index_falls+then-not-places_rise w ↦
          sym (places_refuse (book_view s.book.now) (value_view s.journey.now) _ a (sym c.in_ok-points.ensures) (most o)
          (rw same at (sym c.index_falls.ensures ∙ w.if-index_falls.false)) (rw same at (sym w.places_rise.ensures ∙ w.if-not-places_rise.true)))
    ]

pub returns : goal.returns
returns c =
    let o = (goal.at.returns c).After-index_falls in
    let s = c.args.self.now in
    let same = c.points-from.ensures.value in
    sym (loads (book_view s.book.now) (value_view s.journey.now) _ (sym c.name_twice.ensures ∙ c.if-name_twice.false) (sym c.in_ok-points.ensures) (most o) _ _
    (rw same at (sym c.index_falls.ensures ∙ c.if-index_falls.false)) (rw same at (sym c.places_rise.ensures ∙ c.if-not-places_rise.false)) c.load_of.ensures c.segments.ensures)
