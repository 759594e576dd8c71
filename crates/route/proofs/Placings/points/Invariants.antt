use Rattle.book.specs.View.{book_view}
use Rattle.journey.specs.View.{value_view}
use Rattle.route.proofs.Placing.{Points}
use Rattle.route.proofs.Placings.points.Given as goal

abbrev pub invariant-loop-k : goal.invariant-loop-k
invariant-loop-k l = Points (book_view l.self.book.now) (value_view l.self.journey.now) l.k l.points
