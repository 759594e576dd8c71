use Rattle.book.specs.View.{book_view}
use Rattle.journey.specs.View.{value_view}
use Rattle.route.proofs.Placing.{Placing}
use Rattle.route.proofs.Placings.new.Given as goal

abbrev pub invariant-loop-name : goal.invariant-loop-name
invariant-loop-name l = Placing (book_view l.book) (value_view l.journey).names l.name-index l.segments.items l.start
