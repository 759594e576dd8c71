use Rattle.std.proofs.Common.{sym}
use Rattle.book.specs.View.{book_view}
use Rattle.route.proofs.Accepted.{book-sound}
use Rattle.route.proofs.load_route.Goals as goal

pub new-requires : goal.new-requires
new-requires c = book-sound c.args.book.now (book_view c.in_ok-b.b) (sym c.in_ok-b.ensures)
