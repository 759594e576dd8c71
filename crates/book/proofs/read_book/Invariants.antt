use Rattle.std.proofs.Common.{length}
use Rattle.book.proofs.Whole.{Kept}
use Rattle.book.proofs.read_book.Given as goal

abbrev pub invariant-loop-rest : goal.invariant-loop-rest
invariant-loop-rest l = Kept l.entries l.count l.s l.rest l.over

abbrev pub decreases-loop-rest : goal.decreases-loop-rest
decreases-loop-rest l = length l.rest
