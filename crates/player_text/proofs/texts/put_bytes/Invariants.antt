use lib.ListN.{take}
use Rattle.player_text.specs.View.{Put}
use Rattle.player_text.proofs.texts.put_bytes.Given as goal

abbrev pub invariant-loop-b : goal.invariant-loop-b
invariant-loop-b l = Put l.initial.text l.at (take l.b-index l.s) l.text l.next
