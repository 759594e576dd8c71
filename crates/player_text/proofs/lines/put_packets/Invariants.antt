-- The lines of the packets that are left make up the whole.
use Prim.Native.Nat.{ℕ}
use mathlib.Core.Path.{◌≡◌}
use mathlib.Core.List.{List, ◌++◌}
use lib.ListN.{length}
use Rattle.player_text.specs.Lines.{packet_text}
use Rattle.player_text.proofs.lines.put_packets.Given as goal

abbrev pub invariant-loop-rest : goal.invariant-loop-rest
invariant-loop-rest g l =
    (more : List ℕ) → g.T.Text.grown l.text (packet_text l.rest ++ more) ≡ g.T.Text.grown l.initial.text (packet_text l.s ++ more)

abbrev pub decreases-loop-rest : goal.decreases-loop-rest
decreases-loop-rest g l = length l.rest
