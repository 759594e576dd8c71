-- What is left of the line makes it whole.
use Prim.Native.Nat.{ℕ}
use mathlib.Core.Path.{◌≡◌}
use mathlib.Core.List.{List, ◌++◌}
use lib.ListN.{drop}
use Rattle.player_text.specs.Lines.{hex_line}
use Rattle.player_text.proofs.lines.put_line.Given as goal

abbrev pub invariant-loop-b : goal.invariant-loop-b
invariant-loop-b g l =
    (more : List ℕ) → g.T.Text.grown l.text (hex_line (drop l.b-index l.s) ++ more) ≡ g.T.Text.grown l.initial.text (hex_line l.s ++ more)
