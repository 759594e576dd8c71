use Prim.Native.Nat.{ℕ, ◌-◌, ◌≤◌}
use mathlib.Core.Path.{◌≡◌}
use lib.ListN.{length, drop}
use Rattle.player.specs.Played.{run}
use Rattle.player.proofs.Player.play_whole.Given as goal

abbrev pub invariant-loop-c : goal.invariant-loop-c
invariant-loop-c g l =
    (k : ℕ) × (length l.rest ≤ k) × (run k l.self.engine l.self.memory l.rest ≡ run (length l.s) l.initial.self.engine l.initial.self.memory l.s)
    × (drop (length l.s - length l.rest) l.s ≡ l.rest)

abbrev pub decreases-loop-c : goal.decreases-loop-c
decreases-loop-c g l = length l.rest
