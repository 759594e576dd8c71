use Prim.Native.Nat.{◌-◌, ◌≤◌}
use mathlib.Core.Path.{◌≡◌}
use lib.ListN.{length}
use Rattle.packet_trials.proofs.read_full.Given as goal

abbrev pub invariant-loop-done : goal.invariant-loop-done
invariant-loop-done g l = (length l.s ≡ length l.initial.s) × (l.done ≤ length l.s)

abbrev pub decreases-loop-done : goal.decreases-loop-done
decreases-loop-done g l = length l.s - l.done
