use Rattle.std.proofs.Common.{◌≡◌, ◌++◌, ℕ, List, drop}
use lib.Seq.{sets}
use Rattle.packets.specs.Packets.{joined}
use Rattle.trackside.specs.View.{changes_from}
use Rattle.event_packets.specs.View.{packets62}
use Rattle.event_packets.proofs.Output.put_statuses.Given as goal

-- what is left to put, behind what is there, is the whole
abbrev pub invariant-loop-k : goal.invariant-loop-k
invariant-loop-k l =
    (l.self.memory.ghost_name ≡ l.initial.self.memory.ghost_name)
    × ((more : List ℕ) → sets l.self.memory.now l.self.at (joined (packets62 l.e (changes_from l.after l.k (drop l.k l.statuses))) ++ more) ≡ sets l.initial.self.memory.now l.initial.self.at (joined (packets62 l.e (changes_from l.after 0 l.statuses)) ++ more))
