use Rattle.std.proofs.Common.{◌≡◌, ◌-◌, ◌++◌, ℕ, List}
use lib.Seq.{sets}
use Rattle.packets.specs.Packets.{joined}
use Rattle.timing.specs.Changes.{passings}
use Rattle.event_packets.specs.View.{packets62}
use Rattle.event_packets.proofs.Output.put_passed.Given as goal

-- what is left to put, behind what is there, is the whole
abbrev pub invariant-loop-k : goal.invariant-loop-k
invariant-loop-k l =
    (l.self.memory.ghost_name ≡ l.initial.self.memory.ghost_name)
    × ((more : List ℕ) → sets l.self.memory.now l.self.at (joined (packets62 l.e (passings (l.to - l.k) l.k)) ++ more) ≡ sets l.initial.self.memory.now l.initial.self.at (joined (packets62 l.e (passings (l.to - l.from) l.from)) ++ more))
