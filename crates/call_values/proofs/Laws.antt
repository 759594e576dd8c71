-- Laws of what a refused call writes.
use Prim.Native.Nat.{ℕ, ◌≤◌}
use mathlib.Core.Path.{◌≡◌, refl}
use mathlib.Core.Bool.{Bool, true, false, ◌&&◌}
use mathlib.Core.List.{[], ◌∷◌}
use native.Mathlib.Omega.{arith}
use lib.Dec.{leb}
use lib.ListN.{length}
use borrow.Author.Tests.{leb-true}
use Rattle.wire.specs.Refusals.{turns_down}
use Rattle.engine_value.specs.Engine.{Route}
use Rattle.engine_value.specs.declared.Position.{Position}
use Rattle.packets.specs.Packets.{joined}
use Rattle.packets.proofs.PacketLaws.{length-one}
use Rattle.timing.specs.Changes.{when}
use Rattle.call_values.specs.Packets.{jp_turned_down, packets_refused}

module _ (j : Route) (x : Position) where
  pub size_turned_down : length (joined (jp_turned_down j x ∷ [])) ≡ 29
  unfolding jp_turned_down
  size_turned_down = length-one (jp_turned_down j x) 29 refl

  -- it fits, and has 29 bytes at most
  pub refused_fits : (n room : ℕ) → (length (joined (packets_refused j x n room)) ≤ room) × (length (joined (packets_refused j x n room)) ≤ 29)
  unfolding packets_refused
  refused_fits n room = go (turns_down n) (leb 29 room) refl
    where
      go : (a b : Bool) → leb 29 room ≡ b
          → (length (joined (when (a && b) (jp_turned_down j x))) ≤ room) × (length (joined (when (a && b) (jp_turned_down j x))) ≤ 29)
      go true true q = (omega (arith, size_turned_down, leb-true 29 room q), omega (arith, size_turned_down))
      go true false q = (omega arith, omega arith)
      go false b q = (omega arith, omega arith)
