-- What 02, Q-7, says of kind 15, of an event's bytes.
use Rattle.std.specs.Prelude.{ℕ, ◌≡◌, ◌+◌, ◌*◌, ◌≤◌, List, ◌∷◌, length}
use mathlib.Core.Logic.{◌↔◌}
use Rattle.wire.specs.Numbers.{Bytes}
use Rattle.wire.specs.Lists.{All}
use Rattle.wire.specs.Judged.Judged.{refuse, accept}
use Rattle.layout.specs.Body.{body_bytes}
use Rattle.adhesion.specs.Constraints.{constraints_body}
use Rattle.adhesion.specs.Ranges.{InRange, InOrder, OneReversed}
use Rattle.adhesion.specs.View.{constraints_values}
use Rattle.adhesion.specs.declared.TemporaryConstraint.{TemporaryConstraint}
use Rattle.event.specs.Events.{event_of}
use Rattle.event.specs.Event.{Event}

-- "A kind 15 event brings count (0-31) and that many rows"
abbrev pub bytes_of_rows : List TemporaryConstraint → List ℕ
bytes_of_rows rows = 15 ∷ body_bytes constraints_body (constraints_values rows)

-- bytes of rows that are in their ranges, of which one has its start beyond its end
pub record Reversing (s : List ℕ) : Type 0 where
  pub rows : List TemporaryConstraint
  pub told : s ≡ bytes_of_rows rows
  pub few : length rows ≤ 31
  pub in_range : All InRange rows
  pub reversed : OneReversed rows

pub record Sentences : Type 0 where
  -- "A length other than 2 + 16 × count gets 1, also for a count over 31"
  pub one : (count : ℕ) (rest : List ℕ) → (event_of (15 ∷ count ∷ rest) ≡ refuse 1) ↔ (2 + length rest ≡ 2 + 16 * count → ⊥)
  -- rows in their ranges are taken as they stand, and no others
  pub any_count : (rows : List TemporaryConstraint) → length rows ≤ 31 → All InRange rows → All InOrder rows
      → event_of (bytes_of_rows rows) ≡ accept (Event.Adhesion rows)
  pub no_others : (s : List ℕ) (rows : List TemporaryConstraint) → Bytes s → event_of s ≡ accept (Event.Adhesion rows)
      → (s ≡ bytes_of_rows rows) × (length rows ≤ 31) × All InRange rows × All InOrder rows
  -- "21, a row whose start exceeds its end, checked after 2"
  pub twenty_one : (s : List ℕ) → Bytes s → (event_of s ≡ refuse 21) ↔ Reversing s
