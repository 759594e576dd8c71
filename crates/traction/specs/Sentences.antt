-- Document 02's sentence on the range, beside the function that computes it.
use Rattle.std.specs.Prelude.{◌≡◌, true, false, ℕ, ◌≤◌, ◌<◌, Some, None}
use Rattle.traction.specs.Ranges.{ranges, holds_at, range_after}

-- "the lowest that does"
pub record Lowest (size k : ℕ) : Type 0 where
  pub is_held : holds_at ranges k size ≡ true
  pub none_below : (i : ℕ) → i < k → holds_at ranges i size ≡ false

-- "It stays in the range it had while that range holds it, else takes the lowest that does", for every size of a request
pub record Sentences : Type 0 where
  pub stays : (k size : ℕ) → holds_at ranges k size ≡ true → range_after (Some k) size ≡ k
  pub moves : (k size : ℕ) → size ≤ 100 → holds_at ranges k size ≡ false → Lowest size (range_after (Some k) size)
  pub first : (size : ℕ) → size ≤ 100 → Lowest size (range_after None size)
