-- Document 02, Q-1: the range of a traction request.
use Rattle.std.specs.Prelude.{ℕ, zero, suc, Bool, false, ◌&&◌, Option, Some, None, List, [], ◌∷◌, leb, if◌then◌else◌}

-- the least and the greatest size that a range holds
pub record Range : Type 0 where
  pub low : ℕ
  pub high : ℕ

abbrev pub range : ℕ → ℕ → Range
range low high = record { low = low; high = high }

-- "range 0 (0), 1 (1-27), 2 (23-77), 3 (73-95) or 4 (91-100)"
abbrev pub ranges : List Range
ranges = range 0 0 ∷ range 1 27 ∷ range 23 77 ∷ range 73 95 ∷ range 91 100 ∷ []

abbrev pub holds : Range → ℕ → Bool
holds r size = leb r.low size && leb size r.high

-- range k of some holds a size; there is none beyond the last
abbrev pub holds_at : List Range → ℕ → ℕ → Bool
holds_at [] k size = false
holds_at (r ∷ rs) zero size = holds r size
holds_at (r ∷ rs) (suc k) size = holds_at rs k size

-- "the lowest that does"; where none does, as many as there are
abbrev pub lowest : List Range → ℕ → ℕ
lowest [] size = 0
lowest (r ∷ rs) size = if holds r size then 0 else suc (lowest rs size)

-- "It stays in the range it had while that range holds it, else takes the lowest that does."
abbrev pub range_after : Option ℕ → ℕ → ℕ
range_after None size = lowest ranges size
range_after (Some k) size = if holds_at ranges k size then k else lowest ranges size
