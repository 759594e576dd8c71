-- Document 01's sentences on the known position and on a stop of a name, each beside the function that computes it.
use Rattle.std.specs.Prelude.{ℕ, ◌+◌, ◌≤◌, ◌<◌, ◌≡◌, ◌↔◌, Some, None, true, length, get_or}
use Rattle.engine_value.specs.Engine.{Route, blank_segment, undefined}
use Rattle.engine_value.specs.declared.Segment.{Segment}
use Rattle.engine_value.specs.declared.Position.{Position}
use Rattle.position.specs.Position.{point_count, point, listed, front_at, known}
use Rattle.position.specs.Skips.{stop_named}

-- segment k of the journey
abbrev pub segment : Route → ℕ → Segment
segment j k = get_or (listed j) k blank_segment

abbrev pub Bears : Position → Segment → Type 0
Bears x s = (s.nidc ≡ x.nidc) × (s.nidsp ≡ x.nidsp)

-- "its segment", of the offset: the first of the journey's that bears the name
pub record IsNamed (j : Route) (x : Position) (k : ℕ) : Type 0 where
  pub in_journey : k < length (listed j)
  pub bears_name : Bears x (segment j k)
  pub none_before : (i : ℕ) → i < k → ¬ Bears x (segment j i)

-- "the offset is defined, its segment placed and the offset within its length"; k is its segment
pub record KnownIn (j : Route) (x : Position) (k : ℕ) : Type 0 where
  pub offset_defined_lem : ¬ (x.offset ≡ undefined)
  pub its_segment : IsNamed j x k
  pub segment_placed : (segment j k).placed ≡ true
  pub within : x.offset ≤ (segment j k).length

-- point k is a stop of that name
abbrev pub IsStop : Route → ℕ → ℕ → Type 0
IsStop j t k = (k < point_count j) × ((point j k).stop ≡ true) × ((point j k).nidtp ≡ t)

pub record Sentences : Type 0 where
  -- "The position is known if .."
  pub position_known : (j : Route) (x : Position) → (known j x ≡ true) ↔ ((k : ℕ) × KnownIn j x k)
  -- the front is then that segment's start and the offset, "counted from the journey's start"
  pub front_there : (j : Route) (x : Position) (f : ℕ) → (front_at j x ≡ Some f) ↔ ((k : ℕ) × KnownIn j x k × (f ≡ (segment j k).start + x.offset))
  -- the stop of a name is the first of them
  pub stop_there : (j : Route) (t k : ℕ) → (stop_named j t ≡ Some k) ↔ (IsStop j t k × ((i : ℕ) → i < k → ¬ IsStop j t i))
  -- "14 no stop of that name"
  pub no_stop : (j : Route) (t : ℕ) → (stop_named j t ≡ None) ↔ ((k : ℕ) → ¬ IsStop j t k)
