-- Document 01's sentences on conditions 4, 6 and 7, each beside the function that computes it.
use Rattle.std.specs.Prelude.{ℕ, ◌≤◌, ◌<◌, ◌≡◌, ◌↔◌, ◌⊎◌, true, false, length, get_or}
use Rattle.engine_value.specs.Engine.{Route, blank_zone, undefined}
use Rattle.engine_value.specs.declared.Segment.{Segment}
use Rattle.engine_value.specs.declared.Position.{Position}
use Rattle.position.specs.Position.{point_count, placed, zones_of, segment_named}
use Rattle.position.specs.Standing.{is_passed}
use Rattle.position.specs.Sentences.{segment, IsNamed}
use Rattle.position.specs.declared.Standing.{Standing}
use Rattle.conditions.specs.Conditions.{profiles_there, located, outside_zones}

-- ---- 4

-- "first point not passed"
pub record FirstNotPassed (j : Route) (standing : ℕ → Standing) (k : ℕ) : Type 0 where
  pub in_journey : k < point_count j
  pub not_passed : is_passed (standing k) ≡ false
  pub passed_before : (i : ℕ) → i < k → is_passed (standing i) ≡ true

-- "none is left"
abbrev pub NoneLeft : Route → (ℕ → Standing) → Type 0
NoneLeft j standing = (i : ℕ) → i < point_count j → is_passed (standing i) ≡ true

-- ---- 6 and 7

-- "offset defined and its segment in the journey", where one "beyond its segment's new length counts as undefined": k is its segment
pub record LocatedIn (j : Route) (x : Position) (k : ℕ) : Type 0 where
  pub offset_defined_lem : ¬ (x.offset ≡ undefined)
  pub its_segment : IsNamed j x k
  pub not_beyond : (segment j k).booked ≡ true → x.offset ≤ (segment j k).length

-- "within a zone .., both ends inside": zone i of a segment
pub record InZone (s : Segment) (offset i : ℕ) : Type 0 where
  pub of_segment : i < length (zones_of s)
  pub from_start : (get_or (zones_of s) i blank_zone).start ≤ offset
  pub to_end : offset ≤ (get_or (zones_of s) i blank_zone).end

-- a segment that is not in the book has no zones, as every load leaves it
abbrev pub ZonesBooked : Route → Type 0
ZonesBooked j = (k : ℕ) → (segment j k).booked ≡ false → (segment j k).zone_count ≡ 0

pub record Sentences : Type 0 where
  -- "4: first point not passed is placed, or none is left."
  pub condition_4 : (j : Route) (standing : ℕ → Standing)
      → (profiles_there j standing ≡ true)
      ↔ ((j.load.valid ≡ true) × (((k : ℕ) × FirstNotPassed j standing k × (placed j k ≡ true)) ⊎ NoneLeft j standing))
  -- "6: offset defined and its segment in the journey."
  pub condition_6 : (j : Route) (x : Position) → (located (segment_named j x) x ≡ true) ↔ ((k : ℕ) × LocatedIn j x k)
  -- "7: not within a zone of a journey segment .., both ends inside": it fails where some zone of the named segment holds the offset
  pub condition_7 : (j : Route) (x : Position)
      → (outside_zones (segment_named j x) x ≡ false) ↔ ((k : ℕ) × LocatedIn j x k × ((i : ℕ) × InZone (segment j k) x.offset i))
  -- ".. in the book"
  pub condition_7_booked : (j : Route) (x : Position) → ZonesBooked j
      → (outside_zones (segment_named j x) x ≡ false)
      ↔ ((k : ℕ) × LocatedIn j x k × ((segment j k).booked ≡ true) × ((i : ℕ) × InZone (segment j k) x.offset i))
