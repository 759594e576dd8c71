-- What an accepted book keeps to, and what follows for the places on the journey.
use Prim.Native.Nat.{ℕ, ◌*◌, ◌≤◌, ◌<◌}
use mathlib.Core.Path.{◌≡◌, refl}
use mathlib.Core.List.{List, [], ◌∷◌, map}
use mathlib.Core.Bool.{Bool, true, false, cond}
use Rattle.std.specs.Prelude.{Option, Some, None}
use native.Mathlib.Omega.{arith}
use lib.ListN.{length, get_or, take, length-take, get_or-eq_default}
use lib.Dec.{ltb}
use borrow.Author.Tests.{ltb-true, ltb-false}
use Rattle.wire.proofs.ListLaws.{tabulate-at, tabulate-length}
use Rattle.wire.specs.Lists.{sum}
use Rattle.engine_value.specs.Engine.{max_zones, blank_segment}
use Rattle.engine_value.specs.declared.Segment.{Segment}
use Rattle.segment_record.specs.Record.{BookSegment, max_length, max_reach, lookup_point}
use Rattle.journey.specs.declared.Name.{Name}
use Rattle.route.specs.Limits.{Limits, OnSome, Sound}
use Rattle.route.specs.Placing.{record_of, length_on, points_on, zones_on, placed_at, start_at, segment_of, segment_at, segments_of, place_on, reach_on}

-- of a segment of the journey, in the book or not
pub length_limit : (r : Option BookSegment) → OnSome Limits r → length_on r ≤ max_length
length_limit None h = omega arith
length_limit (Some g) h = h.long

pub place_limit : (r : Option BookSegment) (t : ℕ) → OnSome Limits r → place_on (lookup_point t (points_on r)) ≤ max_length
place_limit None t h = omega arith
place_limit (Some g) t h = h.places t

pub reach_limit : (r : Option BookSegment) (t : ℕ) → OnSome Limits r → reach_on (lookup_point t (points_on r)) ≤ max_reach
reach_limit None t h = omega arith
reach_limit (Some g) t h = h.reaches t

pub zones_limit : (r : Option BookSegment) → OnSome Limits r → length (zones_on r) ≤ max_zones
zones_limit None h = omega arith
zones_limit (Some g) h = h.zones

-- a segment by its index, in the list and beyond it
module _ (book : List BookSegment) (names : List Name) where
  pub segments_length : length (segments_of book names) ≡ length names
  segments_length = tabulate-length (length names) (segment_at book names)

  pub segment_at_lem : (k : ℕ) → k < length names → get_or (segments_of book names) k blank_segment ≡ segment_at book names k
  segment_at_lem k h = tabulate-at (length names) (segment_at book names) k blank_segment h

  segment_past : (k : ℕ) → length names ≤ k → get_or (segments_of book names) k blank_segment ≡ blank_segment
  segment_past k h = get_or-eq_default (segments_of book names) blank_segment (omega (arith, segments_length))

  -- what holds of each and of a blank one
  pub segments_all : (P : Segment → Type 0) → P blank_segment → ((k : ℕ) → k < length names → P (segment_at book names k)) → (k : ℕ) → P (get_or (segments_of book names) k blank_segment)
  segments_all P b h k = go (ltb k (length names)) refl
    where
      go : (t : Bool) → ltb k (length names) ≡ t → P (get_or (segments_of book names) k blank_segment)
      go true e = let l : k < length names = ltb-true k (length names) e in rw (segment_at_lem k l) (h k l)
      go false e = rw (segment_past k (ltb-false k (length names) e)) b

module _ (book : List BookSegment) (sound : Sound book) where
  -- a start is the sum of at most 39 lengths
  lengths_limit : (ns : List Name) → sum (map (λ (n : Name). length_on (record_of book n)) ns) ≤ length ns * 16777214
  lengths_limit [] = omega arith
  lengths_limit (n ∷ ns) = omega (arith, length_limit (record_of book n) (sound n.nidc n.nidsp), lengths_limit ns)

  start_limit : (names : List Name) (k : ℕ) → k < length names → length names ≤ 40 → start_at book names k ≤ 654311346
  unfolding start_at
  start_limit names k h few = omega (arith, lengths_limit (take k names), length-take k names)

  pub segment_start : (names : List Name) (k : ℕ) → k < length names → length names ≤ 40 → (segment_at book names k).start ≤ 654311346
  unfolding segment_of
  segment_start names k h few = go (placed_at book names k) (start_limit names k h few)
    where
      go : (b : Bool) → start_at book names k ≤ 654311346 → cond b (start_at book names k) 0 ≤ 654311346
      go true l = l
      go false l = omega arith

  pub starts_limit : (names : List Name) (k : ℕ) → length names ≤ 40 → (get_or (segments_of book names) k blank_segment).start ≤ 654311346
  starts_limit names k few = segments_all book names (λ (g : Segment). g.start ≤ 654311346) (omega arith) (λ i h. segment_start names i h few) k
