-- What placing relies on: the ranges of the book's records, and that each place from the journey's start is a number of four bytes.
use Rattle.std.specs.Prelude.{ℕ, ◌+◌, ◌^◌, ◌<◌, ◌≤◌, List, length, Option, Some, None, option_map}
use Rattle.engine_value.specs.Engine.{max_zones}
use Rattle.engine_value.specs.declared.Segment.{Segment}
use Rattle.segment_record.specs.Record.{BookSegment, max_length, max_reach, lookup_point}
use Rattle.segment_record.specs.View.{entry_view}
use Rattle.segment_record.specs.declared.Entry.{Entry}
use Rattle.book.specs.Book.{lookup}
use Rattle.route.specs.Placing.{points_on, place_on, reach_on}

-- the ranges of a record
pub record Limits (g : BookSegment) : Type 0 where
  pub long : g.length ≤ max_length
  pub places : (t : ℕ) → place_on (lookup_point t g.points) ≤ max_length
  pub reaches : (t : ℕ) → reach_on (lookup_point t g.points) ≤ max_reach
  pub zones : length g.zones ≤ max_zones

abbrev pub OnSome : {A : Type 0} → (A → Type 0) → Option A → Type 0
OnSome P None = Unit {0}
OnSome P (Some a) = P a

-- each record that a look-up finds keeps to its ranges
abbrev pub Sound : List BookSegment → Type 0
Sound book = (c sp : ℕ) → OnSome Limits (lookup c sp book)

-- the book's record of an entry
abbrev pub record_view : Option Entry → Option BookSegment
record_view e = option_map entry_view e

-- where a point of the record may be, from the journey's start
abbrev pub PlacesFit : Segment → Option Entry → Type 0
PlacesFit g e = (t : ℕ) → g.start + place_on (lookup_point t (points_on (record_view e))) < 2 ^ 32
