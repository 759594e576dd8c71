-- What a load takes from a journey and a book.
use Rattle.std.specs.Prelude.{ℕ, List, true, length}
use Rattle.wire.specs.Judged.{Judged, ◌>>=◌}
use Rattle.wire.specs.Judged.Judged.{accept}
use Rattle.engine_value.specs.Engine.{max_segments, max_points, Route, blank_segment, blank_point, filled}
use Rattle.engine_value.specs.declared.Load.{Load}
use Rattle.segment_record.specs.Record.{BookSegment}
use Rattle.book.specs.Table.{book_of}
use Rattle.journey.specs.Journey.{JourneyValue}
use Rattle.journey.specs.declared.Head.{Head}
use Rattle.journey_rows.specs.Rows.{ending_of}
use Rattle.route.specs.Placing.{segments_of, points_of}
use Rattle.route.specs.Table.{journey_of}

abbrev pub load_group : JourneyValue → Load
load_group j =
    record { operational = j.head.operational; valid = true; ending = ending_of j.points; point_count = length j.points; segment_count = length j.names }

-- the result of a load: the journey's numbers, its points and segments placed by the book ("arrays of 64 point records and 40 segment
-- records", blank beyond the counts)
unfoldable pub route_of : List BookSegment → JourneyValue → Route
route_of book j = record {
  load = load_group j;
  points = filled max_points blank_point (points_of book j);
  segments = filled max_segments blank_segment (segments_of book j.names);
}

-- that, and the stamp and NID_ATOTS
pub record LoadValue : Type 0 where
  pub route : Route
  pub head : Head

abbrev pub load_value : List BookSegment → JourneyValue → LoadValue
load_value book j = record { route = route_of book j; head = j.head }

-- the places "book" and "journey" of the table of numbers, in this order, for the bytes of a journey and of a book
unfoldable pub load_of : List ℕ → List ℕ → Judged LoadValue
load_of journey bytes = do
  book ← book_of bytes
  j ← journey_of book journey
  accept (load_value book j)
