-- Document 01, "Book and journey": the journey's segments and points placed by the book.
use Rattle.std.specs.Prelude.{ℕ, suc, ◌+◌, List, [], map, Bool, length, get_or, take, if◌then◌else◌}
use Rattle.std.specs.Prelude.{Option, Some, None}
use Rattle.wire.specs.Lists.{every, tabulate, sum}
use Rattle.engine_value.specs.Engine.{max_zones, blank_zone, filled}
use Rattle.engine_value.specs.declared.Zone.{Zone}
use Rattle.engine_value.specs.declared.Segment.{Segment}
use Rattle.engine_value.specs.declared.Point.{Point}
use Rattle.segment_record.specs.declared.BookPoint.{BookPoint}
use Rattle.segment_record.specs.Record.{BookSegment, lookup_point}
use Rattle.book.specs.Book.{lookup, is_some}
use Rattle.journey.specs.Journey.{blank_name, JourneyValue}
use Rattle.journey.specs.declared.Name.{Name}
use Rattle.journey.specs.declared.JourneyPoint.{JourneyPoint}

-- ---- segments

-- the book's record of a segment of the journey, where it has one
abbrev pub record_of : List BookSegment → Name → Option BookSegment
record_of book n = lookup n.nidc n.nidsp book

abbrev pub length_on : Option BookSegment → ℕ
length_on None = 0
length_on (Some s) = s.length

abbrev pub points_on : Option BookSegment → List BookPoint
points_on None = []
points_on (Some s) = s.points

abbrev pub zones_on : Option BookSegment → List Zone
zones_on None = []
zones_on (Some s) = s.zones

abbrev pub booked : List BookSegment → Name → Bool
booked book n = is_some (record_of book n)

-- Document 01's term "placed": "A segment is placed if it and all before it in the journey are in the book;
unfoldable pub placed_at : List BookSegment → List Name → ℕ → Bool
placed_at book names k = every (booked book) (take (suc k) names)

-- its start is the sum of the lengths before it."
unfoldable pub start_at : List BookSegment → List Name → ℕ → ℕ
start_at book names k = sum (map (λ (n : Name). length_on (record_of book n)) (take k names))

-- a segment by its name, whether it is placed, its start, and the book's record
-- "nothing is drawn on past the last placed segment": beyond it no start is kept
unfoldable pub segment_of : Name → Bool → ℕ → Option BookSegment → Segment
segment_of n placed start r = record {
  nidsp = n.nidsp;
  start = if placed then start else 0;
  length = length_on r;
  zone_count = length (zones_on r);
  zones = filled max_zones blank_zone (zones_on r);
  nidc = n.nidc;
  booked = is_some r;
  placed = placed;
}

-- the segment of an index
abbrev pub name_at : List Name → ℕ → Name
name_at names k = get_or names k blank_name

abbrev pub segment_at : List BookSegment → List Name → ℕ → Segment
segment_at book names k = segment_of (name_at names k) (placed_at book names k) (start_at book names k) (record_of book (name_at names k))

abbrev pub segments_of : List BookSegment → List Name → List Segment
segments_of book names = tabulate (length names) (segment_at book names)

-- ---- points

abbrev pub place_on : Option BookPoint → ℕ
place_on None = 0
place_on (Some b) = b.place

abbrev pub reach_on : Option BookPoint → ℕ
reach_on None = 0
reach_on (Some b) = b.reach

-- "A point is placed if its segment is": its place from the journey's start and R come from the record's point b of its name
unfoldable pub point_of : JourneyPoint → Segment → Option BookPoint → Point
point_of p s b = record {
  nidtp = p.nidtp;
  place = if s.placed then s.start + place_on b else 0;
  reach = if s.placed then reach_on b else 0;
  nidc = s.nidc;
  alignment = p.alignment;
  stopping = p.stopping;
  stop = p.stop;
  trackside = p.trackside;
  held = p.held;
  placed = s.placed;
}

-- the record of a point's segment, and that record's point of its name
abbrev pub record_at : List BookSegment → List Name → JourneyPoint → Option BookSegment
record_at book names p = record_of book (name_at names p.index)

abbrev pub record_point : List BookSegment → List Name → JourneyPoint → Option BookPoint
record_point book names p = lookup_point p.nidtp (points_on (record_at book names p))

abbrev pub point_at : List BookSegment → List Name → JourneyPoint → Point
point_at book names p = point_of p (segment_at book names p.index) (record_point book names p)

abbrev pub points_of : List BookSegment → JourneyValue → List Point
points_of book j = map (point_at book j.names) j.points
