-- What the values of the code say.
use Rattle.std.specs.Prelude.{ℕ, ◌<◌, ◌≡◌, List, map, Bool, not, ◌&&◌, ◌||◌, length, get_or, eqb, if◌then◌else◌, Option}
use Rattle.wire.specs.Lists.{twice}
use Rattle.wire.specs.Judged.{Judged, then_judge, row}
use Rattle.wire.specs.Judged.Judged.{refuse, accept}
use Rattle.engine_value.specs.Engine.{max_points, blank_point, filled}
use Rattle.engine_value.specs.declared.Segment.{Segment}
use Rattle.engine_value.specs.declared.Point.{Point}
use Rattle.segment_record.specs.Record.{BookSegment, lookup_point}
use Rattle.book.specs.Book.{is_some}
use Rattle.journey.specs.Journey.{JourneyValue}
use Rattle.journey.specs.declared.Name.{Name}
use Rattle.journey.specs.declared.JourneyPoint.{JourneyPoint}
use Rattle.journey_rows.specs.Rows.{index_beyond, nidtps, ends}
use Rattle.route.specs.Limits.{record_view}
use Rattle.route.specs.Placing.{record_of, points_on, name_at, segment_at, segments_of, point_of, points_of}
use Rattle.route.specs.Table.{point_missing, checked}
use Rattle.route.specs.Route.{LoadValue, load_value}
use Rattle.route.specs.declared.Loaded.{Loaded}
use Rattle.route.specs.declared.placed.Placed.{Placed}

abbrev pub loaded_view : Loaded → LoadValue
loaded_view l = record { route = record { load = l.load; points = l.points; segments = l.segments }; head = l.head }

-- the rows 10 to 12, and what is then loaded
abbrev pub load_for : List BookSegment → JourneyValue → Judged LoadValue
load_for book v = then_judge (checked book v) (λ j. accept (load_value book j))

-- ---- inner functions

-- the journey's segments by the book, and the records of those that are in it
pub record PlacingRead (book : List BookSegment) (names : List Name) (m : List Placed) : Type 0 where
  pub segments : map (λ (p : Placed). p.segment) m ≡ segments_of book names
  pub placed : (k : ℕ) (d : Placed) → k < length names → (get_or m k d).segment ≡ segment_at book names k
  pub records : (k : ℕ) (d : Placed) → k < length names → record_view (get_or m k d).entry ≡ record_of book (name_at names k)

-- a point on its segment, by the book's record of it; 11 where that lacks the point
abbrev pub point_on : JourneyPoint → Segment → Option BookSegment → Judged Point
point_on p g r =
    if is_some r && not (is_some (lookup_point p.nidtp (points_on r))) then refuse 11 else accept (point_of p g (lookup_point p.nidtp (points_on r)))

-- the test of row 11, and the points of a journey that it does not refuse
abbrev pub eleven : List BookSegment → JourneyValue → Bool
eleven book j = index_beyond j || (twice eqb (nidtps j.points) || (not (eqb (ends j.points) 1) || point_missing book j))

abbrev pub points_for : List BookSegment → JourneyValue → Judged (List Point)
points_for book j = then_judge (row 11 (eleven book j)) (λ u. accept (filled max_points blank_point (points_of book j)))
