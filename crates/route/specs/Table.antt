-- Document 01, the place "journey" of the table of numbers, against a book.
use Rattle.std.specs.Prelude.{ℕ, List, Bool, not, ◌&&◌, ◌||◌, eqb}
use Rattle.wire.specs.Lists.{any, twice, falls, strictly_rises}
use Rattle.wire.specs.Judged.{Judged, row, ◌>>=◌, ◌>>◌}
use Rattle.wire.specs.Judged.Judged.{accept}
use Rattle.segment_record.specs.Record.{BookSegment}
use Rattle.book.specs.Book.{is_some}
use Rattle.journey.specs.Journey.{JourneyValue, journey_value}
use Rattle.journey_rows.specs.Rows.{same_name, index_beyond, nidtps, ends, indices, places}
use Rattle.route.specs.Placing.{record_at, record_point, points_of}

-- "11 .. or a booked segment without the point"
abbrev pub point_missing : List BookSegment → JourneyValue → Bool
point_missing book j = any (λ p. is_some (record_at book j.names p) && not (is_some (record_point book j.names p))) j.points

-- "10 segment twice; 11 index beyond, NID_TP twice, not just one End of Journey, or a booked segment without the point;
-- 12 index falls, or placed points do not strictly rise", each over the whole journey before the next
unfoldable pub checked : List BookSegment → JourneyValue → Judged JourneyValue
checked book j = do
  row 10 (twice same_name j.names)
  row 11 (index_beyond j || (twice eqb (nidtps j.points) || (not (eqb (ends j.points) 1) || point_missing book j)))
  row 12 (falls (indices j.points) || not (strictly_rises (places (points_of book j))))
  accept j

-- "9 bad map, range or length; 10 ..". "Book and journey are each checked whole in row order."
unfoldable pub journey_of : List BookSegment → List ℕ → Judged JourneyValue
journey_of book l = do
  j ← journey_value l
  checked book j
