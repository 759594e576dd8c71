-- Document 01, the place "book" of the table of numbers.
use Rattle.std.specs.Prelude.{ℕ, suc, List, map, Bool, ◌&&◌, ◌||◌, length, eqb, ltb}
use Rattle.wire.specs.Lists.{any, twice}
use Rattle.wire.specs.Judged.{Judged, row, ◌>>=◌, ◌>>◌}
use Rattle.fields.specs.Parse.{read}
use Rattle.wire.specs.Judged.Judged.{accept}
use Rattle.engine_value.specs.Engine.{max_segments}
use Rattle.segment_record.specs.declared.BookPoint.{BookPoint}
use Rattle.segment_record.specs.Record.{BookSegment}
use Rattle.book.specs.Book.{records}

-- "8 a segment .. twice": NID_C and NID_SP together
abbrev pub same_segment : BookSegment → BookSegment → Bool
same_segment a b = eqb a.nidc b.nidc && eqb a.nidsp b.nidsp

-- "8 .. in one record, an NID_TP twice"
abbrev pub nidtp_twice : BookSegment → Bool
nidtp_twice s = twice eqb (map (λ (p : BookPoint). p.nidtp) s.points)

-- "7 bad map, range or length; 8 a segment or, in one record, an NID_TP twice, or over 40"
unfoldable pub book_of : List ℕ → Judged (List BookSegment)
book_of l = do
  book ← read 7 (records (suc (length l)) l)
  row 8 (twice same_segment book || (any nidtp_twice book || ltb max_segments (length book)))
  accept book
