-- The anchors, by computation.
use mathlib.Core.Path.{refl}
use Rattle.wire.specs.Numbers.{number}
use Rattle.fields.specs.Parse.{field, bit_map, many, counted, listed}
use Rattle.segment_record.specs.Record.{book_point, zone_record, segment_record}
use Rattle.book.specs.Book.{records}
use Rattle.book.specs.Table.{book_of}
use Rattle.book.specs.Anchors.{Anchors}

pub anchors : Anchors
unfolding number field bit_map many counted listed book_point zone_record segment_record records book_of
anchors = record {
  empty = refl;
  two = refl;
  unread = refl;
  segment_twice = refl;
  point_twice = refl;
  forty = refl;
  over_forty = refl;
  in_row_order = refl;
  look_up = refl;
  found = refl;
}
