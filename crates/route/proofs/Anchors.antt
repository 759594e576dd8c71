-- The anchors, by computation.
use mathlib.Core.Path.{refl}
use Rattle.wire.specs.Numbers.{number}
use Rattle.fields.specs.Parse.{field, bit_map, optional, many, counted, listed}
use Rattle.segment_record.specs.Record.{book_point, zone_record, segment_record}
use Rattle.book.specs.Book.{records}
use Rattle.book.specs.Table.{book_of}
use Rattle.journey.specs.Journey.{name_record, point_record, head_record, journey_record}
use Rattle.route.specs.Placing.{placed_at, start_at, segment_of, point_of}
use Rattle.route.specs.Table.{checked, journey_of}
use Rattle.route.specs.Route.{route_of, load_of}
use Rattle.route.specs.Anchors.{Anchors}

pub anchors : Anchors
unfolding number field bit_map optional many counted listed book_point zone_record segment_record records book_of name_record point_record head_record journey_record placed_at start_at segment_of point_of checked journey_of route_of load_of
anchors = record {
  placed_in_turn = refl;
  none_placed = refl;
  starts = refl;
  starts_kept = refl;
  point_places = refl;
  load = refl;
  group = refl;
  fine = refl;
  row_10 = refl;
  row_11 = refl;
  row_11_book = refl;
  row_12_index = refl;
  row_12_places = refl;
  ten_first = refl;
  eleven_first = refl;
  nine_first = refl;
  book_first = refl;
}
