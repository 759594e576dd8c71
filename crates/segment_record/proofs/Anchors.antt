-- The anchors, by computation.
use mathlib.Core.Path.{refl}
use Rattle.wire.specs.Numbers.{number}
use Rattle.fields.specs.Parse.{field, bit_map, many, counted, listed}
use Rattle.segment_record.specs.Record.{book_point, zone_record, segment_record}
use Rattle.segment_record.specs.Anchors.{Anchors}

pub anchors : Anchors
unfolding number field bit_map many counted listed book_point zone_record segment_record
anchors = record {
  all = refl;
  plain = refl;
  no_zones = refl;
  no_points = refl;
  bits = refl;
  none_left_out = refl;
  countries = refl;
  any_nidsp = refl;
  lengths = refl;
  points_zero = refl;
  points_most = refl;
  points_over = refl;
  zones_zero = refl;
  zones_most = refl;
  zones_over = refl;
  within = refl;
  point_ranges = refl;
  zone_ranges = refl;
  look_up = refl;
}
