-- The anchors, by computation.
use mathlib.Core.Path.{refl}
use Rattle.wire.specs.Numbers.{number}
use Rattle.fields.specs.Parse.{field, bit_map, optional, many, counted}
use Rattle.journey.specs.Journey.{name_record, point_record, head_record, journey_record}
use Rattle.journey.specs.Anchors.{Anchors}

pub anchors : Anchors
unfolding number field bit_map optional many counted name_record point_record head_record journey_record
anchors = record {
  head_all = refl;
  head_least = refl;
  no_operational_lem = refl;
  no_atots_lem = refl;
  head_bits = refl;
  no_stamp = refl;
  stamps = refl;
  atots_range = refl;
  operational_last = refl;
  names = refl;
  point_all = refl;
  point_bits_lem = refl;
  point_maps = refl;
  held_maps = refl;
  held_all = refl;
  held_alone = refl;
  none_left_out = refl;
  point_names = refl;
  point_ranges = refl;
  whole_journey = refl;
  counts = refl;
  counts_most = refl;
  names_over = refl;
  points_over = refl;
  lengths = refl;
  no_bytes = refl;
}
