-- The anchors, by computation.
use mathlib.Core.Path.{refl}
use Rattle.journey_rows.specs.Anchors.{Anchors}

pub anchors : Anchors
anchors = record {
  segment_twice = refl;
  index_beyond_lem = refl;
  beyond_one = refl;
  nidtp_twice_lem = refl;
  how_many_ends = refl;
  index_falls = refl;
  places_rise = refl;
  ending_of = refl;
}
