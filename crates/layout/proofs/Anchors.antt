-- The anchors, by computation.
use mathlib.Core.Path.{refl}
use Rattle.wire.specs.Numbers.{number, bytes_of}
use Rattle.layout.specs.Layout.{bytes, values_at}
use Rattle.layout.specs.Anchors.{Anchors}

pub anchors : Anchors
unfolding number bytes_of bytes values_at
anchors = record {
  packing = refl;
  unpacking = refl;
  sums = refl;
  as_list = refl;
  by_place = refl;
  plain = refl;
  taken = refl;
  laid = refl;
  nothing_laid = refl;
  sizes = refl;
  found = refl;
  fit = refl;
  do_not = refl;
  nothing_fits = refl;
  of_fields = refl;
  of_rows = refl;
  no_rows = refl;
  body_sizes = refl;
  least_sizes = refl;
  rows_found = refl;
  rows_past = refl;
  no_count = refl;
  rows_fit = refl;
  fields_fit = refl;
  highest = refl;
}
