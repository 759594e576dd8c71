-- The anchors, by computation.
use mathlib.Core.Path.{refl}
use Rattle.wire.specs.Numbers.{number, bytes_of}
use Rattle.layout.specs.Layout.{bytes, values_at}
use Rattle.adhesion.specs.Anchors.{Anchors}

pub anchors : Anchors
unfolding number bytes_of bytes values_at
anchors = record {
  row_bytes = refl;
  row_read = refl;
  row_size = refl;
  counted = refl;
  counted_read = refl;
  most = refl;
  highest = refl;
  fit = refl;
  reverses = refl;
  blank = refl;
}
