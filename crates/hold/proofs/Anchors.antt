-- By computation.
use mathlib.Core.Path.{refl}
use Rattle.hold.specs.Hold.{held_stop, hold_row, hold_ended}
use Rattle.hold.specs.Anchors.{Anchors}

pub anchors : Anchors
unfolding held_stop hold_row hold_ended
anchors = record {
  reached = refl;
  not_reached = refl;
  standings = refl;
  row_20 = refl;
  no_held_stop = refl;
  keeps = refl;
  ends = refl;
  keeps_renewed = refl;
  old_fields = refl;
  lacks = refl;
  by_name = refl;
  none_held = refl;
}
