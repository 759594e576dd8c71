-- By computation.
use mathlib.Core.Path.{refl}
use Rattle.trackside.specs.Trackside.{status_told, each_told, foretold}
use Rattle.trackside.specs.Anchors.{Anchors}

pub anchors : Anchors
unfolding status_told each_told foretold
anchors = record {
  marked = refl;
  gains = refl;
  loses = refl;
  in_order = refl;
  back = refl;
  counted = refl;
  unchanged = refl;
  first = refl;
  foretold_there = refl;
  foretold_back = refl;
  foretold_same = refl;
  cases = refl;
  as_changes = refl;
}
