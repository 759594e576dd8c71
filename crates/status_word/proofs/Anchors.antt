-- The anchors, by computation.
use mathlib.Core.Path.{refl}
use Rattle.status_word.specs.Anchors.{Anchors}

pub anchors : Anchors
anchors = record {
  weights = refl;
  states = refl;
  each = refl;
  all_nine_lem = refl;
  run_into = refl;
  fields = refl;
  in_order = refl;
  read = refl;
  read_nine = refl;
  read_spare = refl;
  numbers = refl;
  number_of_nine = refl;
  by_number = refl;
  same_nine = refl;
  one_turned = refl;
  all_there = refl;
}
