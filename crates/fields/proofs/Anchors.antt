-- The anchors, by computation.
use mathlib.Core.Path.{refl}
use Rattle.wire.specs.Numbers.{number}
use Rattle.fields.specs.Parse.{field, bit_map, optional, many, counted, listed}
use Rattle.fields.specs.Anchors.{Fields, Items, Answers, Anchors}

fields : Fields
unfolding number field bit_map optional
fields = record {
  bounds = refl;
  lengths = refl;
  absent_zero = refl;
  free1 = refl;
  free4 = refl;
  sequence = refl;
  musts = refl;
  maps = refl;
  present = refl;
  absent = refl;
}

items : Items
unfolding number field many counted listed
items = record { several = refl; counts = refl; bit_stands = refl; bit_clear = refl }

answers : Answers
answers = record { reads = refl; wholes = refl; answered = λ behind. refl }

pub anchors : Anchors
anchors = record { fields = fields; items = items; answers = answers }
