-- The anchors, by computation.
use Prim.Native.Nat.{zero, suc}
use mathlib.Core.Path.{refl}
use mathlib.Core.List.{[], ◌∷◌}
use native.Mathlib.Omega.{arith}
use Rattle.wire.specs.Numbers.{number, bytes_of, Bytes}
use Rattle.wire.specs.Anchors.{Numbers, Lists, Rows, Anchors}

numbers : Numbers
unfolding number bytes_of
numbers = record {
  numbers = refl;
  greatest = refl;
  past_the_end = refl;
  bytes = refl;
  carries = refl;
  bit0 = refl;
  bit7 = refl;
  some_bits = refl;
  other_bits = refl;
  flags = refl;
  chosen = refl;
  magnitudes = refl;
  byte = byte;
  no_byte = λ h. let q = h 1 in absurd (omega arith);
}
  where
    byte : Bytes (0 ∷ 255 ∷ [])
    byte zero = omega arith
    byte (suc zero) = omega arith
    byte (suc (suc i)) = omega arith

lists : Lists
lists = record {
  twos = refl;
  fallen = refl;
  risen = refl;
  one = refl;
  each = refl;
  late = refl;
  above = refl;
  all = ((refl, (refl, tt)), tt);
  not_first = λ h. let q = h.0 in absurd (omega arith);
  not_last = λ h. let q = h.1.0 in absurd (omega arith);
  alike = refl;
  none_alike = refl;
  sums = refl;
  tables = refl;
}

rows : Rows
rows = record { refuses = refl; passes = refl; first = refl; second = refl; neither = refl; value = refl; judged = refl; verdicts = refl; all = refl; profiles = refl }

pub anchors : Anchors
anchors = record { numbers = numbers; lists = lists; rows = rows }
