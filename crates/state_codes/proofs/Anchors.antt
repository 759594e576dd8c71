use mathlib.Core.Path.{refl}
use Rattle.state_codes.specs.Numbers.{power_rows, state_row, state_rows}
use Rattle.state_codes.specs.Anchors.{Anchors}

pub anchors : Anchors
unfolding power_rows state_row state_rows
anchors = record {
  codes = refl;
  states_at = refl;
  same = refl;
  mode = refl;
  is_AD = refl;
  lever = refl;
  is_neutral_lem = refl;
  is_brake_lem = refl;
  in_NP = refl;
  powered = refl;
  in_FA = refl;
  in_CO = refl;
  in_RE = refl;
  elsewhere = refl;
  in_order = refl;
}
