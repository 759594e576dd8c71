use mathlib.Core.Path.{refl}
use Rattle.states.specs.States.{machine_after}
use Rattle.states.specs.ControlGroup.{control_after}
use Rattle.states.specs.Anchors.{Anchors}

pub anchors : Anchors
unfolding machine_after control_after
anchors = record {
  T_bit = refl;
  neutral = refl;
  u = refl;
  RE_pressed = refl;
  RE_still = refl;
  EG_unreached = refl;
  EG_reached = refl;
  DE_row = refl;
  by_waiting = refl;
  by_driving = refl;
  by_hindered = refl;
  by_reached = refl;
  press_reached = refl;
  row_CO = refl;
  row_RE = refl;
  row_AD = refl;
  row_pressed = refl;
  row_reached = refl;
  row_FA = refl;
  by_kind = refl;
  press_kind = refl;
  reached_kind = refl;
  wanting = refl;
  given_before = refl;
  not_before = refl;
  looked_at = refl;
  kept = refl;
  powers_on = refl;
  configures = refl;
  presses = refl;
  engages = refl;
  stops = refl;
  degrades = refl;
  brakes = refl;
  fails = refl;
  powers_off = refl;
  stays_DE = refl;
  unasked = refl;
}
