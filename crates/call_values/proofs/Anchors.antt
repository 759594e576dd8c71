-- The anchors, by computation.
use mathlib.Core.Path.{refl}
use Rattle.position.specs.Position.{front}
use Rattle.call_values.specs.Rows.{offset_beyond}
use Rattle.call_values.specs.Packets.{timing_point, jp_received, ato_status, status_due, traction_brake, adhesion_system, packets_of, jp_turned_down, packets_refused}
use Rattle.call_values.specs.Anchors.{Anchors}

pub anchors : Anchors
unfolding front offset_beyond timing_point jp_received ato_status status_due traction_brake adhesion_system packets_of jp_turned_down packets_refused
anchors = record {
  header_with = refl;
  header_without = refl;
  points = refl;
  held = refl;
  trackside = refl;
  hold_revoked_lem = refl;
  received_at = refl;
  received_none = refl;
  unchanged = refl;
  other_state = refl;
  other_conditions = refl;
  speed_after = refl;
  speed_rose = refl;
  speed_fell = refl;
  order = refl;
  revoked_order = refl;
  nothing_due = refl;
  traction = refl;
  traction_order = refl;
  slippery = refl;
  slippery_order = refl;
  turned_down_at = refl;
  turned_down_first = refl;
  refused_by = refl;
  refused_room = refl;
  answers = refl;
  written = refl;
  row_13 = refl;
  row_15 = refl;
  row_15_revoked = refl;
}
