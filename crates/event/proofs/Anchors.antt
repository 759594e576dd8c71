-- The anchors, by computation.
use mathlib.Core.Path.{refl}
use Rattle.wire.specs.Numbers.{number}
use Rattle.layout.specs.Layout.{values_at}
use Rattle.event.specs.Events.{event_rows, event_with, content_among, event_of_kind, event_of}
use Rattle.event.specs.Anchors.{Rows, Roles, Anchors}

rows : Rows
unfolding number values_at event_rows event_with content_among event_of_kind event_of
rows = record {
  reports_range = refl;
  mode_range = refl;
  lever_range = refl;
  nidc_range = refl;
  offset_range = refl;
  length_range = refl;
  skip_range = refl;
  traction_range = refl;
  constraint_range = refl;
  constraint_order = refl;
  constraint_lengths = refl;
  empty = refl;
  unknown = refl;
  longer = refl;
  shorter = refl;
  length_first = refl;
  numbers = refl;
  known = refl;
  views = refl;
}

roles : Roles
roles = record {
  views = refl;
  offs = refl;
  loads = refl;
  reports = refl;
  skips = refl;
  skips_given = refl;
  names = refl;
  values = λ n. refl;
  position = λ x. refl;
  traction = refl;
  constraints = refl;
  rows = refl;
  newest = refl;
}

pub anchors : Anchors
unfolding number values_at event_rows event_with content_among event_of_kind event_of
anchors = record { kinds = refl; rows = rows; roles = roles }
