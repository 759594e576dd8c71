-- The anchors, by computation.
use mathlib.Core.Path.{refl}
use Rattle.engine_value.specs.Anchors.{Constants, Fresh, Blank, Groups, Anchors}

constants : Constants
constants = record {
  two_bytes = refl;
  four_bytes = refl;
  country = refl;
  point_name = refl;
  no_offset = refl;
  no_operational_lem = refl;
  segments = refl;
  points = refl;
  zones = refl;
}

freshly : Fresh
freshly = record {
  NP = refl;
  mode_other = refl;
  lever_neutral = refl;
  reports_0 = refl;
  length_0 = refl;
  speed_0 = refl;
  nidc_0 = refl;
  nidsp_0 = refl;
  offset_undefined = refl;
  no_journey = refl;
  no_progress = refl;
  no_skips_lem = refl;
  no_points = refl;
  no_segments = refl;
  no_press = refl;
  no_request_lem = refl;
  no_traction_lem = refl;
  no_adhesion_lem = refl;
  no_route_lem = refl;
  skips_cleared = refl;
}

blank : Blank
blank = record { constraint = refl; zone = refl; segment = refl; point = refl; filling = refl }

groups : Groups
groups = record { places = refl; numbers = refl; train = refl; inputs = refl; reached = refl; unreached = refl; route = refl; adhesion = refl; control = refl }

pub anchors : Anchors
anchors = record { constants = constants; freshly = freshly; blank = blank; groups = groups }
