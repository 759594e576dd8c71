-- By computation.
use mathlib.Core.Path.{refl}
use Rattle.position.specs.Position.{front}
use Rattle.position.specs.Skips.{stop_named}
use Rattle.position.specs.Anchors.{Anchors}

pub anchors : Anchors
unfolding front stop_named
anchors = record {
  zone_ends = refl;
  segments = refl;
  no_segment = refl;
  zones = refl;
  other_zones = refl;
  unplaced_zones = refl;
  defined = refl;
  first_front = refl;
  second_front = refl;
  no_front = refl;
  undefined_front = refl;
  known_there = refl;
  counts = refl;
  count = refl;
  points_placed = refl;
  stops = refl;
  no_stop_behind = refl;
  skips = refl;
  stands_targeted = refl;
  stands_reached = refl;
  passed = refl;
  reached = refl;
  reached_or_passed = refl;
  codes = refl;
}
