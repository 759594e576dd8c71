-- By computation.
use mathlib.Core.Path.{refl}
use Rattle.conditions.specs.Conditions.{first_ahead, conditions, O}
use Rattle.conditions.specs.Anchors.{Anchors}

pub anchors : Anchors
unfolding first_ahead conditions O
anchors = record {
  report_bits = refl;
  end_targeted = refl;
  end_reached = refl;
  end_only = refl;
  last_targeted = refl;
  last_reached = refl;
  last_only = refl;
  first_not_passed = refl;
  profiles = refl;
  profiles_reached = refl;
  located_defined = refl;
  located_first = refl;
  located_unplaced = refl;
  located_unbooked = refl;
  too_far = refl;
  outside_first = refl;
  outside_unplaced = refl;
  outside_elsewhere = refl;
  outside_too_far = refl;
  all_nine_lem = refl;
  in_order = refl;
  all_there = refl;
  lacking_reports = refl;
  lacking_2 = refl;
  lacking_3 = refl;
  lacking_4 = refl;
  lacking_6 = refl;
  lacking_7 = refl;
  none_left = refl;
  no_journey = refl;
  O_there = refl;
  O_reports = refl;
  O_points = refl;
  O_route = refl;
  O_position = refl;
}
