-- By computation.
use mathlib.Core.Path.{refl}
use Rattle.position.specs.Position.{front}
use Rattle.timing.specs.Distance.{beyond, at_stop, leaves}
use Rattle.timing.specs.Load.{target_from, target}
use Rattle.timing.specs.Report.{looked, reported, run}
use Rattle.timing.specs.Changes.{passings, report_changes}
use Rattle.timing.specs.Rule.{departing, through, point_outcome, standing_by_reports}
use Rattle.timing.specs.Anchors.{Anchors}

pub anchors : Anchors
unfolding front beyond at_stop leaves target_from target looked reported run passings report_changes departing through point_outcome standing_by_reports
anchors = record {
  behind_front = refl;
  d_front = refl;
  d_middle = refl;
  d_rear = refl;
  stops_unskipped = refl;
  stops_skipped = refl;
  margins = refl;
  margins_skipped = refl;
  exceeds_R = refl;
  exceeds_0 = refl;
  exceeds_reach_front = refl;
  exceeds_reach_rear = refl;
  exceeds_reach_middle = refl;
  stops_R = refl;
  stops_still = refl;
  stops_skipping = refl;
  stops_not = refl;
  beyond_R = refl;
  beyond_rear = refl;
  beyond_skipped = refl;
  at_stop_lem = refl;
  at_stop_not = refl;
  at_stop_length = refl;
  moves = refl;
  leaving = refl;
  leaving_not = refl;
  leaving_skipped = refl;
  leaving_length = refl;
  of_engine = refl;
  skips_of_engine = refl;
  load_R = refl;
  load_first = refl;
  load_middle = refl;
  load_rear = refl;
  load_length = refl;
  load_all = refl;
  load_unknown = refl;
  load_behind = refl;
  passes_R = refl;
  passes_first = refl;
  passes_many = refl;
  passes_all = refl;
  passes_last = refl;
  passes_passing = refl;
  unplaced_stays = refl;
  reaches_R = refl;
  reaches_not = refl;
  reaches_later = refl;
  departing = refl;
  staying = refl;
  staying_first = refl;
  staying_next = refl;
  departing_last = refl;
  departing_64th = refl;
  rule_last = refl;
  rule_64th = refl;
  next_point = refl;
  became = refl;
  became_stays = refl;
  report_departs = refl;
  report_stays = refl;
  report_passes = refl;
  report_reaches = refl;
  no_report_lem = refl;
  reports_in_turn = refl;
  statuses = refl;
  change_of = refl;
  changes_departing = refl;
  changes_reaching = refl;
  changes_held = refl;
  changes_none = refl;
  numbered = refl;
  from_moment = refl;
  settling = refl;
  settling_not = refl;
  settling_placed = refl;
  rule_none = refl;
  rule_unsettled = refl;
  rule_reached = refl;
  rule_first = refl;
  rule_stays = refl;
  rule_creeps = refl;
  rule_departs = refl;
  rule_departs_length = refl;
  rule_from = refl;
  rule_restarts = refl;
  rule_passes_on = refl;
  rule_later = refl;
  rule_unplaced = refl;
  rule_length = refl;
  rule_skip = refl;
  rule_load_1 = refl;
  rule_load_2 = refl;
  rule_load_all = refl;
  rule_load_then = refl;
  outcome_departs = refl;
  outcomes = refl;
}
