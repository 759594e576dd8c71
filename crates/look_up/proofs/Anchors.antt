-- By computation.
use mathlib.Core.Path.{refl}
use Rattle.position.specs.Position.{front}
use Rattle.position.specs.Skips.{stop_named}
use Rattle.timing.specs.Distance.{beyond, at_stop, leaves}
use Rattle.timing.specs.Report.{looked, reported}
use Rattle.conditions.specs.Conditions.{first_ahead}
use Rattle.look_up.specs.Anchors.{Anchors}

pub anchors : Anchors
unfolding front stop_named beyond at_stop leaves looked reported first_ahead
anchors = record {
  positions = refl;
  position_whole = refl;
  report_passes = refl;
  report_reaches = refl;
  report_creeps = refl;
  report_departs = refl;
  report_skipped = refl;
  no_reports = refl;
  no_report_lem = refl;
  stops = refl;
  routes = refl;
  by_report = refl;
  by_skip = refl;
}
