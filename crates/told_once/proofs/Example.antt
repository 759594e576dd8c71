-- The short lists by computation.
use mathlib.Core.Path.{refl}
use Rattle.packets.specs.Packets.{judged_packet, packet_of}
use Rattle.whole_list.proofs.Computed.{worked}
use Rattle.whole_list.specs.Recorded.{timing_points}
use Rattle.told_once.specs.Recording.{recording_from, told_in}
use Rattle.told_once.specs.ToldOnce.{last_stops}
use Rattle.told_once.specs.Example.{Example}

pub example : Example
unfolding worked judged_packet packet_of timing_points recording_from told_in last_stops
example = record {
  stops = refl;
  stops_there = refl;
  ends = refl;
  ends_there = refl;
  runs_past = refl;
  runs_past_it = refl;
  goes_on_lem = refl;
  still_there = refl;
  recorded_there = refl;
  held_told = refl;
  held_there = refl;
  ended_told = refl;
  ended_recorded = refl;
  skip_told = refl;
  skip_recorded = refl;
  told_again = refl;
  none_in_force = refl;
  begins_anew = refl;
  put_behind_lem = refl;
  put_behind_it = refl;
}
