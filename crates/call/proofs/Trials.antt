-- The example and P1 to P8, one lemma, and further examples, by computation from the bytes of the calls.
use mathlib.Core.Path.{refl}
use Rattle.call.proofs.Computed.{computed}
use Rattle.call.specs.Trials.{Trials, Further, loaded, ahead, stopped, full, halted, engaged}

pub trials : Trials
unfolding computed loaded
trials = record {
  example = record { answer = refl; memory = refl };
  P1 = refl;
  P2 = refl;
  P3 = refl;
  P4 = refl;
  P5 = refl;
  P6 = refl;
  P7 = refl;
  P8 = record { answer = refl; memory = refl };
}

pub further : Further
unfolding computed loaded ahead stopped full halted engaged
further = record {
  speed_rises = record { answer = refl; memory = refl };
  speed_stays = record { answer = refl; memory = refl };
  speed_in_EG = record { answer = refl; memory = refl };
  first_load = record { answer = refl; memory = refl };
  reload = record { answer = refl; memory = refl };
  reload_targets = refl;
  reached_again = record { answer = refl; memory = refl };
  departure = record { answer = refl; memory = refl };
  skipping = record { answer = refl; memory = refl };
  revoking = record { answer = refl; memory = refl };
  unreached = refl;
  stop = record { answer = refl; memory = refl };
  creeps = record { answer = refl; memory = refl };
  leaves = record { answer = refl; memory = refl };
  ends = record { answer = refl; memory = refl };
  refuses = refl;
  too_short = refl;
  turned_down = refl;
  turned_down_first = refl;
  no_room_lem = refl;
  just_room = refl;
  load_too_short = refl;
  engages = refl;
  degrades = refl;
  stays_DE = refl;
  reached_in_EG = refl;
  traction = refl;
  neutral = refl;
}
