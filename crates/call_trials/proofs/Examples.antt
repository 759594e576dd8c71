-- By computation.
use mathlib.Core.Path.{refl}
use Rattle.call.specs.Shown.{standings_in}
use Rattle.call.proofs.Computed.{computed}
use Rattle.call_trials.specs.Engines.{on, failed, started, ready, pressed, driving, degraded, stopped, near_b, ended, before_hold, at_hold}
use Rattle.call_trials.specs.Examples.{Refused, RefusedLoads, TurnedDown, Held, Trackside, RefusedLater, States, Conditions, Points, Loads, Requests, Slippery}

pub refused : Refused
unfolding computed on failed started ready driving
refused = record {
  empty = refl;
  kind_0 = refl;
  kind_16 = refl;
  power_on_longer = refl;
  lever_shorter = refl;
  position_shorter = refl;
  traction_shorter = refl;
  slippery_alone = refl;
  slippery_shorter = refl;
  slippery_longer = refl;
  slippery_count = refl;
  slippery_country = refl;
  slippery_start = refl;
  slippery_end = refl;
  slippery_reversed = refl;
  reversed_in_FA = refl;
  reports_32 = refl;
  mode_2 = refl;
  lever_3 = refl;
  country_1024 = refl;
  offset_16777216 = refl;
  train_of_0 = refl;
  train_of_100001 = refl;
  traction_101 = refl;
  traction_minus_101 = refl;
  traction_minus_100 = record { answer = refl; memory = refl };
  lever_2 = record { answer = refl; memory = refl };
  train_of_1 = record { answer = refl; memory = refl };
  train_of_100000 = record { answer = refl; memory = refl };
  all_in_NP = refl;
  load_in_NP = refl;
  on_in_CO = refl;
  on_in_EG = refl;
  on_in_FA = refl;
  all_in_FA = refl;
  load_in_FA = refl;
  configured_in_RE = refl;
  configured_in_EG = refl;
  press_in_CO = refl;
  press_in_AV = refl;
  press_in_EG = refl;
}

pub refused_loads : RefusedLoads
unfolding computed on
refused_loads = record {
  map_with_bit_5 = refl;
  map_without_bit_2 = refl;
  country_in_the_book = refl;
  length_of_0 = refl;
  reach_beyond = refl;
  place_beyond = refl;
  zone_reversed = refl;
  zone_beyond = refl;
  book_cut = refl;
  segment_twice_in_the_book = refl;
  point_twice_in_a_record = refl;
  records_41 = refl;
  records_40 = record { answer = refl; memory = refl };
  book_whole = refl;
  book_first = refl;
  map_of_the_journey = refl;
  no_stamp = refl;
  date_beyond = refl;
  atots_beyond = refl;
  country_in_the_journey = refl;
  nidtp_beyond = refl;
  alignment_3 = refl;
  stopping_beyond = refl;
  held_passing_point = refl;
  skipped_passing_point = refl;
  journey_cut = refl;
  journey_longer = refl;
  segment_twice = refl;
  index_beyond_lem = refl;
  point_twice = refl;
  two_ends = refl;
  no_end = refl;
  point_not_in_the_book = refl;
  index_falls = refl;
  places_equal = refl;
  places_rise = refl;
}

pub turned_down : TurnedDown
unfolding computed on failed started pressed driving degraded stopped ended
turned_down = record {
  nowhere_lem = refl;
  in_A = refl;
  in_B = refl;
  in_C = refl;
  undefined_in_A = refl;
  in_D = refl;
  in_the_other = refl;
  in_RE = refl;
  in_EG = refl;
  in_DE = refl;
  twice_lem = refl;
  then_taken = record { answer = refl; memory = refl };
  no_memory_lem = refl;
  bytes_28 = refl;
  bytes_29 = refl;
  bytes_30 = refl;
  good_in_29 = refl;
  bad_in_NP = refl;
  bad_in_FA = refl;
  event_longer = refl;
}

pub held : Held
unfolding computed on ready before_hold at_hold
held = record {
  reached = record { answer = refl; memory = refl };
  reached_in_EG = record { answer = refl; memory = refl };
  departed = record { answer = refl; memory = refl };
  held_and_skipped = record { answer = refl; memory = refl };
  press_there = refl;
  press_creeping = refl;
  press_unknown = refl;
  press_in_AV = refl;
  press_unheld = record { answer = refl; memory = refl };
  press_before = record { answer = refl; memory = refl };
  press_pending = record { answer = refl; memory = refl };
  unheld = record { answer = refl; memory = refl };
  passing = record { answer = refl; memory = refl };
  skipped = record { answer = refl; memory = refl };
  lacking = record { answer = refl; memory = refl };
  targeted = record { answer = refl; memory = refl };
  kept = record { answer = refl; memory = refl };
  kept_press = record { answer = refl; memory = refl };
  kept_again = record { answer = refl; memory = refl };
  kept_skipped = record { answer = refl; memory = refl };
  turned_down_there = refl;
  off_there = record { answer = refl; memory = refl };
  fault_there = record { answer = refl; memory = refl };
  bytes_49 = refl;
  bytes_53 = refl;
}

pub trackside : Trackside
unfolding computed on ready near_b ended
trackside = record {
  given = record { answer = refl; memory = refl };
  back = record { answer = refl; memory = refl };
  again = record { answer = refl; memory = refl };
  stop = record { answer = refl; memory = refl };
  unplaced = record { answer = refl; memory = refl };
  behind = record { answer = refl; memory = refl };
  ended_before = record { answer = refl; memory = refl };
  renewed = record { answer = refl; memory = refl };
  moved = record { answer = refl; memory = refl };
  first = record { answer = refl; memory = refl };
  first_again = record { answer = refl; memory = refl };
  driver_skip = record { answer = refl; memory = refl };
  driver_skip_too = record { answer = refl; memory = refl };
  driver_skip_lost = record { answer = refl; memory = refl };
  turned_down_there = refl;
  turned_down_before = record { answer = refl; memory = refl };
  bytes_78 = refl;
}

pub refused_later : RefusedLater
unfolding computed on started stopped near_b
refused_later = record {
  beyond_A = refl;
  beyond_B = refl;
  end_of_A = record { answer = refl; memory = refl };
  end_of_B = record { answer = refl; memory = refl };
  far_in_C = record { answer = refl; memory = refl };
  far_in_D = record { answer = refl; memory = refl };
  undefined_in_A = record { answer = refl; memory = refl };
  no_journey = record { answer = refl; memory = refl };
  skip_of_7002 = refl;
  revoke_of_7002 = refl;
  skip_of_7007 = refl;
  skip_of_FFFFFFFF = refl;
  skip_with_no_journey = refl;
  skip_of_a_reached = refl;
  skip_crept_at = refl;
  skip_of_a_passed = refl;
  skip_given_lem = refl;
  none_to_revoke = refl;
  revoked_before = refl;
  revoke_of_a_passed = refl;
  trackside_not_revoked = refl;
  trackside_and_driver = record { answer = refl; memory = refl };
  trackside_and_revoked = record { answer = refl; memory = refl };
  load_16 = refl;
  report_16 = refl;
  skip_16 = refl;
  load_enough = refl;
  no_memory = refl;
}

pub states : States
unfolding computed on failed started ready pressed driving degraded
states = record {
  NA = record { answer = refl; memory = refl };
  NA_with_journey = record { answer = refl; memory = refl };
  RE = record { answer = refl; memory = refl };
  AV = record { answer = refl; memory = refl };
  RE_to_AV = record { answer = refl; memory = refl };
  RE_to_AV_by_AD = record { answer = refl; memory = refl };
  RE_to_NA = record { answer = refl; memory = refl };
  AV_to_RE = record { answer = refl; memory = refl };
  AV_to_NA = record { answer = refl; memory = refl };
  NA_to_RE = record { answer = refl; memory = refl };
  pressing = record { answer = refl; memory = refl };
  EG = record { answer = refl; memory = refl };
  press_kept = record { answer = refl; memory = refl };
  press_used_up = record { answer = refl; memory = refl };
  press_lost = record { answer = refl; memory = refl };
  EG_traction = record { answer = refl; memory = refl };
  EG_passes = record { answer = refl; memory = refl };
  EG_brake = record { answer = refl; memory = refl };
  EG_other = record { answer = refl; memory = refl };
  EG_reached = record { answer = refl; memory = refl };
  EG_end_reached = record { answer = refl; memory = refl };
  EG_end_passed = record { answer = refl; memory = refl };
  EG_not_O = record { answer = refl; memory = refl };
  EG_not_T = record { answer = refl; memory = refl };
  DE_again = record { answer = refl; memory = refl };
  DE_traction = record { answer = refl; memory = refl };
  DE_reached = record { answer = refl; memory = refl };
  DE_brake = record { answer = refl; memory = refl };
  DE_brake_not_O = record { answer = refl; memory = refl };
  DE_other = record { answer = refl; memory = refl };
  neutral_in_AD = record { answer = refl; memory = refl };
  traction_in_AV = record { answer = refl; memory = refl };
  FA = record { answer = refl; memory = refl };
  FA_from_CO = record { answer = refl; memory = refl };
  NP_from_FA = record { answer = refl; memory = refl };
  NP_from_EG = record { answer = refl; memory = refl };
  starts_in_RE = record { answer = refl; memory = refl };
  starts_in_EG = record { answer = refl; memory = refl };
  starts_in_DE = record { answer = refl; memory = refl };
  goes_on = record { answer = refl; memory = refl };
}

pub conditions : Conditions
unfolding computed on started near_b
conditions = record {
  report_bit_0 = record { answer = refl; memory = refl };
  report_bit_1 = record { answer = refl; memory = refl };
  report_bit_2 = record { answer = refl; memory = refl };
  report_bit_3 = record { answer = refl; memory = refl };
  report_bit_4 = record { answer = refl; memory = refl };
  no_journey = record { answer = refl; memory = refl };
  before_zone = record { answer = refl; memory = refl };
  zone_start = record { answer = refl; memory = refl };
  zone_end = record { answer = refl; memory = refl };
  after_zone = record { answer = refl; memory = refl };
  same_offset_in_B = record { answer = refl; memory = refl };
  zone_in_D = record { answer = refl; memory = refl };
  in_C = record { answer = refl; memory = refl };
  undefined_offset = record { answer = refl; memory = refl };
  end_reached = record { answer = refl; memory = refl };
  end_passed = record { answer = refl; memory = refl };
  unplaced_next = record { answer = refl; memory = refl };
  placed_next = record { answer = refl; memory = refl };
  at_last = record { answer = refl; memory = refl };
  last_passed = record { answer = refl; memory = refl };
}

pub points : Points
unfolding computed started stopped near_b ended
points = record {
  too_far = record { answer = refl; memory = refl };
  reached = record { answer = refl; memory = refl };
  moving = record { answer = refl; memory = refl };
  at_margin = record { answer = refl; memory = refl };
  past_margin = record { answer = refl; memory = refl };
  still_reached = record { answer = refl; memory = refl };
  departs = record { answer = refl; memory = refl };
  creeps = record { answer = refl; memory = refl };
  creeps_on = record { answer = refl; memory = refl };
  creeps_unknown = record { answer = refl; memory = refl };
  creeps_in_C = record { answer = refl; memory = refl };
  departs_later = record { answer = refl; memory = refl };
  departs_and_passes = record { answer = refl; memory = refl };
  middle = record { answer = refl; memory = refl };
  middle_passed = record { answer = refl; memory = refl };
  rear = record { answer = refl; memory = refl };
  rear_passed = record { answer = refl; memory = refl };
  from_B = record { answer = refl; memory = refl };
  end_too_far = record { answer = refl; memory = refl };
  end_reached = record { answer = refl; memory = refl };
  end_at_margin = record { answer = refl; memory = refl };
  end_passed = record { answer = refl; memory = refl };
  end_departed = record { answer = refl; memory = refl };
  in_order = record { answer = refl; memory = refl };
  behind_the_end = record { answer = refl; memory = refl };
  no_further = record { answer = refl; memory = refl };
  unknown_in_C = record { answer = refl; memory = refl };
  shorter_train = record { answer = refl; memory = refl };
  driver_skips = record { answer = refl; memory = refl };
  skipped = record { answer = refl; memory = refl };
  skipped_passed = record { answer = refl; memory = refl };
  skip_revoked = record { answer = refl; memory = refl };
  reached_after_all = record { answer = refl; memory = refl };
  skip_in_C = record { answer = refl; memory = refl };
  skip_behind_the_end = record { answer = refl; memory = refl };
}

pub loads : Loads
unfolding computed on started driving stopped near_b
loads = record {
  no_position = record { answer = refl; memory = refl };
  puts_behind = record { answer = refl; memory = refl };
  two_behind = refl;
  none_written = record { answer = refl; memory = refl };
  at_margin = refl;
  past_margin = refl;
  train_of_1001 = refl;
  train_of_1003 = refl;
  in_B = record { answer = refl; memory = refl };
  unplaced_targeted = refl;
  all_behind = record { answer = refl; memory = refl };
  none_left = refl;
  in_C = record { answer = refl; memory = refl };
  first_targeted = refl;
  first_targeted_too = refl;
  shorter_A = record { answer = refl; memory = refl };
  skip_cleared = refl;
  reached_unskipped = record { answer = refl; memory = refl };
  at_the_stop = record { answer = refl; memory = refl };
  reached_again = record { answer = refl; memory = refl };
  empty_book = record { answer = refl; memory = refl };
  load_in_EG = record { answer = refl; memory = refl };
}

pub requests : Requests
unfolding computed on ready driving degraded
requests = record {
  first = record { answer = refl; memory = refl };
  first_0 = record { answer = refl; memory = refl };
  at_27 = record { answer = refl; memory = refl };
  at_28 = record { answer = refl; memory = refl };
  at_minus_23 = record { answer = refl; memory = refl };
  at_22 = record { answer = refl; memory = refl };
  from_1 = record { answer = refl; memory = refl };
  from_4 = record { answer = refl; memory = refl };
  from_3 = record { answer = refl; memory = refl };
  in_3 = record { answer = refl; memory = refl };
  another_suptb = record { answer = refl; memory = refl };
  in_DE = record { answer = refl; memory = refl };
  kept_in_DE = record { answer = refl; memory = refl };
  in_CO = record { answer = refl; memory = refl };
  in_NA = record { answer = refl; memory = refl };
  in_AV = record { answer = refl; memory = refl };
  in_RE = refl;
  entered_again = record { answer = refl; memory = refl };
  no_room = refl;
}

pub slippery : Slippery
unfolding computed standings_in on ready pressed driving degraded
slippery = record {
  in_CO = record { answer = refl; memory = refl };
  in_NA = record { answer = refl; memory = refl };
  in_AV = record { answer = refl; memory = refl };
  in_RE = record { answer = refl; memory = refl };
  in_EG = record { answer = refl; memory = refl };
  in_DE = record { answer = refl; memory = refl };
  press_kept = record { answer = refl; memory = refl };
  shown = refl;
  fewer = refl;
  none = refl;
  refused_kept = refl;
  kept = refl;
  off = refl;
  no_room = refl;
}
