-- Calls over one journey: what they answer, the packets in their memory, and what the table of numbers refuses. The values are those of the
-- independent model (tests/model), looked over against documents 01 and 02.
use Rattle.std.specs.Prelude.{ℕ, ◌≡◌, List, [], ◌∷◌, ◌++◌, ◌+◌, map, true, false, drop, take, set, replicate}
use Rattle.adhesion.specs.Constraints.{blank_constraint}
use Rattle.adhesion.specs.declared.TemporaryConstraint.{TemporaryConstraint}
use Rattle.engine_value.specs.Engine.{fresh}
use Rattle.engine_value.specs.declared.Engine.{Engine}
use Rattle.position.specs.declared.Standing.TheVariants.{Unused, Targeted, Passed}
use Rattle.call_values.specs.Call.{Call, refused}
use Rattle.call.specs.Shown.{constraint_in}
use Rattle.call.specs.View.{shown_view}
use Rattle.call.specs.Call.{Outcome, step_of}
use Rattle.call.specs.Trials.{plain, loads, after_each, answered, Gives, power_on, configured, reports, press, mode, lever, train_length, skip, revoke}
use Rattle.call_trials.specs.Journey.{journey, first_as, without_first, journey_held, journey_skips, journey_moved, book, book_with_c, short_records}
use Rattle.call_trials.specs.Calls.{power_off, fault, in_a, in_b, in_c, in_d, undefined, nowhere, report, load, requested, traction, row, slippery, others, lending, Refuses, TurnsDown, answers_to, standings, packet, plain_packet, point, received, not_received}
use Rattle.call_trials.specs.Engines.{on, failed, started, ready, pressed, driving, degraded, stopped, near_b, ended, before_hold, at_hold}

-- ---- Numbers 1 to 6: event, power, state

pub record Refused : Type 0 where
  -- "1 empty, unknown kind or wrong length"
  pub empty : Refuses fresh (plain []) 1
  pub kind_0 : Refuses fresh (plain (0x00 ∷ [])) 1
  pub kind_16 : Refuses fresh (plain (0x10 ∷ [])) 1
  pub power_on_longer : Refuses fresh (plain (0x01 ∷ 0x00 ∷ [])) 1
  pub lever_shorter : Refuses fresh (plain (0x07 ∷ [])) 1
  pub position_shorter : Refuses fresh (plain (0x09 ∷ take 11 (in_a 0 0))) 1
  pub traction_shorter : Refuses fresh (plain (0x0E ∷ 0x65 ∷ take 4 (requested 0))) 1
  -- 02, Q-7: "A length other than 2 + 16 × count gets 1, also for a count over 31"
  pub slippery_alone : Refuses fresh (plain (0x0F ∷ [])) 1
  pub slippery_shorter : Refuses fresh (slippery 1 (take 15 (row 100 250))) 1
  pub slippery_longer : Refuses fresh (slippery 1 (row 100 250 ++ (0x00 ∷ []))) 1
  pub slippery_count : Refuses fresh (slippery 32 (row 100 250)) 1
  -- "a value beyond its range, gets 2"; "21, a row whose start exceeds its end, checked after 2 and before 3"
  pub slippery_country : Refuses fresh (slippery 1 (0x04 ∷ drop 1 (row 100 250))) 2
  pub slippery_start : Refuses fresh (slippery 1 (row 16777216 16777216)) 2
  pub slippery_end : Refuses fresh (slippery 2 (row 251 250 ++ row 0 16777216)) 2
  pub slippery_reversed : Refuses fresh (slippery 2 (row 100 250 ++ row 251 250)) 21
  pub reversed_in_FA : Refuses failed (slippery 1 (row 251 250)) 21
  -- "2 field out of range", and the last values that are within
  pub reports_32 : Refuses fresh (reports 32) 2
  pub mode_2 : Refuses fresh (mode 2) 2
  pub lever_3 : Refuses fresh (lever 3) 2
  pub country_1024 : Refuses fresh (report (0x04 ∷ drop 1 (in_a 0 0))) 2
  pub offset_16777216 : Refuses fresh (report (in_a 16777216 0)) 2
  pub train_of_0 : Refuses fresh (train_length 0) 2
  pub train_of_100001 : Refuses fresh (train_length 100001) 2
  pub traction_101 : Refuses fresh (traction 101 0) 2
  pub traction_minus_101 : Refuses fresh (traction 0x9B 0) 2
  pub traction_minus_100 : Gives (step_of on (traction 0x9C 0)) 1 false []
  pub lever_2 : Gives (step_of on (lever 2)) 1 false []
  pub train_of_1 : Gives (step_of on (train_length 1)) 1 false []
  pub train_of_100000 : Gives (step_of on (train_length 100000)) 1 false []
  -- "3 NP and kind not 1": kinds 2 to 15, whatever is lent
  pub all_in_NP : answers_to fresh (power_off ∷ others) ≡ replicate 14 (refused 3 0)
  pub load_in_NP : Refuses fresh (loads [] (0x00 ∷ [])) 3
  -- "4 kind 1 outside NP"; "5 FA and kind not 3 (kind 1: 4)"
  pub on_in_CO : Refuses on power_on 4
  pub on_in_EG : Refuses driving power_on 4
  pub on_in_FA : Refuses failed power_on 4
  pub all_in_FA : answers_to failed others ≡ replicate 13 (refused 5 0)
  pub load_in_FA : Refuses failed (loads [] (0x00 ∷ [])) 5
  -- "6 kind 2 outside CO, kind 8 outside RE"
  pub configured_in_RE : Refuses ready configured 6
  pub configured_in_EG : Refuses driving configured 6
  pub press_in_CO : Refuses started press 6
  pub press_in_AV : Refuses (after_each ready (lever 1 ∷ [])) press 6
  pub press_in_EG : Refuses driving press 6

-- ---- Numbers 7 to 12: book and journey, with a byte or two of theirs changed

-- with no journey in force and no position
abbrev pub told_nothing : List ℕ
told_nothing = plain_packet 65 nowhere (not_received 1024)

pub record RefusedLoads : Type 0 where
  -- "7 bad map, range or length": bit 5 of a map, bit 2 missing; NID_C 1,058; length 0; R 10,084; 7005 beyond the length; a zone's start behind its end;
  -- the zone's end beyond the length; cut short
  pub map_with_bit_5 : TurnsDown on (loads journey (set book 0 0x2F)) 7 told_nothing
  pub map_without_bit_2 : TurnsDown on (loads journey (set book 83 0x13)) 7 told_nothing
  pub country_in_the_book : TurnsDown on (loads journey (set book 1 0x04)) 7 told_nothing
  pub length_of_0 : TurnsDown on (loads journey (set (set book 92 0x00) 93 0x00)) 7 told_nothing
  pub reach_beyond : TurnsDown on (loads journey (set book 20 0x27)) 7 told_nothing
  pub place_beyond : TurnsDown on (loads journey (set book 27 0x02)) 7 told_nothing
  pub zone_reversed : TurnsDown on (loads journey (set book 77 0x18)) 7 told_nothing
  pub zone_beyond : TurnsDown on (loads journey (set book 80 0x02)) 7 told_nothing
  pub book_cut : TurnsDown on (loads journey (take 102 book)) 7 told_nothing
  -- "8 a segment or, in one record, an NID_TP twice, or over 40"
  pub segment_twice_in_the_book : TurnsDown on (loads journey (set book 2 0x11)) 8 told_nothing
  pub point_twice_in_a_record : TurnsDown on (loads journey (set book 25 0x5C)) 8 told_nothing
  pub records_41 : TurnsDown on (loads journey (short_records 41)) 8 told_nothing
  pub records_40 : Gives (step_of on (loads journey (short_records 40))) 1 false
      (packet 65 nowhere (received 1024)
      ++ packet 68 nowhere (0x08 ∷ 0xC1 ∷ []))
  -- "Book and journey are each checked whole in row order": 7 in the last record before 8 in the first; the book before the journey
  pub book_whole : TurnsDown on (loads journey (set (set book 25 0x5C) 83 0x37)) 7 told_nothing
  pub book_first : TurnsDown on (loads (set journey 0 0x3F) (set book 25 0x5C)) 8 told_nothing
  -- "9 bad map, range or length": bit 5 of the map, bit 1 missing; date, NID_ATOTS; NID_C 1,041; NID_TP FFFFFFFF; alignment 3, stopping data 128;
  -- 7006, no stop, held; 7002, which is no stop, skipped by trackside; a byte less, a byte more
  pub map_of_the_journey : TurnsDown on (loads (set journey 0 0x3F) book) 9 told_nothing
  pub no_stamp : TurnsDown on (loads (set journey 0 0x1D) book) 9 told_nothing
  pub date_beyond : TurnsDown on (loads (set journey 5 0x80) book) 9 told_nothing
  pub atots_beyond : TurnsDown on (loads (set journey 12 0x40) book) 9 told_nothing
  pub country_in_the_journey : TurnsDown on (loads (set journey 15 0x04) book) 9 told_nothing
  pub nidtp_beyond : TurnsDown on (loads (set (set (set (set journey 70 0xFF) 71 0xFF) 72 0xFF) 73 0xFF) book) 9 told_nothing
  pub alignment_3 : TurnsDown on (loads (set journey 47 0x03) book) 9 told_nothing
  pub stopping_beyond : TurnsDown on (loads (set journey 40 0x80) book) 9 told_nothing
  pub held_passing_point : TurnsDown on (loads (set journey 69 0x83) book) 9 told_nothing
  pub skipped_passing_point : TurnsDown on (loads (set journey 41 0x27) book) 9 told_nothing
  pub journey_cut : TurnsDown on (loads (take 74 journey) book) 9 told_nothing
  pub journey_longer : TurnsDown on (loads (journey ++ (0x00 ∷ [])) book) 9 told_nothing
  -- "10 segment twice": C named as B
  pub segment_twice : TurnsDown on (loads (set journey 32 0xF4) book) 10 told_nothing
  -- "11 index beyond, NID_TP twice, not just one End of Journey, or a booked segment without the point": 7006 in a fourth segment, or named 7001;
  -- 7006 an End of Journey too, or 7004 none; 7005 named 7007
  pub index_beyond_lem : TurnsDown on (loads (set journey 74 0x03) book) 11 told_nothing
  pub point_twice : TurnsDown on (loads (set journey 73 0x59) book) 11 told_nothing
  pub two_ends : TurnsDown on (loads (set journey 69 0x53) book) 11 told_nothing
  pub no_end : TurnsDown on (loads (set journey 55 0x1F) book) 11 told_nothing
  pub point_not_in_the_book : TurnsDown on (loads (set journey 67 0x5F) book) 11 told_nothing
  -- "12 index falls, or placed points do not strictly rise": 7003 in C, before 7004 in B; 7001 at the place of 7002, and 1 cm before it
  pub index_falls : TurnsDown on (loads (set journey 53 0x02) book) 12 told_nothing
  pub places_equal : TurnsDown on (loads journey (set (set book 60 0x9C) 61 0x40)) 12 told_nothing
  pub places_rise : standings (after_each on (loads journey (set (set book 60 0x9C) 61 0x3F) ∷ []))
      ≡ Targeted ∷ Unused ∷ Unused ∷ Unused ∷ Unused ∷ Unused ∷ []

-- ---- 02, Q-4: profiles turned down

pub record TurnedDown : Type 0 where
  -- "the header of the engine as it stands, the content's NID_C by 01's rule against the journey in force": no position; in A; at the stop in B; in C, which
  -- is not in the book; with the offset undefined; in D, which is not in the journey; with no journey in A, which is in the one that is turned down
  pub nowhere_lem : TurnsDown started (loads [] book) 9 (packet 65 nowhere (not_received 1024))
  pub in_A : TurnsDown stopped (loads journey (take 102 book)) 7 (packet 65 (in_a 19900 0) (not_received 17))
  pub in_B : TurnsDown ended (loads (set journey 67 0x5F) book) 11 (packet 65 (in_b 11000 0) (not_received 34))
  pub in_C : TurnsDown (after_each started (report (in_c 10 7) ∷ [])) (loads [] book) 9 (packet 65 (in_c 10 7) (not_received 1024))
  pub undefined_in_A : TurnsDown (after_each started (report (in_a undefined 7) ∷ [])) (loads [] book) 9 (packet 65 (in_a undefined 7) (not_received 1024))
  pub in_D : TurnsDown (after_each started (report (in_d 1001 0) ∷ [])) (loads journey (short_records 41)) 8 (packet 65 (in_d 1001 0) (not_received 1024))
  pub in_the_other : TurnsDown (after_each on (report (in_a 19900 0) ∷ [])) (loads (set journey 53 0x02) book) 12 (plain_packet 65 (in_a 19900 0) (not_received 1024))
  -- in RE with a press pending, EG and DE: state, press and request stay
  pub in_RE : TurnsDown pressed (loads (set journey 53 0x02) book) 12 (packet 65 (in_a 10000 0) (not_received 17))
  pub in_EG : TurnsDown driving (loads (set journey 32 0xF4) book) 10 (packet 65 (in_a 10000 0) (not_received 17))
  pub in_DE : TurnsDown degraded (loads [] book) 9 (packet 65 (in_a 10000 0) (not_received 17))
  -- turned down twice, then taken: the packets of an accepted load follow as ever
  pub twice_lem : TurnsDown (after_each on (loads [] book ∷ [])) (loads journey (set book 2 0x11)) 8 told_nothing
  pub then_taken : Gives (step_of (after_each on (loads [] book ∷ [])) load) 1 false
      (packet 65 nowhere (received 1024)
      ++ packet 68 nowhere (0x09 ∷ 0xC1 ∷ []))
  -- "If even that does not fit, nothing is written and the same number returns": memories of 0, 28, 29 and 30 bytes; 16 where the profiles are good
  pub no_memory_lem : Refuses on (lending 0 (loads (set journey 0 0x3F) book)) 9
  pub bytes_28 : Refuses on (lending 28 (loads (set journey 0 0x3F) book)) 9
  pub bytes_29 : TurnsDown on (lending 29 (loads (set journey 0 0x3F) book)) 9 told_nothing
  pub bytes_30 : TurnsDown on (lending 30 (loads (set journey 0 0x3F) book)) 9 told_nothing
  pub good_in_29 : Refuses on (lending 29 load) 16
  -- no other refusal writes: the profiles are bad, but an earlier row refuses
  pub bad_in_NP : Refuses fresh (loads [] book) 3
  pub bad_in_FA : Refuses failed (loads [] book) 5
  pub event_longer : Refuses on (record { event = 0x0B ∷ 0x00 ∷ []; journey = []; book = book; memory = load.memory }) 1

-- ---- 02, Q-5: held at a stop

pub record Held : Type 0 where
  -- "When a held stop becomes reached, packet 62 with status 3 follows the one with status 1": stopping data 0
  pub reached : Gives (step_of before_hold (report (in_a 19850 0))) 4 true
      (packet 62 (in_a 19850 0) (point 17 7001 0x09 0x55)
      ++ packet 62 (in_a 19850 0) (point 17 7001 0x19 0x00))
  pub reached_in_EG : Gives (step_of (after_each before_hold (press ∷ mode 1 ∷ [])) (report (in_a 19850 0))) 3 true
      (packet 62 (in_a 19850 0) (point 17 7001 0x09 0x55)
      ++ (packet 62 (in_a 19850 0) (point 17 7001 0x19 0x00)
      ++ packet 68 (in_a 19850 0) (0x1F ∷ 0xF3 ∷ [])))
  pub departed : Gives (step_of at_hold (report (in_a 20151 1))) 4 true
      (packet 62 (in_a 20151 1) (point 17 7001 0x11 0x00)
      ++ packet 68 (in_a 20151 1) (0x1F ∷ 0xF4 ∷ []))
  -- skipped by trackside, too, it is never reached
  pub held_and_skipped : Gives (step_of (after_each on (loads (first_as 0xBB) book ∷ [])) (report (in_a 19900 0))) 1 false (packet 68 (in_a 19900 0) (0x0D ∷ 0xC1 ∷ []))
  -- "20, a press at a held stop, checked right after 6": in RE; while it creeps; with the position unknown, in C; in AV. At a stop that is not held; targeted
  pub press_there : Refuses at_hold press 20
  pub press_creeping : Refuses (after_each at_hold (report (in_a 19800 1) ∷ [])) press 20
  pub press_unknown : Refuses (after_each at_hold (report (in_c 5 0) ∷ [])) press 20
  pub press_in_AV : Refuses (after_each at_hold (lever 1 ∷ [])) press 6
  pub press_unheld : Gives (step_of (after_each ready (report (in_a 19900 0) ∷ [])) press) 4 true []
  pub press_before : Gives (step_of before_hold press) 4 true []
  -- a press that is pending when the held stop becomes reached engages
  pub press_pending : Gives (step_of (after_each before_hold (press ∷ report (in_a 19900 0) ∷ [])) (mode 1)) 5 true (packet 68 (in_a 19900 0) (0x1F ∷ 0xF5 ∷ []))
  -- "If an accepted load comes while a held stop is reached, and the new journey has its NID_TP unheld or lacks it, status 4 is written after packet 65": a
  -- stop, a passing point, a stop that trackside skips, none; targeted before
  pub unheld : Gives (step_of at_hold load) 4 true
      (packet 65 (in_a 19900 0) (received 17)
      ++ packet 62 (in_a 19900 0) (point 17 7001 0x21 0x00))
  pub passing : Gives (step_of at_hold (loads (first_as 0x0B) book)) 4 true
      (packet 65 (in_a 19900 0) (received 17)
      ++ packet 62 (in_a 19900 0) (point 17 7001 0x21 0x00))
  pub skipped : Gives (step_of at_hold (loads (first_as 0x3B) book)) 4 true
      (packet 65 (in_a 19900 0) (received 17)
      ++ (packet 62 (in_a 19900 0) (point 17 7001 0x21 0x00)
      ++ packet 62 (in_a 19900 0) (point 17 7001 0x39 0x00)))
  pub lacking : Gives (step_of at_hold (loads without_first book)) 4 true
      (packet 65 (in_a 19900 0) (received 17)
      ++ packet 62 (in_a 19900 0) (point 17 7001 0x21 0x00))
  pub targeted : Gives (step_of before_hold load) 4 true (packet 65 (in_a 10000 0) (received 17))
  -- the hold is kept: no 4, a press is taken until the stop is reached again, and both are written again
  pub kept : Gives (step_of at_hold (loads journey_held book)) 4 true (packet 65 (in_a 19900 0) (received 17))
  pub kept_press : Gives (step_of (after_each at_hold (loads journey_held book ∷ [])) press) 4 true []
  pub kept_again : Gives (step_of (after_each at_hold (loads journey_held book ∷ press ∷ [])) (report (in_a 19900 0))) 4 true
      (packet 62 (in_a 19900 0) (point 17 7001 0x09 0x55)
      ++ packet 62 (in_a 19900 0) (point 17 7001 0x19 0x00))
  pub kept_skipped : Gives (step_of at_hold (loads (first_as 0xBB) book)) 4 true
      (packet 65 (in_a 19900 0) (received 17)
      ++ packet 62 (in_a 19900 0) (point 17 7001 0x39 0x00))
  -- profiles turned down, power off and a fault end no hold
  pub turned_down_there : TurnsDown at_hold (loads [] book) 9 (packet 65 (in_a 19900 0) (not_received 17))
  pub off_there : Gives (step_of at_hold power_off) 0 false (plain_packet 68 nowhere (0x08 ∷ 0x00 ∷ []))
  pub fault_there : Gives (step_of at_hold fault) 7 false (packet 68 (in_a 19900 0) (0x1F ∷ 0xF7 ∷ []))
  -- "16 shorter than this event's packets": two packets 62 have 50 bytes; 65 and 62 have 54
  pub bytes_49 : Refuses before_hold (lending 49 (report (in_a 19850 0))) 16
  pub bytes_53 : Refuses at_hold (lending 53 load) 16

-- ---- 02, Q-6: skips by the trackside

-- 7002 gains the skip, 7003 loses it: status 7 and 8, with Q_EOJ_REACHED q
abbrev pub both_told : List ℕ → ℕ → List ℕ
both_told x q = packet 62 x (point 17 7002 (0x3A + q) 0x00) ++ packet 62 x (point 17 7003 (0x44 + q) 0x00)

pub record Trackside : Type 0 where
  -- "each point whose NID_TP is in both journeys and that gained the trackside skip writes packet 62 with status 7, and each that lost it status 8": a passing
  -- point that becomes a skipped stop, and a skipped stop that becomes one, with stopping data 0. And back
  pub given : Gives (step_of ready (loads journey_skips book)) 4 true (packet 65 (in_a 10000 0) (received 17) ++ both_told (in_a 10000 0) 1)
  pub back : Gives (step_of (after_each ready (loads journey_skips book ∷ [])) load) 4 true
      (packet 65 (in_a 10000 0) (received 17)
      ++ (packet 62 (in_a 10000 0) (point 17 7002 0x43 0x00)
      ++ packet 62 (in_a 10000 0) (point 17 7003 0x3D 0x00)))
  pub again : Gives (step_of (after_each ready (loads journey_skips book ∷ [])) (loads journey_skips book)) 4 true (packet 65 (in_a 10000 0) (received 17))
  -- a stop, with stopping data in the journey; one that is not placed
  pub stop : Gives (step_of ready (loads (first_as 0x3B) book)) 4 true
      (packet 65 (in_a 10000 0) (received 17)
      ++ packet 62 (in_a 10000 0) (point 17 7001 0x39 0x00))
  pub unplaced : Gives (step_of ready (loads (set journey 69 0x33) book)) 4 true
      (packet 65 (in_a 10000 0) (received 17)
      ++ packet 62 (in_a 10000 0) (point 34 7006 0x39 0x00))
  -- "also where the load puts it behind"; Q_EOJ_REACHED of the new journey after the load: all but 7006 are behind
  pub behind : Gives (step_of (after_each near_b (report (in_b 80000 1) ∷ [])) (loads journey_skips book)) 1 false
      (packet 65 (in_b 80000 1) (received 34) ++ both_told (in_b 80000 1) 0)
  -- the End of Journey is reached before the load, and after it none is
  pub ended_before : Gives (step_of ended (loads journey_skips book)) 1 false
      (packet 65 (in_b 11000 0) (received 34)
      ++ (both_told (in_b 11000 0) 1
      ++ packet 68 (in_b 11000 0) (0x0D ∷ 0xC1 ∷ [])))
  -- "the new point's fields", and the header after the load: NID_OPERATIONAL 12345679, 7002 rear
  pub renewed : Gives (step_of ready (loads (set (set journey_skips 47 0x02) 4 0x79) book)) 4 true
      (65 ∷ (in_a 10000 0 ++ (0x12 ∷ 0x34 ∷ 0x56 ∷ 0x79 ∷ received 17))
      ++ (62 ∷ (in_a 10000 0 ++ (0x12 ∷ 0x34 ∷ 0x56 ∷ 0x79 ∷ point 17 7002 0x3D 0x00))
      ++ (62 ∷ (in_a 10000 0 ++ (0x12 ∷ 0x34 ∷ 0x56 ∷ 0x79 ∷ point 17 7003 0x45 0x00)))))
  -- now in C, in the other country, behind the others
  pub moved : Gives (step_of ready (loads journey_moved book)) 4 true
      (packet 65 (in_a 10000 0) (received 17)
      ++ packet 62 (in_a 10000 0) (point 34 7001 0x39 0x00))
  -- "A first journey writes neither", also the first after power off
  pub first : Gives (step_of on (loads journey_skips book)) 1 false
      (packet 65 nowhere (received 1024)
      ++ packet 68 nowhere (0x09 ∷ 0xC1 ∷ []))
  pub first_again : Gives (step_of (after_each ready (power_off ∷ power_on ∷ [])) (loads journey_skips book)) 1 false
      (packet 65 nowhere (received 1024)
      ++ packet 68 nowhere (0x09 ∷ 0xC1 ∷ []))
  -- a driver skip does not count: neither 7001 nor 7003 has the trackside skip by it, or loses it with it
  pub driver_skip : Gives (step_of (after_each ready (skip 7001 ∷ [])) (loads (first_as 0x3B) book)) 4 true
      (packet 65 (in_a 10000 0) (received 17)
      ++ packet 62 (in_a 10000 0) (point 17 7001 0x39 0x00))
  pub driver_skip_too : Gives (step_of (after_each ready (skip 7003 ∷ [])) (loads journey_skips book)) 4 true
      (packet 65 (in_a 10000 0) (received 17) ++ both_told (in_a 10000 0) 1)
  pub driver_skip_lost : Gives (step_of (after_each ready (skip 7001 ∷ [])) load) 4 true (packet 65 (in_a 10000 0) (received 17))
  -- profiles turned down tell of none; the old journey is the one in force
  pub turned_down_there : TurnsDown ready (loads (set journey_skips 74 0x03) book) 11 (packet 65 (in_a 10000 0) (not_received 17))
  pub turned_down_before : Gives (step_of (after_each ready (loads [] book ∷ [])) (loads journey_skips book)) 4 true
      (packet 65 (in_a 10000 0) (received 17) ++ both_told (in_a 10000 0) 1)
  -- "16 shorter than this event's packets": 65 and two 62 have 79 bytes
  pub bytes_78 : Refuses ready (lending 78 (loads journey_skips book)) 16

-- ---- Numbers 13 to 16: position, skip, output

pub record RefusedLater : Type 0 where
  -- "13 journey segment that is in the book, offset defined and beyond its length"; C is not in the book, D is not in the journey
  pub beyond_A : Refuses started (report (in_a 100001 0)) 13
  pub beyond_B : Refuses started (report (in_b 80001 0)) 13
  pub end_of_A : Gives (step_of stopped (report (in_a 100000 0))) 1 false []
  pub end_of_B : Gives (step_of stopped (report (in_b 80000 0))) 1 false []
  pub far_in_C : Gives (step_of started (report (in_c 16777214 0))) 1 false (packet 68 (in_c 16777214 0) (0x0D ∷ 0xC1 ∷ []))
  pub far_in_D : Gives (step_of started (report (in_d 1001 0))) 1 false []
  pub undefined_in_A : Gives (step_of started (report (in_a undefined 0))) 1 false []
  pub no_journey : Gives (step_of on (report (in_a 100001 0))) 1 false []
  -- "14 no stop of that name": a passing point, no point, no journey
  pub skip_of_7002 : Refuses started (skip 7002) 14
  pub revoke_of_7002 : Refuses started (revoke 7002) 14
  pub skip_of_7007 : Refuses started (skip 7007) 14
  pub skip_of_FFFFFFFF : Refuses started (skip 0xFFFFFFFF) 14
  pub skip_with_no_journey : Refuses on (skip 7001) 14
  -- "15 point reached or passed, driver skip already given, or no driver skip to revoke (a trackside skip counts for neither)"
  pub skip_of_a_reached : Refuses stopped (skip 7001) 15
  pub skip_crept_at : Refuses (after_each stopped (report (in_a undefined 1) ∷ [])) (skip 7001) 15
  pub skip_of_a_passed : Refuses near_b (skip 7001) 15
  pub skip_given_lem : Refuses (after_each started (skip 7001 ∷ [])) (skip 7001) 15
  pub none_to_revoke : Refuses started (revoke 7001) 15
  pub revoked_before : Refuses (after_each started (skip 7001 ∷ revoke 7001 ∷ [])) (revoke 7001) 15
  pub revoke_of_a_passed : Refuses (after_each started (skip 7001 ∷ report (in_a 20001 1) ∷ [])) (revoke 7001) 15
  pub trackside_not_revoked : Refuses started (revoke 7003) 15
  pub trackside_and_driver : Gives (step_of started (skip 7003)) 1 false (packet 62 nowhere (point 17 7003 0x2D 0x00))
  pub trackside_and_revoked : Gives (step_of (after_each started (skip 7003 ∷ [])) (revoke 7003)) 1 false (packet 62 nowhere (point 17 7003 0x35 0x00))
  -- "16 shorter than this event's packets": one byte less; no packet, no memory; the other numbers come first
  pub load_16 : Refuses on (lending 47 load) 16
  pub report_16 : Refuses started (lending 93 (report (in_a 90000 1))) 16
  pub skip_16 : Refuses started (lending 24 (skip 7001)) 16
  pub load_enough : (step_of on (lending 48 load)).answer ≡ answered 1 false 48
  pub no_memory : (step_of on (lending 0 (train_length 1))).answer ≡ answered 1 false 0

-- ---- "States", and the request

pub record States : Type 0 where
  -- "power on gives CO; CO waits for configured, then U"; "U be NA if not O"
  pub NA : Gives (step_of on configured) 2 false (plain_packet 68 nowhere (0x08 ∷ 0x02 ∷ []))
  pub NA_with_journey : Gives (step_of started configured) 2 false (packet 68 nowhere (0x09 ∷ 0xC2 ∷ []))
  -- "RE if O, T, N and mode other; else AV": T, N, mode
  pub RE : Gives (step_of (after_each started (report (in_a 10000 0) ∷ reports 31 ∷ [])) configured) 4 true (packet 68 (in_a 10000 0) (0x1F ∷ 0xF4 ∷ []))
  pub AV : Gives (step_of (after_each started (report (in_a 10000 0) ∷ reports 15 ∷ [])) configured) 3 false (packet 68 (in_a 10000 0) (0x1F ∷ 0xF3 ∷ []))
  pub RE_to_AV : Gives (step_of ready (lever 1)) 3 false (packet 68 (in_a 10000 0) (0x1F ∷ 0xF3 ∷ []))
  pub RE_to_AV_by_AD : Gives (step_of ready (mode 1)) 3 true (packet 68 (in_a 10000 0) (0x1F ∷ 0xF3 ∷ []))
  pub RE_to_NA : Gives (step_of ready (reports 30)) 2 false (packet 68 (in_a 10000 0) (0x1F ∷ 0xE2 ∷ []))
  pub AV_to_RE : Gives (step_of (after_each ready (lever 2 ∷ [])) (lever 0)) 4 true (packet 68 (in_a 10000 0) (0x1F ∷ 0xF4 ∷ []))
  pub AV_to_NA : Gives (step_of (after_each ready (lever 2 ∷ [])) (reports 29)) 2 false (packet 68 (in_a 10000 0) (0x1F ∷ 0xD2 ∷ []))
  pub NA_to_RE : Gives (step_of (after_each ready (reports 30 ∷ [])) (reports 31)) 4 true (packet 68 (in_a 10000 0) (0x1F ∷ 0xF4 ∷ []))
  -- "RE: with a press pending, O, T, N and AD: EG, which uses the press up; else U, a press kept only if RE stays"
  pub pressing : Gives (step_of ready press) 4 true []
  pub EG : Gives (step_of pressed (mode 1)) 5 true (packet 68 (in_a 10000 0) (0x1F ∷ 0xF5 ∷ []))
  pub press_kept : Gives (step_of (after_each pressed (report (in_a 11000 1) ∷ [])) (mode 1)) 5 true (packet 68 (in_a 11000 1) (0x1F ∷ 0xF5 ∷ []))
  pub press_used_up : Gives (step_of (after_each driving (mode 0 ∷ [])) (mode 1)) 3 true (packet 68 (in_a 10000 0) (0x1F ∷ 0xF3 ∷ []))
  pub press_lost : Gives (step_of (after_each pressed (lever 1 ∷ lever 0 ∷ [])) (mode 1)) 3 true (packet 68 (in_a 10000 0) (0x1F ∷ 0xF3 ∷ []))
  -- "EG: lever at brake, mode other, or a point reached in this event (..): U; else not O or not T: DE; else EG."
  pub EG_traction : Gives (step_of driving (lever 1)) 5 true []
  pub EG_passes : Gives (step_of driving (report (in_a 40501 900))) 5 true
      (packet 62 (in_a 40501 900) (point 17 7001 0x01 0x00)
      ++ packet 62 (in_a 40501 900) (point 17 7002 0x03 0x00))
  pub EG_brake : Gives (step_of driving (lever 2)) 3 false (packet 68 (in_a 10000 0) (0x1F ∷ 0xF3 ∷ []))
  pub EG_other : Gives (step_of driving (mode 0)) 4 true (packet 68 (in_a 10000 0) (0x1F ∷ 0xF4 ∷ []))
  pub EG_reached : Gives (step_of driving (report (in_a 19850 0))) 3 true
      (packet 62 (in_a 19850 0) (point 17 7001 0x09 0x55)
      ++ packet 68 (in_a 19850 0) (0x1F ∷ 0xF3 ∷ []))
  pub EG_end_reached : Gives (step_of (after_each driving (report (in_a 90000 900) ∷ [])) (report (in_b 11000 0))) 2 false
      (packet 62 (in_b 11000 0) (point 34 7004 0x0C 0x11)
      ++ packet 68 (in_b 11000 0) (0x1F ∷ 0xB2 ∷ []))
  pub EG_end_passed : Gives (step_of (after_each driving (report (in_a 90000 900) ∷ [])) (report (in_b 12000 900))) 6 true
      (packet 62 (in_b 12000 900) (point 34 7004 0x04 0x00)
      ++ packet 68 (in_b 12000 900) (0x1F ∷ 0xB6 ∷ []))
  pub EG_not_O : Gives (step_of driving (reports 30)) 6 true (packet 68 (in_a 10000 0) (0x1F ∷ 0xE6 ∷ []))
  pub EG_not_T : Gives (step_of driving (reports 15)) 6 true (packet 68 (in_a 10000 0) (0x1F ∷ 0xF6 ∷ []))
  -- "DE: lever at brake or mode other: U; else DE."
  pub DE_again : Gives (step_of degraded (reports 31)) 6 true (packet 68 (in_a 10000 0) (0x1F ∷ 0xF6 ∷ []))
  pub DE_traction : Gives (step_of degraded (lever 1)) 6 true []
  pub DE_reached : Gives (step_of degraded (report (in_a 19850 0))) 6 true (packet 62 (in_a 19850 0) (point 17 7001 0x09 0x55))
  pub DE_brake : Gives (step_of (after_each degraded (reports 31 ∷ [])) (lever 2)) 3 false (packet 68 (in_a 10000 0) (0x1F ∷ 0xF3 ∷ []))
  pub DE_brake_not_O : Gives (step_of degraded (lever 2)) 2 false (packet 68 (in_a 10000 0) (0x1F ∷ 0xE2 ∷ []))
  pub DE_other : Gives (step_of (after_each degraded (reports 31 ∷ [])) (mode 0)) 4 true (packet 68 (in_a 10000 0) (0x1F ∷ 0xF4 ∷ []))
  -- "AD request (..): wanted in RE, EG, DE, and in AV with AD and N; given if wanted and (given before or mode other)"
  pub neutral_in_AD : Gives (step_of (after_each driving (lever 2 ∷ [])) (lever 0)) 3 false []
  pub traction_in_AV : Gives (step_of (after_each driving (report (in_a 19850 0) ∷ [])) (lever 1)) 3 false []
  -- "fault gives FA until power off"; "Power off returns to fresh."
  pub FA : Gives (step_of driving fault) 7 false (packet 68 (in_a 10000 0) (0x1F ∷ 0xF7 ∷ []))
  pub FA_from_CO : Gives (step_of on fault) 7 false (plain_packet 68 nowhere (0x08 ∷ 0x07 ∷ []))
  pub NP_from_FA : Gives (step_of failed power_off) 0 false (plain_packet 68 nowhere (0x08 ∷ 0x00 ∷ []))
  pub NP_from_EG : Gives (step_of driving power_off) 0 false (plain_packet 68 nowhere (0x08 ∷ 0x00 ∷ []))
  -- "Written when state or conditions changed, or speed rose from 0 while not EG afterwards"
  pub starts_in_RE : Gives (step_of ready (report (in_a 10000 1))) 4 true (packet 68 (in_a 10000 1) (0x1F ∷ 0xF4 ∷ []))
  pub starts_in_EG : Gives (step_of driving (report (in_a 10000 1))) 5 true []
  pub starts_in_DE : Gives (step_of degraded (report (in_a 10000 1))) 6 true (packet 68 (in_a 10000 1) (0x1F ∷ 0xE6 ∷ []))
  pub goes_on : Gives (step_of (after_each ready (report (in_a 10000 1) ∷ [])) (report (in_a 10001 2))) 4 true []

-- ---- "Nine conditions", in packets 68

pub record Conditions : Type 0 where
  -- "0, 1, 5, 8 are report bits 0, 1, 2, 3"; "T is report bit 4". "With no journey 2, 3, 4, 6 are 0 and 7 is 1."
  pub report_bit_0 : Gives (step_of on (reports 1)) 1 false (plain_packet 68 nowhere (0x08 ∷ 0x11 ∷ []))
  pub report_bit_1 : Gives (step_of on (reports 2)) 1 false (plain_packet 68 nowhere (0x08 ∷ 0x21 ∷ []))
  pub report_bit_2 : Gives (step_of on (reports 4)) 1 false (plain_packet 68 nowhere (0x0A ∷ 0x01 ∷ []))
  pub report_bit_3 : Gives (step_of on (reports 8)) 1 false (plain_packet 68 nowhere (0x18 ∷ 0x01 ∷ []))
  pub report_bit_4 : Gives (step_of on (reports 16)) 1 false []
  pub no_journey : Gives (step_of on (report (in_a 5500 1))) 1 false (plain_packet 68 (in_a 5500 1) (0x08 ∷ 0x01 ∷ []))
  -- "7: not within a zone of a journey segment in the book, both ends inside": A's from 5,000 to 6,000; at 5,500 of B; D's
  pub before_zone : Gives (step_of started (report (in_a 4999 0))) 1 false (packet 68 (in_a 4999 0) (0x0D ∷ 0xC1 ∷ []))
  pub zone_start : Gives (step_of started (report (in_a 5000 0))) 1 false (packet 68 (in_a 5000 0) (0x05 ∷ 0xC1 ∷ []))
  pub zone_end : Gives (step_of started (report (in_a 6000 0))) 1 false (packet 68 (in_a 6000 0) (0x05 ∷ 0xC1 ∷ []))
  pub after_zone : Gives (step_of started (report (in_a 6001 0))) 1 false (packet 68 (in_a 6001 0) (0x0D ∷ 0xC1 ∷ []))
  pub same_offset_in_B : Gives (step_of near_b (report (in_b 5500 1))) 1 false []
  pub zone_in_D : Gives (step_of near_b (report (in_d 500 1))) 1 false (packet 68 (in_d 500 1) (0x09 ∷ 0xC1 ∷ []))
  -- "6: offset defined and its segment in the journey": C, though it is not in the book
  pub in_C : Gives (step_of started (report (in_c 5500 0))) 1 false (packet 68 (in_c 5500 0) (0x0D ∷ 0xC1 ∷ []))
  pub undefined_offset : Gives (step_of near_b (report (in_a undefined 1))) 1 false (packet 68 (in_a undefined 1) (0x09 ∷ 0xC1 ∷ []))
  -- "2: End of Journey neither reached nor passed."
  pub end_reached : Gives (step_of near_b (report (in_b 11000 0))) 1 false
      (packet 62 (in_b 11000 0) (point 34 7004 0x0C 0x11)
      ++ packet 68 (in_b 11000 0) (0x0D ∷ 0x81 ∷ []))
  pub end_passed : Gives (step_of near_b (report (in_b 12000 1))) 1 false
      (packet 62 (in_b 12000 1) (point 34 7004 0x04 0x00)
      ++ packet 68 (in_b 12000 1) (0x0D ∷ 0x81 ∷ []))
  -- "4: first point not passed is placed, or none is left": 7006 comes, which is not placed. "3: last point not passed": 7006 placed by the later book
  pub unplaced_next : Gives (step_of near_b (report (in_b 75301 1))) 1 false
      (packet 62 (in_b 75301 1) (point 34 7004 0x04 0x00)
      ++ (packet 62 (in_b 75301 1) (point 34 7005 0x00 0x00)
      ++ packet 68 (in_b 75301 1) (0x0C ∷ 0x81 ∷ [])))
  pub placed_next : Gives (step_of (after_each on (report (in_b 70000 1) ∷ loads journey book_with_c ∷ [])) (report (in_b 75301 1))) 1 false
      (packet 62 (in_b 75301 1) (point 34 7005 0x00 0x00))
  pub at_last : Gives (step_of (after_each on (report (in_b 80000 1) ∷ loads journey book_with_c ∷ [])) (report (in_c 0 1))) 1 false []
  pub last_passed : Gives (step_of (after_each on (report (in_b 80000 1) ∷ loads journey book_with_c ∷ [])) (report (in_c 1 1))) 1 false
      (packet 62 (in_c 1 1) (point 34 7006 0x00 0x00)
      ++ packet 68 (in_c 1 1) (0x0D ∷ 0x01 ∷ []))

-- ---- "Timing points", in packets 62

pub record Points : Type 0 where
  -- "an unskipped stop with speed 0 and d ≥ −R is reached"; "d > margin, it is passed": 7001 at 20,000, R 150
  pub too_far : Gives (step_of started (report (in_a 19849 0))) 1 false (packet 68 (in_a 19849 0) (0x0D ∷ 0xC1 ∷ []))
  pub reached : Gives (step_of started (report (in_a 19850 0))) 1 false
      (packet 62 (in_a 19850 0) (point 17 7001 0x09 0x55)
      ++ packet 68 (in_a 19850 0) (0x0D ∷ 0xC1 ∷ []))
  pub moving : Gives (step_of started (report (in_a 20150 1))) 1 false (packet 68 (in_a 20150 1) (0x0D ∷ 0xC1 ∷ []))
  pub at_margin : Gives (step_of started (report (in_a 20150 0))) 1 false
      (packet 62 (in_a 20150 0) (point 17 7001 0x09 0x55)
      ++ packet 68 (in_a 20150 0) (0x0D ∷ 0xC1 ∷ []))
  pub past_margin : Gives (step_of started (report (in_a 20151 0))) 1 false
      (packet 62 (in_a 20151 0) (point 17 7001 0x01 0x00)
      ++ packet 68 (in_a 20151 0) (0x0D ∷ 0xC1 ∷ []))
  -- "(a) a reached point ..: departed, it is passed", 02, Q-3, "only by a report with speed above 0, a known position and d greater than R"
  pub departs : Gives (step_of stopped (report (in_a 20151 1))) 1 false
      (packet 62 (in_a 20151 1) (point 17 7001 0x11 0x00)
      ++ packet 68 (in_a 20151 1) (0x0D ∷ 0xC1 ∷ []))
  -- "Until then .. it stays reached, also behind −R or with an undefined position"; each start from speed 0 writes 68, and it alone
  pub still_reached : Gives (step_of stopped (report (in_a 30000 0))) 1 false []
  pub creeps : Gives (step_of stopped (report (in_a 20150 1))) 1 false (packet 68 (in_a 20150 1) (0x0D ∷ 0xC1 ∷ []))
  pub creeps_on : Gives (step_of (after_each stopped (report (in_a 20150 1) ∷ [])) (report (in_a 19849 2))) 1 false []
  pub creeps_unknown : Gives (step_of stopped (report (in_a undefined 1))) 1 false (packet 68 (in_a undefined 1) (0x09 ∷ 0xC1 ∷ []))
  pub creeps_in_C : Gives (step_of stopped (report (in_c 5 1))) 1 false (packet 68 (in_c 5 1) (0x0D ∷ 0xC1 ∷ []))
  pub departs_later : Gives (step_of (after_each stopped (report (in_a undefined 1) ∷ report (in_a 30000 0) ∷ [])) (report (in_a 30000 1))) 1 false
      (packet 62 (in_a 30000 1) (point 17 7001 0x11 0x00)
      ++ packet 68 (in_a 30000 1) (0x0D ∷ 0xC1 ∷ []))
  pub departs_and_passes : Gives (step_of stopped (report (in_a 40501 1))) 1 false
      (packet 62 (in_a 40501 1) (point 17 7001 0x11 0x00)
      ++ (packet 62 (in_a 40501 1) (point 17 7002 0x03 0x00)
      ++ packet 68 (in_a 40501 1) (0x0D ∷ 0xC1 ∷ [])))
  -- "half rounded down for middle": 500 of 1,001. The margin of a passing point is 0: 7002 at 40,000, R 50
  pub middle : Gives (step_of (after_each started (report (in_a 30000 1) ∷ [])) (report (in_a 40500 1))) 1 false []
  pub middle_passed : Gives (step_of (after_each started (report (in_a 30000 1) ∷ [])) (report (in_a 40501 1))) 1 false
      (packet 62 (in_a 40501 1) (point 17 7002 0x03 0x00))
  -- "1 rear". "a stop that is not skipped (by trackside or driver), else 0": 7003 at 60,000, R 200
  pub rear : Gives (step_of (after_each started (report (in_a 50000 0) ∷ [])) (report (in_a 61001 0))) 1 false []
  pub rear_passed : Gives (step_of (after_each started (report (in_a 50000 0) ∷ [])) (report (in_a 61002 0))) 1 false
      (packet 62 (in_a 61002 0) (point 17 7003 0x05 0x00))
  -- "both counted from the journey's start". "62: point's NID_C": points of A, the train in B
  pub from_B : Gives (step_of started (report (in_b 0 1))) 1 false
      (packet 62 (in_b 0 1) (point 17 7001 0x01 0x00)
      ++ (packet 62 (in_b 0 1) (point 17 7002 0x03 0x00)
      ++ (packet 62 (in_b 0 1) (point 17 7003 0x05 0x00)
      ++ packet 68 (in_b 0 1) (0x0D ∷ 0xC1 ∷ []))))
  -- 7004, the End of Journey, in B at 10,000, rear, R 100: "Q_EOJ_REACHED (after that change; 0 once the End of Journey is reached or passed, else 1)"
  pub end_too_far : Gives (step_of near_b (report (in_b 10900 0))) 1 false []
  pub end_reached : Gives (step_of near_b (report (in_b 10901 0))) 1 false
      (packet 62 (in_b 10901 0) (point 34 7004 0x0C 0x11)
      ++ packet 68 (in_b 10901 0) (0x0D ∷ 0x81 ∷ []))
  pub end_at_margin : Gives (step_of near_b (report (in_b 11101 0))) 1 false
      (packet 62 (in_b 11101 0) (point 34 7004 0x0C 0x11)
      ++ packet 68 (in_b 11101 0) (0x0D ∷ 0x81 ∷ []))
  pub end_passed : Gives (step_of near_b (report (in_b 11102 0))) 1 false
      (packet 62 (in_b 11102 0) (point 34 7004 0x04 0x00)
      ++ packet 68 (in_b 11102 0) (0x0D ∷ 0x81 ∷ []))
  pub end_departed : Gives (step_of ended (report (in_b 20000 1))) 1 false
      (packet 62 (in_b 20000 1) (point 34 7004 0x14 0x00)
      ++ packet 68 (in_b 20000 1) (0x0D ∷ 0x81 ∷ []))
  pub in_order : Gives (step_of (after_each started (report (in_a 50000 1) ∷ [])) (report (in_b 11000 0))) 1 false
      (packet 62 (in_b 11000 0) (point 17 7003 0x05 0x00)
      ++ (packet 62 (in_b 11000 0) (point 34 7004 0x0C 0x11)
      ++ packet 68 (in_b 11000 0) (0x0D ∷ 0x81 ∷ [])))
  -- 7005 behind it, R 300; then 7006, which is not placed
  pub behind_the_end : Gives (step_of (after_each ended (report (in_b 20000 1) ∷ [])) (report (in_b 74700 0))) 1 false
      (packet 62 (in_b 74700 0) (point 34 7005 0x08 0x00))
  pub no_further : Gives (step_of ended (report (in_b 80000 1))) 1 false
      (packet 62 (in_b 80000 1) (point 34 7004 0x14 0x00)
      ++ (packet 62 (in_b 80000 1) (point 34 7005 0x00 0x00)
      ++ packet 68 (in_b 80000 1) (0x0C ∷ 0x81 ∷ [])))
  pub unknown_in_C : Gives (step_of started (report (in_c 0 1))) 1 false (packet 68 (in_c 0 1) (0x0D ∷ 0xC1 ∷ []))
  -- "Skips and train length count as they stood at that report": a train of 1 cm
  pub shorter_train : Gives (step_of (after_each near_b (train_length 1 ∷ [])) (report (in_b 10102 1))) 1 false
      (packet 62 (in_b 10102 1) (point 34 7004 0x04 0x00)
      ++ packet 68 (in_b 10102 1) (0x0D ∷ 0x81 ∷ []))
  -- "5 driver skip, 6 skip revoked": 7001 neither reached nor with a margin, then reached again; 7006 is not placed; 7005 with the End of Journey passed
  pub driver_skips : Gives (step_of started (skip 7001)) 1 false (packet 62 nowhere (point 17 7001 0x29 0x00))
  pub skipped : Gives (step_of (after_each started (skip 7001 ∷ [])) (report (in_a 20000 0))) 1 false (packet 68 (in_a 20000 0) (0x0D ∷ 0xC1 ∷ []))
  pub skipped_passed : Gives (step_of (after_each started (skip 7001 ∷ [])) (report (in_a 20001 0))) 1 false
      (packet 62 (in_a 20001 0) (point 17 7001 0x01 0x00)
      ++ packet 68 (in_a 20001 0) (0x0D ∷ 0xC1 ∷ []))
  pub skip_revoked : Gives (step_of (after_each started (skip 7001 ∷ [])) (revoke 7001)) 1 false (packet 62 nowhere (point 17 7001 0x31 0x00))
  pub reached_after_all : Gives (step_of (after_each started (skip 7001 ∷ revoke 7001 ∷ [])) (report (in_a 20000 0))) 1 false
      (packet 62 (in_a 20000 0) (point 17 7001 0x09 0x55)
      ++ packet 68 (in_a 20000 0) (0x0D ∷ 0xC1 ∷ []))
  pub skip_in_C : Gives (step_of near_b (skip 7006)) 1 false (packet 62 (in_a 90000 1) (point 34 7006 0x29 0x00))
  pub skip_behind_the_end : Gives (step_of (after_each near_b (report (in_b 12000 1) ∷ [])) (skip 7005)) 1 false
      (packet 62 (in_b 12000 1) (point 34 7005 0x28 0x00))

-- ---- "Load", and packet 65

pub record Loads : Type 0 where
  -- "65 on an accepted load: NID_C (1,024 unless the position is known), NID_ATOTS, date, seconds, counter, status 0"; then the 68
  pub no_position : Gives (step_of on load) 1 false
      (0x41 ∷ 0x00 ∷ 0x00 ∷ 0x00 ∷ 0x00 ∷ 0x00 ∷ 0x00 ∷ 0x00 ∷ 0xFF ∷ 0xFF ∷ 0xFF ∷ 0x00 ∷ 0x00 ∷ 0x12 ∷ 0x34 ∷ 0x56 ∷ 0x78
      ∷ 0x04 ∷ 0x00 ∷ 0x01 ∷ 0x23 ∷ 0x0A ∷ 0x0B ∷ 0x01 ∷ 0x02 ∷ 0x03 ∷ 0x04 ∷ 0x07 ∷ 0x00
      ∷ 0x44 ∷ 0x00 ∷ 0x00 ∷ 0x00 ∷ 0x00 ∷ 0x00 ∷ 0x00 ∷ 0x00 ∷ 0xFF ∷ 0xFF ∷ 0xFF ∷ 0x00 ∷ 0x00 ∷ 0x12 ∷ 0x34 ∷ 0x56 ∷ 0x78
      ∷ 0x09 ∷ 0xC1 ∷ [])
  -- "the first point that is unplaced or has d ≤ margin is targeted, earlier ones passed, later ones not used"; "points that a load puts behind write none"
  pub puts_behind : Gives (step_of (after_each on (report (in_a 50000 0) ∷ [])) load) 1 false
      (0x41 ∷ 0x00 ∷ 0x11 ∷ 0x00 ∷ 0x00 ∷ 0x01 ∷ 0xF4 ∷ 0x00 ∷ 0x00 ∷ 0xC3 ∷ 0x50 ∷ 0x00 ∷ 0x00 ∷ 0x12 ∷ 0x34 ∷ 0x56 ∷ 0x78
      ∷ 0x00 ∷ 0x11 ∷ 0x01 ∷ 0x23 ∷ 0x0A ∷ 0x0B ∷ 0x01 ∷ 0x02 ∷ 0x03 ∷ 0x04 ∷ 0x07 ∷ 0x00
      ∷ 0x44 ∷ 0x00 ∷ 0x11 ∷ 0x00 ∷ 0x00 ∷ 0x01 ∷ 0xF4 ∷ 0x00 ∷ 0x00 ∷ 0xC3 ∷ 0x50 ∷ 0x00 ∷ 0x00 ∷ 0x12 ∷ 0x34 ∷ 0x56 ∷ 0x78
      ∷ 0x0D ∷ 0xC1 ∷ [])
  pub two_behind : standings (after_each on (report (in_a 50000 0) ∷ load ∷ [])) ≡ Passed ∷ Passed ∷ Targeted ∷ Unused ∷ Unused ∷ Unused ∷ []
  pub none_written : Gives (step_of (after_each on (report (in_a 50000 0) ∷ load ∷ [])) (report (in_a 50000 1))) 1 false
      (packet 68 (in_a 50000 1) (0x0D ∷ 0xC1 ∷ []))
  -- the margin of the stop 7001, and of 7002; half of 1,003 is one more
  pub at_margin : standings (after_each on (report (in_a 20150 1) ∷ load ∷ [])) ≡ Targeted ∷ Unused ∷ Unused ∷ Unused ∷ Unused ∷ Unused ∷ []
  pub past_margin : standings (after_each on (report (in_a 20151 1) ∷ load ∷ [])) ≡ Passed ∷ Targeted ∷ Unused ∷ Unused ∷ Unused ∷ Unused ∷ []
  pub train_of_1001 : standings (after_each on (report (in_a 40501 1) ∷ load ∷ [])) ≡ Passed ∷ Passed ∷ Targeted ∷ Unused ∷ Unused ∷ Unused ∷ []
  pub train_of_1003 : standings (after_each on (train_length 1003 ∷ report (in_a 40501 1) ∷ load ∷ []))
      ≡ Passed ∷ Targeted ∷ Unused ∷ Unused ∷ Unused ∷ Unused ∷ []
  -- "unplaced": 7006; "where there is none such, all are passed", with the later book
  pub in_B : Gives (step_of (after_each on (report (in_b 80000 1) ∷ [])) load) 1 false
      (packet 65 (in_b 80000 1) (received 34)
      ++ packet 68 (in_b 80000 1) (0x0C ∷ 0x81 ∷ []))
  pub unplaced_targeted : standings (after_each on (report (in_b 80000 1) ∷ load ∷ [])) ≡ Passed ∷ Passed ∷ Passed ∷ Passed ∷ Passed ∷ Targeted ∷ []
  pub all_behind : Gives (step_of (after_each on (report (in_c 1 1) ∷ [])) (loads journey book_with_c)) 1 false
      (packet 65 (in_c 1 1) (received 34)
      ++ packet 68 (in_c 1 1) (0x0D ∷ 0x01 ∷ []))
  pub none_left : standings (after_each on (report (in_c 1 1) ∷ loads journey book_with_c ∷ []))
      ≡ Passed ∷ Passed ∷ Passed ∷ Passed ∷ Passed ∷ Passed ∷ []
  -- "with no known position the first is targeted": in C, which is not placed; offset undefined
  pub in_C : Gives (step_of (after_each on (report (in_c 5000 1) ∷ [])) load) 1 false
      (packet 65 (in_c 5000 1) (received 1024)
      ++ packet 68 (in_c 5000 1) (0x0D ∷ 0xC1 ∷ []))
  pub first_targeted : standings (after_each near_b (report (in_c 5000 1) ∷ load ∷ [])) ≡ Targeted ∷ Unused ∷ Unused ∷ Unused ∷ Unused ∷ Unused ∷ []
  pub first_targeted_too : standings (after_each near_b (report (in_a undefined 1) ∷ load ∷ []))
      ≡ Targeted ∷ Unused ∷ Unused ∷ Unused ∷ Unused ∷ Unused ∷ []
  -- "An offset held from before a load and beyond its segment's new length counts as undefined for the conditions; headers keep it": A of 65,696 cm
  pub shorter_A : Gives (step_of near_b (loads journey (set book 41 0x00))) 1 false
      (packet 65 (in_a 90000 1) (received 1024)
      ++ packet 68 (in_a 90000 1) (0x09 ∷ 0xC1 ∷ []))
  -- "Driver skips are cleared"; the load judges without them. A reached stop is targeted again
  pub skip_cleared : standings (after_each started (report (in_a 20100 1) ∷ skip 7001 ∷ load ∷ []))
      ≡ Targeted ∷ Unused ∷ Unused ∷ Unused ∷ Unused ∷ Unused ∷ []
  pub reached_unskipped : Gives (step_of (after_each started (report (in_a 20100 1) ∷ skip 7001 ∷ load ∷ [])) (report (in_a 20100 0))) 1 false
      (packet 62 (in_a 20100 0) (point 17 7001 0x09 0x55))
  pub at_the_stop : Gives (step_of stopped load) 1 false (packet 65 (in_a 19900 0) (received 17))
  pub reached_again : Gives (step_of (after_each stopped (load ∷ [])) (report (in_a 19900 0))) 1 false
      (packet 62 (in_a 19900 0) (point 17 7001 0x09 0x55))
  -- "A book is 0 to 40 records": none, so nothing is placed; EG goes to DE
  pub empty_book : Gives (step_of driving (loads journey [])) 6 true
      (packet 65 (in_a 10000 0) (received 1024)
      ++ packet 68 (in_a 10000 0) (0x1E ∷ 0xF6 ∷ []))
  pub load_in_EG : Gives (step_of driving load) 5 true (packet 65 (in_a 10000 0) (received 17))

-- ---- 02, Q-1: traction requests

abbrev pub packet61 : ℕ → List ℕ
packet61 suptb = packet 61 (in_a 10000 0) (requested suptb)

-- what a request gets in EG after requests of these bytes
abbrev pub after : List ℕ → Call → Outcome
after bytes c = step_of (after_each driving (map (λ (n : ℕ). traction n 7) bytes)) c

pub record Requests : Type 0 where
  -- "the first request writes": −20, and 0
  pub first : Gives (after [] (traction 0xEC 7)) 5 true (packet61 7)
  pub first_0 : Gives (after [] (traction 0 7)) 5 true (packet61 7)
  -- "27 coming from 20 stays in range 1, 28 moves to 2, 23 stays in 2, 22 returns to 1", whatever the sign
  pub at_27 : Gives (after (20 ∷ []) (traction 27 7)) 5 true []
  pub at_28 : Gives (after (20 ∷ 27 ∷ []) (traction 28 7)) 5 true (packet61 7)
  pub at_minus_23 : Gives (after (20 ∷ 27 ∷ 28 ∷ []) (traction 0xE9 7)) 5 true []
  pub at_22 : Gives (after (20 ∷ 27 ∷ 28 ∷ 23 ∷ []) (traction 22 7)) 5 true (packet61 7)
  -- "else takes the lowest that does": 75 from 1 and from 4 is in 2, which holds 72; 25 from 3 is in 1, which holds 22; 92 from 3 stays
  pub from_1 : Gives (after (20 ∷ 75 ∷ []) (traction 72 7)) 5 true []
  pub from_4 : Gives (after (100 ∷ 75 ∷ []) (traction 72 7)) 5 true []
  pub from_3 : Gives (after (80 ∷ 25 ∷ []) (traction 22 7)) 5 true []
  pub in_3 : Gives (after (80 ∷ []) (traction 92 7)) 5 true []
  -- "on a change .. of Q_ATO_SupTB": the whole byte
  pub another_suptb : Gives (after (20 ∷ []) (traction 20 0x87)) 5 true (packet61 0x87)
  -- "In EG or DE"; from EG to DE both are kept
  pub in_DE : Gives (step_of degraded (traction 20 7)) 6 true (packet61 7)
  pub kept_in_DE : Gives (step_of (after_each driving (traction 20 7 ∷ reports 30 ∷ [])) (traction 27 7)) 6 true []
  -- "In CO, NA, AV and RE the event is accepted and changes nothing"
  pub in_CO : Gives (step_of on (traction 20 7)) 1 false []
  pub in_NA : Gives (step_of (after_each on (configured ∷ [])) (traction 20 7)) 2 false []
  pub in_AV : Gives (step_of (after_each ready (lever 1 ∷ [])) (traction 20 7)) 3 false []
  pub in_RE : (step_of ready (traction 20 7)).engine ≡ ready
  -- "entering EG forgets both": left, pressed and entered again; a request in between is not stored
  pub entered_again : Gives (step_of (after_each driving (traction 20 7 ∷ mode 0 ∷ traction 20 7 ∷ press ∷ mode 1 ∷ [])) (traction 20 7)) 5 true (packet61 7)
  -- "16 shorter than this event's packets": nothing is remembered
  pub no_room : Refuses driving (lending 21 (traction 20 7)) 16

-- ---- 02, Q-7: slippery rail

-- with the header of the ready, pressed, driving and degraded engines
abbrev pub packet64 : ℕ → List ℕ → List ℕ
packet64 count rows = packet 64 (in_a 10000 0) (count ∷ rows)

abbrev pub two_rows : List ℕ
two_rows = row 100 250 ++ row 16777215 16777215

-- how many rows it shows, and rows 0 to 2
abbrev pub rows_shown : Engine → ℕ × List TemporaryConstraint
rows_shown e = ((shown_view e).constraint_count, map (constraint_in e) (0 ∷ 1 ∷ 2 ∷ []))

abbrev pub from_to : ℕ → ℕ → TemporaryConstraint
from_to start end = record { nidsp = 500; start = start; end = end; nidc = 17; category = 2; range = 1 }

abbrev pub two_shown : ℕ × List TemporaryConstraint
two_shown = (2, from_to 100 250 ∷ from_to 16777215 16777215 ∷ blank_constraint ∷ [])

pub record Slippery : Type 0 where
  -- "Each accepted such event .. writes packet 64 with its rows"; in each state that takes it, and it leads to no other
  pub in_CO : Gives (step_of on (slippery 1 (row 250 250))) 1 false (plain_packet 64 nowhere (1 ∷ row 250 250))
  pub in_NA : Gives (step_of (after_each on (configured ∷ [])) (slippery 0 [])) 2 false (plain_packet 64 nowhere (0 ∷ []))
  pub in_AV : Gives (step_of (after_each ready (lever 1 ∷ [])) (slippery 2 two_rows)) 3 false (packet64 2 two_rows)
  pub in_RE : Gives (step_of pressed (slippery 2 two_rows)) 4 true (packet64 2 two_rows)
  pub in_EG : Gives (step_of driving (slippery 2 two_rows)) 5 true (packet64 2 two_rows)
  pub in_DE : Gives (step_of degraded (slippery 2 two_rows)) 6 true (packet64 2 two_rows)
  -- a press that is pending stays so
  pub press_kept : Gives (step_of (after_each pressed (slippery 2 two_rows ∷ [])) (mode 1)) 5 true (packet 68 (in_a 10000 0) (0x1F ∷ 0xF5 ∷ []))
  -- "the engine shows the rows of the latest one since power off, else none"
  pub shown : rows_shown (step_of driving (slippery 2 two_rows)).engine ≡ two_shown
  pub fewer : rows_shown (after_each driving (slippery 2 two_rows ∷ slippery 1 (row 7 8) ∷ [])) ≡ (1, from_to 7 8 ∷ blank_constraint ∷ blank_constraint ∷ [])
  pub none : rows_shown (after_each driving (slippery 2 two_rows ∷ slippery 0 [] ∷ [])) ≡ (0, blank_constraint ∷ blank_constraint ∷ blank_constraint ∷ [])
  pub refused_kept : rows_shown (after_each driving (slippery 2 two_rows ∷ slippery 1 (row 251 250) ∷ [])) ≡ two_shown
  -- a load, a fault and a report leave them
  pub kept : map rows_shown (after_each driving (slippery 2 two_rows ∷ load ∷ []) ∷ after_each driving (slippery 2 two_rows ∷ fault ∷ [])
      ∷ after_each driving (slippery 2 two_rows ∷ report (in_a 10001 5) ∷ []) ∷ []) ≡ two_shown ∷ two_shown ∷ two_shown ∷ []
  pub off : rows_shown (after_each driving (slippery 2 two_rows ∷ power_off ∷ power_on ∷ [])) ≡ (0, blank_constraint ∷ blank_constraint ∷ blank_constraint ∷ [])
  -- "16 shorter than this event's packets": 50 bytes
  pub no_room : Refuses driving (lending 49 (slippery 2 two_rows)) 16
