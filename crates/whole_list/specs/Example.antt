-- The claim is not empty: lists of calls, refused ones among them: one that ends in EG, one that ends in DE, one that creeps, one whose profiles are turned
-- down, one that is held, one with traction requests, one with rows of slippery rail.
use Rattle.std.specs.Prelude.{◌≡◌, true, false, List, [], ◌∷◌, ◌++◌, map, ℕ, length, take, drop, replicate, set, Some, None, is_some}
use Rattle.status_word.specs.View.{conditions_number}
use Rattle.engine_value.specs.Engine.{fresh}
use Rattle.position.specs.Standing.{standing}
use Rattle.position.specs.declared.Standing.{Standing}
use Rattle.position.specs.declared.Standing.TheVariants.{Unused, Targeted, Reached, Passed}
use Rattle.state_codes.specs.Codes.{code}
use Rattle.call_values.specs.Call.{Call, Answer, refused}
use Rattle.adhesion.specs.Anchors.{north, south, north_bytes, south_bytes}
use Rattle.call.specs.Trials.{answered, plain, power_on, configured, loads, reports, at, press, mode, plainly, trial_book, trial_journey, trial_load}
use Rattle.event.specs.declared.TractionRequest.{TractionRequest}
use Rattle.traction.specs.Requests.{remembered}
use Rattle.whole_list.specs.Requests.{requests_since, traction_by}
use Rattle.whole_list.specs.Values.{constraints_by}
use Rattle.whole_list.specs.Rules.{standing_by, conditions_by, state_by, request_by}
use Rattle.whole_list.specs.Table.{held_stop_by}
use Rattle.whole_list.specs.Calls.{engine_after, Done, trace, history_of, last_answer}
use Rattle.trackside.specs.Trackside.{Foretold, foretell}
use Rattle.whole_list.specs.Trackside.{journey_of_call, journey_by, foretold_from, skips_told}
use Rattle.whole_list.specs.Recorded.{recorded_by, last_status, rows_told}

-- the journey of document 01's trials: a stop at 7001, where a press in CO is refused
abbrev pub stopped : List Call
stopped = power_on ∷ press ∷ trial_load ∷ at 39900 0 ∷ []

-- then engaged (an empty event is refused in between), and departed
abbrev pub driven : List Call
driven = stopped ++ (reports 31 ∷ configured ∷ press ∷ plain [] ∷ mode 1 ∷ at 40200 500 ∷ [])

-- then past 7002, the End of Journey; a press is refused again
abbrev pub finished : List Call
finished = driven ++ (at 90001 500 ∷ press ∷ [])

-- stopped at 7001, R 150, and crept: within R, behind −R, with the offset undefined; then beyond R at speed 0, and departed from there
abbrev pub crept : List Call
crept = stopped ++ (at 40150 50 ∷ at 39849 50 ∷ at 16777215 50 ∷ at 40151 0 ∷ [])

abbrev pub left : List Call
left = crept ++ (at 40151 50 ∷ [])

-- stopped, and two journeys turned down: an empty one, and the trials' own with a book that is none; the third is taken
abbrev pub turned_down : List Call
turned_down = stopped ++ (loads [] trial_book ∷ loads trial_journey (0xFF ∷ []) ∷ [])

-- its NID_C, NID_ATOTS 16,384, stamp 0, status 1
abbrev pub not_received : List ℕ
not_received = 0x00 ∷ 0x11 ∷ 0x40 ∷ 0x00 ∷ 0x00 ∷ 0x00 ∷ 0x00 ∷ 0x00 ∷ 0x00 ∷ 0x00 ∷ 0x00 ∷ 0x01 ∷ []

abbrev pub taken : List Call
taken = turned_down ++ (trial_load ∷ [])

-- ready, and stopped at 7001, which is held: a press is refused; then the hold ends, 7001 is reached anew, and a press engages
abbrev pub held_load : Call
held_load = loads (set trial_journey 16 0x93) trial_book

abbrev pub coming : List Call
coming = power_on ∷ held_load ∷ at 20000 0 ∷ reports 31 ∷ configured ∷ []

abbrev pub held : List Call
held = coming ++ (at 39900 0 ∷ press ∷ [])

abbrev pub released : List Call
released = held ++ (trial_load ∷ at 39900 0 ∷ press ∷ mode 1 ∷ [])

-- pressed before the held stop is reached
abbrev pub pressed : List Call
pressed = coming ++ (press ∷ at 39900 0 ∷ mode 1 ∷ [])

-- 7001 gains the trackside skip, keeps it and loses it; after power off there is no old journey
abbrev pub skipped_load : Call
skipped_load = loads (set trial_journey 16 0x33) trial_book

abbrev pub skipping : List Call
skipping = power_on ∷ trial_load ∷ skipped_load ∷ skipped_load ∷ trial_load ∷ plain (0x03 ∷ []) ∷ power_on ∷ skipped_load ∷ []

-- what is foretold of that load behind these calls
abbrev pub foretold_behind : List Call → List Foretold
foretold_behind calls = elim (journey_of_call skipped_load) [ None ↦ [] | Some j ↦ foretold_from (journey_by (history_of calls)) j ]

-- engaged, requests of 20 and 75 (range 2), −72, which range 2 holds, and −72 with another Q_ATO_SupTB; one in RE, and one of 101, which is refused
abbrev pub request : ℕ → ℕ → Call
request byte suptb = plain (0x0E ∷ byte ∷ 0x01 ∷ 0x02 ∷ suptb ∷ 0x03 ∷ 0x04 ∷ [])

abbrev pub pulling : List Call
pulling = stopped ++ (reports 31 ∷ configured ∷ request 20 7 ∷ press ∷ mode 1 ∷ request 20 7 ∷ request 75 7 ∷ request 0xB8 7 ∷ request 0xB8 6 ∷ request 101 6 ∷ [])

-- then left and entered again
abbrev pub entered : List Call
entered = pulling ++ (mode 0 ∷ press ∷ mode 1 ∷ [])

-- two rows told; one refused, its start behind its end; none told; two again, and power off
abbrev pub telling : ℕ → List ℕ → Call
telling count rows = plain (0x0F ∷ count ∷ rows)

abbrev pub reversed_row : List ℕ
reversed_row = replicate 11 0 ++ (1 ∷ replicate 4 0)

abbrev pub slippery : List Call
slippery = power_on ∷ telling 2 (north_bytes ++ south_bytes) ∷ telling 1 reversed_row ∷ telling 0 [] ∷ telling 2 (south_bytes ++ north_bytes) ∷ plain (0x03 ∷ []) ∷ []

abbrev pub answers_of : List Call → List Answer
answers_of calls = map (λ (d : Done). d.answer) (trace fresh calls)

abbrev pub stands : List Call → ℕ → Standing
stands calls k = standing (engine_after calls).progress k

pub record Example : Type 0 where
  pub answers : answers_of finished
      ≡ answered 1 false 19 ∷ refused 6 0 ∷ answered 1 false 48 ∷ answered 1 false 44 ∷ answered 1 false 19 ∷ answered 4 true 19
      ∷ answered 4 true 0 ∷ refused 1 0 ∷ answered 5 true 19 ∷ answered 5 true 25 ∷ answered 6 true 44 ∷ refused 6 0 ∷ []
  -- 7001 is reached, and then passed; 7002 is ahead; the state is EG
  pub reached : stands stopped 0 ≡ Reached
  pub passed : stands driven 0 ≡ Passed
  pub ahead : stands driven 1 ≡ Targeted
  pub engaged : (engine_after driven).control.state ≡ 5
  pub accepted : length (history_of driven) ≡ 8
  pub last_answer_lem : last_answer None (trace fresh driven) ≡ Some (record { state = 5; request = true; bytes = 25 })
  pub last_status_lem : last_status None (trace fresh driven) ≡ Some (plainly 68 39900 0 (0x1F ∷ 0xF5 ∷ []))
  -- 7002 is passed; the state is DE
  pub passed_too : stands finished 1 ≡ Passed
  pub degraded : (engine_after finished).control.state ≡ 6
  pub accepted_too : length (history_of finished) ≡ 9
  pub last_status_too : last_status None (trace fresh finished) ≡ Some (plainly 68 90001 500 (0x1F ∷ 0x36 ∷ []))
  -- creeping writes 68 at the start, and where condition 6 goes and comes, but no 62; the departure writes 62 and 68
  pub answers_crept : answers_of left
      ≡ answered 1 false 19 ∷ refused 6 0 ∷ answered 1 false 48 ∷ answered 1 false 44 ∷ answered 1 false 19 ∷ answered 1 false 0
      ∷ answered 1 false 19 ∷ answered 1 false 19 ∷ answered 1 false 44 ∷ []
  pub reached_still : stands crept 0 ≡ Reached
  pub departed : map (stands left) (0 ∷ 1 ∷ []) ≡ Passed ∷ Targeted ∷ []
  -- the rules over the history say the same
  pub by_rule : standing_by (history_of stopped) 0 ≡ Reached
  pub by_rule_passed : standing_by (history_of finished) 1 ≡ Passed
  pub by_rule_crept : standing_by (history_of crept) 0 ≡ Reached
  pub by_rule_departed : map (standing_by (history_of left)) (0 ∷ 1 ∷ []) ≡ Passed ∷ Targeted ∷ []
  pub by_rows : code (state_by (history_of driven)) ≡ 5
  pub by_rows_too : code (state_by (history_of finished)) ≡ 6
  pub all_nine_lem : conditions_number (conditions_by (history_of driven)) ≡ 511
  pub requested : request_by (history_of driven) ≡ true
  -- each that is turned down writes a 65 of status 1, with NID_C and NID_OPERATIONAL of the journey in force; engine, history and last packet 68 stay
  pub answers_turned_down : answers_of taken
      ≡ answered 1 false 19 ∷ refused 6 0 ∷ answered 1 false 48 ∷ answered 1 false 44 ∷ refused 9 29 ∷ refused 7 29 ∷ answered 1 false 29 ∷ []
  pub recorded_lem : map recorded_by (drop 4 (trace fresh turned_down)) ≡ replicate 2 (plainly 65 39900 0 not_received ∷ [])
  pub same_engine : engine_after turned_down ≡ engine_after stopped
  pub same_history : history_of turned_down ≡ history_of stopped
  pub last_status_kept : last_status None (trace fresh turned_down) ≡ last_status None (trace fresh stopped)
  pub targeted_again : map (stands taken) (0 ∷ 1 ∷ []) ≡ Targeted ∷ Unused ∷ []
  -- 1 and 3 where the held stop becomes reached; 20; 65 and 4 where the hold ends; then 1 alone, and EG
  pub answers_held : answers_of released
      ≡ answered 1 false 19 ∷ answered 1 false 48 ∷ answered 1 false 19 ∷ answered 1 false 19 ∷ answered 4 true 19 ∷ answered 4 true 50 ∷ refused 20 0
      ∷ answered 4 true 54 ∷ answered 4 true 25 ∷ answered 4 true 0 ∷ answered 5 true 19 ∷ []
  pub at_held_stop : map (λ (l : List Call). is_some (held_stop_by (history_of l))) (held ∷ released ∷ pressed ∷ []) ≡ true ∷ false ∷ true ∷ []
  pub reached_held : stands held 0 ≡ Reached
  pub engaged_held : (engine_after pressed).control.state ≡ 5
  -- 62 of status 7 and 8, each foretold
  pub answers_skipping : answers_of skipping
      ≡ answered 1 false 19 ∷ answered 1 false 48 ∷ answered 1 false 54 ∷ answered 1 false 29 ∷ answered 1 false 54 ∷ answered 0 false 19 ∷ answered 1 false 19
      ∷ answered 1 false 48 ∷ []
  pub told_skipping : map (λ (d : Done). skips_told (recorded_by d)) (trace fresh skipping)
      ≡ [] ∷ [] ∷ (foretell 7001 7 ∷ []) ∷ [] ∷ (foretell 7001 8 ∷ []) ∷ [] ∷ [] ∷ [] ∷ []
  pub foretold_skipping : map foretold_behind (take 2 skipping ∷ take 3 skipping ∷ take 7 skipping ∷ []) ≡ (foretell 7001 7 ∷ []) ∷ [] ∷ [] ∷ []
  -- 61 at 20, at 75 and with the other Q_ATO_SupTB; by the rules and in the engine range 2 and 6, until EG is entered again
  pub requests : answers_of pulling
      ≡ answered 1 false 19 ∷ refused 6 0 ∷ answered 1 false 48 ∷ answered 1 false 44 ∷ answered 1 false 19 ∷ answered 4 true 19 ∷ answered 4 true 0
      ∷ answered 4 true 0 ∷ answered 5 true 19 ∷ answered 5 true 22 ∷ answered 5 true 22 ∷ answered 5 true 0 ∷ answered 5 true 22 ∷ refused 2 0 ∷ []
  pub since_EG : map (λ (x : TractionRequest). x.request) (requests_since (history_of pulling)) ≡ 20 ∷ 75 ∷ 0xB8 ∷ 0xB8 ∷ []
  pub ranged : traction_by (history_of pulling) ≡ Some (remembered 2 6)
  pub remembers : (engine_after pulling).traction ≡ record { remembered = true; range = 2; suptb = 6; spare = 0 }
  pub none_left : map traction_by (history_of stopped ∷ history_of driven ∷ history_of entered ∷ []) ≡ None ∷ None ∷ None ∷ []
  -- 64 with the rows of each that is accepted; by the rules those of the latest, and none after power off
  pub answers_slippery : answers_of slippery
      ≡ answered 1 false 19 ∷ answered 1 false 50 ∷ refused 21 0 ∷ answered 1 false 18 ∷ answered 1 false 50 ∷ answered 0 false 19 ∷ []
  pub told_slippery : map (λ (d : Done). rows_told (recorded_by d)) (trace fresh slippery)
      ≡ [] ∷ ((north ∷ south ∷ []) ∷ []) ∷ [] ∷ ([] ∷ []) ∷ ((south ∷ north ∷ []) ∷ []) ∷ [] ∷ []
  pub in_force : map (λ n. constraints_by (history_of (take n slippery))) (1 ∷ 2 ∷ 3 ∷ 4 ∷ 5 ∷ 6 ∷ [])
      ≡ [] ∷ (north ∷ south ∷ []) ∷ (north ∷ south ∷ []) ∷ [] ∷ (south ∷ north ∷ []) ∷ [] ∷ []
