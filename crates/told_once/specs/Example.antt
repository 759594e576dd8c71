-- The corollary is not empty: what is told in short lists of calls over the journey of document 01's trials.
use Rattle.std.specs.Prelude.{◌≡◌, List, [], ◌∷◌, ◌++◌, map, ℕ, length}
use Rattle.position.specs.declared.Standing.{Standing}
use Rattle.position.specs.declared.Standing.TheVariants.{Unused, Targeted, Reached, Passed}
use Rattle.call_values.specs.Call.{Call}
use Rattle.call.specs.Trials.{plain, loads, power_on, trial_book, trial_load, at, skip}
use Rattle.whole_list.specs.Values.{behind_at_load}
use Rattle.whole_list.specs.Calls.{history_of}
use Rattle.whole_list.specs.Example.{stopped, finished, held, skipped_load}
use Rattle.told_once.specs.Recording.{Told, recording_of}
use Rattle.told_once.specs.ToldOnce.{standing_told, told_since}

-- what is told of a point of country 17
abbrev pub tells : ℕ → ℕ → Told
tells nidtp status = record { name = record { nidc = 17; nidtp = nidtp }; status = status }

-- where 7001 and 7002 stand, for whoever knows how many points the load put behind and what was told
abbrev pub both : ℕ → List Call → List Standing
both behind calls = map (standing_told behind (told_since calls)) (0 ∷ 1 ∷ [])

-- the driver skips 7001: a 5, which tells nothing of where it stands; it is run past
abbrev pub ran_past : List Call
ran_past = power_on ∷ trial_load ∷ at 20000 0 ∷ skip 7001 ∷ at 40001 500 ∷ []

-- stopped at 7001, and loaded anew there: the stop is told again; at 50,000 the load puts it behind; switched off
abbrev pub again : List Call
again = stopped ++ (trial_load ∷ at 39900 0 ∷ [])

abbrev pub reloaded : List Call
reloaded = stopped ++ (at 50000 500 ∷ trial_load ∷ [])

abbrev pub switched_off : List Call
switched_off = stopped ++ (plain (0x03 ∷ []) ∷ [])

-- stopped at 7001, and profiles turned down there
abbrev pub turned_down_there : List Call
turned_down_there = stopped ++ (loads [] trial_book ∷ [])

-- at 7001, which is held; the hold ended by a load
abbrev pub hold_ended_there : List Call
hold_ended_there = held ++ (trial_load ∷ [])

-- at 7001, which trackside skips from a load on
abbrev pub skipped_there : List Call
skipped_there = stopped ++ (skipped_load ∷ [])

pub record Example : Type 0 where
  -- stopped at 7001; in the longer list it is departed, and 7002 passed
  pub stops : told_since stopped ≡ tells 7001 1 ∷ []
  pub stops_there : both 0 stopped ≡ Reached ∷ Unused ∷ []
  pub ends : told_since finished ≡ tells 7001 1 ∷ tells 7001 2 ∷ tells 7002 0 ∷ []
  pub ends_there : both 0 finished ≡ Passed ∷ Passed ∷ []
  pub runs_past : told_since ran_past ≡ tells 7001 0 ∷ []
  pub runs_past_it : both 0 ran_past ≡ Passed ∷ Targeted ∷ []
  -- a packet 65 of status 1 tells nothing, and begins nothing anew
  pub goes_on_lem : told_since turned_down_there ≡ tells 7001 1 ∷ []
  pub still_there : both 0 turned_down_there ≡ Reached ∷ Unused ∷ []
  pub recorded_there : length (recording_of turned_down_there) ≡ 5
  -- status 3 tells nothing of it, nor does the 4 with which the load begins
  pub held_told : told_since held ≡ tells 7001 1 ∷ []
  pub held_there : both 0 held ≡ Reached ∷ Unused ∷ []
  pub ended_told : told_since hold_ended_there ≡ []
  pub ended_recorded : length (recording_of hold_ended_there) ≡ 2
  -- nor does a 7
  pub skip_told : told_since skipped_there ≡ []
  pub skip_recorded : length (recording_of skipped_there) ≡ 2
  -- since the load in force
  pub told_again : told_since again ≡ tells 7001 1 ∷ []
  pub none_in_force : told_since switched_off ≡ []
  pub begins_anew : told_since reloaded ≡ []
  pub put_behind_lem : behind_at_load (history_of reloaded) ≡ 1
  pub put_behind_it : both 1 reloaded ≡ Passed ∷ Targeted ∷ []
