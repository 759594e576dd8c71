-- The engagement rule, each clause of its sentence a named field.
use Rattle.std.specs.Prelude.{◌≡◌, ◌≢◌, true, ℕ, suc, ◌≤◌, ◌<◌}
use Rattle.event.specs.Event.{Event}
use Rattle.event.specs.Event.Event.{PowerOn, Configured, Fault, Press, Mode}
use Rattle.states.specs.declared.Values.{Values}
use Rattle.state_codes.specs.declared.EtcsMode.TheVariants.{Other, AD}
use Rattle.state_codes.specs.declared.DriverLever.TheVariants.{Neutral, Brake}

pub record Waiting (v : Values) : Type 0 where
  pub O : v.O ≡ true
  pub T : v.T ≡ true
  pub N : v.lever ≡ Neutral
  pub other : v.mode ≡ Other

pub record Ready (v : Values) : Type 0 where
  pub O : v.O ≡ true
  pub T : v.T ≡ true
  pub N : v.lever ≡ Neutral

pub record Driving (v : Values) : Type 0 where
  pub O : v.O ≡ true
  pub T : v.T ≡ true
  pub AD : v.mode ≡ AD
  pub unbraked : v.lever ≢ Brake

-- A run of n accepted events. Event k (from 0) lies between moment k and moment k + 1; moment 0 is fresh, moment n is now.
-- `value v` is what holds after the first v events, `AtHeldStop v` that a held stop is reached then; `Reached k`: a point became reached in event k.
-- "Since the last power on there is an accepted press i and a later AD report j; configured before i; O, T, N and mode other from
-- just before i until j; O, T, N right after j; from j on O, T, AD and lever not at brake; after j no point became reached; no fault."
-- 02, Q-5: "the engagement rule's press is then one made while no held stop is reached": just before i
pub record Engagement (event : ℕ → Event) (value : ℕ → Values) (Reached AtHeldStop : ℕ → Type 0) (n : ℕ) : Type 0 where
  pub powered : ℕ
  pub is_on : event powered ≡ PowerOn
  pub last_on : (k : ℕ) → powered < k → k < n → event k ≢ PowerOn
  pub i : ℕ
  pub j : ℕ
  pub is_press : event i ≡ Press
  pub is_AD : event j ≡ Mode 1
  pub later : i < j
  pub within : j < n
  pub c : ℕ
  pub since : powered < c
  pub before_i : c < i
  pub is_configured : event c ≡ Configured
  pub not_held : ¬ AtHeldStop i
  pub waiting : (v : ℕ) → i ≤ v → v ≤ j → Waiting (value v)
  pub right_after : Ready (value (suc j))
  pub from_j : (v : ℕ) → j < v → v ≤ n → Driving (value v)
  pub unreached : (k : ℕ) → j < k → k < n → ¬ Reached k
  pub no_fault : (k : ℕ) → powered < k → k < n → event k ≢ Fault
