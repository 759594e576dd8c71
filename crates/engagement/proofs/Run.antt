-- A run of accepted events from fresh, and what is claimed of every run.
use mathlib.Core.Path.{◌≡◌}
use mathlib.Core.Logic.{◌↔◌}
use mathlib.Core.Bool.{Bool, true, false}
use Prim.Native.Nat.{ℕ, suc, ◌≤◌, ◌<◌}
use Rattle.wire.specs.Judged.Judged.{accept}
use Rattle.event.specs.Kinds.{kind_of}
use Rattle.event.specs.Event.{Event}
use Rattle.event.specs.Event.Event.{PowerOff, Press, Mode}
use Rattle.states.specs.States.{machine, machine_after, wanted, given}
use Rattle.states.specs.declared.Values.{Values}
use Rattle.states.specs.declared.Machine.{Machine}
use Rattle.state_codes.specs.Numbers.{power_rows, state_row}
use Rattle.engagement.specs.Engagement.{Waiting, Engagement}
use Rattle.state_codes.specs.declared.State.TheVariants.{NP, RE, EG, DE}
use Rattle.state_codes.specs.declared.EtcsMode.TheVariants.{Other, AD}

-- The AD request over a run: at some moment the mode was other, and at it and ever since the request was wanted. (`value k`, `after k`: see below.)
pub record Requested (value : ℕ → Values) (after : ℕ → Machine) (n : ℕ) : Type 0 where
  pub from : ℕ
  pub within : from ≤ n
  pub mode_other : (value from).mode ≡ Other
  pub wanted_since : (v : ℕ) → from ≤ v → v ≤ n → wanted (after v).state (value v) ≡ true

-- Event k (from 0) lies between moment k and moment k + 1. At moment k, thus after the first k events: `value k`, what the rows look at;
-- `after k`, the state and the pending press; `request k`, whether AD is requested. `Reached k`: a point became reached in event k;
-- `reached k` is what the rows saw of it. `AtHeldStop k`: at moment k a held stop is reached.
module _ (event : ℕ → Event) (value : ℕ → Values) (reached : ℕ → Bool) (Reached AtHeldStop : ℕ → Type 0) (after : ℕ → Machine) (request : ℕ → Bool) where
  -- n events that no row of the places "power" and "state" refuses, each followed by its row of the states
  pub record Run (n : ℕ) : Type 0 where
    -- "Fresh: NP, .. no press, no request."
    pub start : after 0 ≡ machine NP false
    pub no_request_lem : request 0 ≡ false
    pub power : (k : ℕ) → k < n → power_rows (after k).state (kind_of (event k)) ≡ accept tt
    pub state : (k : ℕ) → k < n → state_row (after k).state (kind_of (event k)) ≡ accept tt
    pub next : (k : ℕ) → k < n → after (suc k) ≡ machine_after (after k) (event k) (reached k) (value (suc k))
    pub next_request : (k : ℕ) → k < n → request (suc k) ≡ given (after (suc k)).state (value (suc k)) (request k)
    pub saw : (k : ℕ) → k < n → (reached k ≡ true) ↔ Reached k
    -- 02, Q-5: "A press while a held stop is reached is refused"
    pub not_held : (k : ℕ) → k < n → event k ≡ Press → ¬ AtHeldStop k
    -- "Power off returns to fresh", where not all nine conditions hold
    pub off : (k : ℕ) → k < n → event k ≡ PowerOff → (value (suc k)).O ≡ false
    -- "Mode .. come from the latest accepted event since power off that carries them, else are fresh": only its report turns other into AD
    pub AD_report : (k : ℕ) → k < n → (value k).mode ≡ Other → (value (suc k)).mode ≡ AD → event k ≡ Mode 1

  -- what is claimed of every run
  pub record Holds (n : ℕ) : Type 0 where
    -- the rows are in EG exactly when the engagement rule holds
    pub engaged : ((after n).state ≡ EG) ↔ Engagement event value Reached AtHeldStop n
    pub requested : (request n ≡ true) ↔ Requested value after n
    pub press : (after n).press ≡ true → (after n).state ≡ RE
    pub in_RE : (after n).state ≡ RE → Waiting (value n) × (request n ≡ true)
    pub in_EG : (after n).state ≡ EG → ((value n).mode ≡ AD) × (request n ≡ true)
    pub in_DE : (after n).state ≡ DE → ((value n).mode ≡ AD) × (request n ≡ true)
