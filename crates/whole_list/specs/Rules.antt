-- The rules over a history: where the points stand, the conditions, the state, the AD request, the engagement rule. Nothing here is of crate `call`.
use Rattle.std.specs.Prelude.{◌≡◌, Bool, true, false, not, ◌&&◌, ◌||◌, [], ◌∷◌, ℕ, zero, suc, ◌-◌, ◌<◌, length, drop, get_or}
use Rattle.engine_value.specs.declared.Position.{Position}
use Rattle.event.specs.Event.Event.{PositionReport}
use Rattle.event.specs.Kinds.{off, load, report, other, skip}
use Rattle.status_word.specs.declared.OperationalConditions.{OperationalConditions}
use Rattle.position.specs.Position.{point, point_count}
use Rattle.position.specs.Standing.{is_reached}
use Rattle.timing.specs.History.{Stands}
use Rattle.timing.specs.Rule.{standing_by_reports}
use Rattle.position.specs.declared.Standing.{Standing}
use Rattle.position.specs.declared.Standing.TheVariants.{Reached}
use Rattle.state_codes.specs.Codes.{mode_at, lever_at}
use Rattle.conditions.specs.Conditions.{conditions, O}
use Rattle.states.specs.States.{machine, T, machine_after, given}
use Rattle.states.specs.declared.Values.{Values}
use Rattle.states.specs.declared.Machine.{Machine}
use Rattle.engagement.specs.Engagement.{Engagement}
use Rattle.state_codes.specs.declared.State.{State}
use Rattle.state_codes.specs.declared.State.TheVariants.{NP}
use Rattle.call_values.specs.Call.{Call}
use Rattle.whole_list.specs.Values.{History, event_of_call, role_of_call, mode_by, lever_by, reports_by, position_by, route_by, reports_since, behind_at_load}

-- point k of the journey in force stands so, by the history rule
abbrev pub StandsBy : History → ℕ → Standing → Type 0
StandsBy h k s = Stands (route_by h) (behind_at_load h) (reports_since h) k s

-- the same as a function
unfoldable pub standing_by : History → ℕ → Standing
standing_by h k = standing_by_reports (route_by h) (behind_at_load h) (reports_since h) k

-- "Conditions, O, T and N follow."
unfoldable pub conditions_by : History → OperationalConditions
conditions_by h = conditions (route_by h) (reports_by h) (position_by h) (standing_by h)

unfoldable pub values_by : History → Values
values_by h = record {
  O = O (route_by h) (reports_by h) (position_by h) (standing_by h);
  T = T (reports_by h);
  lever = lever_at (lever_by h);
  mode = mode_at (mode_by h);
}

-- "A point became reached at a report if the history rule has it so after, not before, that report."
pub record BecameReached (c : Call) (h : History) : Type 0 where
  pub position : Position
  pub is_report_lem : event_of_call c ≡ PositionReport position
  pub point : ℕ
  pub one_of_them : point < point_count (route_by h)
  pub after : StandsBy (c ∷ h) point Reached
  pub before : ¬ StandsBy h point Reached

-- in the last event of a history
abbrev pub JustReached : History → Type 0
JustReached [] = ⊥
JustReached (c ∷ h) = BecameReached c h

-- the same as a function
unfoldable pub some_below : ℕ → (ℕ → Bool) → Bool
some_below zero test = false
some_below (suc n) test = test n || some_below n test

abbrev pub newly_reached : Call → History → Bool
newly_reached c h = some_below (point_count (route_by h)) (λ k. is_reached (standing_by (c ∷ h) k) && not (is_reached (standing_by h k)))

unfoldable pub became_reached_by : History → Bool
became_reached_by [] = false
became_reached_by (c ∷ h) = elim (role_of_call c) [ off ↦ false | load ↦ false | report ↦ newly_reached c h | other ↦ false | skip t on ↦ false ]

-- "The state is that of the States rows, run from NP over the accepted events."
unfoldable pub machine_by : History → Machine
machine_by [] = machine NP false
machine_by (c ∷ h) = machine_after (machine_by h) (event_of_call c) (became_reached_by (c ∷ h)) (values_by (c ∷ h))

abbrev pub state_by : History → State
state_by h = (machine_by h).state

-- "given if wanted and (given before or mode other)"
unfoldable pub request_by : History → Bool
request_by [] = false
request_by (c ∷ h) = given (state_by (c ∷ h)) (values_by (c ∷ h)) (request_by h)

-- ---- accepted event k, from 0, and the history as it stood after the first v events

abbrev pub no_call : Call
no_call = record { event = []; journey = []; book = []; memory = [] }

abbrev pub call_at : History → ℕ → Call
call_at h k = get_or h (length h - suc k) no_call

abbrev pub upto : History → ℕ → History
upto h v = drop (length h - v) h

-- what they are: after all events the whole history, after none nothing, and with each event one call more
pub record Moments (h : History) : Type 0 where
  pub after_all : upto h (length h) ≡ h
  pub after_none : upto h 0 ≡ []
  pub after_one_more : (k : ℕ) → k < length h → upto h (suc k) ≡ call_at h k ∷ upto h k

-- point k of the journey in force is reached
pub record ReachedBy (h : History) (k : ℕ) : Type 0 where
  pub one_of_them : k < point_count (route_by h)
  pub reached : StandsBy h k Reached

-- 02, Q-5: "a held stop is reached", by the history rule and the mark of the load in force: point k; any of them
pub record HeldBy (h : History) (k : ℕ) : Type 0 where
  pub reached : ReachedBy h k
  pub marked : (point (route_by h) k).held ≡ true

abbrev pub AtHeldStop : History → Type 0
AtHeldStop h = (k : ℕ) × HeldBy h k

-- the engagement rule, read in a history
abbrev pub Engaged : History → Type 0
Engaged h =
    Engagement (λ k. event_of_call (call_at h k)) (λ v. values_by (upto h v)) (λ k. JustReached (upto h (suc k))) (λ v. AtHeldStop (upto h v)) (length h)
