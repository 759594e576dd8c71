-- A run for which the engagement rule holds, and near ones for which it does not, by hand from document 01.
use Rattle.std.specs.Prelude.{ℕ, ◌≤◌, ◌≡◌, ◌≢◌, true, false, [], ◌∷◌, ◌++◌, get_or, replicate}
use Rattle.event.specs.Event.{Event}
use Rattle.event.specs.Event.Event.{PowerOn, Configured, PowerOff, Fault, Press, Mode, Lever}
use Rattle.state_codes.specs.declared.EtcsMode.{EtcsMode}
use Rattle.state_codes.specs.declared.EtcsMode.TheVariants.{Other, AD}
use Rattle.state_codes.specs.declared.DriverLever.TheVariants.{Neutral, Traction, Brake}
use Rattle.states.specs.declared.Values.{Values}
use Rattle.states.specs.Anchors.{values, waiting, driving}
use Rattle.engagement.specs.Engagement.{Engagement}

-- a fault and power off; the last power on, event 3; then events 4 to 7
abbrev pub events : Event → Event → Event → Event → ℕ → Event
events a b c d k = get_or (PowerOn ∷ Fault ∷ PowerOff ∷ PowerOn ∷ a ∷ b ∷ c ∷ d ∷ []) k PowerOff

-- what holds at the moments 5 to 8: before event 5, and after it and each of the next two
abbrev pub moments : Values → Values → Values → Values → ℕ → Values
moments a b c d v = get_or (replicate 5 (values false false Neutral Other) ++ (a ∷ b ∷ c ∷ d ∷ [])) v driving

abbrev pub traction : EtcsMode → Values
traction m = values true true Traction m

-- configured, the press, AD, the lever at traction
abbrev pub drive : ℕ → Event
drive = events Configured Press (Mode 1) (Lever 1)

abbrev pub steady : ℕ → Values
steady = moments waiting waiting driving (traction AD)

abbrev pub nowhere : ℕ → Type 0
nowhere k = ⊥

-- "Since the last power on there is an accepted press i and a later AD report j; configured before i; O, T, N and mode other from just before i until
-- j; O, T, N right after j; from j on O, T, AD and lever not at brake; after j no point became reached; no fault."
pub record Anchors : Type 0 where
  -- a fault before the last power on and points reached up to j do not matter; nor a held stop that is reached at another moment than just before i
  pub engaged : Engagement drive steady (λ k. k ≤ 6) (λ v. v ≢ 5) 8
  -- another power on; AD before the press; not configured
  pub powered_again : ¬ Engagement (events Configured Press (Mode 1) PowerOn) steady nowhere nowhere 8
  pub AD_first : ¬ Engagement (events Configured (Mode 1) Press (Lever 1)) steady nowhere nowhere 8
  pub unconfigured : ¬ Engagement (events (Lever 0) Press (Mode 1) (Lever 1)) steady nowhere nowhere 8
  -- the lever away from neutral just before the press, just before the AD report, right after it
  pub moved_first : ¬ Engagement drive (moments (traction Other) waiting driving (traction AD)) nowhere nowhere 8
  pub moved_before : ¬ Engagement drive (moments waiting (traction Other) driving (traction AD)) nowhere nowhere 8
  pub moved_after : ¬ Engagement drive (moments waiting waiting (traction AD) (traction AD)) nowhere nowhere 8
  -- then the brake; a point reached; a fault
  pub braked : ¬ Engagement drive (moments waiting waiting driving (values true true Brake AD)) nowhere nowhere 8
  pub stopped : ¬ Engagement drive steady (λ k. k ≡ 7) nowhere 8
  pub failed : ¬ Engagement (events Configured Press (Mode 1) Fault) steady nowhere nowhere 8
  -- 02, Q-5: a press made while a held stop is reached
  pub pressed_held : ¬ Engagement drive steady nowhere (λ v. v ≡ 5) 8
