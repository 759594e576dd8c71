-- By computation.
use mathlib.Core.Path.{refl}
use Rattle.call.proofs.Computed.{computed}
use Rattle.call_trials.specs.Engines.{Engines, on, failed, started, ready, pressed, driving, degraded, stopped, near_b, ended, before_hold, at_hold}

pub engines : Engines
unfolding computed on failed started ready pressed driving degraded stopped near_b ended before_hold at_hold
engines = record {
  to_on = refl;
  to_failed = refl;
  to_started = refl;
  to_ready = refl;
  to_pressed = refl;
  to_driving = refl;
  to_degraded = refl;
  to_stopped = refl;
  to_near_b = refl;
  to_ended = refl;
  to_before_hold = refl;
  to_at_hold = refl;
  to_fresh = refl;
}
