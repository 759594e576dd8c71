-- d and margin, at a position report; what departs a reached stop.
use Rattle.std.specs.Prelude.{ℕ, ◌/◌, Option, Some, None, Bool, false, not, ◌&&◌, get_or, ℤ, pos, neg_ℤ, ◌-ℤ◌, eqb, ltb, if◌then◌else◌}
use Rattle.std.specs.Int.Signed.{lt_z, le_z}
use Rattle.engine_value.specs.Engine.{Route}
use Rattle.engine_value.specs.declared.Point.{Point}
use Rattle.engine_value.specs.declared.Position.{Position}
use Rattle.engine_value.specs.declared.Engine.{Engine}
use Rattle.position.specs.Position.{point, front_at}

-- A position report, with the train length and the driver skips as they stood at it.
pub record Report : Type 0 where
  pub position : Position
  pub length : ℕ
  pub skips : ℕ → Bool

-- one of that position, with the train length and the driver skips of an engine
abbrev pub report_from : Engine → Position → Report
report_from e x = record { position = x; length = e.train.length; skips = λ k. get_or e.skips k false }

-- "train length × (0 front, half rounded down for middle, 1 rear)"
abbrev pub back : ℕ → ℕ → ℕ
back length alignment = if eqb alignment 0 then 0 else if eqb alignment 1 then length / 2 else length

-- "Let d, signed, be front position minus train length × (..) minus the point's place, both counted from the journey's start."
abbrev pub distance : ℕ → ℕ → Point → ℤ
distance f length p = pos f -ℤ pos (back length p.alignment) -ℤ pos p.place

-- "a stop that is not skipped (by trackside or driver)"
abbrev pub unskipped : Point → Bool → Bool
unskipped p driver = p.stop && (not p.trackside && not driver)

-- "Its margin is R for a stop that is not skipped (by trackside or driver), else 0." The term is document 01's.
abbrev pub margin : Point → Bool → ℕ
margin p driver = if unskipped p driver then p.reach else 0

-- what holds of the front, where the position is known
abbrev pub at_front : Option ℕ → (ℕ → Bool) → Bool
at_front None test = false
at_front (Some f) test = test f

-- "d > margin"
abbrev pub exceeds : ℕ → ℕ → Point → Bool → Bool
exceeds f length p driver = lt_z (pos (margin p driver)) (distance f length p)

-- document 02, Q-3: "d greater than R", the point's reached distance itself
abbrev pub exceeds_reach : ℕ → ℕ → Point → Bool
exceeds_reach f length p = lt_z (pos p.reach) (distance f length p)

-- "an unskipped stop with speed 0 and d ≥ −R"
abbrev pub stops_at : ℕ → ℕ → ℕ → Point → Bool → Bool
stops_at f length speed p driver = unskipped p driver && (eqb speed 0 && le_z (neg_ℤ (pos p.reach)) (distance f length p))

-- the same of point k at a report
unfoldable pub beyond : Route → Report → ℕ → Bool
beyond j r k = at_front (front_at j r.position) (λ f. exceeds f r.length (point j k) (r.skips k))

unfoldable pub at_stop : Route → Report → ℕ → Bool
at_stop j r k = at_front (front_at j r.position) (λ f. stops_at f r.length r.position.speed (point j k) (r.skips k))

-- "speed above 0"
abbrev pub moving : Report → Bool
moving r = ltb 0 r.position.speed

-- 02, Q-3: "a report with speed above 0, a known position and d greater than R"; so a reached point k is departed, and not otherwise
unfoldable pub leaves : Route → Report → ℕ → Bool
leaves j r k = moving r && at_front (front_at j r.position) (λ f. exceeds_reach f r.length (point j k))
