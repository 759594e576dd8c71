-- "Position report": steps (a) and (b).
use Rattle.std.specs.Prelude.{ℕ, zero, suc, ◌+◌, ◌-◌, min, List, [], ◌∷◌, Bool, false, not, ◌&&◌, if◌then◌else◌}
use Rattle.engine_value.specs.Engine.{Route, progress, max_points}
use Rattle.engine_value.specs.declared.Progress.{Progress}
use Rattle.position.specs.Position.{point_count, placed, known}
use Rattle.timing.specs.Distance.{Report, beyond, at_stop, leaves}
use Rattle.timing.specs.declared.Reported.{Reported}

-- (b) "While the position is known and the targeted point placed: d > margin, it is passed and the next looked at; else, an unskipped stop with
-- speed 0 and d ≥ −R is reached; else end." Of the n points from k on
unfoldable pub looked : Route → Report → ℕ → ℕ → Progress
looked j r zero k = progress k false
looked j r (suc n) k =
    if not (known j r.position && placed j k) then progress k false else
    if beyond j r k then looked j r n (k + 1) else
    progress k (at_stop j r k)

abbrev pub looked_from : Route → Report → ℕ → Progress
looked_from j r k = looked j r (point_count j - k) k

-- the point after one; there is none behind the 64th
abbrev pub following : ℕ → ℕ
following k = min (k + 1) max_points

-- (a) "a reached point, speed above 0: departed, it is passed, the next is targeted", of which document 02, Q-3, changes when it is departed: "A
-- reached stop is now departed only by a report with speed above 0, a known position and d greater than R."
abbrev pub departs : Route → Report → Progress → Bool
departs j r p = p.reached && leaves j r p.next

-- "Until then .. it stays reached": nothing is looked at
abbrev pub stays : Route → Report → Progress → Bool
stays j r p = p.reached && not (leaves j r p.next)

abbrev pub first_looked : Route → Report → Progress → ℕ
first_looked j r p = if departs j r p then following p.next else p.next

-- (a), then (b)
unfoldable pub reported : Route → Report → Progress → Progress
reported j r p = if stays j r p then p else looked_from j r (first_looked j r p)

-- a point reached in this report
abbrev pub became_reached : Route → Report → Progress → Bool
became_reached j r p = not (stays j r p) && (reported j r p).reached

-- all that a report tells; its packets 62 follow from these (`report_changes`)
abbrev pub report_of : Route → Report → Progress → Reported
report_of j r p =
    record {
      progress = reported j r p;
      from = first_looked j r p;
      departed = departs j r p;
      reached = became_reached j r p;
    }

-- where there is none
abbrev pub no_report : Progress → Reported
no_report p = record { progress = p; from = p.next; departed = false; reached = false }

-- one report after the other
unfoldable pub run : Route → Progress → List Report → Progress
run j p [] = p
run j p (r ∷ rs) = run j (reported j r p) rs
