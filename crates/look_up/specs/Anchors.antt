-- Values that the definitions must give for the journey of position/Sample, worked out by hand from document 01. The engine stands in the zone of the
-- first segment, with the first point targeted; the driver skips point 3.
use Rattle.std.specs.Prelude.{ℕ, ◌≡◌, Option, Some, None, [], ◌∷◌, map, Bool, true, false}
use Rattle.engine_value.specs.Engine.{progress, fresh, undefined}
use Rattle.engine_value.specs.declared.Progress.{Progress}
use Rattle.engine_value.specs.declared.Engine.{Engine}
use Rattle.event.specs.Event.Event.{Press, PositionReport, Length, Load, Skip, Revoke}
use Rattle.event.specs.Kinds.{report, load, other, skip}
use Rattle.position.specs.Sample.{at, engine_at}
use Rattle.position.specs.declared.Named.{Named}
use Rattle.position.specs.declared.Stop.{Stop}
use Rattle.timing.specs.declared.Reported.{Reported}
use Rattle.conditions.specs.declared.RouteConditions.{RouteConditions}
use Rattle.look_up.specs.declared.LookedUp.{LookedUp}
use Rattle.look_up.specs.LookUp.{position_after, report_as, stop_as, route_conditions_in, look_up}

abbrev engine : Engine
engine = engine_at (at 17 500 25000 0) 0 false

-- what the conditions look up: 4, 6 and 7
abbrev routed : Bool → Bool → Bool → RouteConditions
routed profiles located outside = record { profiles = profiles; located = located; outside = outside }

-- a segment of the journey in the book that is placed: the offset in a zone of it, its start and length
abbrev segment : Bool → ℕ → ℕ → Option Named
segment inside start length = Some (record { booked = true; placed = true; inside = inside; start = start; length = length })

-- what a report brings: the progress after it, the first point looked at, departed, reached
abbrev brings : Progress → ℕ → Bool → Bool → Reported
brings p from departed reached = record { progress = p; from = from; departed = departed; reached = reached }

abbrev stop : ℕ → Bool → Option Stop
stop k skipped = Some (record { at = k; skipped = skipped })

abbrev looked_up : RouteConditions → Option Named → Reported → Option Stop → LookedUp
looked_up w s r t = record { before = w; segment = s; report = r; stop = t }

pub record Anchors : Type 0 where
  -- "position .. come from the latest accepted event since power off that carries them"
  pub positions : map (λ e. (position_after engine e).offset) (PositionReport (at 33 500 7 9) ∷ Length 5 ∷ Load ∷ Press ∷ [])
      ≡ 7 ∷ 25000 ∷ 25000 ∷ 25000 ∷ []
  pub position_whole : position_after engine (PositionReport (at 33 501 7 9)) ≡ at 33 501 7 9
  -- a position report moves the points, with the engine's train length and driver skips; another event none
  pub report_passes : report_as report engine (at 33 500 10302 1) ≡ brings (progress 3 false) 0 false false
  pub report_reaches : report_as report engine (at 17 500 40000 0) ≡ brings (progress 0 true) 0 false true
  pub report_creeps : report_as report (engine_at (at 17 500 40000 0) 0 true) (at 17 500 40150 1) ≡ brings (progress 0 true) 0 false false
  pub report_departs : report_as report (engine_at (at 17 500 40000 0) 0 true) (at 17 500 40151 1) ≡ brings (progress 1 false) 1 true false
  pub report_skipped : report_as report engine (at 33 500 40150 0) ≡ brings (progress 3 false) 0 false false
  pub no_reports : map (λ r. (report_as r engine (at 33 500 10302 1)).progress.next) (report ∷ load ∷ other ∷ skip 7001 true ∷ []) ≡ 3 ∷ 0 ∷ 0 ∷ 0 ∷ []
  pub no_report_lem : report_as other (engine_at (at 17 500 40000 0) 0 true) (at 33 500 10302 1) ≡ brings (progress 0 true) 0 false false
  -- "12 driver skip (4, NID_TP); 13 driver revokes skip (4)"
  pub stops : map (λ r. stop_as r engine) (skip 7001 true ∷ skip 7004 false ∷ skip 7002 true ∷ report ∷ other ∷ [])
      ≡ stop 0 false ∷ stop 3 true ∷ None ∷ None ∷ None ∷ []
  -- conditions 4, 6 and 7 of an engine: in a zone, outside of it, undefined; at the point that is not placed; with no journey
  pub routes : map route_conditions_in (engine ∷ engine_at (at 17 500 30001 0) 4 false ∷ engine_at (at 17 500 undefined 0) 5 false ∷ fresh ∷ [])
      ≡ routed true true false ∷ routed false true true ∷ routed true false true ∷ routed false false true ∷ []
  -- of an event: the conditions before it, the segment after it
  pub by_report : look_up engine (PositionReport (at 33 500 40150 0))
      ≡ looked_up (routed true true false) (segment false 100000 50000) (brings (progress 3 false) 0 false false) None
  pub by_skip : map (look_up engine) (Skip 7001 ∷ Revoke 7004 ∷ [])
      ≡ looked_up (routed true true false) (segment true 0 100000) (brings (progress 0 false) 0 false false) (stop 0 false)
      ∷ looked_up (routed true true false) (segment true 0 100000) (brings (progress 0 false) 0 false false) (stop 3 true)
      ∷ []
