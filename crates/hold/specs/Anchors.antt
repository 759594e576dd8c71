-- Values that the definitions must give for the journey of position/Sample, worked out by hand from document 02, Q-5: of its five points 7003, which
-- trackside skips, and 7004 are held; 7006 stands behind the count.
use Rattle.std.specs.Prelude.{ℕ, ◌≡◌, [], ◌∷◌, ◌++◌, map, replicate, Bool, true, false, Option, Some, None, option_map}
use Rattle.wire.specs.Judged.Judged.{refuse, accept}
use Rattle.engine_value.specs.Engine.{Route, no_operational}
use Rattle.engine_value.specs.declared.Point.{Point}
use Rattle.position.specs.Position.{point}
use Rattle.position.specs.Sample.{journey, journey_to, at, engine_at}
use Rattle.position.specs.declared.Standing.{Standing}
use Rattle.position.specs.declared.Standing.TheVariants.{Unused, Targeted, Reached, Passed}
use Rattle.hold.specs.Hold.{held_stop, held_stop_in, hold_row, keeps_hold, hold_ended}

abbrev name_of : Option Point → Option ℕ
name_of = option_map (λ (p : Point). p.nidtp)

-- with n points passed, and the next targeted or reached
abbrev held_at : ℕ → Bool → Option ℕ
held_at n reached = name_of (held_stop_in (engine_at (at 17 500 0 0) n reached))

-- every point stands so
abbrev each : Standing → ℕ → Standing
each s k = s

-- 7004 of another country
abbrev elsewhere : Point
elsewhere = record { nidtp = 7004; place = 0; reach = 0; nidc = 99; alignment = 2; stopping = 0; stop = true; trackside = false; held = true; placed = true }

-- a journey of one stop, 7001, of other place, R and alignment
abbrev pub renewed : Bool → Bool → Bool → Route
renewed trackside held placed = record {
  load = record { operational = no_operational; valid = true; ending = 0; point_count = 1; segment_count = 4 };
  points = record { nidtp = 7001; place = 0; reach = 0; nidc = 17; alignment = 2; stopping = 0; stop = true; trackside = trackside; held = held; placed = placed } ∷ [];
  segments = journey.segments;
}

pub record Anchors : Type 0 where
  -- "a held stop is reached": reached and not held; reached and held; behind the count
  pub reached : held_at 0 true ∷ held_at 3 true ∷ held_at 4 true ∷ held_at 5 true ∷ [] ≡ None ∷ Some 7004 ∷ None ∷ None ∷ []
  -- held, and targeted or passed
  pub not_reached : held_at 3 false ∷ held_at 4 false ∷ [] ≡ None ∷ None ∷ []
  pub standings : map (λ s. name_of (held_stop (journey_to 4) (each s))) (Unused ∷ Targeted ∷ Reached ∷ Passed ∷ []) ≡ None ∷ None ∷ Some 7003 ∷ None ∷ []
  -- "20, a press at a held stop": kind 8, and no other
  pub row_20 : map (hold_row (Some (point journey 3))) (1 ∷ 2 ∷ 3 ∷ 4 ∷ 5 ∷ 6 ∷ 7 ∷ 8 ∷ 9 ∷ 10 ∷ 11 ∷ 12 ∷ 13 ∷ 14 ∷ 15 ∷ [])
      ≡ replicate 7 (accept tt) ++ (refuse 20 ∷ replicate 7 (accept tt))
  pub no_held_stop : hold_row None 8 ≡ accept tt
  -- "unheld or lacks it": a stop unheld, a passing point, a held stop that is skipped, a held stop; behind the count; of no point
  pub keeps : map (keeps_hold journey) (7001 ∷ 7002 ∷ 7003 ∷ 7004 ∷ 7006 ∷ 7000 ∷ []) ≡ false ∷ false ∷ true ∷ true ∷ false ∷ false ∷ []
  pub ends : map (λ p. hold_ended (Some p) journey) (point journey 0 ∷ point journey 1 ∷ point journey 3 ∷ []) ≡ Some (point journey 0) ∷ Some (point journey 1) ∷ None ∷ []
  -- skipped by trackside and unheld; held, and not placed
  pub keeps_renewed : map (λ (j : Route). keeps_hold j 7001) (renewed true false true ∷ renewed false true false ∷ []) ≡ false ∷ true ∷ []
  -- "the old point's fields"
  pub old_fields : hold_ended (Some (point journey 0)) (renewed false false true) ≡ Some (point journey 0)
  -- lacking, in the journey of three points; the name is NID_TP alone
  pub lacks : hold_ended (Some (point journey 3)) (journey_to 3) ≡ Some (point journey 3)
  pub by_name : hold_ended (Some elsewhere) journey ∷ hold_ended (Some elsewhere) (journey_to 3) ∷ [] ≡ None ∷ Some elsewhere ∷ []
  pub none_held : hold_ended None (journey_to 3) ≡ None
