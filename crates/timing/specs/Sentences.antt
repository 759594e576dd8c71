-- Sentences of document 01, and of document 02 (Q-3), on the load and on the reports of a list, each beside the function that computes it.
use Rattle.std.specs.Prelude.{ℕ, ◌+◌, ◌≤◌, ◌<◌, ◌≡◌, ◌↔◌, ◌⊎◌, Some, List, Bool, true, false, length}
use Rattle.engine_value.specs.Engine.{Route}
use Rattle.engine_value.specs.declared.Point.{Point}
use Rattle.engine_value.specs.declared.Position.{Position}
use Rattle.position.specs.Position.{point_count, point, placed, front_at}
use Rattle.timing.specs.Distance.{Report, back, unskipped, margin, exceeds, exceeds_reach, stops_at, leaves}
use Rattle.timing.specs.Load.{target}
use Rattle.timing.specs.History.{report_number, settles}

pub record Sentences : Type 0 where
  -- "d > margin", without a signed number
  pub beyond_margin : (f length : ℕ) (p : Point) (driver : Bool)
      → (exceeds f length p driver ≡ true) ↔ (p.place + back length p.alignment + margin p driver < f)
  -- "an unskipped stop with speed 0 and d ≥ −R", without a signed number
  pub at_stop_lem : (f length speed : ℕ) (p : Point) (driver : Bool)
      → (stops_at f length speed p driver ≡ true)
      ↔ ((unskipped p driver ≡ true) × (speed ≡ 0) × (p.place + back length p.alignment ≤ f + p.reach))
  -- document 02, Q-3: "a report with speed above 0, a known position and d greater than R", without a signed number
  pub leaving : (j : Route) (r : Report) (k : ℕ)
      → (leaves j r k ≡ true)
      ↔ ((0 < r.position.speed)
      × ((f : ℕ) × (front_at j r.position ≡ Some f) × ((point j k).place + back r.length (point j k).alignment + (point j k).reach < f)))
  -- at a stop that is not skipped "d greater than R" is "d > margin"
  pub leaving_margin : (f length : ℕ) (p : Point) (driver : Bool) → unskipped p driver ≡ true → exceeds_reach f length p ≡ exceeds f length p driver
  -- "Load, judged .. with no driver skip: the first point that is unplaced or has d ≤ margin is targeted, earlier ones passed, ..; with no known
  -- position the first is targeted": a load puts point k behind where the position is known, and it and every point before it are placed with
  -- d > margin
  pub load_behind : (j : Route) (x : Position) (length k : ℕ)
      → (k < target j x length)
      ↔ ((k < point_count j)
      × ((f : ℕ) × (front_at j x ≡ Some f) × ((i : ℕ) → i ≤ k → (placed j i ≡ true) × (exceeds f length (point j i) false ≡ true))))
  -- the report that stands in where a list has none of that number settles no point and departs none
  pub stand_in : (l : List Report) (t : ℕ) → (t ≡ 0) ⊎ (length l < t)
      → (j : Route) (k : ℕ) → (settles j (report_number l t) k ≡ false) × (leaves j (report_number l t) k ≡ false)
