-- The history rule; by document 02, Q-3, it "is about this meaning of departure". The moments since the load in force are numbered: 0 is the load,
-- t (from 1) the t-th accepted position report.
use Rattle.std.specs.Prelude.{◌≡◌, ◌⊎◌, List, Bool, true, false, ◌&&◌, ◌||◌, get_or, length, ℕ, zero, suc, ◌≤◌, ◌<◌}
use Rattle.engine_value.specs.Engine.{Route, fresh_position}
use Rattle.position.specs.Position.{known, placed}
use Rattle.timing.specs.Distance.{Report, beyond, at_stop, leaves}
use Rattle.timing.specs.Load.{unskipped_report}
use Rattle.position.specs.declared.Standing.{Standing}
use Rattle.position.specs.declared.Standing.TheVariants.{Unused, Targeted, Reached, Passed}

-- report t of a list, from 1
abbrev pub report_number : List Report → ℕ → Report
report_number l zero = unskipped_report fresh_position 0
report_number l (suc t) = get_or l t (unskipped_report fresh_position 0)

-- the first report to go through from a moment on, "that very report included (for the first point, from the load)"
abbrev pub first_of : ℕ → ℕ
first_of zero = 1
first_of (suc t) = suc t

-- "with known position, the point placed, and either d > margin or, for an unskipped stop, speed 0 and d ≥ −R"
abbrev pub settles : Route → Report → ℕ → Bool
settles j r k = known j r.position && (placed j k && (beyond j r k || at_stop j r k))

-- The journey in force, the number of points that its load put behind, and the position reports since.
module _ (j : Route) (start : ℕ) (reports : List Report) where
  -- "The first of them with .. settles it": report s, of those from number a on
  pub record Settled (k a s : ℕ) : Type 0 where
    pub from : a ≤ s
    pub settled : settles j (report_number reports s) k ≡ true
    pub none_before : (u : ℕ) → a ≤ u → u < s → settles j (report_number reports u) k ≡ false

  -- "departs, thus passes, at the first later position report" t that departs it: by document 02, Q-3, not any "with speed above 0", but "only by a
  -- report with speed above 0, a known position and d greater than R"
  pub record Departs (k s t : ℕ) : Type 0 where
    pub later : s < t
    pub leaves_it : leaves j (report_number reports t) k ≡ true
    pub none_before : (u : ℕ) → s < u → u < t → leaves j (report_number reports u) k ≡ false

  -- "With d > margin the point passes there; otherwise it is reached there and departs, thus passes, .."
  abbrev pub Passes : ℕ → ℕ → ℕ → Type 0
  Passes k a t =
      (s : ℕ) × Settled k a s
      × (((beyond j (report_number reports s) k ≡ true) × (t ≡ s)) ⊎ ((beyond j (report_number reports s) k ≡ false) × Departs k s t))

  -- "a point may have a passing moment. Where the load put it behind, that is the load. For any other, go through the accepted position reports
  -- from the passing moment of the point before"
  abbrev pub Moment : ℕ → ℕ → Type 0
  Moment zero t = ((0 < start) × (t ≡ 0)) ⊎ ((start ≤ 0) × Passes 0 1 t)
  Moment (suc k) t = ((suc k < start) × (t ≡ 0)) ⊎ ((start ≤ suc k) × ((m : ℕ) × Moment k m × Passes (suc k) (first_of m) t))

  -- the passing moment of the point before; for the first point the load
  abbrev pub Before : ℕ → ℕ → Type 0
  Before zero m = m ≡ 0
  Before (suc k) m = Moment k m

  abbrev pub HasMoment : ℕ → Type 0
  HasMoment k = (t : ℕ) × (t ≤ length reports) × Moment k t

  -- "Of the points with no passing moment the first"
  pub record First (k : ℕ) : Type 0 where
    pub itself : ¬ HasMoment k
    pub before : (i : ℕ) → i < k → HasMoment i

  -- "so settled"
  abbrev pub IsSettled : ℕ → Type 0
  IsSettled k = (m : ℕ) × Before k m × ((s : ℕ) × (s ≤ length reports) × Settled k (first_of m) s)

  -- "Of the points with no passing moment the first is reached if so settled, else targeted; the rest are not used."
  abbrev pub Stands : ℕ → Standing → Type 0
  Stands k Passed = HasMoment k
  Stands k Reached = First k × IsSettled k
  Stands k Targeted = First k × ¬ IsSettled k
  Stands k Unused = ¬ HasMoment k × ¬ First k
