-- A position report by case, and what it keeps: the first point not passed never goes back, stays within the journey, and a reached point is one of the journey's.
use Prim.Native.Nat.{ℕ, zero, suc, ◌+◌, ◌-◌, ◌<◌, ◌≤◌}
use mathlib.Core.Path.{◌≡◌, refl}
use mathlib.Core.List.{List, [], ◌∷◌, ◌++◌}
use mathlib.Core.Bool.{Bool, true, false, ◌&&◌, false≢true}
use native.Mathlib.Omega.{arith}
use native.Mathlib.Numerals.{add-one}
use Rattle.engine_value.specs.Engine.{Route, progress}
use Rattle.engine_value.specs.declared.Position.{Position}
use Rattle.engine_value.specs.declared.Progress.{Progress}
use Rattle.position.specs.Position.{point_count, placed, known}
use Rattle.timing.specs.Distance.{Report, beyond, at_stop, leaves}
use Rattle.timing.specs.Load.{unskipped_report, put_behind, target_from, target}
use Rattle.timing.specs.Report.{following, looked, looked_from, stays, first_looked, reported, run}

-- ---- (b), one point

module _ (j : Route) (r : Report) (n k : ℕ) where
  pub look_stops : known j r.position && placed j k ≡ false → looked j r (suc n) k ≡ progress k false
  unfolding looked
  look_stops e = rw e

  pub look_passes : known j r.position && placed j k ≡ true → beyond j r k ≡ true → looked j r (suc n) k ≡ looked j r n (suc k)
  unfolding looked
  look_passes e b = rw (e, b, add-one)

  pub look_judges : known j r.position && placed j k ≡ true → beyond j r k ≡ false → looked j r (suc n) k ≡ progress k (at_stop j r k)
  unfolding looked
  look_judges e b = rw (e, b)

pub look_zero : (j : Route) (r : Report) (k : ℕ) → looked j r zero k ≡ progress k false
unfolding looked
look_zero j r k = refl

-- ---- (a) and (b)

module _ (j : Route) (r : Report) (p : Progress) where
  pub reported_stays : p.reached ≡ true → leaves j r p.next ≡ false → reported j r p ≡ p
  unfolding reported
  reported_stays e m = rw (e, m)

  pub reported_departs : p.reached ≡ true → leaves j r p.next ≡ true → reported j r p ≡ looked_from j r (following p.next)
  unfolding reported
  reported_departs e m = rw (e, m)

  pub reported_looks : p.reached ≡ false → reported j r p ≡ looked_from j r p.next
  unfolding reported
  reported_looks e = rw e

  pub reported_first : stays j r p ≡ false → reported j r p ≡ looked_from j r (first_looked j r p)
  unfolding reported
  reported_first e = rw e

-- within the 64 points, the following point is the next number
pub following-is : (j : Route) (k : ℕ) → k < point_count j → following k ≡ suc k
following-is j k h = omega arith

-- ---- what a report keeps

-- what holds of the progress in every engine that a load or a report leaves
pub record InRange (j : Route) (p : Progress) : Type 0 where
  pub most : p.next ≤ point_count j
  pub reached_one : p.reached ≡ true → p.next < point_count j

pub started : (j : Route) (k : ℕ) → k ≤ point_count j → InRange j (progress k false)
started j k h = record { most = h; reached_one = λ e. absurd (false≢true e) }

abbrev Ends : Progress → ℕ → ℕ → Type 0
Ends p k n = (k ≤ p.next) × (p.next ≤ k + n) × (p.reached ≡ true → p.next < k + n)

-- looking at n points from k on ends among them
looked-ends : (j : Route) (r : Report) (n k : ℕ) → Ends (looked j r n k) k n
looked-ends j r zero k = rw (look_zero j r k) (omega arith, omega arith, λ e. absurd (false≢true e))
looked-ends j r (suc n) k = go _ refl _ refl (looked-ends j r n (suc k))
  where
    go : (a : Bool) → known j r.position && placed j k ≡ a → (b : Bool) → beyond j r k ≡ b → Ends (looked j r n (suc k)) (suc k) n → Ends (looked j r (suc n) k) k (suc n)
    go false e b f h = rw (look_stops j r n k e) (omega arith, omega arith, λ x. omega arith)
    go true e false f h = rw (look_judges j r n k e f) (omega arith, omega arith, λ x. omega arith)
    go true e true f (l, m, o) = rw (look_passes j r n k e f) (omega arith, omega arith, λ x. let z = o x in omega arith)

module _ (j : Route) (r : Report) where
  pub looked_range : (k : ℕ) → k ≤ point_count j → (k ≤ (looked_from j r k).next) × InRange j (looked_from j r k)
  looked_range k h =
      let e = looked-ends j r (point_count j - k) k in
      (e.0, record { most = omega (arith, e.1); reached_one = λ x. let z = e.2 x in omega arith })

  module _ (p : Progress) (h : InRange j p) where
    both : (p.next ≤ (reported j r p).next) × InRange j (reported j r p)
    both = go _ refl _ refl
      where
        go : (a : Bool) → p.reached ≡ a → (b : Bool) → leaves j r p.next ≡ b → (p.next ≤ (reported j r p).next) × InRange j (reported j r p)
        go false e b f = rw (reported_looks j r p e) (looked_range p.next h.most)
        go true e false f = rw (reported_stays j r p e f) (omega arith, h)
        go true e true f =
            let l : p.next < point_count j = h.reached_one e in
            let z = looked_range (suc p.next) l in
            rw (reported_departs j r p e f, following-is j p.next l) (omega (arith, z.0), z.1)

    pub reported_up : p.next ≤ (reported j r p).next
    reported_up = both.0

    pub reported_range : InRange j (reported j r p)
    reported_range = both.1

-- ---- the load

targeted-most : (j : Route) (r : Report) (n k : ℕ) → target_from j r n k ≤ k + n
unfolding target_from
targeted-most j r zero k = omega arith
targeted-most j r (suc n) k = go _ refl (targeted-most j r n (k + 1))
  where
    go : (b : Bool) → put_behind j r k ≡ b → target_from j r n (k + 1) ≤ k + 1 + n → target_from j r (suc n) k ≤ k + suc n
    go true e h = rw e (omega arith)
    go false e h = rw e (omega arith)

-- a load starts within the journey
pub target-most : (j : Route) (x : Position) (length : ℕ) → target j x length ≤ point_count j
unfolding target
target-most j x length = omega (arith, targeted-most j (unskipped_report x length) (point_count j) 0)

-- ---- any number of reports

pub run-range : (j : Route) (rs : List Report) (p : Progress) → InRange j p → InRange j (run j p rs)
unfolding run
run-range j [] p h = h
run-range j (r ∷ rs) p h = run-range j rs (reported j r p) (reported_range j r p h)

pub run_up : (j : Route) (rs : List Report) (p : Progress) → InRange j p → p.next ≤ (run j p rs).next
unfolding run
run_up j [] p h = omega arith
run_up j (r ∷ rs) p h = omega (arith, reported_up j r p h, run_up j rs (reported j r p) (reported_range j r p h))

-- one more report
pub run_snoc : (j : Route) (rs : List Report) (r : Report) (p : Progress) → run j p (rs ++ (r ∷ [])) ≡ reported j r (run j p rs)
unfolding run
run_snoc j [] r p = refl
run_snoc j (x ∷ rs) r p = run_snoc j rs r (reported j x p)
