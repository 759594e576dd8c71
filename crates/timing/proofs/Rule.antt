-- Each point stands, after any list of reports, where the history rule puts it: the rule as a function.
use Prim.Native.Nat.{ℕ, zero, suc, ◌-◌, ◌<◌, ◌≤◌}
use mathlib.Core.Path.{◌≡◌, refl, sym, ap, ◌∙◌}
use mathlib.Core.Logic.{◌↔◌, ◌⊎◌, inl, inr}
use mathlib.Core.List.{List, [], ◌∷◌}
use mathlib.Core.Bool.{Bool, true, false, not, false≢true}
use native.Mathlib.Omega.{arith}
use native.Mathlib.Nat.{eq-or-lt_of_le}
use lib.Dec.{ltb}
use borrow.Author.Tests.{ltb-true, ltb-false, lt-ltb, le-ltb, not-true}
use Rattle.engine_value.specs.Engine.{Route, progress}
use Rattle.engine_value.specs.declared.Progress.{Progress}
use Rattle.position.specs.declared.Standing.TheVariants.{Reached}
use Rattle.position.specs.Position.{point_count, placed, known}
use Rattle.timing.specs.Distance.{Report, beyond, at_stop, leaves}
use Rattle.position.specs.Standing.{standing}
use Rattle.timing.specs.Report.{looked, looked_from, stays, reported, became_reached, run}
use Rattle.position.proofs.Laws.{standing_passed, standing_unused, standing-at, standing-reached, standing-targeted, reached-only}
use Rattle.wire.proofs.ListLaws.{and_left, and_right}
use Rattle.timing.specs.History.{settles}
use Rattle.timing.specs.Rule.{PointOutcome, departing, through, after, point_outcome, standing_for, standing_by_reports}
use Rattle.timing.specs.Rule.PointOutcome.{passes, reaches, not_settled, not_looked_at}
use Rattle.timing.proofs.Steps.{look_stops, look_passes, look_judges, reported_stays, reported_departs, reported_looks, following-is, InRange, looked_range, reported_range, started, run_up}

-- ---- the rule by case

module _ (j : Route) (k : ℕ) (r : Report) (rs : List Report) where
  pub through_on : settles j r k ≡ false → through j k (r ∷ rs) ≡ through j k rs
  unfolding through
  through_on e = rw e

  pub through_passes : settles j r k ≡ true → beyond j r k ≡ true → through j k (r ∷ rs) ≡ passes (r ∷ rs)
  unfolding through
  through_passes e b = rw (e, b)

  pub through_reaches : settles j r k ≡ true → beyond j r k ≡ false → through j k (r ∷ rs) ≡ departing j k rs
  unfolding through
  through_reaches e b = rw (e, b)

  pub departing_on : leaves j r k ≡ false → departing j k (r ∷ rs) ≡ departing j k rs
  unfolding departing
  departing_on e = rw e

  pub departing_passes : leaves j r k ≡ true → departing j k (r ∷ rs) ≡ passes (r ∷ rs)
  unfolding departing
  departing_passes e = rw e

run_more : (j : Route) (p : Progress) (r : Report) (rs : List Report) → run j p (r ∷ rs) ≡ run j (reported j r p) rs
unfolding run
run_more j p r rs = refl

-- ---- what came of point k says of the progress at the end
module _ (j : Route) where
  abbrev Told : Progress → ℕ → PointOutcome → Type 0
  Told p k (passes rs) = p ≡ run j (progress (suc k) false) rs
  Told p k reaches = p ≡ progress k true
  Told p k not_settled = p ≡ progress k false
  Told p k not_looked_at = p.next < k

  told_is : (k : ℕ) {p q : Progress} {f g : PointOutcome} → p ≡ q → f ≡ g → Told q k g → Told p k f
  told_is k e d t = rw (e, d) t

  module _ (k : ℕ) (h : k < point_count j) where
    -- looking at the next point in the same report is starting at that report
    onward : (r : Report) (rs : List Report) (p : Progress) → reported j r p ≡ looked_from j r (suc k) → run j p (r ∷ rs) ≡ run j (progress (suc k) false) (r ∷ rs)
    onward r rs p e =
        run_more j p r rs ∙ ap (λ q. run j q rs) (e ∙ sym (reported_looks j r (progress (suc k) false) refl)) ∙ sym (run_more j (progress (suc k) false) r rs)

    departing_told : (rs : List Report) → Told (run j (progress k true) rs) k (departing j k rs)
    unfolding run departing
    departing_told [] = refl
    departing_told (r ∷ rs) = go _ refl (departing_told rs)
      where
        go : (b : Bool) → leaves j r k ≡ b → Told (run j (progress k true) rs) k (departing j k rs) → Told (run j (progress k true) (r ∷ rs)) k (departing j k (r ∷ rs))
        go false e t = told_is k (ap (λ q. run j q rs) (reported_stays j r (progress k true) refl e)) (departing_on j k r rs e) t
        go true e t = told_is k (onward r rs (progress k true) (reported_departs j r (progress k true) refl e ∙ ap (looked_from j r) (following-is j k h))) (departing_passes j k r rs e) refl

    left : point_count j - k ≡ suc (point_count j - suc k)
    left = omega arith

    through_told : (rs : List Report) → Told (run j (progress k false) rs) k (through j k rs)
    unfolding run through
    through_told [] = refl
    through_told (r ∷ rs) = go _ refl _ refl _ refl _ refl (through_told rs)
      where
        looks : reported j r (progress k false) ≡ looked_from j r k
        looks = reported_looks j r (progress k false) refl

        at_k : looked_from j r k ≡ looked j r (suc (point_count j - suc k)) k
        at_k = ap (λ n. looked j r n k) left

        -- the report leaves the point targeted, and settles nothing
        idle : looked j r (suc (point_count j - suc k)) k ≡ progress k false → settles j r k ≡ false → Told (run j (progress k false) rs) k (through j k rs)
            → Told (run j (progress k false) (r ∷ rs)) k (through j k (r ∷ rs))
        idle l s t = told_is k (ap (λ q. run j q rs) (looks ∙ at_k ∙ l)) (through_on j k r rs s) t

        go : (a : Bool) → known j r.position ≡ a → (b : Bool) → placed j k ≡ b → (c : Bool) → beyond j r k ≡ c → (d : Bool) → at_stop j r k ≡ d
            → Told (run j (progress k false) rs) k (through j k rs) → Told (run j (progress k false) (r ∷ rs)) k (through j k (r ∷ rs))
        go false e b f c g d i t = idle (look_stops j r _ k (rw e)) (rw e) t
        go true e false f c g d i t = idle (look_stops j r _ k (rw (e, f))) (rw (e, f)) t
        go true e true f false g false i t = idle (look_judges j r _ k (rw (e, f)) g ∙ ap (progress k) i) (rw (e, f, g, i)) t
        go true e true f false g true i t =
            told_is k
            (ap (λ q. run j q rs) (looks ∙ at_k ∙ look_judges j r _ k (rw (e, f)) g ∙ ap (progress k) i))
            (through_reaches j k r rs (rw (e, f, g, i)) g)
            (departing_told rs)
        go true e true f true g d i t =
            told_is k
            (onward r rs (progress k false) (looks ∙ at_k ∙ look_passes j r _ k (rw (e, f)) g))
            (through_passes j k r rs (rw (e, f, g)) g)
            refl

  told_next : (p : Progress) (k : ℕ) → suc k < point_count j → (f : PointOutcome) → Told p k f → Told p (suc k) (after j (suc k) f)
  told_next p k h (passes l) t = rw t (through_told (suc k) h l)
  told_next p k h reaches t = rw t (omega arith)
  told_next p k h not_settled t = rw t (omega arith)
  told_next p k h not_looked_at t = omega arith

  stood : (p : Progress) (k : ℕ) → k < point_count j → (f : PointOutcome) → Told p k f → standing p k ≡ standing_for f
  stood p k h (passes l) t = rw t (standing_passed (run j (progress (suc k) false) l) k (run_up j l (progress (suc k) false) (started j (suc k) h)))
  stood p k h reaches t = rw t (standing-reached k)
  stood p k h not_settled t = rw t (standing-targeted k)
  stood p k h not_looked_at t = standing_unused p k t

  module _ (start : ℕ) (reports : List Report) where
    -- the load is the passing moment of what it put behind
    pub point_outcome_behind : (k : ℕ) → k < start → point_outcome j start reports k ≡ passes reports
    unfolding point_outcome
    point_outcome_behind zero h = rw (lt-ltb zero start h)
    point_outcome_behind (suc k) h = rw (lt-ltb (suc k) start h)

    pub point_outcome_first : start ≤ zero → point_outcome j start reports zero ≡ through j zero reports
    unfolding point_outcome
    point_outcome_first h = rw (le-ltb zero start h)

    pub point_outcome_next : (k : ℕ) → start ≤ suc k → point_outcome j start reports (suc k) ≡ after j (suc k) (point_outcome j start reports k)
    unfolding point_outcome
    point_outcome_next k h = rw (le-ltb (suc k) start h)

    abbrev end : Progress
    end = run j (progress start false) reports

    -- the first point that the load did not put behind
    from_load : (k : ℕ) → start ≡ k → k < point_count j → Told end k (through j k reports)
    from_load k e h = rw e (through_told k h reports)

    told : (k : ℕ) → start ≤ k → k < point_count j → Told end k (point_outcome j start reports k)
    told zero s h = told_is zero refl (point_outcome_first s) (from_load zero (omega arith) h)
    told (suc k) s h = go (eq-or-lt_of_le s) (λ q. told k q (omega arith))
      where
        go : (start ≡ suc k) ⊎ (start < suc k) → (start ≤ k → Told end k (point_outcome j start reports k)) → Told end (suc k) (point_outcome j start reports (suc k))
        go (inl e) f = told_is (suc k) refl (point_outcome_next k s ∙ ap (after j (suc k)) (point_outcome_behind k (omega arith))) (from_load (suc k) e h)
        go (inr l) f = told_is (suc k) refl (point_outcome_next k s) (told_next end k h (point_outcome j start reports k) (f (omega arith)))

    -- every point stands where the history rule puts it
    pub as_the_rule : start ≤ point_count j → (k : ℕ) → k < point_count j → standing end k ≡ standing_by_reports j start reports k
    unfolding standing_by_reports
    as_the_rule within k h = go _ refl
      where
        go : (b : Bool) → ltb k start ≡ b → standing end k ≡ standing_for (point_outcome j start reports k)
        go true e = standing_passed end k (omega (arith, ltb-true k start e, run_up j reports (progress start false) (started j start within))) ∙ sym (ap standing_for (point_outcome_behind k (ltb-true _ _ e)))
        go false e = stood end k h (point_outcome j start reports k) (told k (ltb-false _ _ e) h)

-- ---- "A point became reached at a report if the history rule has it so after, not before, that report."
module _ (j : Route) (r : Report) (p : Progress) (h : InRange j p) where
  abbrev pub Became : ℕ → Type 0
  Became k = (standing (reported j r p) k ≡ Reached) × (standing p k ≡ Reached → ⊥)

  stayed : stays j r p ≡ true → reported j r p ≡ p
  unfolding reported
  stayed e = rw e

  -- a point that was reached, and is no longer waited at, is passed
  pub gone_on : p.reached ≡ true → stays j r p ≡ false → p.next < (reported j r p).next
  gone_on e s = go _ refl
    where
      go : (b : Bool) → leaves j r p.next ≡ b → p.next < (reported j r p).next
      go true m =
          let l : p.next < point_count j = h.reached_one e in
          rw (reported_departs j r p e m, following-is j p.next l) (looked_range j r (suc p.next) l).0
      go false m = absurd (false≢true (sym s ∙ rw (e, m)))

  pub became_reached_lem : (became_reached j r p ≡ true) ↔ ((k : ℕ) × (k < point_count j) × Became k)
  became_reached_lem = (there, back)
    where
      there : became_reached j r p ≡ true → (k : ℕ) × (k < point_count j) × Became k
      there e =
          let a : stays j r p ≡ false = not-true _ (and_left (not (stays j r p)) _ e) in
          let b : (reported j r p).reached ≡ true = and_right (not (stays j r p)) _ e in
          ((reported j r p).next, (reported_range j r p h).reached_one b, (standing-at (reported j r p) b, λ s. let z = reached-only p _ s in let l : p.next < (reported j r p).next = gone_on z.1 a in omega (arith, z.0)))

      back : (k : ℕ) × (k < point_count j) × Became k → became_reached j r p ≡ true
      back (k, l, (s, n)) = go _ refl
        where
          go : (b : Bool) → stays j r p ≡ b → became_reached j r p ≡ true
          go true e = absurd (n (rw (stayed e) at s))
          go false e = rw (e, (reached-only (reported j r p) k s).1)
