-- The history rule with numbered moments says what the rule as a function says; so each point stands, after any list of reports, where document 01 puts it.
use Prim.Native.Nat.{ℕ, zero, suc, ◌+◌, ◌-◌, ◌<◌, ◌≤◌}
use mathlib.Core.Path.{◌≡◌, refl, sym, ap, subst, ◌∙◌}
use mathlib.Core.Logic.{◌↔◌, ◌⊎◌, inl, inr}
use mathlib.Core.Bool.{Bool, true, false}
use mathlib.Core.List.{List, [], ◌∷◌}
use native.Mathlib.Omega.{arith}
use native.Mathlib.Nat.{eq-or-lt_of_le, le_of_suc-le-suc}
use lib.Dec.{ltb}
use lib.ListN.{length, get_or}
use borrow.Author.Tests.{ltb-true, ltb-false}
use Rattle.engine_value.specs.Engine.{Route, progress}
use Rattle.position.specs.declared.Standing.{Standing}
use Rattle.position.specs.declared.Standing.TheVariants.{Unused, Targeted, Reached, Passed}
use Rattle.position.specs.Position.{point_count}
use Rattle.timing.specs.Distance.{Report, beyond, leaves}
use Rattle.position.specs.Standing.{standing}
use Rattle.timing.specs.Report.{run}
use Rattle.timing.specs.History.{report_number, first_of, settles, Settled, Departs, Passes, Moment, Before, HasMoment, IsSettled, Stands}
use Rattle.timing.specs.Rule.{PointOutcome, departing, through, after, point_outcome, standing_for, standing_by_reports}
use Rattle.timing.specs.Rule.PointOutcome.{passes, reaches, not_settled, not_looked_at}
use Rattle.timing.proofs.Rule.{through_on, through_passes, through_reaches, departing_on, departing_passes, point_outcome_behind, point_outcome_first, point_outcome_next, as_the_rule}

-- reports number a, a + 1, .. : c of them
abbrev span : {R : Type 0} → (ℕ → R) → ℕ → ℕ → List R
span rep a zero = []
span rep a (suc c) = rep a ∷ span rep (suc a) c

span_shift : {R : Type 0} (f : ℕ → R) (a c : ℕ) → span f (suc a) c ≡ span (λ t. f (suc t)) a c
span_shift f a zero = refl
span_shift f a (suc c) = ap (λ l. f (suc a) ∷ l) (span_shift f (suc a) c)

span-get_or : {R : Type 0} (d : R) (l : List R) → span (λ t. get_or l t d) 0 (length l) ≡ l
span-get_or d [] = refl
span-get_or d (x ∷ l) = ap (λ m. x ∷ m) (span_shift (λ t. get_or (x ∷ l) t d) 0 (length l) ∙ span-get_or d l)

span-reports : (l : List Report) → span (report_number l) 1 (length l) ≡ l
span-reports l = span_shift (report_number l) 0 (length l) ∙ span-get_or (report_number l 0) l

module _ (j : Route) (start : ℕ) (reports : List Report) where
  abbrev rep : ℕ → Report
  rep = report_number reports

  abbrev N : ℕ
  N = length reports

  -- what holds at a, and from a + 1 on, holds from a on
  from_on : (P : ℕ → Type 0) (a b : ℕ) → P a → ((u : ℕ) → suc a ≤ u → u < b → P u) → (u : ℕ) → a ≤ u → u < b → P u
  from_on P a b here up u l h = go (eq-or-lt_of_le l)
    where
      go : (a ≡ u) ⊎ (a < u) → P u
      go (inl e) = rw (← e) here
      go (inr q) = up u q h

  -- what comes of point k, reached before, at the reports a .. B - 1
  abbrev Dep : ℕ → ℕ → ℕ → PointOutcome → Type 0
  Dep k a B (passes l) =
      (t : ℕ) × (a ≤ t) × (t < B) × (leaves j (rep t) k ≡ true) × ((u : ℕ) → a ≤ u → u < t → leaves j (rep u) k ≡ false) × (l ≡ span rep t (B - t))
  Dep k a B reaches = (u : ℕ) → a ≤ u → u < B → leaves j (rep u) k ≡ false
  Dep k a B not_settled = ⊥
  Dep k a B not_looked_at = ⊥

  dep_cons : (k a B : ℕ) (f : PointOutcome) → leaves j (rep a) k ≡ false → Dep k (suc a) B f → Dep k a B f
  dep_cons k a B (passes l) e (t, i, i', m, n, q) = (t, omega arith, i', m, from_on (λ u. leaves j (rep u) k ≡ false) a t e n, q)
  dep_cons k a B reaches e d = from_on (λ u. leaves j (rep u) k ≡ false) a B e d
  dep_cons k a B not_settled e d = d
  dep_cons k a B not_looked_at e d = d

  cut : (a c B : ℕ) → B ≡ a + c → span rep a c ≡ span rep a (B - a)
  cut a c B z = let e : c ≡ B - a = omega arith in rw (← e) refl

  dep : (k a c B : ℕ) → B ≡ a + c → Dep k a B (departing j k (span rep a c))
  unfolding departing
  dep k a zero B z = λ u l h. absurd (omega arith)
  dep k a (suc c) B z = go _ refl (dep k (suc a) c B (omega arith))
    where
      go : (b : Bool) → leaves j (rep a) k ≡ b → Dep k (suc a) B (departing j k (span rep (suc a) c)) → Dep k a B (departing j k (span rep a (suc c)))
      go true e d = rw (departing_passes j k (rep a) (span rep (suc a) c) e) (a, omega arith, omega arith, e, (λ u l h. absurd (omega arith)), cut a (suc c) B z)
      go false e d = rw (departing_on j k (rep a) (span rep (suc a) c) e) (dep_cons k a B (departing j k (span rep (suc a) c)) e d)

  -- what comes of point k at the reports a .. B - 1
  abbrev Thr : ℕ → ℕ → ℕ → PointOutcome → Type 0
  Thr k a B (passes l) = (t : ℕ) × Passes j start reports k a t × (a ≤ t) × (t < B) × (l ≡ span rep t (B - t))
  Thr k a B reaches = (s : ℕ) × Settled j start reports k a s × (s < B) × (beyond j (rep s) k ≡ false) × ((u : ℕ) → s < u → u < B → leaves j (rep u) k ≡ false)
  Thr k a B not_settled = (u : ℕ) → a ≤ u → u < B → settles j (rep u) k ≡ false
  Thr k a B not_looked_at = ⊥

  settled_cons : (k a s : ℕ) → settles j (rep a) k ≡ false → Settled j start reports k (suc a) s → Settled j start reports k a s
  settled_cons k a s e x = record { from = omega arith; settled = x.settled; none_before = from_on (λ u. settles j (rep u) k ≡ false) a s e x.none_before }

  thr_cons : (k a B : ℕ) (f : PointOutcome) → settles j (rep a) k ≡ false → Thr k (suc a) B f → Thr k a B f
  thr_cons k a B (passes l) e (t, (s, x, y), i, i', q) = (t, (s, settled_cons k a s e x, y), omega arith, i', q)
  thr_cons k a B reaches e (s, x, i, b, m) = (s, settled_cons k a s e x, i, b, m)
  thr_cons k a B not_settled e d = from_on (λ u. settles j (rep u) k ≡ false) a B e d
  thr_cons k a B not_looked_at e d = d

  here : (k a : ℕ) → settles j (rep a) k ≡ true → Settled j start reports k a a
  here k a e = record { from = omega arith; settled = e; none_before = λ u l h. absurd (omega arith) }

  of_dep : (k a B : ℕ) (f : PointOutcome) → a < B → settles j (rep a) k ≡ true → beyond j (rep a) k ≡ false → Dep k (suc a) B f → Thr k a B f
  of_dep k a B (passes l) z e b (t, i, i', m, n, q) = (t, (a, here k a e, inr (b, record { later = i; leaves_it = m; none_before = n })), omega arith, i', q)
  of_dep k a B reaches z e b d = (a, here k a e, z, b, d)
  of_dep k a B not_settled z e b d = absurd d
  of_dep k a B not_looked_at z e b d = absurd d

  thr : (k a c B : ℕ) → B ≡ a + c → Thr k a B (through j k (span rep a c))
  unfolding through
  thr k a zero B z = λ u l h. absurd (omega arith)
  thr k a (suc c) B z = go _ refl _ refl (thr k (suc a) c B (omega arith)) (dep k (suc a) c B (omega arith))
    where
      go : (x : Bool) → settles j (rep a) k ≡ x → (y : Bool) → beyond j (rep a) k ≡ y → Thr k (suc a) B (through j k (span rep (suc a) c)) → Dep k (suc a) B (departing j k (span rep (suc a) c)) → Thr k a B (through j k (span rep a (suc c)))
      go false e y f t d = rw (through_on j k (rep a) (span rep (suc a) c) e) (thr_cons k a B (through j k (span rep (suc a) c)) e t)
      go true e true f t d = rw (through_passes j k (rep a) (span rep (suc a) c) e f) (a, (a, here k a e, inl (f, refl)), omega arith, omega arith, cut a (suc c) B z)
      go true e false f t d = rw (through_reaches j k (rep a) (span rep (suc a) c) e f) (of_dep k a B (departing j k (span rep (suc a) c)) (omega arith) e f d)

  -- ---- a passing moment is one
  apart : (s t : ℕ) → (s < t → ⊥) → (t < s → ⊥) → s ≡ t
  apart s t x y = omega arith

  settled_unique : (k a s t : ℕ) → Settled j start reports k a s → Settled j start reports k a t → s ≡ t
  settled_unique k a s t x y = apart s t (λ h. cc (y.none_before s x.from h, x.settled)) (λ h. cc (x.none_before t y.from h, y.settled))

  departs_unique : (k p s t : ℕ) → Departs j start reports k p s → Departs j start reports k p t → s ≡ t
  departs_unique k p s t x y = apart s t (λ h. cc (y.none_before s x.later h, x.leaves_it)) (λ h. cc (x.none_before t y.later h, y.leaves_it))

  passes_unique : (k a t u : ℕ) → Passes j start reports k a t → Passes j start reports k a u → t ≡ u
  passes_unique k a t u (s, x, c) (r, y, d) = go c d
    where
      e : s ≡ r
      e = settled_unique k a s r x y

      go : (((beyond j (rep s) k ≡ true) × (t ≡ s)) ⊎ ((beyond j (rep s) k ≡ false) × Departs j start reports k s t)) → (((beyond j (rep r) k ≡ true) × (u ≡ r)) ⊎ ((beyond j (rep r) k ≡ false) × Departs j start reports k r u)) → t ≡ u
      go (inl (f, p)) (inl (g, q)) = p ∙ e ∙ sym q
      go (inl (f, p)) (inr (g, q)) = cc (e)
      go (inr (f, p)) (inl (g, q)) = cc (e)
      go (inr (f, p)) (inr (g, q)) = departs_unique k s t u p (rw (← e) at q)

  unroll : (k t : ℕ) → start ≤ k → Moment j start reports k t → (m : ℕ) × Before j start reports k m × Passes j start reports k (first_of m) t
  unroll zero t h (inl (b, e)) = absurd (omega arith)
  unroll zero t h (inr (b, p)) = (0, refl, p)
  unroll (suc k) t h (inl (b, e)) = absurd (omega arith)
  unroll (suc k) t h (inr (b, p)) = p

  roll : (k m t : ℕ) → start ≤ k → Before j start reports k m → Passes j start reports k (first_of m) t → Moment j start reports k t
  roll zero m t h b p = inr (h, rw b at p)
  roll (suc k) m t h b p = inr (h, (m, b, p))

  put_behind_lem : (k : ℕ) → k < start → Moment j start reports k 0
  put_behind_lem zero h = inl (h, refl)
  put_behind_lem (suc k) h = inl (h, refl)

  moment_unique : (k t u : ℕ) → Moment j start reports k t → Moment j start reports k u → t ≡ u
  moment_unique zero t u (inl (a, e)) (inl (b, f)) = cc
  moment_unique zero t u (inl (a, e)) (inr (b, f)) = absurd (omega arith)
  moment_unique zero t u (inr (a, e)) (inl (b, f)) = absurd (omega arith)
  moment_unique zero t u (inr (a, e)) (inr (b, f)) = passes_unique zero 1 t u e f
  moment_unique (suc k) t u (inl (a, e)) (inl (b, f)) = cc
  moment_unique (suc k) t u (inl (a, e)) (inr (b, f)) = absurd (omega arith)
  moment_unique (suc k) t u (inr (a, e)) (inl (b, f)) = absurd (omega arith)
  moment_unique (suc k) t u (inr (a, (m, x, p))) (inr (b, (n, y, q))) = passes_unique (suc k) (first_of m) t u p (rw (moment_unique k n m y x) at q)

  before_unique : (k m n : ℕ) → Before j start reports k m → Before j start reports k n → m ≡ n
  before_unique zero m n x y = cc
  before_unique (suc k) m n x y = moment_unique k m n x y

  first_up : (m : ℕ) → m ≤ first_of m
  first_up zero = omega arith
  first_up (suc m) = omega arith

  -- a moment is not before the point's settling, nor before the moment of the point before
  passes_up : (k a t : ℕ) (p : Passes j start reports k a t) → (a ≤ p.0) × (p.0 ≤ t)
  passes_up k a t (s, x, inl (f, e)) = omega (arith, x.from)
  passes_up k a t (s, x, inr (f, d)) = omega (arith, x.from, d.later)

  abbrev AllBefore : ℕ → Type 0
  AllBefore k = (i : ℕ) → i < k → HasMoment j start reports i

  -- what the outcome of point k says, in moments
  abbrev Says : ℕ → PointOutcome → Type 0
  Says k (passes l) = ((t : ℕ) × (t ≤ N) × Moment j start reports k t × (l ≡ span rep (first_of t) (suc N - first_of t))) × AllBefore k
  Says k reaches = Stands j start reports k Reached
  Says k not_settled = Stands j start reports k Targeted
  Says k not_looked_at = Stands j start reports k Unused

  first_low : (t : ℕ) → first_of t ≤ suc t
  first_low zero = omega arith
  first_low (suc t) = omega arith

  last_pos : (t : ℕ) → 1 ≤ t → first_of t ≡ t
  last_pos zero h = absurd (omega arith)
  last_pos (suc t) h = refl

  first_pos : (m : ℕ) → 1 ≤ first_of m
  first_pos zero = omega arith
  first_pos (suc m) = omega arith

  -- point k from the moment m of the point before
  says : (k m : ℕ) (f : PointOutcome) → start ≤ k → Before j start reports k m → AllBefore k → Thr k (first_of m) (suc N) f → Says k f
  says k m (passes l) h b all (t, p, i, i', q) = ((t, omega arith, roll k m t h b p, rw (last_pos t (omega (arith, first_pos m))) q), all)
  says k m reaches h b all (s, x, i, e, w) = (record { itself = never; before = all }, (m, b, (s, omega arith, x)))
    where
      never : ¬ HasMoment j start reports k
      never (t, l, y) = go (unroll k t h y)
        where
          go : (n : ℕ) × Before j start reports k n × Passes j start reports k (first_of n) t → ⊥
          go (n, c, (r, z, d)) = two d
            where
              same : r ≡ s
              same = settled_unique k (first_of m) r s (rw (before_unique k n m c b) at z) x

              two : (((beyond j (rep r) k ≡ true) × (t ≡ r)) ⊎ ((beyond j (rep r) k ≡ false) × Departs j start reports k r t)) → ⊥
              two (inl (f, g)) = cc (same)
              two (inr (f, g)) = cc (g.leaves_it, w t (omega (arith, same, g.later)) (omega arith))
  says k m not_settled h b all w = (record { itself = never; before = all }, unsettled)
    where
      unsettled : ¬ IsSettled j start reports k
      unsettled (n, c, (s, l, x)) =
          let y : Settled j start reports k (first_of m) s = rw (before_unique k n m c b) at x in
          cc (y.settled, w s y.from (omega arith))

      never : ¬ HasMoment j start reports k
      never (t, l, y) = go (unroll k t h y)
        where
          go : (n : ℕ) × Before j start reports k n × Passes j start reports k (first_of n) t → ⊥
          go (n, c, p) = unsettled (n, c, (p.0, omega (arith, passes_up k (first_of n) t p), p.1))
  says k m not_looked_at h b all w = absurd w

  -- no moment of the point before, none of this one
  none_next : (k : ℕ) → start ≤ suc k → ¬ HasMoment j start reports k → ¬ HasMoment j start reports (suc k)
  none_next k h nay (t, l, y) = go (unroll (suc k) t h y)
    where
      go : (n : ℕ) × Before j start reports (suc k) n × Passes j start reports (suc k) (first_of n) t → ⊥
      go (n, c, p) = nay (n, omega (arith, passes_up (suc k) (first_of n) t p, first_up n), c)

  rest : (k : ℕ) → start ≤ suc k → ¬ HasMoment j start reports k → Stands j start reports (suc k) Unused
  rest k h nay = (none_next k h nay, λ f. nay (f.before k (omega arith)))

  with_it : (k : ℕ) → AllBefore k → HasMoment j start reports k → AllBefore (suc k)
  with_it k all it i l = go (eq-or-lt_of_le (le_of_suc-le-suc l))
    where
      go : (i ≡ k) ⊎ (i < k) → HasMoment j start reports i
      go (inl e) = rw e it
      go (inr q) = all i q

  says_next : (k : ℕ) (f : PointOutcome) → start ≤ suc k → Says k f → Says (suc k) (after j (suc k) f)
  says_next k not_looked_at h s = rest k h s.0
  says_next k reaches h s = rest k h s.0.itself
  says_next k not_settled h s = rest k h s.0.itself
  says_next k (passes l) h ((t, i, x, q), all) = rw q (says (suc k) t (through j (suc k) (span rep (first_of t) (suc N - first_of t))) h x (with_it k all (t, i, x)) (thr (suc k) (first_of t) (suc N - first_of t) (suc N) (omega (arith, first_low t))))

  behind_says : (k : ℕ) → k < start → Says k (passes (span rep 1 N))
  behind_says k h = ((0, omega arith, put_behind_lem k h, let e : N ≡ suc N - 1 = omega arith in rw (← e) refl), λ i l. (0, omega arith, put_behind_lem i (omega arith)))

  all_say : (k : ℕ) → Says k (point_outcome j start (span rep 1 N) k)
  all_say zero = go _ refl
    where
      go : (b : Bool) → ltb zero start ≡ b → Says zero (point_outcome j start (span rep 1 N) zero)
      go true e = rw (point_outcome_behind j start (span rep 1 N) zero (ltb-true _ _ e)) (behind_says zero (ltb-true _ _ e))
      go false e = rw (point_outcome_first j start (span rep 1 N) (ltb-false _ _ e)) (says zero zero (through j zero (span rep 1 N)) (ltb-false _ _ e) refl (λ i l. absurd (omega arith)) (thr zero 1 N (suc N) (omega arith)))
  all_say (suc k) = go _ refl (all_say k)
    where
      go : (b : Bool) → ltb (suc k) start ≡ b → Says k (point_outcome j start (span rep 1 N) k) → Says (suc k) (point_outcome j start (span rep 1 N) (suc k))
      go true e s = rw (point_outcome_behind j start (span rep 1 N) (suc k) (ltb-true _ _ e)) (behind_says (suc k) (ltb-true _ _ e))
      go false e s = rw (point_outcome_next j start (span rep 1 N) k (ltb-false _ _ e)) (says_next k (point_outcome j start (span rep 1 N) k) (ltb-false _ _ e) s)

  -- the two readings of the history rule agree
  said : (k : ℕ) (f : PointOutcome) → Says k f → Stands j start reports k (standing_for f)
  said k not_looked_at s = s
  said k (passes l) ((t, i, x, q), all) = (t, i, x)
  said k reaches s = s
  said k not_settled s = s

  pub stands_so : (k : ℕ) → Stands j start reports k (standing_by_reports j start reports k)
  unfolding standing_by_reports
  stands_so k = rw span-reports at (said k (point_outcome j start (span rep 1 N) k) (all_say k))

  -- and a point stands in one way only
  pub one_standing : (k : ℕ) (a b : Standing) → Stands j start reports k a → Stands j start reports k b → a ≡ b
  one_standing k Passed Passed x y = refl
  one_standing k Passed Reached x y = absurd (y.0.itself x)
  one_standing k Passed Targeted x y = absurd (y.0.itself x)
  one_standing k Passed Unused x y = absurd (y.0 x)
  one_standing k Reached Passed x y = absurd (x.0.itself y)
  one_standing k Reached Reached x y = refl
  one_standing k Reached Targeted x y = absurd (y.1 x.1)
  one_standing k Reached Unused x y = absurd (y.1 x.0)
  one_standing k Targeted Passed x y = absurd (x.0.itself y)
  one_standing k Targeted Reached x y = absurd (x.1 y.1)
  one_standing k Targeted Targeted x y = refl
  one_standing k Targeted Unused x y = absurd (y.1 x.0)
  one_standing k Unused Passed x y = absurd (x.0 y)
  one_standing k Unused Reached x y = absurd (x.1 y.0)
  one_standing k Unused Targeted x y = absurd (x.1 y.0)
  one_standing k Unused Unused x y = refl

  -- the rule and its function say the same
  pub as_function : (k : ℕ) (s : Standing) → (standing_by_reports j start reports k ≡ s) ↔ Stands j start reports k s
  as_function k s = ((λ e. subst (Stands j start reports k) e (stands_so k)), (λ x. one_standing k _ s (stands_so k) x))

  -- After any list of reports point k stands, by the steps (a) and (b), exactly where the history rule puts it.
  pub as_history : start ≤ point_count j → (k : ℕ) → k < point_count j → (s : Standing) → (standing (run j (progress start false) reports) k ≡ s) ↔ Stands j start reports k s
  as_history within k h s = (
    (λ e. (as_function k s).0 (sym (as_the_rule j start reports within k h) ∙ e)),
    (λ x. as_the_rule j start reports within k h ∙ (as_function k s).1 x),
  )
