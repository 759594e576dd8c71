-- What the changes of a report are: a departure first, then the points that pass, then the one that is reached, and once more where it is held. Each names a
-- point of the journey, and only a point that is placed and has d > margin at that very report, with the position known, is recorded as passed.
use Rattle.std.specs.Prelude.{if◌then◌else◌}
use Prim.Native.Nat.{ℕ, zero, suc, ◌+◌, ◌-◌, ◌<◌, ◌≤◌}
use mathlib.Core.Path.{◌≡◌, refl, sym, ap, ◌∙◌}
use mathlib.Core.Logic.{◌⊎◌, inl, inr}
use mathlib.Core.List.Memᴰ
use mathlib.Core.List.{List, [], ◌∷◌, ◌++◌, append_assoc, Memᴰ}
use mathlib.Core.Bool.{Bool, true, false, not, ◌&&◌, false≢true}
use native.Mathlib.Omega.{arith}
use native.Mathlib.Nat.{eq-or-lt_of_le}
use borrow.Author.Tests.{eqb-false, not-true}
use Rattle.wire.proofs.ListLaws.{and_left, and_right}
use Rattle.engine_value.specs.Engine.{Route, progress}
use Rattle.engine_value.specs.declared.Progress.{Progress}
use Rattle.position.specs.Position.{point, point_count, placed, known}
use Rattle.timing.specs.Distance.{Report, beyond, at_stop, leaves}
use Rattle.timing.specs.Report.{following, looked, looked_from, departs, stays, first_looked, reported, became_reached}
use Rattle.timing.specs.Changes.{Change, change, status_passed, status_stopped, status_departed, status_held, passings, when, stopped_at, report_changes}
use Rattle.timing.proofs.Steps.{look_zero, look_stops, look_passes, look_judges, reported_stays, reported_first, following-is, InRange, looked_range, reported_up, reported_range}

-- ---- what passes is behind

-- the position known, the point placed, and d > margin
pub record Behind (j : Route) (r : Report) (k : ℕ) : Type 0 where
  pub position_known : known j r.position ≡ true
  pub point_placed : placed j k ≡ true
  pub is_beyond : beyond j r k ≡ true

looked-behind : (j : Route) (r : Report) (n i k : ℕ) → i ≤ k → k < (looked j r n i).next → Behind j r k
looked-behind j r zero i k l h = let z : k < i = rw (look_zero j r i) at h in absurd (omega arith)
looked-behind j r (suc n) i k l h = go _ refl _ refl (looked-behind j r n (suc i) k) (eq-or-lt_of_le l)
  where
    go : (a : Bool) → known j r.position && placed j i ≡ a → (b : Bool) → beyond j r i ≡ b
        → (suc i ≤ k → k < (looked j r n (suc i)).next → Behind j r k) → (i ≡ k) ⊎ (i < k) → Behind j r k
    go false e b f ih q = let z : k < i = rw (look_stops j r n i e) at h in absurd (omega arith)
    go true e false f ih q = let z : k < i = rw (look_judges j r n i e f) at h in absurd (omega arith)
    go true e true f ih (inl q) = rw (← q) (record { position_known = and_left (known j r.position) _ e; point_placed = and_right (known j r.position) _ e; is_beyond = f })
    go true e true f ih (inr q) = ih q (rw (look_passes j r n i e f) at h)

-- ---- what is reached is there

-- the position known, the point placed, d not above margin; an unskipped stop, speed 0 and d ≥ −R
pub record AtRest (j : Route) (r : Report) (k : ℕ) : Type 0 where
  pub position_known : known j r.position ≡ true
  pub point_placed : placed j k ≡ true
  pub not_beyond : beyond j r k ≡ false
  pub at_stop_lem : at_stop j r k ≡ true

looked_rests : (j : Route) (r : Report) (n i : ℕ) → (looked j r n i).reached ≡ true → AtRest j r (looked j r n i).next
looked_rests j r zero i h = absurd (false≢true (rw (look_zero j r i) at h))
looked_rests j r (suc n) i h = go _ refl _ refl (looked_rests j r n (suc i))
  where
    go : (a : Bool) → known j r.position && placed j i ≡ a → (b : Bool) → beyond j r i ≡ b
        → ((looked j r n (suc i)).reached ≡ true → AtRest j r (looked j r n (suc i)).next) → AtRest j r (looked j r (suc n) i).next
    go false e b f ih = absurd (false≢true (rw (look_stops j r n i e) at h))
    go true e true f ih = rw (look_passes j r n i e f) (ih (rw (look_passes j r n i e f) at h))
    go true e false f ih =
        rw (look_judges j r n i e f)
        (record { position_known = and_left (known j r.position) _ e; point_placed = and_right (known j r.position) _ e; not_beyond = f; at_stop_lem = rw (look_judges j r n i e f) at h })

-- ---- lists of changes

when-in : (b : Bool) (x c : Change) → Memᴰ c (when b x) → (b ≡ true) × (c ≡ x)
when-in true x c m = (refl, Memᴰ.eq_of_singleton m)
when-in false x c m = absurd (Memᴰ.not-nil m)

passings-in : (n k : ℕ) (c : Change) → Memᴰ c (passings n k) → (k ≤ c.index) × (c.index < k + n) × (c ≡ change c.index status_passed (progress (c.index + 1) false))
unfolding passings
passings-in zero k c m = absurd (Memᴰ.not-nil m)
passings-in (suc n) k c m = go (Memᴰ.cases_cons m) (passings-in n (k + 1) c)
  where
    go : (c ≡ change k status_passed (progress (k + 1) false)) ⊎ Memᴰ c (passings n (k + 1))
        → (Memᴰ c (passings n (k + 1)) → (k + 1 ≤ c.index) × (c.index < k + 1 + n) × (c ≡ change c.index status_passed (progress (c.index + 1) false)))
        → (k ≤ c.index) × (c.index < k + suc n) × (c ≡ change c.index status_passed (progress (c.index + 1) false))
    go (inl e) ih = let i : c.index ≡ k = ap (λ x. x.index) e in (omega arith, omega arith, e ∙ ap (λ x. change x status_passed (progress (x + 1) false)) (sym i))
    go (inr m) ih = let z = ih m in (omega (arith, z.0), omega (arith, z.1), z.2)

module _ (j : Route) (r : Report) (p : Progress) where
  -- at a reached point that is not departed nothing passes
  first_stays : stays j r p ≡ true → first_looked j r p ≡ p.next
  first_stays e = go _ refl _ refl e
    where
      go : (a : Bool) → p.reached ≡ a → (b : Bool) → leaves j r p.next ≡ b → (p.reached && not (leaves j r p.next)) ≡ true → first_looked j r p ≡ p.next
      go true x false y e = rw (x, y)
      go true x true y e = absurd (false≢true (rw (x, y) at e))
      go false x b y e = rw x

  reported_same : stays j r p ≡ true → reported j r p ≡ p
  unfolding reported
  reported_same e = rw e

  -- the points from the first looked at to the new first one
  pub passed_behind : (k : ℕ) → first_looked j r p ≤ k → k < (reported j r p).next → Behind j r k
  passed_behind k l h = go _ refl
    where
      go : (b : Bool) → stays j r p ≡ b → Behind j r k
      go true e = let z : k < p.next = rw (reported_same e) at h in let f : first_looked j r p ≡ p.next = first_stays e in absurd (omega arith)
      go false e = looked-behind j r (point_count j - first_looked j r p) (first_looked j r p) k l (rw (reported_first j r p e) at h)

  became_rests : became_reached j r p ≡ true → AtRest j r (reported j r p).next
  became_rests e =
      let s : reported j r p ≡ looked_from j r (first_looked j r p) = reported_first j r p (not-true _ (and_left (not (stays j r p)) _ e)) in
      let h : (reported j r p).reached ≡ true = and_right (not (stays j r p)) _ e in
      rw s (looked_rests j r (point_count j - first_looked j r p) (first_looked j r p) (rw s at h))

  first_range : InRange j p → (p.next ≤ first_looked j r p) × (first_looked j r p ≤ point_count j)
  first_range h = go _ refl _ refl
    where
      go : (a : Bool) → p.reached ≡ a → (b : Bool) → leaves j r p.next ≡ b → (p.next ≤ first_looked j r p) × (first_looked j r p ≤ point_count j)
      go true x true y = let l : p.next < point_count j = h.reached_one x in rw (x, y, following-is j p.next l) (omega arith, l)
      go true x false y = rw (x, y) (omega arith, h.most)
      go false x b y = rw x (omega arith, h.most)

  first_up : InRange j p → first_looked j r p ≤ (reported j r p).next
  first_up h = go _ refl
    where
      go : (b : Bool) → stays j r p ≡ b → first_looked j r p ≤ (reported j r p).next
      go true e = rw (reported_same e) (omega (arith, first_stays e))
      go false e = rw (reported_first j r p e) (looked_range j r (first_looked j r p) (first_range h).1).0

  -- ---- the changes by kind

  -- "A departure writes status 2 and no 0."
  pub record Departed (c : Change) : Type 0 where
    pub departing : departs j r p ≡ true
    pub is : c ≡ change p.next status_departed (progress (first_looked j r p) false)

  pub record Passing (c : Change) : Type 0 where
    pub from : first_looked j r p ≤ c.index
    pub below : c.index < (reported j r p).next
    pub is : c ≡ change c.index status_passed (progress (c.index + 1) false)

  pub record Stopped (c : Change) : Type 0 where
    pub became : became_reached j r p ≡ true
    pub is : c ≡ change (reported j r p).next status_stopped (reported j r p)

  -- 02, Q-5: "When a held stop becomes reached"
  pub record Held (c : Change) : Type 0 where
    pub became : became_reached j r p ≡ true
    pub marked : (point j (reported j r p).next).held ≡ true
    pub is : c ≡ change (reported j r p).next status_held (reported j r p)

  pub data Kind (c : Change) : Type 0 where
    departed : Departed c → Kind c
    passing : Passing c → Kind c
    stopped : Stopped c → Kind c
    held : Held c → Kind c

  abbrev end : List Change
  end = if became_reached j r p then stopped_at j (reported j r p) else []

  end-in : (c : Change) → Memᴰ c end → Kind c
  end-in c m = go (became_reached j r p) refl m
    where
      at_stop_in : became_reached j r p ≡ true → (c ≡ change (reported j r p).next status_stopped (reported j r p)) ⊎ Memᴰ c (when (point j (reported j r p).next).held (change (reported j r p).next status_held (reported j r p)))
          → Kind c
      at_stop_in e (inl q) = stopped (record { became = e; is = q })
      at_stop_in e (inr m) = let z = when-in (point j (reported j r p).next).held _ c m in held (record { became = e; marked = z.0; is = z.1 })

      go : (b : Bool) → became_reached j r p ≡ b → Memᴰ c (if b then stopped_at j (reported j r p) else []) → Kind c
      go true e m = at_stop_in e (Memᴰ.cases_cons m)
      go false e m = absurd (Memᴰ.not-nil m)

  pub changes_are : (c : Change) → Memᴰ c (report_changes j r p) → Kind c
  unfolding report_changes
  changes_are c m = go (Memᴰ.append_cases (when (departs j r p) (change p.next status_departed (progress (first_looked j r p) false))) m)
    where
      last : Memᴰ c (passings ((reported j r p).next - first_looked j r p) (first_looked j r p)) ⊎ Memᴰ c end → Kind c
      last (inl m) = let z = passings-in ((reported j r p).next - first_looked j r p) (first_looked j r p) c m in passing (record { from = z.0; below = omega (arith, z.0, z.1); is = z.2 })
      last (inr m) = end-in c m

      go : Memᴰ c (when (departs j r p) (change p.next status_departed (progress (first_looked j r p) false)))
          ⊎ Memᴰ c (passings ((reported j r p).next - first_looked j r p) (first_looked j r p) ++ end) → Kind c
      go (inl m) = let z = when-in (departs j r p) _ c m in departed (record { departing = z.0; is = z.1 })
      go (inr m) = last (Memᴰ.append_cases (passings ((reported j r p).next - first_looked j r p) (first_looked j r p)) m)

  module _ (c : Change) (m : Memᴰ c (report_changes j r p)) where
    -- what a packet 62 of status 0 stands for
    pub recorded_behind : c.status ≡ status_passed → Behind j r c.index
    recorded_behind s = go (changes_are c m)
      where
        go : Kind c → Behind j r c.index
        go (departed d) = absurd (eqb-false status_passed status_departed refl (sym s ∙ ap (λ x. x.status) d.is))
        go (passing q) = passed_behind c.index q.from q.below
        go (stopped q) = absurd (eqb-false status_passed status_stopped refl (sym s ∙ ap (λ x. x.status) q.is))
        go (held q) = absurd (eqb-false status_passed status_held refl (sym s ∙ ap (λ x. x.status) q.is))

    -- what one of status 1 stands for
    pub recorded_at_rest : c.status ≡ status_stopped → AtRest j r c.index
    recorded_at_rest s = go (changes_are c m)
      where
        go : Kind c → AtRest j r c.index
        go (departed d) = absurd (eqb-false status_stopped status_departed refl (sym s ∙ ap (λ x. x.status) d.is))
        go (passing q) = absurd (eqb-false status_stopped status_passed refl (sym s ∙ ap (λ x. x.status) q.is))
        go (stopped q) = rw (ap (λ x. x.index) q.is) (became_rests q.became)
        go (held q) = absurd (eqb-false status_stopped status_held refl (sym s ∙ ap (λ x. x.status) q.is))

    -- what one of status 3 is
    pub recorded_held : c.status ≡ status_held → Held c
    recorded_held s = go (changes_are c m)
      where
        go : Kind c → Held c
        go (departed d) = absurd (eqb-false status_held status_departed refl (sym s ∙ ap (λ x. x.status) d.is))
        go (passing q) = absurd (eqb-false status_held status_passed refl (sym s ∙ ap (λ x. x.status) q.is))
        go (stopped q) = absurd (eqb-false status_held status_stopped refl (sym s ∙ ap (λ x. x.status) q.is))
        go (held q) = q

    -- none has another status than 0 to 3
    pub status_most : c.status ≤ status_held
    status_most = go (changes_are c m)
      where
        go : Kind c → c.status ≤ status_held
        go (departed d) = let s : c.status ≡ 2 = ap (λ x. x.status) d.is in omega arith
        go (passing q) = let s : c.status ≡ 0 = ap (λ x. x.status) q.is in omega arith
        go (stopped q) = let s : c.status ≡ 1 = ap (λ x. x.status) q.is in omega arith
        go (held q) = let s : c.status ≡ 3 = ap (λ x. x.status) q.is in omega arith

    -- what one of status 2 stands for
    pub recorded_left : c.status ≡ status_departed → (p.reached ≡ true) × (c.index ≡ p.next) × (leaves j r c.index ≡ true)
    recorded_left s = go (changes_are c m)
      where
        go : Kind c → (p.reached ≡ true) × (c.index ≡ p.next) × (leaves j r c.index ≡ true)
        go (departed d) =
            let i : c.index ≡ p.next = ap (λ x. x.index) d.is in
            (and_left p.reached _ d.departing, i, rw i (and_right p.reached _ d.departing))
        go (passing q) = absurd (eqb-false status_departed status_passed refl (sym s ∙ ap (λ x. x.status) q.is))
        go (stopped q) = absurd (eqb-false status_departed status_stopped refl (sym s ∙ ap (λ x. x.status) q.is))
        go (held q) = absurd (eqb-false status_departed status_held refl (sym s ∙ ap (λ x. x.status) q.is))

    -- each names a point of the journey
    pub index_below : InRange j p → c.index < point_count j
    index_below h = go (changes_are c m)
      where
        here : c.index ≡ (reported j r p).next → became_reached j r p ≡ true → c.index < point_count j
        here i b =
            let l : (reported j r p).next < point_count j = (reported_range j r p h).reached_one (and_right (not (stays j r p)) _ b) in
            omega arith

        go : Kind c → c.index < point_count j
        go (departed d) = let i : c.index ≡ p.next = ap (λ x. x.index) d.is in let l : p.next < point_count j = h.reached_one (and_left p.reached _ d.departing) in omega arith
        go (passing q) = omega (arith, q.below, (reported_range j r p h).most)
        go (stopped q) = here (ap (λ x. x.index) q.is) q.became
        go (held q) = here (ap (λ x. x.index) q.is) q.became

    -- the progress after it lies between those before and after the report
    pub after_between : InRange j p → (p.next ≤ c.after.next) × (c.after.next ≤ (reported j r p).next)
    after_between h = go (changes_are c m)
      where
        here : c.after ≡ reported j r p → (p.next ≤ c.after.next) × (c.after.next ≤ (reported j r p).next)
        here e = let a : c.after.next ≡ (reported j r p).next = ap (λ x. x.next) e in (omega (arith, reported_up j r p h), omega arith)

        go : Kind c → (p.next ≤ c.after.next) × (c.after.next ≤ (reported j r p).next)
        go (departed d) = let a : c.after.next ≡ first_looked j r p = ap (λ x. x.after.next) d.is in (omega (arith, (first_range h).0), omega (arith, first_up h))
        go (passing q) = let a : c.after.next ≡ c.index + 1 = ap (λ x. x.after.next) q.is in (omega (arith, (first_range h).0, q.from), omega (arith, q.below))
        go (stopped q) = here (ap (λ x. x.after) q.is)
        go (held q) = here (ap (λ x. x.after) q.is)

  -- a reached point that is not departed: nothing changes
  pub changes_stay : p.reached ≡ true → leaves j r p.next ≡ false → report_changes j r p ≡ []
  unfolding report_changes passings
  changes_stay e l =
      let q : reported j r p ≡ p = reported_stays j r p e l in
      let z : p.next - p.next ≡ 0 = omega arith in
      rw (q, e, l, z)

  -- one that is: its departure comes first
  pub changes_leave : p.reached ≡ true → leaves j r p.next ≡ true
      → (l : List Change) × (report_changes j r p ≡ change p.next status_departed (progress (following p.next) false) ∷ l)
  unfolding report_changes
  changes_leave e l = (
    passings ((reported j r p).next - following p.next) (following p.next) ++ end,
    rw (e, l),
  )

  -- a held stop that becomes reached: its two changes come last
  pub changes_held : became_reached j r p ≡ true → (point j (reported j r p).next).held ≡ true
      → (l : List Change) × (report_changes j r p ≡ l ++ (change (reported j r p).next status_stopped (reported j r p) ∷ change (reported j r p).next status_held (reported j r p) ∷ []))
  unfolding report_changes
  changes_held e m =
      let first = when (departs j r p) (change p.next status_departed (progress (first_looked j r p) false)) in
      let among = passings ((reported j r p).next - first_looked j r p) (first_looked j r p) in
      let both : end ≡ change (reported j r p).next status_stopped (reported j r p) ∷ change (reported j r p).next status_held (reported j r p) ∷ [] = rw (e, m) in
      (first ++ among, ap (λ l. first ++ (among ++ l)) both ∙ sym (append_assoc first among _))
