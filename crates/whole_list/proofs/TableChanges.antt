-- The points that a report changes, by where they stand before and after it, are those that its steps change.
use Rattle.std.specs.Prelude.{if◌then◌else◌}
use mathlib.Core.Path.{◌≡◌, refl, sym, ◌∙◌, ap}
use mathlib.Core.Logic.{◌⊎◌, inl, inr}
use mathlib.Core.Bool.{Bool, true, false, not, ◌&&◌}
use mathlib.Core.List.{List, [], ◌∷◌, ◌++◌, map, map-append, append_assoc, append-nil}
use Prim.Native.Nat.{ℕ, zero, suc, ◌+◌, ◌-◌, ◌≤◌, ◌<◌}
use native.Mathlib.Omega.{arith}
use native.Mathlib.Nat.{eq-or-lt_of_le}
use lib.Dec.{leb}
use borrow.Author.Tests.{le-ltb, eq-eqb, leb-true, leb-false}
use Rattle.wire.proofs.ListLaws.{and_right}
use Rattle.engine_value.specs.Engine.{Route, progress}
use Rattle.engine_value.specs.declared.Point.{Point}
use Rattle.engine_value.specs.declared.Progress.{Progress}
use Rattle.position.specs.Position.{point, point_count}
use Rattle.timing.specs.Distance.{Report, leaves}
use Rattle.position.specs.Standing.{standing, behind}
use Rattle.timing.specs.Report.{departs, stays, first_looked, reported, became_reached}
use Rattle.timing.specs.Changes.{Change, change, status_passed, status_departed, passings, when, stopped_at, report_changes}
use Rattle.position.specs.declared.Standing.{Standing}
use Rattle.position.specs.declared.Standing.TheVariants.{Unused, Targeted, Reached}
use Rattle.timing.proofs.Steps.{InRange, following-is, looked_range, reported_first, reported_up, reported_range}
use Rattle.position.proofs.Laws.{standing_passed, standing_unused, standing-at}
use Rattle.conditions.specs.Conditions.{end_ahead}
use Rattle.call_values.specs.Packets.{PointChange}
use Rattle.call.specs.Packets.{change_in}
use Rattle.whole_list.specs.Table.{becomes_reached, change_at, standing_then, changes_from}

-- ---- a range of points, and two ranges one after the other
module _ (e : Route) (b a : ℕ → Standing) where
  -- the change of point k
  abbrev change_of : ℕ → List PointChange
  change_of k = change_at (b k) (a k) (point e k) (end_ahead e.load (standing_then b a k))

  split : (m n k i t : ℕ) → t ≡ m + n → i ≡ k + m → changes_from e b a t k ≡ changes_from e b a m k ++ changes_from e b a n i
  unfolding changes_from
  split zero n k i t p q = let x : t ≡ n = omega arith in let y : k ≡ i = omega arith in rw (x, y)
  split (suc m) n k i t p q =
      let x : t ≡ suc (m + n) = omega arith in
      let ih : changes_from e b a (m + n) (k + 1) ≡ changes_from e b a m (k + 1) ++ changes_from e b a n i = split m n (k + 1) i (m + n) refl (omega arith) in
      ap (λ y. changes_from e b a y k) x ∙ ap (λ y. change_of k ++ y) ih ∙ sym (append_assoc (change_of k) (changes_from e b a m (k + 1)) (changes_from e b a n i))

  unchanged : (n k : ℕ) → ((i : ℕ) → k ≤ i → i < k + n → change_of i ≡ []) → changes_from e b a n k ≡ []
  unfolding changes_from
  unchanged zero k p = refl
  unchanged (suc n) k p =
      ap (λ x. x ++ changes_from e b a n (k + 1)) (p k (omega arith) (omega arith)) ∙ unchanged n (k + 1) (λ i l m. p i (omega arith) (omega arith))

  all_pass : (n k : ℕ) → ((i : ℕ) → k ≤ i → i < k + n → change_of i ≡ change_in e (change i status_passed (progress (i + 1) false)) ∷ [])
      → changes_from e b a n k ≡ map (change_in e) (passings n k)
  unfolding changes_from passings
  all_pass zero k p = refl
  all_pass (suc n) k p =
      ap (λ x. x ++ changes_from e b a n (k + 1)) (p k (omega arith) (omega arith))
      ∙ ap (λ x. change_in e (change k status_passed (progress (k + 1) false)) ∷ x) (all_pass n (k + 1) (λ i l m. p i (omega arith) (omega arith)))

-- equal standings and an equal Q_EOJ_REACHED give equal changes
changed : (k : Point) {s s' t t' : Standing} {x x' : Bool} → s ≡ s' → t ≡ t' → x ≡ x' → change_at s t k x ≡ change_at s' t' k x'
changed k {s' = s'} {t = t} {t' = t'} {x = x} e f g = ap (λ y. change_at y t k x) e ∙ ap (λ y. change_at s' y k x) f ∙ ap (change_at s' t' k) g

-- they are determined by where the points stand
pub changes_ext : (e : Route) (b a b' a' : ℕ → Standing) (n k : ℕ) → ((i : ℕ) → k ≤ i → i < k + n → b i ≡ b' i) → ((i : ℕ) → k ≤ i → i < k + n → a i ≡ a' i)
    → ((i : ℕ) → end_ahead e.load (standing_then b a i) ≡ end_ahead e.load (standing_then b' a' i)) → changes_from e b a n k ≡ changes_from e b' a' n k
unfolding changes_from
changes_ext e b a b' a' zero k p q s = refl
changes_ext e b a b' a' (suc n) k p q s =
    ap (λ x. x ++ changes_from e b a n (k + 1)) (changed (point e k) (p k (omega arith) (omega arith)) (q k (omega arith) (omega arith)) (s k))
    ∙ ap (λ x. change_of e b' a' k ++ x) (changes_ext e b a b' a' n (k + 1) (λ i l m. p i (omega arith) (omega arith)) (λ i l m. q i (omega arith) (omega arith)) s)

-- ---- where the first point not passed stands

standing-targeted : (p : Progress) → p.reached ≡ false → standing p p.next ≡ Targeted
standing-targeted p e = rw (le-ltb p.next p.next (omega arith), eq-eqb p.next p.next refl, e)

module _ (j : Route) (r : Report) (p : Progress) (range : InRange j p) where
  abbrev q : Progress
  q = reported j r p

  abbrev F : ℕ
  F = first_looked j r p

  stayed : stays j r p ≡ true → q ≡ p
  unfolding reported
  stayed e = rw e

  -- the three ways of a report: nothing is done at a reached point; it is departed; or none is reached
  data Way : Type 0 where
    not_settled : p.reached ≡ true → stays j r p ≡ true → departs j r p ≡ false → F ≡ p.next → q ≡ p → Way
    goes_on : p.reached ≡ true → stays j r p ≡ false → departs j r p ≡ true → F ≡ suc p.next → p.next < q.next → Way
    looks : p.reached ≡ false → stays j r p ≡ false → departs j r p ≡ false → F ≡ p.next → Way

  way : Way
  way = go _ refl _ refl
    where
      go : (x : Bool) → p.reached ≡ x → (y : Bool) → leaves j r p.next ≡ y → Way
      go true e false f = let s : stays j r p ≡ true = rw (e, f) in not_settled e s (rw (e, f)) (rw (e, f)) (stayed s)
      go true e true f =
          let l : p.next < point_count j = range.reached_one e in
          let s : stays j r p ≡ false = rw (e, f) in
          let g : F ≡ suc p.next = rw (e, f, following-is j p.next l) in
          let z : q ≡ _ = reported_first j r p s in
          goes_on e s (rw (e, f)) g (rw (z, g) (looked_range j r (suc p.next) l).0)
      go false e y f = looks e (rw e) (rw e) (rw e)

  first_up : (p.next ≤ F) × (F ≤ q.next)
  first_up = go way
    where
      go : Way → (p.next ≤ F) × (F ≤ q.next)
      go (not_settled e s d g z) = rw (g, z) (omega arith, omega arith)
      go (goes_on e s d g l) = rw g (omega arith, omega arith)
      go (looks e s d g) = rw g (omega arith, reported_up j r p range)

  abbrev told : Change → PointChange
  told = change_in j

  abbrev change_at_lem : ℕ → List PointChange
  change_at_lem i = change_of j (standing p) (standing q) i

  -- ---- "after that change"

  -- where the End of Journey stands when point k has changed, is the same by the points and by a progress
  end_same : (k : ℕ) (s : Progress) → (j.load.ending ≤ k → behind (standing q j.load.ending) ≡ behind (standing s j.load.ending))
      → (k < j.load.ending → behind (standing p j.load.ending) ≡ behind (standing s j.load.ending))
      → end_ahead j.load (standing_then (standing p) (standing q) k) ≡ end_ahead j.load (standing s)
  end_same k s f g = ap (λ b. j.load.valid && not b) (go _ refl)
    where
      e : ℕ
      e = j.load.ending

      go : (b : Bool) → leb e k ≡ b → behind (standing_then (standing p) (standing q) k e) ≡ behind (standing s e)
      go true x = ap (λ b. behind (if b then standing q e else standing p e)) x ∙ f (leb-true e k x)
      go false x = ap (λ b. behind (if b then standing q e else standing p e)) x ∙ g (leb-false e k x)

  -- a point passed
  end_passed : (k : ℕ) → p.next ≤ k → k < q.next → end_ahead j.load (standing_then (standing p) (standing q) k) ≡ end_ahead j.load (standing (progress (k + 1) false))
  end_passed k l m =
      end_same k (progress (k + 1) false)
      (λ n. ap behind (standing_passed q j.load.ending (omega arith) ∙ sym (standing_passed (progress (k + 1) false) j.load.ending (omega arith))))
      (λ n. ap behind (standing_unused p j.load.ending (omega arith)) ∙ sym (later (eq-or-lt_of_le {n = k + 1} {m = j.load.ending} (omega arith))))
    where
      later : (k + 1 ≡ j.load.ending) ⊎ (k + 1 < j.load.ending) → behind (standing (progress (k + 1) false) j.load.ending) ≡ false
      later (inl z) = ap behind (ap (standing (progress (k + 1) false)) (sym z) ∙ standing-targeted (progress (k + 1) false) refl)
      later (inr z) = ap behind (standing_unused (progress (k + 1) false) j.load.ending z)

  -- the first point not passed is reached
  end_reached : end_ahead j.load (standing_then (standing p) (standing q) q.next) ≡ end_ahead j.load (standing q)
  end_reached =
      end_same q.next q (λ n. refl)
      (λ n. ap behind (standing_unused p j.load.ending (omega (arith, reported_up j r p range)) ∙ sym (standing_unused q j.load.ending n)))

  -- ---- kind by kind

  before_first : (i : ℕ) → i < p.next → change_at_lem i ≡ []
  before_first i l = rw (standing_passed p i l)

  departed : changes_from j (standing p) (standing q) (F - p.next) p.next ≡ map told (when (departs j r p) (change p.next status_departed (progress F false)))
  unfolding changes_from
  departed = go way
    where
      none_looked : F ≡ p.next → F - p.next ≡ 0
      none_looked e = omega arith

      go : Way → changes_from j (standing p) (standing q) (F - p.next) p.next ≡ map told (when (departs j r p) (change p.next status_departed (progress F false)))
      go (not_settled e s d g z) = rw (none_looked g, d)
      go (looks e s d g) = rw (none_looked g, d)
      go (goes_on e s d g l) =
          let one : F - p.next ≡ 1 = omega arith in
          let k : p.next + 1 ≡ F = omega arith in
          ap (λ n. changes_from j (standing p) (standing q) n p.next) one
          ∙ ap (λ x. x ++ []) (changed (point j p.next) (standing-at p e) (standing_passed q p.next l) (end_passed p.next (omega arith) l))
          ∙ ap (λ n. told (change p.next status_departed (progress n false)) ∷ []) k
          ∙ sym (ap (λ b. map told (when b (change p.next status_departed (progress F false)))) d)

  -- a point looked at, that is now behind
  passes : (i : ℕ) → F ≤ i → i < q.next → change_at_lem i ≡ told (change i status_passed (progress (i + 1) false)) ∷ []
  passes i l m = go way (eq-or-lt_of_le {n = p.next} {m = i} (omega (arith, first_up.0)))
    where
      go : Way → (p.next ≡ i) ⊎ (p.next < i) → change_at_lem i ≡ told (change i status_passed (progress (i + 1) false)) ∷ []
      go w (inr n) = changed (point j i) (standing_unused p i n) (standing_passed q i m) (end_passed i (omega arith) m)
      go (not_settled e s d g z) (inl n) = let y : q.next ≡ p.next = ap (λ x. x.next) z in absurd (omega arith)
      go (goes_on e s d g y) (inl n) = absurd (omega arith)
      go (looks e s d g) (inl n) = changed (point j i) (ap (standing p) (sym n) ∙ standing-targeted p e) (standing_passed q i m) (end_passed i (omega arith) m)

  -- the changes at the end, where a point became reached
  abbrev end_if : Bool → List Change
  end_if b = if b then stopped_at j q else []

  -- a point that becomes reached, by the rules and by the steps; both tell that it is held
  held_too : map told (stopped_at j q) ≡ becomes_reached (point j q.next) (end_ahead j.load (standing q))
  held_too = go (point j q.next).held refl
    where
      go : (b : Bool) → (point j q.next).held ≡ b → map told (stopped_at j q) ≡ becomes_reached (point j q.next) (end_ahead j.load (standing q))
      go true e = rw e
      go false e = rw e

  -- the first point not passed after the report
  stops : change_at_lem q.next ≡ map told (end_if (became_reached j r p))
  stops = go _ refl way (eq-or-lt_of_le (reported_up j r p range))
    where
      as_before : (b : Bool) → became_reached j r p ≡ b → change_at_lem q.next ≡ map told (end_if b)
          → change_at_lem q.next ≡ map told (end_if (became_reached j r p))
      as_before b e f = f ∙ sym (ap (λ x. map told (end_if x)) e)

      reached_there : (s : Standing) → standing p q.next ≡ s → q.reached ≡ true → stays j r p ≡ false
          → change_at s Reached (point j q.next) (end_ahead j.load (standing q)) ≡ map told (stopped_at j q)
          → change_at_lem q.next ≡ map told (end_if (became_reached j r p))
      reached_there s e x y f = as_before true (ap (λ b. not b && q.reached) y ∙ x) (changed (point j q.next) e (standing-at q x) end_reached ∙ f)

      targeted_there : (s : Standing) → standing p q.next ≡ s → q.reached ≡ false → stays j r p ≡ false → ((x : Bool) → change_at s Targeted (point j q.next) x ≡ [])
          → change_at_lem q.next ≡ map told (end_if (became_reached j r p))
      targeted_there s e x y f = as_before false (ap (λ b. not b && q.reached) y ∙ x) (changed (point j q.next) e (standing-targeted q x) refl ∙ f _)

      before : (s : Standing) → standing p p.next ≡ s → p.next ≡ q.next → standing p q.next ≡ s
      before s e n = ap (standing p) (sym n) ∙ e

      go : (b : Bool) → q.reached ≡ b → Way → (p.next ≡ q.next) ⊎ (p.next < q.next) → change_at_lem q.next ≡ map told (end_if (became_reached j r p))
      go b x (not_settled e s d g z) (inr n) = let y : q.next ≡ p.next = ap (λ x. x.next) z in absurd (omega arith)
      go true x (goes_on e s d g y) (inr n) = reached_there Unused (standing_unused p q.next n) x s (sym held_too)
      go true x (looks e s d g) (inr n) = reached_there Unused (standing_unused p q.next n) x s (sym held_too)
      go false x (goes_on e s d g y) (inr n) = targeted_there Unused (standing_unused p q.next n) x s (λ b. refl)
      go false x (looks e s d g) (inr n) = targeted_there Unused (standing_unused p q.next n) x s (λ b. refl)
      go b x (not_settled e s d g z) (inl n) =
          as_before false (ap (λ b. not b && q.reached) s)
          (changed (point j q.next) (before Reached (standing-at p e) n) (standing-at q (ap (λ x. x.reached) z ∙ e)) refl)
      go b x (goes_on e s d g y) (inl n) = absurd (omega arith)
      go true x (looks e s d g) (inl n) = reached_there Targeted (before Targeted (standing-targeted p e) n) x s (sym held_too)
      go false x (looks e s d g) (inl n) = targeted_there Targeted (before Targeted (standing-targeted p e) n) x s (λ b. refl)

  from_there : changes_from j (standing p) (standing q) (point_count j - q.next) q.next ≡ map told (end_if (became_reached j r p))
  unfolding changes_from
  from_there = go (eq-or-lt_of_le (reported_range j r p range).most)
    where
      later : (i : ℕ) → suc q.next ≤ i → change_at_lem i ≡ []
      later i l = changed (point j i) (standing_unused p i (omega (arith, reported_up j r p range))) (standing_unused q i l) refl

      beyond_all : (b : Bool) → became_reached j r p ≡ b → q.next ≡ point_count j → [] ≡ map told (end_if (became_reached j r p))
      beyond_all false e n = sym (ap (λ b. map told (end_if b)) e)
      beyond_all true e n =
          let l : q.next < point_count j = (reported_range j r p range).reached_one (and_right (not (stays j r p)) _ e) in
          absurd (omega arith)

      go : (q.next ≡ point_count j) ⊎ (q.next < point_count j) → changes_from j (standing p) (standing q) (point_count j - q.next) q.next ≡ map told (end_if (became_reached j r p))
      go (inl n) =
          let z : point_count j - q.next ≡ 0 = omega arith in
          ap (λ m. changes_from j (standing p) (standing q) m q.next) z ∙ beyond_all _ refl n
      go (inr l) =
          let z : point_count j - q.next ≡ suc (point_count j - suc q.next) = omega arith in
          ap (λ m. changes_from j (standing p) (standing q) m q.next) z
          ∙ ap (λ x. change_at_lem q.next ++ x) (unchanged j (standing p) (standing q) (point_count j - suc q.next) (q.next + 1) (λ i m n. later i (omega arith)))
          ∙ append-nil (change_at_lem q.next) ∙ stops

  pub changes_same : changes_from j (standing p) (standing q) (point_count j) 0 ≡ map told (report_changes j r p)
  unfolding report_changes
  changes_same =
      let most : q.next ≤ point_count j = (reported_range j r p range).most in
      let low : p.next ≤ F = first_up.0 in
      let up : F ≤ q.next = first_up.1 in
      let e = j in
      let b = standing p in
      let a = standing q in
      let first = when (departs j r p) (change p.next status_departed (progress F false)) in
      let last = end_if (became_reached j r p) in
      split e b a p.next (point_count j - p.next) 0 p.next (point_count j) (omega arith) (omega arith)
      ∙ ap (λ x. x ++ changes_from e b a (point_count j - p.next) p.next) (unchanged e b a p.next 0 (λ i l m. before_first i (omega arith)))
      ∙ split e b a (F - p.next) (point_count j - F) p.next F (point_count j - p.next) (omega arith) (omega arith)
      ∙ ap (λ x. x ++ changes_from e b a (point_count j - F) F) departed
      ∙ ap (λ x. map told first ++ x)
      (split e b a (q.next - F) (point_count j - q.next) F q.next (point_count j - F) (omega arith) (omega arith)
      ∙ ap (λ x. x ++ changes_from e b a (point_count j - q.next) q.next) (all_pass e b a (q.next - F) F (λ i l m. passes i l (omega arith)))
      ∙ ap (λ x. map told (passings (q.next - F) F) ++ x) from_there
      ∙ sym (map-append told (passings (q.next - F) F) last))
      ∙ sym (map-append told first (passings (q.next - F) F ++ last))
