-- The held stop that is reached, by a progress and by the points.
use Prim.Native.Nat.{ℕ, ◌<◌}
use mathlib.Core.Path.{◌≡◌, refl, sym, ◌∙◌, ap}
use mathlib.Core.List.{List, [], ◌∷◌}
use mathlib.Core.Bool.{Bool, true, false, ◌&&◌, false≢true}
use native.Mathlib.Omega.{arith}
use lib.Dec.{eqb}
use lib.ListN.{length, get_or, take}
use borrow.Author.Tests.{eq-eqb, eqb-true}
use Rattle.std.proofs.lemmas.List.{get_or-take, length-take}
use Rattle.std.proofs.lemmas.List.Elements.{All-from_get_or, recursion_from_All}
use Rattle.std.proofs.lemmas.List.Folds.{list_any_none}
use Rattle.std.specs.Prelude.{Option, Some, None, is_some, option_map}
use Rattle.std.specs.List.{find}
use Rattle.wire.specs.Lists.{All}
use Rattle.wire.proofs.ListLaws.{and_left, and_right, any_false, all-at, tabulate-at, tabulate-length}
use Rattle.engine_value.specs.Engine.{Route, blank_point}
use Rattle.engine_value.specs.declared.Point.{Point}
use Rattle.engine_value.specs.declared.Progress.{Progress}
use Rattle.position.specs.Position.{point, point_count, indices}
use Rattle.position.specs.Standing.{standing, is_reached}
use Rattle.position.specs.declared.Standing.{Standing}
use Rattle.position.specs.declared.Standing.TheVariants.{Reached}
use Rattle.position.proofs.Laws.{standing-at, reached_is, reached-only}
use Rattle.position.proofs.Sentences.{found_hit, hit_found, some_found}
use Rattle.hold.specs.Hold.{held_stop, keeps_hold}

-- two tests that agree on each element find the same
found_same : (f g : ℕ → Bool) (l : List ℕ) → All (λ k. f k ≡ g k) l → find f l ≡ find g l
found_same f g [] a = refl
found_same f g (x ∷ l) a = rw (a.0, found_same f g l a.1)

-- ---- the held stop

module _ (j : Route) where
  abbrev pub marked : ℕ → Bool
  marked k = (point j k).held

  abbrev test : (ℕ → Standing) → ℕ → Bool
  test s k = is_reached (s k) && marked k

  index_at : (k : ℕ) → k < point_count j → get_or (indices j) k 0 ≡ k
  index_at k l = tabulate-at (point_count j) (λ i. i) k 0 l

  indices_are : length (indices j) ≡ point_count j
  indices_are = tabulate-length (point_count j) (λ i. i)

  -- it is one of them, reached and held
  pub held_is : (s : ℕ → Standing) (p : Point) → held_stop j s ≡ Some p
      → (k : ℕ) × (k < point_count j) × (p ≡ point j k) × (s k ≡ Reached) × (marked k ≡ true)
  unfolding held_stop
  held_is s p e = go (find (test s) (indices j)) refl e
    where
      go : (o : Option ℕ) → find (test s) (indices j) ≡ o → option_map (point j) o ≡ Some p
          → (k : ℕ) × (k < point_count j) × (p ≡ point j k) × (s k ≡ Reached) × (marked k ≡ true)
      go None q e = cc
      go (Some x) q e =
          let (k, h) = found_hit (test s) 0 (indices j) (ap is_some q) in
          let l : k < point_count j = omega (arith, indices_are, h.there) in
          let z : x ≡ k = let w : Some x ≡ Some (get_or (indices j) k 0) = sym q ∙ hit_found (test s) 0 (indices j) k h in cc (index_at k l) in
          let t : test s k ≡ true = rw (index_at k l) at h.holds in
          let w : point j x ≡ p = cc in
          (k, l, sym w ∙ ap (point j) z, reached_is (s k) (and_left (is_reached (s k)) _ t), and_right (is_reached (s k)) _ t)

  -- there is one where any is so
  pub held_some : (s : ℕ → Standing) (k : ℕ) → k < point_count j → s k ≡ Reached → marked k ≡ true → is_some (held_stop j s) ≡ true
  unfolding held_stop
  held_some s k l r h = go (find (test s) (indices j)) (some_found (test s) 0 (indices j) k (omega (arith, indices_are)) (rw (index_at k l, r, h) refl))
    where
      go : (o : Option ℕ) → is_some o ≡ true → is_some (option_map (point j) o) ≡ true
      go None e = e
      go (Some x) e = refl

  -- by a progress: that of its point, where it is reached, one of the journey's, and held
  pub held_there : (p : Progress) → p.reached ≡ true → p.next < point_count j → marked p.next ≡ true → held_stop j (standing p) ≡ Some (point j p.next)
  held_there p r l h = go (held_stop j (standing p)) refl (held_some (standing p) p.next l (standing-at p r) h)
    where
      go : (o : Option Point) → held_stop j (standing p) ≡ o → is_some o ≡ true → o ≡ Some (point j p.next)
      go None q e = absurd (false≢true e)
      go (Some x) q e = let (k, m, w, s, t) = held_is (standing p) x q in ap Some (w ∙ ap (point j) (reached-only p k s).0)

  pub none_held : (p : Progress) → (p.reached ≡ true → p.next < point_count j → marked p.next ≡ true → ⊥) → held_stop j (standing p) ≡ None
  none_held p no_hit = go (held_stop j (standing p)) refl
    where
      go : (o : Option Point) → held_stop j (standing p) ≡ o → o ≡ None
      go None q = refl
      go (Some x) q =
          let (k, l, w, s, m) = held_is (standing p) x q in
          let h = reached-only p k s in
          absurd (no_hit h.1 (omega (arith, h.0, l)) (rw h.0 at m))

  -- it goes by the points of the journey alone
  pub held_same : (s t : ℕ → Standing) → ((k : ℕ) → k < point_count j → s k ≡ t k) → held_stop j s ≡ held_stop j t
  unfolding held_stop
  held_same s t e =
      ap (option_map (point j)) (found_same (test s) (test t) (indices j)
      (recursion_from_All same (indices j) (All-from_get_or same (indices j) 0 (λ i m.
      let l : i < point_count j = omega (arith, indices_are) in
      rw (index_at i l) (ap (λ x. is_reached x && marked i) (e i l))))))
    where
      same : ℕ → Type 0
      same k = test s k ≡ test t k

-- ---- the hold that a journey keeps

module _ (j : Route) (t : ℕ) where
  abbrev keeping : Point → Bool
  keeping p = eqb p.nidtp t && p.held

  abbrev pub NotKept : Type 0
  NotKept = (i : ℕ) → i < point_count j → (point j i).nidtp ≡ t → (point j i).held ≡ false

  -- "has its NID_TP unheld or lacks it"
  pub not_kept : NotKept → keeps_hold j t ≡ false
  not_kept n = list_any_none keeping (take (point_count j) j.points)
      (All-from_get_or (λ p. keeping p ≡ false) (take (point_count j) j.points) blank_point (λ i m.
      let l : i < point_count j = omega (arith, length-take (point_count j) j.points) in
      rw (get_or-take (point_count j) j.points i blank_point l) (go i l (eqb (point j i).nidtp t) refl)))
    where
      go : (i : ℕ) → i < point_count j → (b : Bool) → eqb (point j i).nidtp t ≡ b → keeping (point j i) ≡ false
      go i l true q = rw (q, n i l (eqb-true _ _ q)) refl
      go i l false q = rw q refl

  blank_not : keeping blank_point ≡ false
  blank_not = go (eqb 0 t)
    where
      go : (b : Bool) → (b && false) ≡ false
      go true = refl
      go false = refl

  pub kept_not : keeps_hold j t ≡ false → NotKept
  kept_not e i l q =
      go (point j i).held refl (rw (get_or-take (point_count j) j.points i blank_point l)
      at (all-at (λ p. keeping p ≡ false) blank_point blank_not (take (point_count j) j.points) i (any_false keeping _ e)))
    where
      go : (b : Bool) → (point j i).held ≡ b → keeping (point j i) ≡ false → b ≡ false
      go true h k = absurd (false≢true (sym k ∙ rw (eq-eqb _ _ q, h) refl))
      go false h k = refl
