-- The sentences: tests of a difference, the load's search one step at a time, and the report that stands in.
use Rattle.std.specs.Prelude.{Option, Some, None, is_some}
use Prim.Native.Nat.{ℕ, zero, suc, ◌+◌, ◌<◌, ◌≤◌}
use mathlib.Core.Path.{◌≡◌, refl, sym, subst, ◌∙◌}
use mathlib.Core.Logic.{◌↔◌, ◌⊎◌, inl, inr}
use mathlib.Core.List.{List}
use mathlib.Core.Bool.{Bool, true, false, ◌&&◌, false≢true}
use native.Mathlib.Omega.{arith}
use native.Mathlib.Nat.{eq-or-lt_of_le}
use lib.ListN.{length, get_or-eq_default}
use lib.IntN.{pos, neg_ℤ, ◌-ℤ◌}
use lib.Signed.{lt_z, le_z}
use lib.Dec.{eqb, ltb, leb}
use borrow.Author.Tests.{ltb-true, lt-ltb, leb-true, le-leb, eqb-true, eq-eqb, ltb-false}
use Rattle.std.proofs.lemmas.Int.{ints}
use Rattle.wire.proofs.ListLaws.{and_left, and_right}
use Rattle.engine_value.specs.Engine.{Route, fresh_position}
use Rattle.engine_value.specs.declared.Point.{Point}
use Rattle.engine_value.specs.declared.Position.{Position}
use Rattle.position.specs.declared.Named.{Named}
use Rattle.position.specs.Position.{point_count, point, placed, segment_named, front, front_at, known}
use Rattle.timing.specs.Distance.{Report, back, distance, unskipped, margin, at_front, exceeds, exceeds_reach, stops_at, beyond, moving, leaves}
use Rattle.timing.specs.Load.{unskipped_report, put_behind, target_from, target}
use Rattle.timing.specs.History.{report_number, settles}
use Rattle.timing.specs.Sentences.{Sentences}
use Rattle.timing.proofs.Laws.{beyond_known, leaves_when}

-- ---- d, without a sign

above : (m f b k : ℕ) → lt_z (pos m) (pos f -ℤ pos b -ℤ pos k) ≡ ltb (m + (b + k)) f
above m f b k = grind (arith, ints)

module _ (f length : ℕ) (p : Point) (driver : Bool) where
  abbrev far : ℕ
  far = back length p.alignment + p.place

  exceeds_is : exceeds f length p driver ≡ ltb (margin p driver + far) f
  exceeds_is = above (margin p driver) f (back length p.alignment) p.place

  beyond_margin : (exceeds f length p driver ≡ true) ↔ (p.place + back length p.alignment + margin p driver < f)
  beyond_margin = (
    λ e. let h : margin p driver + far < f = ltb-true _ _ (sym exceeds_is ∙ e) in omega arith,
    λ h. exceeds_is ∙ lt-ltb (margin p driver + far) f (omega arith),
  )

  at_least_is : le_z (neg_ℤ (pos p.reach)) (distance f length p) ≡ leb far (f + p.reach)
  at_least_is = least p.reach f (back length p.alignment) p.place
    where
      least : (r f b k : ℕ) → le_z (neg_ℤ (pos r)) (pos f -ℤ pos b -ℤ pos k) ≡ leb (b + k) (f + r)
      least r f b k = grind (arith, ints)

  at_stop_lem : (speed : ℕ)
      → (stops_at f length speed p driver ≡ true)
      ↔ ((unskipped p driver ≡ true) × (speed ≡ 0) × (p.place + back length p.alignment ≤ f + p.reach))
  at_stop_lem speed = (there, again)
    where
      there : stops_at f length speed p driver ≡ true → (unskipped p driver ≡ true) × (speed ≡ 0) × (p.place + back length p.alignment ≤ f + p.reach)
      there e =
          let r = and_right (unskipped p driver) _ e in
          let h : far ≤ f + p.reach = leb-true _ _ (sym at_least_is ∙ and_right (eqb speed 0) _ r) in
          (and_left (unskipped p driver) _ e, eqb-true _ _ (and_left (eqb speed 0) _ r), omega arith)

      again : (unskipped p driver ≡ true) × (speed ≡ 0) × (p.place + back length p.alignment ≤ f + p.reach) → stops_at f length speed p driver ≡ true
      again (u, s, h) = rw (u, eq-eqb _ _ s, at_least_is) (le-leb far (f + p.reach) (omega arith))

-- ---- the departure

leaving_margin : (f length : ℕ) (p : Point) (driver : Bool) → unskipped p driver ≡ true → exceeds_reach f length p ≡ exceeds f length p driver
leaving_margin f length p driver u = rw u refl

module _ (j : Route) (r : Report) (k : ℕ) where
  abbrev beyond_reach : ℕ → Type 0
  beyond_reach f = (point j k).place + back r.length (point j k).alignment + (point j k).reach < f

  reach_is : (f : ℕ) → exceeds_reach f r.length (point j k) ≡ ltb ((point j k).reach + (back r.length (point j k).alignment + (point j k).place)) f
  reach_is f = above (point j k).reach f (back r.length (point j k).alignment) (point j k).place

  leaving : (leaves j r k ≡ true) ↔ ((0 < r.position.speed) × ((f : ℕ) × (front_at j r.position ≡ Some f) × beyond_reach f))
  unfolding leaves
  leaving = (there, back_lem)
    where
      there : leaves j r k ≡ true → (0 < r.position.speed) × ((f : ℕ) × (front_at j r.position ≡ Some f) × beyond_reach f)
      there e =
          let (m, (f, q, x)) = leaves_when j r k e in
          let h : (point j k).reach + (back r.length (point j k).alignment + (point j k).place) < f = ltb-true _ _ (sym (reach_is f) ∙ x) in
          (m, (f, q, omega arith))

      back_lem : (0 < r.position.speed) × ((f : ℕ) × (front_at j r.position ≡ Some f) × beyond_reach f)
          → moving r && at_front (front_at j r.position) (λ f. exceeds_reach f r.length (point j k)) ≡ true
      back_lem (m, (f, q, h)) = rw (q, lt-ltb 0 r.position.speed m) (reach_is f ∙ lt-ltb _ f (omega arith))

-- ---- the load

module _ (j : Route) (r : Report) where
  -- all from k to i
  abbrev Behind : ℕ → ℕ → Type 0
  Behind k i = (u : ℕ) → k ≤ u → u ≤ i → put_behind j r u ≡ true

  below_target : (n k i : ℕ) → k ≤ i → i < target_from j r n k → (i < k + n) × Behind k i
  unfolding target_from
  below_target zero k i l h = absurd (omega arith)
  below_target (suc n) k i l h = go _ refl (below_target n (k + 1) i)
    where
      go : (b : Bool) → put_behind j r k ≡ b → (k + 1 ≤ i → i < target_from j r n (k + 1) → (i < k + 1 + n) × Behind (k + 1) i) → (i < k + suc n) × Behind k i
      go false q ih = let z : i < k = rw q at h in absurd (omega arith)
      go true q ih = two (eq-or-lt_of_le l)
        where
          two : (k ≡ i) ⊎ (k < i) → (i < k + suc n) × Behind k i
          two (inl e) = (omega arith, λ u a b. let s : u ≡ k = omega arith in rw s q)
          two (inr m) = let z = ih (omega arith) (rw q at h) in (omega (arith, z.0), λ u a b. from_here u b (z.1 u) (eq-or-lt_of_le a))
            where
              from_here : (u : ℕ) → u ≤ i → (k + 1 ≤ u → u ≤ i → put_behind j r u ≡ true) → (k ≡ u) ⊎ (k < u) → put_behind j r u ≡ true
              from_here u b up (inl e) = rw (← e) q
              from_here u b up (inr m) = up (omega arith) b

  target_above : (n k i : ℕ) → i < k + n → Behind k i → i < target_from j r n k
  unfolding target_from
  target_above zero k i l h = omega arith
  target_above (suc n) k i l h = go _ refl (target_above n (k + 1) i)
    where
      go : (b : Bool) → put_behind j r k ≡ b → (i < k + 1 + n → Behind (k + 1) i → i < target_from j r n (k + 1)) → i < target_from j r (suc n) k
      go true q ih = rw q (ih (omega arith) (λ u a b. h u (omega arith) b))
      go false q ih = rw q (two _ refl)
        where
          two : (b : Bool) → ltb i k ≡ b → i < k
          two true e = ltb-true i k e
          two false e = absurd (false≢true (sym q ∙ h k (omega arith) (ltb-false i k e)))

known_front : (f : Option ℕ) → is_some f ≡ true → (n : ℕ) × (f ≡ Some n)
known_front (Some n) e = (n, refl)
known_front None e = absurd (false≢true e)

module _ (j : Route) (x : Position) (length k : ℕ) where
  abbrev r : Report
  r = unskipped_report x length

  abbrev Said : Type 0
  Said = (k < point_count j) × ((f : ℕ) × (front_at j x ≡ Some f) × ((i : ℕ) → i ≤ k → (placed j i ≡ true) × (exceeds f length (point j i) false ≡ true)))

  load_behind : (k < target j x length) ↔ Said
  unfolding target
  load_behind = (there, back)
    where
      there : k < target_from j r (point_count j) 0 → Said
      there h =
          let (below, all) = below_target j r (point_count j) 0 k (omega arith) h in
          let (f, at) = known_front (front_at j x) (and_left (known j x) _ (all 0 (omega arith) (omega arith))) in
          let each : (i : ℕ) → i ≤ k → (placed j i ≡ true) × (beyond j r i ≡ true) =
          λ i l. let b = and_right (known j x) _ (all i (omega arith) l) in (and_left (placed j i) _ b, and_right (placed j i) _ b) in
          (omega arith, (f, at, λ i l. ((each i l).0, sym (beyond_known j r f at i) ∙ (each i l).1)))

      back : Said → k < target_from j r (point_count j) 0
      back (below, (f, at, all)) =
          target_above j r (point_count j) 0 k (omega arith) (λ u a b. let (q, e) = all u b in rw (at, q, beyond_known j r f at u) e)

-- ---- the report that stands in

nowhere : (s : Option Named) → front s fresh_position ≡ None
unfolding front
nowhere None = refl
nowhere (Some s) = refl

left_not : (j : Route) (k : ℕ) → leaves j (unskipped_report fresh_position 0) k ≡ false
unfolding leaves
left_not j k = refl

stand_in : (l : List Report) (t : ℕ) → (t ≡ 0) ⊎ (length l < t)
    → (j : Route) (k : ℕ) → (settles j (report_number l t) k ≡ false) × (leaves j (report_number l t) k ≡ false)
stand_in l zero h = λ j k. (rw (nowhere (segment_named j fresh_position)), left_not j k)
stand_in l (suc t) (inl e) = absurd (omega arith)
stand_in l (suc t) (inr h) =
    subst (λ q. (j : Route) (k : ℕ) → (settles j q k ≡ false) × (leaves j q k ≡ false))
    (sym (get_or-eq_default l (unskipped_report fresh_position 0) (omega arith)))
    (λ j k. (rw (nowhere (segment_named j fresh_position)), left_not j k))

pub sentences : Sentences
sentences = record {
  beyond_margin = beyond_margin;
  at_stop_lem = λ f length speed p driver. at_stop_lem f length p driver speed;
  leaving = leaving;
  leaving_margin = leaving_margin;
  load_behind = load_behind;
  stand_in = stand_in;
}
