-- The sentences: the search for the first point not passed, and the zones, one step at a time.
use Rattle.std.specs.Prelude.{Option, Some, None, is_some}
use Prim.Native.Nat.{ℕ, zero, suc, ◌+◌, ◌<◌, ◌≤◌}
use mathlib.Core.Path.{◌≡◌, refl, sym, ap, ◌∙◌}
use mathlib.Core.Logic.{◌↔◌, ◌⊎◌, inl, inr}
use mathlib.Core.List.{List}
use mathlib.Core.Bool.{Bool, true, false, not, ◌&&◌, ◌||◌, false≢true}
use native.Mathlib.Omega.{arith}
use native.Mathlib.Nat.{eq-or-lt_of_le}
use lib.ListN.{length, get_or}
use lib.Dec.{ltb, leb}
use borrow.Author.Tests.{ltb-false, le-ltb, leb-true, leb-false, le-leb, lt-leb, eqb-false, ne_eqb, not-true, not-false}
use Rattle.std.proofs.lemmas.List.{get_or_default}
use Rattle.std.proofs.lemmas.List.Folds.{Any-from_list_any, list_any_at}
use Rattle.wire.specs.Lists.{any}
use Rattle.wire.proofs.ListLaws.{and_left, and_right}
use Rattle.engine_value.specs.Engine.{Route, blank_zone, undefined}
use Rattle.engine_value.specs.declared.Zone.{Zone}
use Rattle.engine_value.specs.declared.Position.{Position}
use Rattle.position.specs.Position.{point_count, placed, in_zone, zones_of, named, segment_named, offset_defined}
use Rattle.position.specs.Standing.{is_passed}
use Rattle.position.specs.Sentences.{segment}
use Rattle.position.specs.declared.Named.{Named}
use Rattle.position.specs.declared.Standing.{Standing}
use Rattle.position.proofs.Sentences.{named_at, found_at}
use Rattle.conditions.specs.Conditions.{first_ahead, profiles_there, located, outside_zones}
use Rattle.conditions.specs.Sentences.{FirstNotPassed, NoneLeft, LocatedIn, InZone, ZonesBooked, Sentences}

-- ---- 4

module _ (standing : ℕ → Standing) where
  -- of the n points from k on, the first that is not passed; all before it are
  abbrev Searched : ℕ → ℕ → ℕ → Type 0
  Searched k m f = (k ≤ f) × (f ≤ m) × ((i : ℕ) → k ≤ i → i < f → is_passed (standing i) ≡ true) × (f < m → is_passed (standing f) ≡ false)

  searched : (n k m : ℕ) → m ≡ k + n → Searched k m (first_ahead standing n k)
  unfolding first_ahead
  searched zero k m z = (omega arith, omega arith, λ i a b. absurd (omega arith), λ h. absurd (omega arith))
  searched (suc n) k m z = go _ refl (searched n (k + 1) m (omega arith))
    where
      go : (b : Bool) → is_passed (standing k) ≡ b → Searched (k + 1) m (first_ahead standing n (k + 1)) → Searched k m (first_ahead standing (suc n) k)
      go true q (a, b, c, d) = rw q (omega arith, b, λ i l h. from_here i h (eq-or-lt_of_le l), d)
        where
          from_here : (i : ℕ) → i < first_ahead standing n (k + 1) → (k ≡ i) ⊎ (k < i) → is_passed (standing i) ≡ true
          from_here i h (inl e) = rw (← e) q
          from_here i h (inr l) = c i (omega arith) h
      go false q s = rw q (omega arith, omega arith, λ i l h. absurd (omega arith), λ h. q)

module _ (j : Route) (standing : ℕ → Standing) where
  abbrev k : ℕ
  k = first_ahead standing (point_count j) 0

  abbrev Said : Type 0
  Said = ((f : ℕ) × FirstNotPassed j standing f × (placed j f ≡ true)) ⊎ NoneLeft j standing

  first : Searched standing 0 (point_count j) k
  first = searched standing (point_count j) 0 (point_count j) (omega arith)

  or_right : (a b : Bool) → (a || b) ≡ true → a ≡ false → b ≡ true
  or_right true b e f = absurd (false≢true (sym f))
  or_right false b e f = e

  condition_4 : (profiles_there j standing ≡ true) ↔ ((j.load.valid ≡ true) × Said)
  condition_4 = (there, back)
    where
      there : profiles_there j standing ≡ true → (j.load.valid ≡ true) × Said
      there e = (and_left j.load.valid _ e, go _ refl)
        where
          go : (b : Bool) → leb (point_count j) k ≡ b → Said
          go true q = let h : point_count j ≤ k = leb-true _ _ q in inr (λ i l. first.2 i (omega arith) (omega arith))
          go false q =
              let h : k < point_count j = leb-false _ _ q in
              let f : FirstNotPassed j standing k = record { in_journey = h; not_passed = first.3 h; passed_before = λ i l. first.2 i (omega arith) l } in
              inl (k, f, or_right _ _ (and_right j.load.valid _ e) q)

      same : (f : ℕ) → FirstNotPassed j standing f → k ≡ f
      same f h =
          apart k f (λ l. false≢true (sym (first.3 (omega (arith, h.in_journey))) ∙ h.passed_before k l))
          (λ l. false≢true (sym h.not_passed ∙ first.2 f (omega arith) l))
        where
          apart : (a b : ℕ) → (a < b → ⊥) → (b < a → ⊥) → a ≡ b
          apart a b x y = omega arith

      back : (j.load.valid ≡ true) × Said → profiles_there j standing ≡ true
      back (v, inl (f, h, p)) =
          let q : k ≡ f = same f h in rw (v, lt-leb (point_count j) k (omega (arith, h.in_journey))) (ap (placed j) q ∙ p)
      back (v, inr all) = rw (v, le-leb (point_count j) k (none _ refl))
        where
          none : (b : Bool) → leb (point_count j) k ≡ b → point_count j ≤ k
          none true q = leb-true _ _ q
          none false q = let h : k < point_count j = leb-false _ _ q in absurd (false≢true (sym (first.3 h) ∙ all k h))

-- ---- 6

module _ (j : Route) (x : Position) where
  -- what the test of `located` says, of the segment at k
  located_at : (k : ℕ) → LocatedIn j x k → located (segment_named j x) x ≡ true
  located_at k h = rw (named_at j x k h.its_segment, ne_eqb x.offset undefined h.offset_defined_lem) (go _ refl)
    where
      go : (b : Bool) → (segment j k).booked ≡ b → not ((segment j k).booked && ltb (segment j k).length x.offset) ≡ true
      go true q = rw (q, le-ltb (segment j k).length x.offset (h.not_beyond q))
      go false q = rw q

  at_located : located (segment_named j x) x ≡ true → (k : ℕ) × LocatedIn j x k
  at_located e =
      let (k, h) = found_at j x (found (segment_named j x) e) in
      let f : located (Some (named x.offset (segment j k))) x ≡ true = rw (named_at j x k h) at e in (
        k,
        record {
          offset_defined_lem = eqb-false _ _ (not-true _ (and_left (offset_defined x) _ f));
          its_segment = h;
          not_beyond = λ b. ltb-false _ _ (rw b at (not-true _ (and_right (offset_defined x) _ f)));
        },
      )
    where
      found : (s : Option Named) → located s x ≡ true → is_some s ≡ true
      found None e = e
      found (Some s) e = refl

  -- ---- 7

  outside_is : (k : ℕ) → LocatedIn j x k → outside_zones (segment_named j x) x ≡ not (any (in_zone x.offset) (zones_of (segment j k)))
  outside_is k h = let l = rw (named_at j x k h.its_segment) at (located_at k h) in rw (named_at j x k h.its_segment, l)

-- some zone of a list holds the offset
module _ (offset : ℕ) where
  abbrev Holds : List Zone → ℕ → Type 0
  Holds l i = (i < length l) × ((get_or l i blank_zone).start ≤ offset) × (offset ≤ (get_or l i blank_zone).end)

  zone_there : (l : List Zone) → any (in_zone offset) l ≡ true → (i : ℕ) × Holds l i
  zone_there l e =
      let (i, z, h, g, q) = Any-from_list_any (in_zone offset) l e in
      let r : get_or l i blank_zone ≡ z = get_or_default l i blank_zone z h ∙ g in
      (i, rw r (h, leb-true _ _ (and_left (leb z.start offset) _ q), leb-true _ _ (and_right (leb z.start offset) _ q)))

  there_zone : (l : List Zone) (i : ℕ) → Holds l i → any (in_zone offset) l ≡ true
  there_zone l i (a, b, c) = list_any_at (in_zone offset) l i blank_zone a (rw (le-leb _ _ b, le-leb _ _ c))

module _ (j : Route) (x : Position) where
  condition_7 : (outside_zones (segment_named j x) x ≡ false) ↔ ((k : ℕ) × LocatedIn j x k × ((i : ℕ) × InZone (segment j k) x.offset i))
  condition_7 = (there, back)
    where
      inside : (s : Option Named) → outside_zones s x ≡ false → located s x ≡ true
      inside None e = absurd (false≢true (sym e))
      inside (Some s) e = and_left (located (Some s) x) _ (not-false _ e)

      there : outside_zones (segment_named j x) x ≡ false → (k : ℕ) × LocatedIn j x k × ((i : ℕ) × InZone (segment j k) x.offset i)
      there e =
          let (k, h) = at_located j x (inside (segment_named j x) e) in
          let (i, (a, b, c)) = zone_there x.offset (zones_of (segment j k)) (not-false _ (sym (outside_is j x k h) ∙ e)) in
          (k, h, (i, record { of_segment = a; from_start = b; to_end = c }))

      back : (k : ℕ) × LocatedIn j x k × ((i : ℕ) × InZone (segment j k) x.offset i) → outside_zones (segment_named j x) x ≡ false
      back (k, h, (i, z)) = outside_is j x k h ∙ ap not (there_zone x.offset (zones_of (segment j k)) i (z.of_segment, z.from_start, z.to_end))

  condition_7_booked : ZonesBooked j
      → (outside_zones (segment_named j x) x ≡ false)
      ↔ ((k : ℕ) × LocatedIn j x k × ((segment j k).booked ≡ true) × ((i : ℕ) × InZone (segment j k) x.offset i))
  condition_7_booked n = (λ e. let (k, h, (i, z)) = condition_7.0 e in (k, h, booked k i z _ refl, (i, z)), λ h. condition_7.1 (h.0, h.1, h.3))
    where
      booked : (k i : ℕ) → InZone (segment j k) x.offset i → (b : Bool) → (segment j k).booked ≡ b → (segment j k).booked ≡ true
      booked k i z true q = q
      booked k i z false q = let h = z.of_segment in let e = n k q in absurd (not_below i (rw e at h))
        where
          not_below : (i : ℕ) → i < 0 → ⊥
          not_below i h = omega arith

pub sentences : Sentences
sentences = record {
  condition_4 = condition_4;
  condition_6 = λ j x. (at_located j x, λ h. located_at j x h.0 h.1);
  condition_7 = condition_7;
  condition_7_booked = condition_7_booked;
}
