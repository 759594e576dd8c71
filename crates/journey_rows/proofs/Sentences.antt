-- The sentences of the rows 10 to 12.
use Prim.Native.Nat.{ℕ, zero, suc, ◌+◌, ◌≤◌, ◌<◌}
use mathlib.Core.Path.{◌≡◌, refl, sym, ap, ◌∙◌}
use mathlib.Core.Logic.{◌↔◌}
use mathlib.Core.List.{List, [], ◌∷◌}
use mathlib.Core.Bool.{Bool, true, false, cond, not, ◌&&◌, false≢true}
use native.Mathlib.Numerals.{add-one}
use native.Mathlib.Omega.{arith}
use lib.ListN.{length}
use lib.Dec.{eqb, ltb, leb}
use borrow.Author.Tests.{not-true, ltb-false, le-ltb}
use Rattle.wire.specs.Numbers.{flag}
use Rattle.wire.specs.Lists.{twice, falls, strictly_rises}
use Rattle.engine_value.specs.Engine.{blank_point}
use Rattle.engine_value.specs.declared.Point.{Point}
use Rattle.book.proofs.Pairs.{and_both, equal_back, below, at_most, through, some_at, two_at, twice-at, number-twice}
use Rattle.book.proofs.Pairs.{later, falls-later, rises_later, later_map, later_those}
use Rattle.journey.specs.Journey.{blank_name, blank_journey_point, JourneyValue}
use Rattle.journey.specs.declared.Name.{Name}
use Rattle.journey.specs.declared.JourneyPoint.{JourneyPoint}
use Rattle.journey_rows.specs.Rows.{same_name, index_beyond, ends, indices, places, ending_of}
use Rattle.journey_rows.specs.Sentences.{SegmentTwice, IndexBeyond, EndsAt, OneEnd, IndexFalls, PlacesFall, Sentences}

segments : (ns : List Name) → (twice same_name ns ≡ true) ↔ SegmentTwice ns
segments =
    twice-at blank_name same_name (λ a b. (a.nidc ≡ b.nidc) × (a.nidsp ≡ b.nidsp))
    (λ a b. and_both (eqb b.nidc a.nidc) (eqb b.nidsp a.nidsp) (a.nidc ≡ b.nidc) (a.nidsp ≡ b.nidsp) (equal_back a.nidc b.nidc) (equal_back a.nidsp b.nidsp))

beyond : (j : JourneyValue) → (index_beyond j ≡ true) ↔ IndexBeyond j
beyond j =
    some_at blank_journey_point (λ p. leb (length j.names) p.index) (λ p. length j.names ≤ p.index)
    (λ p. at_most (length j.names) p.index) j.points

index_falls : (ps : List JourneyPoint) → (falls (indices ps) ≡ true) ↔ IndexFalls ps
index_falls ps =
    through (falls (indices ps)) (later (λ p q. ltb q.index p.index) ps) (IndexFalls ps)
    (falls-later (indices ps) ∙ later_map (λ (p : JourneyPoint). p.index) (λ x y. ltb y x) ps)
    (two_at blank_journey_point (λ p q. ltb q.index p.index) (λ p q. q.index < p.index) (λ p q. below q.index p.index) ps)

-- a place that does not lie below another
not_below : (a b : ℕ) → (not (ltb a b) ≡ true) ↔ (b ≤ a)
not_below a b = (λ e. ltb-false a b (not-true (ltb a b) e), λ h. rw (le-ltb a b h))

itself : (b : Bool) → (b ≡ true) ↔ (b ≡ true)
itself b = (λ e. e, λ e. e)

-- two placed points, of which the one behind does not lie beyond the other
abbrev back : Point → Point → Bool
back p q = p.placed && (q.placed && not (ltb p.place q.place))

abbrev Back : Point → Point → Type 0
Back p q = (p.placed ≡ true) × ((q.placed ≡ true) × (q.place ≤ p.place))

back_is : (p q : Point) → (back p q ≡ true) ↔ Back p q
back_is p q =
    and_both p.placed _ _ _ (itself p.placed) (and_both q.placed _ _ _ (itself q.placed) (not_below p.place q.place))

places_fall : (ps : List Point) → (not (strictly_rises (places ps)) ≡ true) ↔ PlacesFall ps
places_fall ps =
    through (not (strictly_rises (places ps))) (later back ps) (PlacesFall ps)
    (rises_later (places ps) ∙ later_those (λ (p : Point). p.placed) (λ (p : Point). p.place) (λ x y. not (ltb x y)) ps)
    (two_at blank_point back Back back_is ps)

-- ---- the End of Journey

-- none of them is
no_end : (ps : List JourneyPoint) → ends ps ≡ 0 → (k : ℕ) → k < length ps → EndsAt ps k → ⊥
no_end [] e k h q = absurd (omega arith)
no_end (p ∷ ps) e zero h q = let x : flag p.end ≡ 1 = rw q in omega (arith, e, x)
no_end (p ∷ ps) e (suc k) h q = no_end ps (omega (arith, e)) k (omega arith) q

ends-none : (ps : List JourneyPoint) → ((k : ℕ) → k < length ps → EndsAt ps k → ⊥) → ends ps ≡ 0
ends-none [] h = refl
ends-none (p ∷ ps) h = go p.end refl (ends-none ps (λ k l q. h (suc k) (omega arith) q))
  where
    go : (b : Bool) → p.end ≡ b → ends ps ≡ 0 → ends (p ∷ ps) ≡ 0
    go true t e = absurd (h 0 (omega arith) t)
    go false t e = let x : flag p.end ≡ 0 = rw t in omega (arith, e, x)

one_there : (ps : List JourneyPoint) → ends ps ≡ 1 → OneEnd ps
one_there [] e = absurd (omega (arith, e))
one_there (p ∷ ps) e = go p.end refl (λ q. one_there ps q)
  where
    next : p.end ≡ false → OneEnd ps → OneEnd (p ∷ ps)
    next t (i, h, q, only) = (suc i, omega arith, q, alone)
      where
        alone : (k : ℕ) → k < length (p ∷ ps) → EndsAt (p ∷ ps) k → k ≡ suc i
        alone zero l r = absurd (false≢true (sym t ∙ r))
        alone (suc k) l r = ap suc (only k (omega arith) r)

    go : (b : Bool) → p.end ≡ b → (ends ps ≡ 1 → OneEnd ps) → OneEnd (p ∷ ps)
    go true t ih = (0, omega arith, t, alone)
      where
        none : ends ps ≡ 0
        none = let x : flag p.end ≡ 1 = rw t in omega (arith, e, x)

        alone : (k : ℕ) → k < length (p ∷ ps) → EndsAt (p ∷ ps) k → k ≡ 0
        alone zero l r = refl
        alone (suc k) l r = absurd (no_end ps none k (omega arith) r)
    go false t ih = let x : flag p.end ≡ 0 = rw t in next t (ih (omega (arith, e, x)))

one_back : (ps : List JourneyPoint) → OneEnd ps → ends ps ≡ 1
one_back [] (i, h, q, only) = absurd (omega arith)
one_back (p ∷ ps) (zero, h, q, only) = rw (q, ends-none ps (λ k l r. let x : suc k ≡ 0 = only (suc k) (omega arith) r in omega (arith, x)))
one_back (p ∷ ps) (suc i, h, q, only) =
    go p.end refl (one_back ps (i, omega arith, q, λ k l r. let x : suc k ≡ suc i = only (suc k) (omega arith) r in omega (arith, x)))
  where
    go : (b : Bool) → p.end ≡ b → ends ps ≡ 1 → ends (p ∷ ps) ≡ 1
    go true t e = let x : 0 ≡ suc i = only 0 (omega arith) t in absurd (omega (arith, x))
    go false t e = let x : flag p.end ≡ 0 = rw t in omega (arith, e, x)

ending : (ps : List JourneyPoint) → OneEnd ps → (ending_of ps < length ps) × EndsAt ps (ending_of ps)
ending [] (i, h, q, only) = absurd (omega arith)
ending (p ∷ ps) (zero, h, q, only) = rw q (omega arith, refl)
ending (p ∷ ps) (suc i, h, q, only) =
    go p.end refl (ending ps (i, omega arith, q, λ k l r. let x : suc k ≡ suc i = only (suc k) (omega arith) r in omega (arith, x)))
  where
    go : (b : Bool) → p.end ≡ b → (ending_of ps < length ps) × EndsAt ps (ending_of ps)
        → (cond b 0 (ending_of ps + 1) < suc (length ps)) × EndsAt (p ∷ ps) (cond b 0 (ending_of ps + 1))
    go true t w = (omega arith, t)
    go false t (l, e) = (omega arith, rw (add-one (ending_of ps)) e)

pub sentences : Sentences
sentences = record {
  segment_twice = segments;
  index_beyond_lem = beyond;
  point_twice = number-twice blank_journey_point (λ (p : JourneyPoint). p.nidtp);
  one_end = λ ps. (one_there ps, one_back ps);
  index_falls = index_falls;
  places_fall = places_fall;
  ending = ending;
}
