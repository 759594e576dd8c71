-- In every history a name is that of one point only of the journey in force: row 11 refuses an NID_TP that stands twice.
use mathlib.Core.Path.{◌≡◌, refl, sym, ◌∙◌, ap, subst}
use mathlib.Core.Bool.{Bool, true, false, not, ◌||◌, false≢true}
use mathlib.Core.List.{List, [], ◌∷◌, map}
use Rattle.std.specs.Prelude.{Option, Some, None}
use Prim.Native.Nat.{ℕ, zero, suc, ◌≤◌, ◌<◌}
use native.Mathlib.Omega.{arith}
use lib.Dec.{eqb}
use lib.ListN.{length, get_or}
use borrow.Author.Tests.{eq-eqb}
use Rattle.wire.specs.Lists.{any, twice}
use Rattle.wire.specs.Judged.{Judged, then_judge, row}
use Rattle.wire.specs.Judged.Judged.{refuse, accept}
use Rattle.wire.proofs.ListLaws.{or-false}
use Rattle.engine_value.specs.Engine.{Route, no_route, blank_point}
use Rattle.event.specs.Kinds.{Role, off, load, report, other, skip}
use Rattle.segment_record.specs.Record.{BookSegment}
use Rattle.book.specs.Table.{book_of}
use Rattle.journey.specs.Journey.{JourneyValue, journey_value}
use Rattle.journey.specs.declared.Name as journey_name
use Rattle.journey.specs.declared.JourneyPoint.{JourneyPoint}
use Rattle.route.proofs.Filling.{filled_at}
use Rattle.journey_rows.specs.Rows.{index_beyond, nidtps, ends}
use Rattle.route.specs.Placing.{point_of, point_at, points_of}
use Rattle.route.specs.Table.{point_missing, checked, journey_of}
use Rattle.route.specs.Route.{LoadValue, route_of, load_value, load_of}
use Rattle.route.proofs.Rows.{ten, eleven, twelve, points-length}
use Rattle.route.proofs.Ranges.{load_fits}
use Rattle.position.specs.Position.{point, point_count}
use Rattle.call_values.specs.Call.{Call}
use Rattle.whole_list.specs.Values.{History, load_of_call, role_of_call, route_loaded, route_by}

-- ---- a list in which no number stands twice

none-at : (x : ℕ) (l : List ℕ) (k : ℕ) → k < length l → any (λ y. eqb y x) l ≡ false → x ≡ get_or l k 0 → ⊥
none-at x [] k h e q = omega arith
none-at x (y ∷ l) zero h e q = false≢true (sym (or-false (eqb y x) (any (λ y. eqb y x) l) e).0 ∙ eq-eqb y x (sym q))
none-at x (y ∷ l) (suc k) h e q = none-at x l k (omega arith) (or-false (eqb y x) (any (λ y. eqb y x) l) e).1 q

once : (l : List ℕ) (i k : ℕ) → twice eqb l ≡ false → i < length l → k < length l → get_or l i 0 ≡ get_or l k 0 → i ≡ k
once [] i k e a b q = absurd (omega arith)
once (x ∷ l) zero zero e a b q = refl
once (x ∷ l) zero (suc k) e a b q = absurd (none-at x l k (omega arith) (or-false (any (λ y. eqb y x) l) (twice eqb l) e).0 q)
once (x ∷ l) (suc i) zero e a b q = absurd (none-at x l i (omega arith) (or-false (any (λ y. eqb y x) l) (twice eqb l) e).0 (sym q))
once (x ∷ l) (suc i) (suc k) e a b q = ap suc (once l i k (or-false (any (λ y. eqb y x) l) (twice eqb l) e).1 (omega arith) (omega arith) q)

-- ---- what row 11 leaves

checked_once : (book : List BookSegment) (j v : JourneyValue) → checked book j ≡ accept v → (j ≡ v) × (twice eqb (nidtps j.points) ≡ false)
unfolding checked
checked_once book j v = go (ten j) (eleven book j) refl (twelve (points_of book j) j)
  where
    double : Bool
    double = twice eqb (nidtps j.points)

    many : Bool
    many = not (eqb (ends j.points) 1)

    tells : eleven book j ≡ false → double ≡ false
    tells e = (or-false double (many || point_missing book j) (or-false (index_beyond j) (double || (many || point_missing book j)) e).1).0

    go : (a b : Bool) → eleven book j ≡ b → (c : Bool)
        → then_judge (row 10 a) (λ u. then_judge (row 11 b) (λ u. then_judge (row 12 c) (λ u. accept j))) ≡ accept v → (j ≡ v) × (double ≡ false)
    go true b q c e = cc
    go false true q c e = cc
    go false false q true e = cc
    go false false q false e = (cc, tells q)

-- the points of a load bear the journey's NID_TPs
nidtp_at : (book : List BookSegment) (names : List journey_name.Name) (ps : List JourneyPoint) (k : ℕ)
    → (get_or (map (point_at book names) ps) k blank_point).nidtp ≡ get_or (nidtps ps) k 0
unfolding point_of
nidtp_at book names [] k = refl
nidtp_at book names (p ∷ ps) zero = refl
nidtp_at book names (p ∷ ps) (suc k) = nidtp_at book names ps k

nidtps-length : (ps : List JourneyPoint) → length (nidtps ps) ≡ length ps
nidtps-length [] = refl
nidtps-length (p ∷ ps) = ap suc (nidtps-length ps)

abbrev pub Distinct : Route → Type 0
Distinct j = (i k : ℕ) → i < point_count j → k < point_count j → (point j i).nidtp ≡ (point j k).nidtp → i ≡ k

value_once : (book : List BookSegment) (j : JourneyValue) → length j.points ≤ 64 → twice eqb (nidtps j.points) ≡ false → Distinct (route_of book j)
unfolding route_of
value_once book j few e i k a b q =
    once (nidtps j.points) i k e (omega (arith, nidtps-length j.points)) (omega (arith, nidtps-length j.points)) (sym (at i) ∙ q ∙ at k)
  where
    at : (k : ℕ) → (point (route_of book j) k).nidtp ≡ get_or (nidtps j.points) k 0
    at k =
        ap (λ p. p.nidtp) (filled_at blank_point 64 (points_of book j) k (omega (arith, points-length book j))) ∙ nidtp_at book j.names j.points k

load_once : (journey bytes : List ℕ) (v : LoadValue) → load_of journey bytes ≡ accept v → Distinct v.route
unfolding load_of journey_of route_of
load_once journey bytes v read = go (book_of bytes) (journey_value journey) read
  where
    distinct : (book : List BookSegment) (j : JourneyValue) → (q : Judged JourneyValue) → checked book j ≡ q
        → then_judge q (λ j. accept (load_value book j)) ≡ accept v → Distinct v.route
    distinct book j (refuse n) p e = cc
    distinct book j (accept w) p e =
        let c = checked_once book j w p in
        let same : load_value book w ≡ v = cc in
        let few : length w.points ≤ 64 = rw (← same) at (load_fits journey bytes v read).most_points in
        subst (λ (x : LoadValue). Distinct x.route) same (value_once book w few (rw c.0 at c.1))

    go : (b : Judged (List BookSegment)) (q : Judged JourneyValue)
        → then_judge b (λ book. then_judge (then_judge q (checked book)) (λ j. accept (load_value book j))) ≡ accept v → Distinct v.route
    go (refuse n) q e = cc
    go (accept book) (refuse n) e = cc
    go (accept book) (accept j) e = distinct book j (checked book j) refl e

-- ---- for every history

none-loaded : Distinct no_route
none-loaded i k a b q = absurd (omega arith)

load-of : (c : Call) (l : LoadValue) → load_of_call c ≡ Some l → Distinct l.route
unfolding load_of_call
load-of c l = go (load_of c.journey c.book) refl
  where
    go : (v : Judged LoadValue) → load_of c.journey c.book ≡ v → elim v [ refuse n ↦ None | accept k ↦ Some k ] ≡ Some l → Distinct l.route
    go (refuse n) q e = cc
    go (accept k) q e = let z : k ≡ l = cc in subst (λ (x : LoadValue). Distinct x.route) z (load_once c.journey c.book k q)

pub one_point : (h : History) → Distinct (route_by h)
unfolding route_by
one_point [] = none-loaded
one_point (c ∷ h) = go (role_of_call c) (one_point h)
  where
    by : (o : Option LoadValue) → load_of_call c ≡ o → Distinct (route_by h) → Distinct (route_loaded o (route_by h))
    by None e d = d
    by (Some l) e d = load-of c l e

    go : (r : Role) → Distinct (route_by h)
        → Distinct (elim r [
          | off ↦ no_route
          | load ↦ route_loaded (load_of_call c) (route_by h)
          | report ↦ route_by h
          | other ↦ route_by h
          | skip t on ↦ route_by h
        ])
    go off d = none-loaded
    go load d = by (load_of_call c) refl d
    go report d = d
    go other d = d
    go (skip t on) d = d
