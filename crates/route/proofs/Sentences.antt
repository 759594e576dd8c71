-- "Placed" and the rows 10 to 12 in the paper's words.
use Prim.Native.Nat.{ℕ, zero, suc, ◌≤◌, ◌<◌}
use mathlib.Core.Path.{◌≡◌, refl, sym, ap, subst}
use mathlib.Core.Logic.Iff
use mathlib.Core.Logic.{◌↔◌}
use mathlib.Core.List.{List, [], ◌∷◌}
use mathlib.Core.Bool.{Bool, true, false, not, ◌&&◌, false≢true}
use Rattle.std.specs.Prelude.{Option, Some, None}
use native.Mathlib.Omega.{arith}
use lib.ListN.{length, get_or, take}
use lib.Dec.{eqb}
use Rattle.wire.specs.Lists.{every}
use Rattle.wire.specs.Judged.{Judged, then_judge, row}
use Rattle.wire.specs.Judged.Judged.{refuse, accept}
use Rattle.wire.proofs.ListLaws.{and_left, and_right}
use Rattle.segment_record.specs.Record.{BookSegment, lookup_point}
use Rattle.book.specs.Book.{is_some}
use Rattle.book.specs.Sentences.{InRecord}
use Rattle.book.proofs.Pairs.{or_either, either, equal, fails, some_at}
use Rattle.book.proofs.Sentences.{sentences as of_book}
use Rattle.journey.specs.Journey.{blank_name, blank_journey_point, JourneyValue}
use Rattle.journey.specs.declared.Name.{Name}
use Rattle.journey_rows.specs.Rows.{ends}
use Rattle.journey_rows.specs.Sentences.{OneEnd}
use Rattle.journey_rows.proofs.Sentences.{sentences as of_rows}
use Rattle.route.specs.Placing.{points_on, booked, placed_at, record_at, points_of}
use Rattle.route.specs.Table.{point_missing, checked}
use Rattle.route.specs.Sentences.{Booked, PointMissing, Ten, Eleven, Twelve, Sentences}
use Rattle.route.proofs.Rows.{ten, eleven, twelve}

-- ---- each of the first elements of a list

module _ {A : Type 0} (blank : A) (f : A → Bool) (P : A → Type 0) (agree : (a : A) → (f a ≡ true) ↔ P a) where
  each_there : (l : List A) (k : ℕ) → k < length l → every f (take (suc k) l) ≡ true → (i : ℕ) → i ≤ k → P (get_or l i blank)
  each_there [] k h e i m = absurd (omega arith)
  each_there (x ∷ xs) k h e zero m = (agree x).0 (and_left (f x) (every f (take k xs)) e)
  each_there (x ∷ xs) zero h e (suc i) m = absurd (omega arith)
  each_there (x ∷ xs) (suc k) h e (suc i) m = each_there xs k (omega arith) (and_right (f x) (every f (take (suc k) xs)) e) i (omega arith)

  each_back : (l : List A) (k : ℕ) → k < length l → ((i : ℕ) → i ≤ k → P (get_or l i blank)) → every f (take (suc k) l) ≡ true
  each_back [] k h p = absurd (omega arith)
  each_back (x ∷ xs) zero h p = rw ((agree x).1 (p 0 (omega arith)))
  each_back (x ∷ xs) (suc k) h p = rw ((agree x).1 (p 0 (omega arith)), each_back xs k (omega arith) (λ i m. p (suc i) (omega arith)))

-- ---- the rows, by what their tests say

module _ (j : JourneyValue) (a b c : Bool) where
  abbrev rows : Judged JourneyValue
  rows = then_judge (row 10 a) (λ u. then_judge (row 11 b) (λ u. then_judge (row 12 c) (λ u. accept j)))

module _ (j : JourneyValue) (A B C : Type 0) where
  other : (n m : ℕ) → (n ≡ m → ⊥) → ◌≡◌ {A = Judged JourneyValue} (refuse n) (refuse m) → ⊥
  other n m h e = h cc

  accepted : (n : ℕ) → ◌≡◌ {A = Judged JourneyValue} (accept j) (refuse n) → ⊥
  accepted n e = let z : ◌≡◌ {A = ℕ} 0 1 = cc in omega arith

  is_10 : (a b c : Bool) → (a ≡ true) ↔ A → (rows j a b c ≡ refuse 10) ↔ A
  is_10 true b c p = (λ e. p.0 refl, λ x. refl)
  is_10 false true c p = (λ e. absurd (other 11 10 (λ q. omega (arith, q)) e), λ x. absurd (false≢true (p.1 x)))
  is_10 false false true p = (λ e. absurd (other 12 10 (λ q. omega (arith, q)) e), λ x. absurd (false≢true (p.1 x)))
  is_10 false false false p = (λ e. absurd (accepted 10 e), λ x. absurd (false≢true (p.1 x)))

  is_11 : (a b c : Bool) → (a ≡ true) ↔ A → (b ≡ true) ↔ B → (rows j a b c ≡ refuse 11) ↔ ((¬ A) × B)
  is_11 true b c p q = (λ e. absurd (other 10 11 (λ q. omega (arith, q)) e), λ x. absurd (x.0 (p.0 refl)))
  is_11 false true c p q = (λ e. (λ x. false≢true (p.1 x), q.0 refl), λ x. refl)
  is_11 false false true p q = (λ e. absurd (other 12 11 (λ q. omega (arith, q)) e), λ x. absurd (false≢true (q.1 x.1)))
  is_11 false false false p q = (λ e. absurd (accepted 11 e), λ x. absurd (false≢true (q.1 x.1)))

  is_12 : (a b c : Bool) → (a ≡ true) ↔ A → (b ≡ true) ↔ B → (c ≡ true) ↔ C → (rows j a b c ≡ refuse 12) ↔ ((¬ A) × (¬ B) × C)
  is_12 true b c p q r = (λ e. absurd (other 10 12 (λ q. omega (arith, q)) e), λ x. absurd (x.0 (p.0 refl)))
  is_12 false true c p q r = (λ e. absurd (other 11 12 (λ q. omega (arith, q)) e), λ x. absurd (x.1 (q.0 refl)))
  is_12 false false true p q r = (λ e. (λ x. false≢true (p.1 x), λ x. false≢true (q.1 x), r.0 refl), λ x. refl)
  is_12 false false false p q r = (λ e. absurd (accepted 12 e), λ x. absurd (false≢true (r.1 x.2)))

  is_none : (a b c : Bool) → (a ≡ true) ↔ A → (b ≡ true) ↔ B → (c ≡ true) ↔ C → (rows j a b c ≡ accept j) ↔ ((¬ A) × (¬ B) × (¬ C))
  is_none true b c p q r = (λ e. absurd (accepted 10 (sym e)), λ x. absurd (x.0 (p.0 refl)))
  is_none false true c p q r = (λ e. absurd (accepted 11 (sym e)), λ x. absurd (x.1 (q.0 refl)))
  is_none false false true p q r = (λ e. absurd (accepted 12 (sym e)), λ x. absurd (x.2 (r.0 refl)))
  is_none false false false p q r = (λ e. (λ x. false≢true (p.1 x), λ x. false≢true (q.1 x), λ x. false≢true (r.1 x)), λ x. refl)

module _ (book : List BookSegment) where
  in_book : (n : Name) → (booked book n ≡ true) ↔ Booked book n
  in_book n = of_book.in_book book n.nidc n.nidsp

  missing : (j : JourneyValue) → (point_missing book j ≡ true) ↔ PointMissing book j
  missing j = some_at blank_journey_point _ _ (λ p. go p.nidtp (record_at book j.names p)) j.points
    where
      go : (t : ℕ) (r : Option BookSegment)
          → ((is_some r && not (is_some (lookup_point t (points_on r)))) ≡ true) ↔ ((g : BookSegment) × (r ≡ Some g) × (¬ InRecord g t))
      go t None = (λ e. absurd (false≢true e), nothing)
        where
          nothing : (g : BookSegment) × (◌≡◌ {A = Option BookSegment} None (Some g)) × (¬ InRecord g t) → false ≡ true
          nothing (g, e, n) = ap is_some e
      go t (Some g) = (λ e. (g, refl, without.0 e), there)
        where
          without : (not (is_some (lookup_point t g.points)) ≡ true) ↔ (¬ InRecord g t)
          without = fails (is_some (lookup_point t g.points)) (InRecord g t) (of_book.in_record g t)

          there : (h : BookSegment) × (Some g ≡ Some h) × (¬ InRecord h t) → not (is_some (lookup_point t g.points)) ≡ true
          there (h, e, n) = let q : g ≡ h = cc in without.1 (λ x. n (subst (λ (s : BookSegment). InRecord s t) q x))

  module _ (j : JourneyValue) where
    by_10 : (ten j ≡ true) ↔ Ten j
    by_10 = of_rows.segment_twice j.names

    not_one : (not (eqb (ends j.points) 1) ≡ true) ↔ (¬ OneEnd j.points)
    not_one = fails (eqb (ends j.points) 1) (OneEnd j.points) (Iff.trans (equal (ends j.points) 1) (of_rows.one_end j.points))

    by_11 : (eleven book j ≡ true) ↔ Eleven book j
    by_11 =
        Iff.trans (or_either _ _) (either (of_rows.index_beyond_lem j)
        (Iff.trans (or_either _ _) (either (of_rows.point_twice j.points) (Iff.trans (or_either _ _) (either not_one (missing j))))))

    by_12 : (twelve (points_of book j) j ≡ true) ↔ Twelve book j
    by_12 = Iff.trans (or_either _ _) (either (of_rows.index_falls j.points) (of_rows.places_fall (points_of book j)))

  pub sentences : Sentences book
  unfolding placed_at checked
  sentences = record {
    placed = λ names k h. (
      each_there blank_name (booked book) (Booked book) in_book names k h,
      each_back blank_name (booked book) (Booked book) in_book names k h,
    );
    missing = missing;
    row_10 = λ j. is_10 j (Ten j) (Eleven book j) (Twelve book j) (ten j) (eleven book j) (twelve (points_of book j) j) (by_10 j);
    row_11 = λ j. is_11 j (Ten j) (Eleven book j) (Twelve book j) (ten j) (eleven book j) (twelve (points_of book j) j) (by_10 j) (by_11 j);
    row_12 = λ j. is_12 j (Ten j) (Eleven book j) (Twelve book j) (ten j) (eleven book j) (twelve (points_of book j) j) (by_10 j) (by_11 j) (by_12 j);
    no_row = λ j. is_none j (Ten j) (Eleven book j) (Twelve book j) (ten j) (eleven book j) (twelve (points_of book j) j) (by_10 j) (by_11 j) (by_12 j);
  }
