-- The rows' tests against the definitions, a case each.
use Prim.Native.Nat.{ℕ, ◌≤◌}
use mathlib.Core.Path.{◌≡◌, refl, sym, ap, ◌∙◌}
use mathlib.Core.List.{List}
use mathlib.Core.Bool.{Bool, true, false, cond, not, ◌||◌}
use native.Mathlib.Omega.{arith}
use lib.ListN.{length, take, length-map}
use lib.Dec.{eqb}
use Rattle.wire.specs.Lists.{twice, falls, strictly_rises}
use Rattle.fields.specs.Parse.{Parse, whole}
use Rattle.fields.specs.Parse.Parse.{bad, good}
use Rattle.wire.specs.Judged.{Judged, then_judge, row}
use Rattle.wire.specs.Judged.Judged.{refuse, accept}
use Rattle.engine_value.specs.Engine.{blank_point, filled}
use Rattle.engine_value.specs.declared.Point.{Point}
use Rattle.segment_record.specs.Record.{BookSegment}
use Rattle.book.specs.Table.{book_of}
use Rattle.book.proofs.Accepted.{book-numbers}
use Rattle.journey.specs.Journey.{JourneyValue, journey_record, journey_value}
use Rattle.engine_value.proofs.Filled.{filled_take}
use Rattle.route.specs.Placing.{point_at, points_of}
use Rattle.journey_rows.specs.Rows.{same_name, indices, places}
use Rattle.route.specs.Table.{checked, journey_of}
use Rattle.route.specs.Route.{LoadValue, load_value, load_of}
use Rattle.route.specs.View.{load_for}
pub use Rattle.route.specs.View.{eleven}

-- ---- the rows

abbrev pub ten : JourneyValue → Bool
ten v = twice same_name v.names

abbrev pub twelve : List Point → JourneyValue → Bool
twelve points v = falls (indices v.points) || not (strictly_rises (places points))

pub points-length : (book : List BookSegment) (v : JourneyValue) → length (points_of book v) ≡ length v.points
points-length book v = length-map v.points (point_at book v.names)

-- the points stand at the front of their array
pub points_front : (book : List BookSegment) (v : JourneyValue) (points : List Point) → points ≡ filled 64 blank_point (points_of book v) → length v.points ≤ 64
    → take (length v.points) points ≡ points_of book v
points_front book v points e most =
    let n : length (points_of book v) ≡ length v.points = points-length book v in
    ap (λ (x : List Point). take (length v.points) x) e ∙ ap (λ (k : ℕ). take k (filled 64 blank_point (points_of book v))) (sym n)
    ∙ filled_take blank_point 64 (points_of book v) (omega (arith, n))

module _ (book : List BookSegment) (v : JourneyValue) where
  pub row_10 : ten v ≡ true → load_for book v ≡ refuse 10
  unfolding checked
  row_10 a = rw a

  pub row_11 : ten v ≡ false → eleven book v ≡ true → load_for book v ≡ refuse 11
  unfolding checked
  row_11 a b = rw (a, b)

  module _ (a : ten v ≡ false) (b : eleven book v ≡ false) where
    pub row_12 : twelve (points_of book v) v ≡ true → load_for book v ≡ refuse 12
    unfolding checked
    row_12 c = rw (a, b, c)

    pub no_row : twelve (points_of book v) v ≡ false → load_for book v ≡ accept (load_value book v)
    unfolding checked
    no_row c = rw (a, b, c)

-- ---- book and journey

module _ (journey bytes : List ℕ) where
  pub no_book : (n : ℕ) → book_of bytes ≡ refuse n → load_of journey bytes ≡ refuse n
  unfolding load_of
  no_book n e = rw e

  pub no_journey : (book : List BookSegment) (n : ℕ) → book_of bytes ≡ accept book → journey_value journey ≡ refuse n → load_of journey bytes ≡ refuse n
  unfolding load_of journey_of
  no_journey book n e f = rw (e, f)

  pub both : (book : List BookSegment) (v : JourneyValue) → book_of bytes ≡ accept book → journey_value journey ≡ accept v → load_of journey bytes ≡ load_for book v
  unfolding load_of journey_of
  both book v e f = rw (e, f)

  -- the numbers of the places "book" and "journey"
  pub load_numbers : (n : ℕ) → load_of journey bytes ≡ refuse n → (7 ≤ n) × (n ≤ 12)
  unfolding load_of journey_of checked
  load_numbers n = go (book_of bytes) (book-numbers bytes) (journey_record journey)
    where
      range : (k : ℕ) → 7 ≤ k → k ≤ 12 → ◌≡◌ {A = Judged LoadValue} (refuse k) (refuse n) → (7 ≤ n) × (n ≤ 12)
      range k a b e = let q : k ≡ n = cc in (omega (arith, a, q), omega (arith, b, q))

      rows : (book : List BookSegment) (j : JourneyValue) (a b c : Bool)
          → then_judge (then_judge (row 10 a) (λ u. then_judge (row 11 b) (λ u. then_judge (row 12 c) (λ u. accept j)))) (λ (x : JourneyValue). accept (load_value book x)) ≡ refuse n → (7 ≤ n) × (n ≤ 12)
      rows book j true b c e = range 10 (omega arith) (omega arith) e
      rows book j false true c e = range 11 (omega arith) (omega arith) e
      rows book j false false true e = range 12 (omega arith) (omega arith) e
      rows book j false false false e = let z : ◌≡◌ {A = ℕ} 0 1 = cc in absurd (omega arith)

      over : (book : List BookSegment) (j : JourneyValue) (left : Bool)
          → then_judge (then_judge (cond left (accept j) (refuse 9)) (checked book)) (λ (x : JourneyValue). accept (load_value book x)) ≡ refuse n → (7 ≤ n) × (n ≤ 12)
      over book j true e = rows book j (ten j) (eleven book j) (twelve (points_of book j) j) e
      over book j false e = range 9 (omega arith) (omega arith) e

      read_journey : (book : List BookSegment) (q : Parse JourneyValue)
          → then_judge (then_judge (whole 9 q) (checked book)) (λ (x : JourneyValue). accept (load_value book x)) ≡ refuse n → (7 ≤ n) × (n ≤ 12)
      read_journey book bad e = range 9 (omega arith) (omega arith) e
      read_journey book (good j r) e = over book j (eqb (length r) 0) e

      go : (b : Judged (List BookSegment)) → ((k : ℕ) → b ≡ refuse k → (7 ≤ k) × (k ≤ 8)) → (q : Parse JourneyValue)
          → then_judge b (λ (book : List BookSegment). then_judge (then_judge (whole 9 q) (checked book)) (λ (x : JourneyValue). accept (load_value book x))) ≡ refuse n → (7 ≤ n) × (n ≤ 12)
      go (refuse k) h q e = let w = h k refl in range k w.0 (omega (arith, w.1)) e
      go (accept book) h q e = read_journey book q e
