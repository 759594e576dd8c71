-- What an accepted book tells: its records are in their ranges, and it has at most 40.
use Prim.Native.Nat.{ℕ, zero, suc, ◌≤◌}
use mathlib.Core.Path.{◌≡◌, refl, subst}
use mathlib.Core.List.{List, [], ◌∷◌}
use mathlib.Core.Bool.{Bool, true, false, cond, ◌&&◌, ◌||◌}
use Rattle.std.specs.Prelude.{Some}
use lib.ListN.{length}
use lib.Dec.{eqb, ltb}
use native.Mathlib.Omega.{arith}
use borrow.Author.Tests.{ltb-false}
use Rattle.engine_value.specs.Engine.{max_segments}
use Rattle.wire.specs.Lists.{All, any, twice}
use Rattle.wire.specs.Judged.{Judged, then_judge, row}
use Rattle.wire.specs.Judged.Judged.{refuse, accept}
use Rattle.fields.specs.Parse.{Parse, and_then, read}
use Rattle.fields.specs.Parse.Parse.{bad, good}
use Rattle.fields.proofs.Sure.{Sure}
use Rattle.segment_record.specs.Record.{BookSegment, segment_record}
use Rattle.segment_record.proofs.Accepted.{SegmentFits, segment_fits, all_found}
use Rattle.book.specs.Book.{records, lookup}
use Rattle.book.specs.Table.{same_segment, nidtp_twice, book_of}

pub records_fit : (n : ℕ) (l : List ℕ) → Sure (All SegmentFits) (records n l)
unfolding records
records_fit zero l = tt
records_fit (suc n) l = go (eqb (length l) 0) (segment_record l) (segment_fits l) (λ r. records_fit n r)
  where
    go : (b : Bool) (q : Parse BookSegment) → Sure SegmentFits q → ((r : List ℕ) → Sure (All SegmentFits) (records n r))
        → Sure (All SegmentFits) (cond b (good [] l) (and_then q (λ g r. and_then (records n r) (λ rest r₂. good (g ∷ rest) r₂))))
    go true q h ih = tt
    go false bad h ih = tt
    go false (good g r) h ih = on (records n r) (ih r)
      where
        on : (q : Parse (List BookSegment)) → Sure (All SegmentFits) q → Sure (All SegmentFits) (and_then q (λ rest r₂. good (g ∷ rest) r₂))
        on bad k = tt
        on (good rest r₂) k = (h, k)

or-false-last : (a b c : Bool) → (a || (b || c)) ≡ false → c ≡ false
or-false-last false false c e = e
or-false-last false true c e = let z : ◌≡◌ {A = ℕ} 0 1 = cc in absurd (omega arith)
or-false-last true b c e = let z : ◌≡◌ {A = ℕ} 0 1 = cc in absurd (omega arith)

abbrev eight : List BookSegment → Bool
eight gs = twice same_segment gs || (any nidtp_twice gs || ltb max_segments (length gs))

pub book-fits : (s : List ℕ) (book : List BookSegment) → book_of s ≡ accept book → All SegmentFits book × (length book ≤ max_segments)
unfolding book_of
book-fits s book = go (records (suc (length s)) s) (records_fit (suc (length s)) s)
  where
    kept : (gs : List BookSegment) (b : Bool) → eight gs ≡ b → All SegmentFits gs → then_judge (row 8 b) (λ u. accept gs) ≡ accept book → All SegmentFits book × (length book ≤ max_segments)
    kept gs true t h q = let z : ◌≡◌ {A = ℕ} 0 1 = cc in absurd (omega arith)
    kept gs false t h q =
        let w : gs ≡ book = cc in
        subst (λ (x : List BookSegment). All SegmentFits x × (length x ≤ max_segments)) w (h, ltb-false max_segments (length gs) (or-false-last (twice same_segment gs) (any nidtp_twice gs) (ltb max_segments (length gs)) t))

    go : (p : Parse (List BookSegment)) → Sure (All SegmentFits) p → then_judge (read 7 p) (λ gs. then_judge (row 8 (eight gs)) (λ u. accept gs)) ≡ accept book → All SegmentFits book × (length book ≤ max_segments)
    go bad h q = let z : ◌≡◌ {A = ℕ} 0 1 = cc in absurd (omega arith)
    go (good gs r) h q = kept gs (eight gs) refl h q

-- the numbers of the place "book"
pub book-numbers : (s : List ℕ) (k : ℕ) → book_of s ≡ refuse k → (7 ≤ k) × (k ≤ 8)
unfolding book_of
book-numbers s k = go (records (suc (length s)) s)
  where
    range : (n : ℕ) → 7 ≤ n → n ≤ 8 → ◌≡◌ {A = Judged (List BookSegment)} (refuse n) (refuse k) → (7 ≤ k) × (k ≤ 8)
    range n a b e = let q : n ≡ k = cc in (omega (arith, a, q), omega (arith, b, q))

    kept : (gs : List BookSegment) (b : Bool) → then_judge (row 8 b) (λ u. accept gs) ≡ refuse k → (7 ≤ k) × (k ≤ 8)
    kept gs true e = range 8 (omega arith) (omega arith) e
    kept gs false e = let z : ◌≡◌ {A = ℕ} 0 1 = cc in absurd (omega arith)

    go : (p : Parse (List BookSegment)) → then_judge (read 7 p) (λ gs. then_judge (row 8 (eight gs)) (λ u. accept gs)) ≡ refuse k → (7 ≤ k) × (k ≤ 8)
    go bad e = range 7 (omega arith) (omega arith) e
    go (good gs r) e = kept gs (eight gs) e

-- what holds of all holds of the one that is looked up
pub all_lookup : (P : BookSegment → Type 0) (book : List BookSegment) → All P book → (c sp : ℕ) (g : BookSegment) → lookup c sp book ≡ Some g → P g
all_lookup P book h c sp g e = all_found P (λ s. eqb s.nidc c && eqb s.nidsp sp) book h g e
