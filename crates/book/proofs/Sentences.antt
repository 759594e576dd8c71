-- The sentences of the row 8.
use Prim.Native.Nat.{ℕ, suc, ◌<◌}
use mathlib.Core.Path.{◌≡◌, refl, subst}
use mathlib.Core.Logic.Iff
use mathlib.Core.Logic.{◌↔◌, ◌⊎◌}
use mathlib.Core.List.{List, [], ◌∷◌}
use mathlib.Core.Bool.{Bool, true, false, cond, ◌&&◌, ◌||◌, false≢true}
use Rattle.std.specs.Prelude.{Some, find}
use native.Mathlib.Omega.{arith}
use lib.ListN.{length}
use lib.Dec.{eqb, ltb}
use Rattle.wire.specs.Lists.{any, twice}
use Rattle.wire.specs.Judged.{row, then_judge}
use Rattle.wire.specs.Judged.Judged.{refuse, accept}
use Rattle.fields.specs.Parse.{read}
use Rattle.segment_record.specs.declared.BookPoint.{BookPoint}
use Rattle.segment_record.specs.Record.{BookSegment}
use Rattle.book.specs.Book.{records, is_some}
use Rattle.book.specs.Table.{same_segment, nidtp_twice, book_of}
use Rattle.book.specs.Sentences.{One, blank_record, blank_record_point, SegmentTwice, PointTwice, Sentences}
use Rattle.book.proofs.Pairs.{or_either, either, and_both, equal, equal_back, below, through, some_at, twice-at, number-twice}

segments : (book : List BookSegment) → (twice same_segment book ≡ true) ↔ SegmentTwice book
segments book =
    twice-at blank_record same_segment (λ a b. (a.nidc ≡ b.nidc) × (a.nidsp ≡ b.nidsp))
    (λ a b. and_both (eqb b.nidc a.nidc) (eqb b.nidsp a.nidsp) (a.nidc ≡ b.nidc) (a.nidsp ≡ b.nidsp) (equal_back a.nidc b.nidc) (equal_back a.nidsp b.nidsp))
    book

points : (book : List BookSegment) → (any nidtp_twice book ≡ true) ↔ One blank_record PointTwice book
points book = some_at blank_record nidtp_twice PointTwice (λ s. number-twice blank_record_point (λ (p : BookPoint). p.nidtp) s.points) book

-- ---- look-ups

module _ {A : Type 0} (blank : A) (f : A → Bool) (P : A → Type 0) (agree : (a : A) → (f a ≡ true) ↔ P a) where
  there : (l : List A) → is_some (find f l) ≡ any f l
  there [] = refl
  there (x ∷ xs) = go (f x) (there xs)
    where
      go : (b : Bool) → is_some (find f xs) ≡ any f xs → is_some (cond b (Some x) (find f xs)) ≡ (b || any f xs)
      go true ih = refl
      go false ih = ih

  in_list : (l : List A) → (is_some (find f l) ≡ true) ↔ One blank P l
  in_list l = through (is_some (find f l)) (any f l) (One blank P l) (there l) (some_at blank f P agree l)

  one_found : (l : List A) (a : A) → find f l ≡ Some a → P a × One blank (λ b. b ≡ a) l
  one_found [] a e = let z : ◌≡◌ {A = ℕ} 0 1 = cc in absurd (omega arith)
  one_found (x ∷ xs) a e = go (f x) refl e (λ q. one_found xs a q)
    where
      next : P a × One blank (λ b. b ≡ a) xs → P a × One blank (λ b. b ≡ a) (x ∷ xs)
      next (p, (i, h, q)) = (p, (suc i, omega arith, q))

      go : (b : Bool) → f x ≡ b → cond b (Some x) (find f xs) ≡ Some a → (find f xs ≡ Some a → P a × One blank (λ b. b ≡ a) xs)
          → P a × One blank (λ b. b ≡ a) (x ∷ xs)
      go true t e ih = let q : x ≡ a = cc in (subst P q ((agree x).0 t), (0, omega arith, q))
      go false t e ih = next (ih e)

module _ (c sp : ℕ) where
  abbrev named : BookSegment → Bool
  named s = eqb s.nidc c && eqb s.nidsp sp

  abbrev Named : BookSegment → Type 0
  Named s = (s.nidc ≡ c) × (s.nidsp ≡ sp)

  named_is : (s : BookSegment) → (named s ≡ true) ↔ Named s
  named_is s = and_both (eqb s.nidc c) (eqb s.nidsp sp) (s.nidc ≡ c) (s.nidsp ≡ sp) (equal s.nidc c) (equal s.nidsp sp)

-- ---- the row

pub row-refuses : (n : ℕ) (b : Bool) {A : Type 0} (a : A) → (then_judge (row n b) (λ u. accept a) ≡ refuse n) ↔ (b ≡ true)
row-refuses n true a = (λ e. refl, λ e. refl)
row-refuses n false a = (λ e. cc, λ e. absurd (false≢true e))

eight : (l : List ℕ) (book : List BookSegment) → read 7 (records (suc (length l)) l) ≡ accept book
    → (book_of l ≡ refuse 8) ↔ (SegmentTwice book ⊎ One blank_record PointTwice book ⊎ (40 < length book))
unfolding book_of
eight l book e =
    let a = twice same_segment book in
    let b = any nidtp_twice book in
    let d = ltb 40 (length book) in
    Iff.trans (rw e (row-refuses 8 (a || (b || d)) book)) (Iff.trans (or_either a (b || d))
    (either (segments book) (Iff.trans (or_either b d) (either (points book) (below 40 (length book))))))

pub sentences : Sentences
sentences = record {
  segment_twice = segments;
  point_twice = points;
  eight = eight;
  in_book = λ book c sp. in_list blank_record (named c sp) (Named c sp) (named_is c sp) book;
  in_record = λ s t. in_list blank_record_point (λ p. eqb p.nidtp t) (λ p. p.nidtp ≡ t) (λ p. equal p.nidtp t) s.points;
  found = λ book c sp s e. one_found blank_record (named c sp) (Named c sp) (named_is c sp) book s e;
  found_point = λ ps t p e. one_found blank_record_point (λ p. eqb p.nidtp t) (λ p. p.nidtp ≡ t) (λ p. equal p.nidtp t) ps p e;
}
