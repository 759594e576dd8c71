-- Document 01, the place "book" of the table of numbers, in its own words beside the tests that compute it.
use Rattle.std.specs.Prelude.{ℕ, suc, ◌<◌, ◌≡◌, ◌↔◌, ◌⊎◌, List, [], true, length, get_or}
use Rattle.std.specs.Prelude.{Some}
use Rattle.wire.specs.Lists.{any, twice}
use Rattle.wire.specs.Judged.Judged.{refuse, accept}
use Rattle.fields.specs.Parse.{read}
use Rattle.segment_record.specs.declared.BookPoint.{BookPoint}
use Rattle.segment_record.specs.Record.{BookSegment, lookup_point}
use Rattle.book.specs.Book.{records, lookup, is_some}
use Rattle.book.specs.Table.{same_segment, nidtp_twice, book_of}

-- ---- of the elements of a list, by their indices

-- it holds of one of them
abbrev pub One : {A : Type 0} → A → (A → Type 0) → List A → Type 0
One blank P l = (i : ℕ) × (i < length l) × P (get_or l i blank)

-- it holds of two of them, one behind the other
abbrev pub Two : {A : Type 0} → A → (A → A → Type 0) → List A → Type 0
Two blank P l = (i : ℕ) × (k : ℕ) × (i < k) × (k < length l) × P (get_or l i blank) (get_or l k blank)

-- ---- a record and a point that stand nowhere

abbrev pub blank_record : BookSegment
blank_record = record { nidc = 0; nidsp = 0; length = 0; points = []; zones = [] }

abbrev pub blank_record_point : BookPoint
blank_record_point = record { nidtp = 0; place = 0; reach = 0 }

-- ---- the sentences

-- "a segment .. twice": two records have the same NID_C and NID_SP
abbrev pub SegmentTwice : List BookSegment → Type 0
SegmentTwice book = Two blank_record (λ a b. (a.nidc ≡ b.nidc) × (a.nidsp ≡ b.nidsp)) book

-- "in one record, an NID_TP twice"
abbrev pub PointTwice : BookSegment → Type 0
PointTwice s = Two blank_record_point (λ p q. p.nidtp ≡ q.nidtp) s.points

-- a segment is in the book, a point in a record
abbrev pub InBook : List BookSegment → ℕ → ℕ → Type 0
InBook book c sp = One blank_record (λ s. (s.nidc ≡ c) × (s.nidsp ≡ sp)) book

abbrev pub InRecord : BookSegment → ℕ → Type 0
InRecord s t = One blank_record_point (λ p. p.nidtp ≡ t) s.points

pub record Sentences : Type 0 where
  pub segment_twice : (book : List BookSegment) → (twice same_segment book ≡ true) ↔ SegmentTwice book
  pub point_twice : (book : List BookSegment) → (any nidtp_twice book ≡ true) ↔ One blank_record PointTwice book
  -- "8 a segment or, in one record, an NID_TP twice, or over 40", of a book that 7 does not refuse
  pub eight : (l : List ℕ) (book : List BookSegment) → read 7 (records (suc (length l)) l) ≡ accept book
      → (book_of l ≡ refuse 8) ↔ (SegmentTwice book ⊎ One blank_record PointTwice book ⊎ (40 < length book))
  -- the look-ups find what there is
  pub in_book : (book : List BookSegment) (c sp : ℕ) → (is_some (lookup c sp book) ≡ true) ↔ InBook book c sp
  pub in_record : (s : BookSegment) (t : ℕ) → (is_some (lookup_point t s.points) ≡ true) ↔ InRecord s t
  -- by its name, and none but one that is there
  pub found : (book : List BookSegment) (c sp : ℕ) (s : BookSegment) → lookup c sp book ≡ Some s
      → ((s.nidc ≡ c) × (s.nidsp ≡ sp)) × One blank_record (λ g. g ≡ s) book
  pub found_point : (ps : List BookPoint) (t : ℕ) (p : BookPoint) → lookup_point t ps ≡ Some p → (p.nidtp ≡ t) × One blank_record_point (λ q. q ≡ p) ps
