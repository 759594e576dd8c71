-- Document 01, "placed" and the rows 10 to 12 against a book, in its own words beside what computes it.
use Rattle.std.specs.Prelude.{ℕ, ◌≤◌, ◌<◌, ◌≡◌, ◌↔◌, ◌⊎◌, List, true, length}
use Rattle.std.specs.Prelude.{Some}
use Rattle.wire.specs.Judged.Judged.{refuse, accept}
use Rattle.segment_record.specs.Record.{BookSegment}
use Rattle.book.specs.Sentences.{One, InBook, InRecord}
use Rattle.journey.specs.Journey.{blank_journey_point, JourneyValue}
use Rattle.journey.specs.declared.Name.{Name}
use Rattle.journey_rows.specs.Sentences.{SegmentTwice, IndexBeyond, PointTwice, OneEnd, IndexFalls, PlacesFall}
use Rattle.route.specs.Placing.{placed_at, name_at, record_at, points_of}
use Rattle.route.specs.Table.{point_missing, checked}

-- a segment of the journey is in the book
abbrev pub Booked : List BookSegment → Name → Type 0
Booked book n = InBook book n.nidc n.nidsp

-- "11 .. a booked segment without the point": the book's record of a point's segment has no point of its name
abbrev pub PointMissing : List BookSegment → JourneyValue → Type 0
PointMissing book j = One blank_journey_point (λ p. (g : BookSegment) × (record_at book j.names p ≡ Some g) × (¬ InRecord g p.nidtp)) j.points

-- "10 segment twice"
abbrev pub Ten : JourneyValue → Type 0
Ten j = SegmentTwice j.names

-- "11 index beyond, NID_TP twice, not just one End of Journey, or a booked segment without the point"
abbrev pub Eleven : List BookSegment → JourneyValue → Type 0
Eleven book j = IndexBeyond j ⊎ PointTwice j.points ⊎ (¬ OneEnd j.points) ⊎ PointMissing book j

-- "12 index falls, or placed points do not strictly rise"
abbrev pub Twelve : List BookSegment → JourneyValue → Type 0
Twelve book j = IndexFalls j.points ⊎ PlacesFall (points_of book j)

module _ (book : List BookSegment) where
  pub record Sentences : Type 0 where
    -- "A segment is placed if it and all before it in the journey are in the book"
    pub placed : (names : List Name) (k : ℕ) → k < length names → (placed_at book names k ≡ true) ↔ ((i : ℕ) → i ≤ k → Booked book (name_at names i))
    pub missing : (j : JourneyValue) → (point_missing book j ≡ true) ↔ PointMissing book j
    -- the rows in their order
    pub row_10 : (j : JourneyValue) → (checked book j ≡ refuse 10) ↔ Ten j
    pub row_11 : (j : JourneyValue) → (checked book j ≡ refuse 11) ↔ ((¬ Ten j) × Eleven book j)
    pub row_12 : (j : JourneyValue) → (checked book j ≡ refuse 12) ↔ ((¬ Ten j) × (¬ Eleven book j) × Twelve book j)
    pub no_row : (j : JourneyValue) → (checked book j ≡ accept j) ↔ ((¬ Ten j) × (¬ Eleven book j) × (¬ Twelve book j))
