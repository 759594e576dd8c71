-- What an accepted load keeps to, so that its values fit the engine and the packets.
use Prim.Native.Nat.{ℕ, zero, suc, ◌+◌, ◌≤◌, ◌<◌}
use mathlib.Core.Path.{◌≡◌, refl, sym, ap, subst, ◌∙◌}
use mathlib.Core.List.{List, [], ◌∷◌, map}
use mathlib.Core.Bool.{Bool, true, false, cond, not, ◌||◌}
use Rattle.std.specs.Prelude.{Option, Some, None}
use native.Mathlib.Omega.{arith}
use lib.ListN.{length, get_or}
use lib.Dec.{eqb}
use borrow.Author.Tests.{eqb-true}
use Rattle.wire.specs.Numbers.{flag}
use Rattle.wire.specs.Lists.{All, twice}
use Rattle.wire.specs.Judged.{Judged, then_judge, row}
use Rattle.wire.specs.Judged.Judged.{refuse, accept}
use Rattle.wire.proofs.ListLaws.{all-at, or-false}
use Rattle.engine_value.specs.Engine.{max4, blank_segment, blank_point}
use Rattle.engine_value.specs.declared.Segment.{Segment}
use Rattle.engine_value.specs.declared.Point.{Point}
use Rattle.segment_record.specs.declared.BookPoint.{BookPoint}
use Rattle.segment_record.specs.Record.{BookSegment}
use Rattle.book.specs.Book.{is_some}
use Rattle.book.specs.Table.{book_of}
use Rattle.journey.specs.Journey.{blank_name, JourneyValue, journey_value}
use Rattle.engine_value.proofs.Filled.{filled_length}
use Rattle.route.proofs.Filling.{filled_at}
use Rattle.journey.proofs.Accepted.{NameFits, JourneyPointFits, HeadFits, JourneyFits, journey-fits}
use Rattle.journey.specs.declared.Name.{Name}
use Rattle.journey.specs.declared.JourneyPoint.{JourneyPoint}
use Rattle.route.specs.Placing.{record_of, zones_on, segment_of, name_at, segment_at, segments_of, record_point, place_on, reach_on, point_of, point_at, points_of}
use Rattle.journey_rows.specs.Rows.{index_beyond, nidtps, ends}
use Rattle.route.specs.Table.{point_missing, checked, journey_of}
use Rattle.journey_rows.specs.Rows.{ending_of}
use Rattle.route.specs.Route.{route_of, LoadValue, load_value, load_of}
use Rattle.route.specs.Limits.{Sound}
use Rattle.route.proofs.Limits.{length_limit, place_limit, reach_limit, zones_limit, segments_length, segments_all, segment_start, starts_limit}
use Rattle.route.proofs.Placing.{all-within}
use Rattle.route.proofs.Rows.{ten, eleven, twelve, points-length}
use Rattle.route.proofs.Accepted.{book-sound}

pub record SegmentFits (g : Segment) : Type 0 where
  pub nidc : g.nidc ≤ 1023
  pub nidsp : g.nidsp ≤ max4
  pub length : g.length ≤ 16777214
  pub zone_count : g.zone_count ≤ 4
  pub unbooked : g.booked ≡ false → g.zone_count ≡ 0

-- a place is at most the sum of 40 lengths
pub record PointFits (p : Point) : Type 0 where
  pub nidtp : p.nidtp ≤ 4294967294
  pub nidc : p.nidc ≤ 1023
  pub alignment : p.alignment ≤ 2
  pub stopping : p.stopping ≤ 127
  pub place : p.place ≤ 671088560
  pub reach : p.reach ≤ 10000

pub record LoadFits (v : LoadValue) : Type 0 where
  pub head : HeadFits v.head
  pub valid : v.route.load.valid ≡ true
  pub operational : v.route.load.operational ≤ max4
  pub some_point : 1 ≤ v.route.load.point_count
  pub most_points : v.route.load.point_count ≤ 64
  pub some_segment : 1 ≤ v.route.load.segment_count
  pub most_segments : v.route.load.segment_count ≤ 40
  pub ending : v.route.load.ending < v.route.load.point_count
  pub point_array : length v.route.points ≡ 64
  pub segment_array : length v.route.segments ≡ 40
  pub points : (k : ℕ) → PointFits (get_or v.route.points k blank_point)
  pub segments : (k : ℕ) → SegmentFits (get_or v.route.segments k blank_segment)
  pub starts : (k : ℕ) → (get_or v.route.segments k blank_segment).start ≤ 654311346

blank_segment-fits : SegmentFits blank_segment
blank_segment-fits = record { nidc = omega arith; nidsp = omega arith; length = omega arith; zone_count = omega arith; unbooked = λ e. refl }

-- a segment that is not in the book has no zones
no_zones : (r : Option BookSegment) → is_some r ≡ false → length (zones_on r) ≡ 0
no_zones None e = refl
no_zones (Some g) e = let z : ◌≡◌ {A = ℕ} 0 1 = cc in absurd (omega arith)

blank_point-fits : PointFits blank_point
blank_point-fits = record { nidtp = omega arith; nidc = omega arith; alignment = omega arith; stopping = omega arith; place = omega arith; reach = omega arith }

module _ (book : List BookSegment) (sound : Sound book) where
  segment_fits : (names : List Name) (k : ℕ) → All NameFits names → SegmentFits (segment_at book names k)
  unfolding segment_of
  segment_fits names k h =
      let n = all-at NameFits blank_name (record { nidc = omega arith; nidsp = omega arith }) names k h in
      let r = record_of book (name_at names k) in
      let l = sound (name_at names k).nidc (name_at names k).nidsp in
      record { nidc = n.nidc; nidsp = n.nidsp; length = length_limit r l; zone_count = zones_limit r l; unbooked = no_zones r }

  segments_fit : (names : List Name) → All NameFits names → (k : ℕ) → SegmentFits (get_or (segments_of book names) k blank_segment)
  segments_fit names h k = segments_all book names SegmentFits blank_segment-fits (λ i l. segment_fits names i h) k

point_fits : (p : JourneyPoint) (g : Segment) (o : Option BookPoint) → JourneyPointFits p → SegmentFits g → g.start ≤ 654311346 → place_on o ≤ 16777214 → reach_on o ≤ 10000 → PointFits (point_of p g o)
unfolding point_of
point_fits p g o hp hg a b c =
    record { nidtp = hp.nidtp; nidc = hg.nidc; alignment = hp.alignment; stopping = hp.stopping; place = place g.placed; reach = reach g.placed }
  where
    place : (t : Bool) → cond t (g.start + place_on o) 0 ≤ 671088560
    place true = omega (arith, a, b)
    place false = omega arith

    reach : (t : Bool) → cond t (reach_on o) 0 ≤ 10000
    reach true = c
    reach false = omega arith

module _ (book : List BookSegment) (sound : Sound book) (names : List Name) (few : length names ≤ 40) (h : All NameFits names) where
  points_fit : (ps : List JourneyPoint) (k : ℕ) → All JourneyPointFits ps → All (λ (p : JourneyPoint). p.index < length names) ps → PointFits (get_or (map (point_at book names) ps) k blank_point)
  points_fit [] k f w = blank_point-fits
  points_fit (p ∷ ps) zero f w =
      let n = name_at names p.index in
      let l = sound n.nidc n.nidsp in
      point_fits p (segment_at book names p.index) (record_point book names p) f.0 (segment_fits book sound names p.index h) (segment_start book sound names p.index w.0 few) (place_limit (record_of book n) p.nidtp l) (reach_limit (record_of book n) p.nidtp l)
  points_fit (p ∷ ps) (suc k) f w = points_fit ps k f.1 w.1

-- where there is an End of Journey, its index is that of a point
ending-below : (ps : List JourneyPoint) → 1 ≤ ends ps → ending_of ps < length ps
ending-below [] h = absurd (omega arith)
ending-below (p ∷ ps) h = go p.end h (λ q. ending-below ps q)
  where
    go : (b : Bool) → 1 ≤ flag b + ends ps → (1 ≤ ends ps → ending_of ps < length ps) → cond b 0 (ending_of ps + 1) < suc (length ps)
    go true q ih = omega arith
    go false q ih = omega (arith, ih (omega arith))

-- 11 leaves no index beyond, and just one End of Journey
eleven-tells : (book : List BookSegment) (j : JourneyValue) → eleven book j ≡ false → (index_beyond j ≡ false) × (ends j.points ≡ 1)
eleven-tells book j e =
    let a = or-false (index_beyond j) (double || (many || point_missing book j)) e in
    let b = or-false double (many || point_missing book j) a.1 in
    (a.0, go (eqb (ends j.points) 1) refl (or-false many (point_missing book j) b.1).0)
  where
    double : Bool
    double = twice eqb (nidtps j.points)

    many : Bool
    many = not (eqb (ends j.points) 1)

    go : (t : Bool) → eqb (ends j.points) 1 ≡ t → not t ≡ false → ends j.points ≡ 1
    go true q r = eqb-true (ends j.points) 1 q
    go false q r = let z : ◌≡◌ {A = ℕ} 0 1 = cc in absurd (omega arith)

-- what the rows leave
checked-tells : (book : List BookSegment) (j v : JourneyValue) → checked book j ≡ accept v → (j ≡ v) × (index_beyond j ≡ false) × (ends j.points ≡ 1)
unfolding checked
checked-tells book j v = go (ten j) (eleven book j) refl (twelve (points_of book j) j)
  where
    go : (a b : Bool) → eleven book j ≡ b → (c : Bool)
        → then_judge (row 10 a) (λ u. then_judge (row 11 b) (λ u. then_judge (row 12 c) (λ u. accept j))) ≡ accept v → (j ≡ v) × (index_beyond j ≡ false) × (ends j.points ≡ 1)
    go true b q c e = let z : ◌≡◌ {A = ℕ} 0 1 = cc in absurd (omega arith)
    go false true q c e = let z : ◌≡◌ {A = ℕ} 0 1 = cc in absurd (omega arith)
    go false false q true e = let z : ◌≡◌ {A = ℕ} 0 1 = cc in absurd (omega arith)
    go false false q false e = let t = eleven-tells book j q in (cc, t.0, t.1)

value-fits : (book : List BookSegment) (j : JourneyValue) → Sound book → JourneyFits j → index_beyond j ≡ false → ends j.points ≡ 1 → LoadFits (load_value book j)
unfolding route_of
value-fits book j sound h within one = record {
  head = h.head;
  valid = refl;
  operational = h.head.operational;
  some_point = h.some_point;
  most_points = h.most_points;
  some_segment = h.some_name;
  most_segments = h.most_names;
  ending = ending-below j.points (omega (arith, one));
  point_array = filled_length blank_point 64 (points_of book j);
  segment_array = filled_length blank_segment 40 (segments_of book j.names);
  points = λ k. rw (filled_at blank_point 64 (points_of book j) k (points_few)) (points_fit book sound j.names h.most_names h.names j.points k h.points (all-within j within));
  segments = λ k. rw (filled_at blank_segment 40 (segments_of book j.names) k segments_few) (segments_fit book sound j.names h.names k);
  starts = λ k. rw (filled_at blank_segment 40 (segments_of book j.names) k segments_few) (starts_limit book sound j.names k h.most_names);
}
  where
    points_few : length (points_of book j) ≤ 64
    points_few = omega (arith, points-length book j, h.most_points)

    segments_few : length (segments_of book j.names) ≤ 40
    segments_few = omega (arith, segments_length book j.names, h.most_names)

-- what it takes is of a book and of the journey's values
pub load_values : (journey bytes : List ℕ) (l : LoadValue) → load_of journey bytes ≡ accept l
    → (book : List BookSegment) × (v : JourneyValue) × (journey_value journey ≡ accept v) × (length v.points ≤ 64) × (l ≡ load_value book v)
unfolding load_of journey_of
load_values journey bytes l = go (book_of bytes) (journey_value journey) refl
  where
    Values : Type 0
    Values = (book : List BookSegment) × (v : JourneyValue) × (journey_value journey ≡ accept v) × (length v.points ≤ 64) × (l ≡ load_value book v)

    from : (book : List BookSegment) (j : JourneyValue) → journey_value journey ≡ accept j → (q : Judged JourneyValue) → checked book j ≡ q
        → then_judge q (λ j. accept (load_value book j)) ≡ accept l → Values
    from book j p (refuse n) c e = cc
    from book j p (accept w) c e =
        let same : load_value book w ≡ l = cc in
        (book, j, p, (journey-fits journey j p).most_points, sym same ∙ ap (load_value book) (sym (checked-tells book j w c).0))

    go : (b : Judged (List BookSegment)) (q : Judged JourneyValue) → journey_value journey ≡ q
        → then_judge b (λ book. then_judge (then_judge q (checked book)) (λ j. accept (load_value book j))) ≡ accept l → Values
    go (refuse n) q p e = cc
    go (accept book) (refuse n) p e = cc
    go (accept book) (accept j) p e = from book j p (checked book j) refl e

pub load_fits : (journey bytes : List ℕ) (v : LoadValue) → load_of journey bytes ≡ accept v → LoadFits v
unfolding load_of journey_of
load_fits journey bytes v = go (book_of bytes) (λ book e. book-sound bytes book e) (journey_value journey) (λ j e. journey-fits journey j e)
  where
    fits : (book : List BookSegment) (j : JourneyValue) → Sound book → JourneyFits j → (q : Judged JourneyValue) → checked book j ≡ q
        → then_judge q (λ j. accept (load_value book j)) ≡ accept v → LoadFits v
    fits book j sound h (refuse n) p e = let z : ◌≡◌ {A = ℕ} 0 1 = cc in absurd (omega arith)
    fits book j sound h (accept w) p e =
        let c = checked-tells book j w p in
        let same : load_value book w ≡ v = cc in
        subst LoadFits same (subst (λ (x : JourneyValue). LoadFits (load_value book x)) c.0 (value-fits book j sound h c.1 c.2))

    go : (b : Judged (List BookSegment)) → ((book : List BookSegment) → b ≡ accept book → Sound book) → (q : Judged JourneyValue) → ((j : JourneyValue) → q ≡ accept j → JourneyFits j)
        → then_judge b (λ book. then_judge (then_judge q (checked book)) (λ j. accept (load_value book j))) ≡ accept v → LoadFits v
    go (refuse n) sound q h e = let z : ◌≡◌ {A = ℕ} 0 1 = cc in absurd (omega arith)
    go (accept book) sound (refuse n) h e = let z : ◌≡◌ {A = ℕ} 0 1 = cc in absurd (omega arith)
    go (accept book) sound (accept j) h e = fits book j (sound book refl) (h j refl) (checked book j) refl e
