-- Laws of placing, a turn of a loop each.
use Rattle.std.specs.Prelude.{if◌then◌else◌}
use Prim.Native.Nat.{ℕ, zero, suc, ◌+◌, ◌*◌, ◌^◌, ◌≤◌, ◌<◌}
use mathlib.Core.Path.{◌≡◌, refl, sym, ap, ◌∙◌}
use mathlib.Core.List.{List, [], ◌∷◌, ◌++◌, map}
use mathlib.Core.Bool.{Bool, true, false, cond, not, ◌&&◌, ◌||◌}
use Rattle.std.specs.Prelude.{Option, Some, None}
use native.Mathlib.Omega.{arith}
use native.Mathlib.Numerals.{add-one}
use lib.ListN.{length, get_or, take, drop, set, replicate, length-map}
use lib.Seq.{take-suc, drop-cons}
use lib.Dec.{eqb, leb}
use borrow.Author.Tests.{leb-false, eq-eqb}
use Rattle.std.specs.Bool.{then_some}
use Rattle.std.specs.Option.{is_some as some, unwrap_or, option_and}
use Rattle.std.proofs.lemmas.List.{get_or-map}
use Rattle.wire.specs.Judged.{Judged, then_judge, row}
use Rattle.wire.specs.Judged.Judged.{refuse, accept}
use Rattle.wire.specs.Lists.{All, any, every, tabulate, twice, falls, strictly_rises}
use Rattle.wire.proofs.ListLaws.{any_false, map-append, every_append, sum-append, get_or-there, tabulate-at, tabulate-length, tabulate_more}
use Rattle.engine_value.specs.Engine.{blank_segment, blank_point, filled}
use Rattle.engine_value.specs.declared.Segment.{Segment}
use Rattle.engine_value.specs.declared.Point.{Point}
use Rattle.engine_value.specs.declared.Load.{Load}
use Rattle.segment_record.specs.Record.{BookSegment, lookup_point}
use Rattle.segment_record.specs.declared.Entry.{Entry}
use Rattle.book.specs.Book.{is_some}
use Rattle.journey.specs.Journey.{blank_name, blank_journey_point, JourneyValue}
use Rattle.journey.specs.declared.Name.{Name}
use Rattle.journey.specs.declared.JourneyPoint.{JourneyPoint}
use Rattle.journey_rows.specs.Rows.{index_beyond, nidtps, ends, indices, places}
use Rattle.route.specs.Limits.{OnSome, Limits, Sound, record_view}
use Rattle.route.specs.Placing.{record_of, length_on, points_on, booked, placed_at, start_at, segment_of, name_at, segment_at, segments_of, place_on, record_at, record_point, point_at, points_of}
use Rattle.route.specs.Table.{point_missing}
use Rattle.route.specs.Route.{load_group, route_of}
use Rattle.route.specs.View.{load_for, PlacingRead, point_on, eleven, points_for}
use Rattle.route.specs.declared.placed.Placed.{Placed}
use Rattle.route.proofs.Filling.{Filling, filling_none, filling_more, filling_end}
use Rattle.route.proofs.Limits.{length_limit, place_limit}
use Rattle.route.proofs.Rows.{ten, row_11, row_12, no_row, points_front}

abbrev pub segment_in : Placed → Segment
segment_in p = p.segment

abbrev pub record_in : Placed → Option BookSegment
record_in p = record_view p.entry

-- where a segment starts by its entry, from what is known of those before it
known : (e : Option Entry) (b : Bool) (s : ℕ) → option_and e (then_some b s) ≡ then_some (b && is_some (record_view e)) s
known None true s = refl
known None false s = refl
known (Some e) true s = refl
known (Some e) false s = refl

abbrev drawn : Name → Option Entry → Option ℕ → Segment
drawn n e start = segment_of n (some (option_and e start)) (unwrap_or (option_and e start) 0) (record_view e)

drawn_at : (n : Name) (b : Bool) (s : ℕ) (r : Option BookSegment) → segment_of n (some (then_some b s)) (unwrap_or (then_some b s) 0) r ≡ segment_of n b s r
unfolding segment_of
drawn_at n true s r = refl
drawn_at n false s r = refl

-- a segment by its record, where the book is sound
module _ (book : List BookSegment) (sound : Sound book) (n : Name) (e : Option Entry) (q : record_view e ≡ record_of book n) where
  pub sound_at : OnSome Limits (record_view e)
  sound_at = rw q (sound n.nidc n.nidsp)

  module _ (start : Option ℕ) (g : Segment) (d : g ≡ drawn n e start) where
    pub length_within : g.length ≤ 16777214
    unfolding segment_of
    length_within = rw d (length_limit (record_view e) sound_at)

    module _ (i : ℕ) (sum : unwrap_or start 0 ≤ i * 16777214) where
      pub start_within : g.start ≤ i * 16777214
      unfolding segment_of
      start_within = rw d (go e start sum)
        where
          go : (e : Option Entry) (o : Option ℕ) → unwrap_or o 0 ≤ i * 16777214 → cond (some (option_and e o)) (unwrap_or (option_and e o) 0) 0 ≤ i * 16777214
          go None o h = omega arith
          go (Some e) None h = omega arith
          go (Some e) (Some s) h = h

      pub fits : i < 40 → (t : ℕ) → g.start + place_on (lookup_point t (points_on (record_view e))) < 2 ^ 32
      fits h t = omega (arith, start_within, h, place_limit (record_view e) t sound_at)

-- the first i segments are placed; `start` is the sum of their lengths, where each of them is in the book
pub record Placing (book : List BookSegment) (names : List Name) (i : ℕ) (m : List Placed) (start : Option ℕ) : Type 0 where
  pub segments : map segment_in m ≡ tabulate i (segment_at book names)
  pub records : map record_in m ≡ tabulate i (λ k. record_of book (name_at names k))
  pub start_is : start ≡ then_some (every (booked book) (take i names)) (start_at book names i)
  pub sum : unwrap_or start 0 ≤ i * 16777214

module _ (book : List BookSegment) (names : List Name) where
  pub placing_none : Placing book names 0 [] (Some 0)
  unfolding start_at
  placing_none = record { segments = refl; records = refl; start_is = refl; sum = omega arith }

  -- whether the next segment is placed, and the start of the one behind it
  placed_step : (i : ℕ) → i < length names → (every (booked book) (take i names) && booked book (name_at names i)) ≡ every (booked book) (take (suc i) names)
  placed_step i h = rw (take-suc names i blank_name h, every_append (booked book) (take i names) (name_at names i))

  start_step : (i : ℕ) → i < length names → start_at book names i + length_on (record_of book (name_at names i)) ≡ start_at book names (suc i)
  unfolding start_at
  start_step i h = rw (take-suc names i blank_name h, map-append (λ (n : Name). length_on (record_of book n)) (take i names) (name_at names i ∷ []), sum-append (map (λ (n : Name). length_on (record_of book n)) (take i names)) (length_on (record_of book (name_at names i))))

  pub placing_more : (i : ℕ) (m : List Placed) (start : Option ℕ) (n : Name) (p : Placed) → Sound book → i < length names → n ≡ name_at names i
      → record_in p ≡ record_of book n → p.segment ≡ drawn n p.entry start
      → Placing book names i m start → Placing book names (i + 1) (m ++ (p ∷ [])) (then_some p.segment.placed (p.segment.start + p.segment.length))
  unfolding placed_at segment_of
  placing_more i m start n p sound h at q e f =
      let all = every (booked book) (take i names) in
      let on = every (booked book) (take (suc i) names) in
      let s = start_at book names i in
      let rec : record_in p ≡ record_of book (name_at names i) = q ∙ ap (record_of book) at in
      let next : (all && is_some (record_in p)) ≡ on = ap (λ (x : Option BookSegment). all && is_some x) rec ∙ placed_step i h in
      let when : option_and p.entry start ≡ then_some on s = ap (option_and p.entry) f.start_is ∙ known p.entry all s ∙ ap (λ (b : Bool). then_some b s) next in
      let seg : p.segment ≡ segment_at book names i =
      e ∙ ap (λ (o : Option ℕ). segment_of n (some o) (unwrap_or o 0) (record_in p)) when ∙ drawn_at n on s (record_in p) ∙ rw (at, rec) in
      let len : p.segment.length ≤ 16777214 = length_within book sound n p.entry q start p.segment e in
      let low : p.segment.start ≤ i * 16777214 = start_within book sound n p.entry q start p.segment e i f.sum in
      record {
        segments = rw (map-append segment_in m (p ∷ []), f.segments, seg, add-one i) (sym (tabulate_more i (segment_at book names)));
        records = rw (map-append record_in m (p ∷ []), f.records, rec, add-one i) (sym (tabulate_more i (λ k. record_of book (name_at names k))));
        start_is = rw (add-one i) (rw seg (behind i h));
        sum = most p.segment.placed (p.segment.start + p.segment.length) ((i + 1) * 16777214) (omega (arith, len, low));
      }
    where
      behind : (i : ℕ) → i < length names → then_some (segment_at book names i).placed ((segment_at book names i).start + (segment_at book names i).length)
          ≡ then_some (every (booked book) (take (suc i) names)) (start_at book names (suc i))
      behind i h = go (every (booked book) (take (suc i) names))
        where
          go : (b : Bool) → then_some b (cond b (start_at book names i) 0 + length_on (record_of book (name_at names i))) ≡ then_some b (start_at book names (suc i))
          go true = ap Some (start_step i h)
          go false = refl

      most : (b : Bool) (k n : ℕ) → k ≤ n → unwrap_or (then_some b k) 0 ≤ n
      most true k n h = h
      most false k n h = omega arith

  pub placing_end : (i : ℕ) (m : List Placed) (start : Option ℕ) → i ≡ length names → Placing book names i m start → PlacingRead book names m
  placing_end i m start e f = record {
    segments = f.segments ∙ ap (λ (k : ℕ). tabulate k (segment_at book names)) e;
    placed = λ k d h. sym (get_or-map segment_in m k d blank_segment (long k h)) ∙ ap (λ (l : List Segment). get_or l k blank_segment) f.segments ∙ tabulate-at i (segment_at book names) k blank_segment (omega (arith, e, h));
    records = λ k d h. sym (get_or-map record_in m k d None (long k h)) ∙ ap (λ (l : List (Option BookSegment)). get_or l k None) f.records ∙ tabulate-at i (λ k. record_of book (name_at names k)) k None (omega (arith, e, h));
  }
    where
      long : (k : ℕ) → k < length names → k < length m
      long k h = omega (arith, length-map m segment_in, ap length f.segments, tabulate-length i (segment_at book names), e, h)

pub read_long : (book : List BookSegment) (names : List Name) (m : List Placed) → PlacingRead book names m → length m ≡ length names
read_long book names m h = sym (length-map m segment_in) ∙ ap length h.segments ∙ tabulate-length (length names) (segment_at book names)

-- ---- points

-- where no index is beyond the segments
abbrev pub Within : JourneyValue → JourneyPoint → Type 0
Within v p = p.index < length v.names

pub all-within : (v : JourneyValue) → index_beyond v ≡ false → All (Within v) v.points
all-within v e = go v.points (any_false (λ (p : JourneyPoint). leb (length v.names) p.index) v.points e)
  where
    go : (ps : List JourneyPoint) → All (λ (p : JourneyPoint). leb (length v.names) p.index ≡ false) ps → All (Within v) ps
    go [] h = tt
    go (p ∷ ps) h = (leb-false (length v.names) p.index h.0, go ps h.1)

pub within-at : (v : JourneyValue) (i : ℕ) (d : JourneyPoint) → index_beyond v ≡ false → i < length v.points → Within v (get_or v.points i d)
within-at v i d e h = go v.points i h (all-within v e)
  where
    go : (ps : List JourneyPoint) (i : ℕ) → i < length ps → All (Within v) ps → Within v (get_or ps i d)
    go [] i h a = absurd (omega arith)
    go (p ∷ ps) zero h a = a.0
    go (p ∷ ps) (suc i) h a = go ps i (omega arith) a.1

module _ (book : List BookSegment) (v : JourneyValue) where
  -- a booked segment lacks the point
  abbrev pub lacks : JourneyPoint → Bool
  lacks p = is_some (record_at book v.names p) && not (is_some (record_point book v.names p))

  pub point_is : (m : List Placed) (d : Placed) (p : JourneyPoint) → PlacingRead book v.names m → Within v p
      → point_on p (get_or m p.index d).segment (record_in (get_or m p.index d)) ≡ (if lacks p then refuse 11 else accept (point_at book v.names p))
  unfolding segment_of
  point_is m d p h w = rw (h.placed p.index d w, h.records p.index d w)

  -- the same of the element that the code has before it
  pub turn : (m : List Placed) (on : Placed) (p : JourneyPoint) → PlacingRead book v.names m → Within v p → on ≡ get_or m p.index on
      → point_on p on.segment (record_in on) ≡ (if lacks p then refuse 11 else accept (point_at book v.names p))
  turn m on p h w q = ap (λ (x : Placed). point_on p x.segment (record_in x)) q ∙ point_is m on p h w

  -- the first i points are placed
  pub record Points (i : ℕ) (xs : List Point) : Type 0 where
    pub array : Filling blank_point 64 (λ k. point_at book v.names (get_or v.points k blank_journey_point)) i xs
    pub left : point_missing book v ≡ any lacks (drop i v.points)

  pub points_none : Points 0 (replicate 64 blank_point)
  points_none = record { array = filling_none blank_point 64 (λ k. point_at book v.names (get_or v.points k blank_journey_point)); left = refl }

  module _ (i : ℕ) (xs : List Point) (d : JourneyPoint) (h : i < length v.points) (f : Points i xs) where
    next : point_missing book v ≡ (lacks (get_or v.points i d) || any lacks (drop (i + 1) v.points))
    next = f.left ∙ ap (any lacks) (drop-cons v.points i d h ∙ ap (λ (k : ℕ). get_or v.points i d ∷ drop k v.points) (sym (add-one i)))

    pub points_more : (q : Point) → i < 64 → accept q ≡ (if lacks (get_or v.points i d) then refuse 11 else accept (point_at book v.names (get_or v.points i d))) → Points (i + 1) (set xs i q)
    points_more q few e = go (lacks (get_or v.points i d)) e next
      where
        go : (b : Bool) → accept q ≡ cond b (refuse 11) (accept (point_at book v.names (get_or v.points i d))) → point_missing book v ≡ (b || any lacks (drop (i + 1) v.points)) → Points (i + 1) (set xs i q)
        go true e l = let z : ◌≡◌ {A = ℕ} 0 1 = cc in absurd (omega arith)
        go false e l =
            let w : q ≡ point_at book v.names (get_or v.points i d) = cc in
            record {
              array = filling_more blank_point 64 (λ k. point_at book v.names (get_or v.points k blank_journey_point)) i xs q few (w ∙ ap (point_at book v.names) (get_or-there v.points i d blank_journey_point h)) f.array;
              left = l;
            }

  -- row 11 passes: by the journey alone, and at each point
  pub points_end : (i : ℕ) (xs : List Point) → Points i xs → i ≡ length v.points → i ≤ 64
      → index_beyond v ≡ false → twice eqb (nidtps v.points) ≡ false → ends v.points ≡ 1 → accept xs ≡ points_for book v
  points_end i xs f e few a b c =
      let m : point_missing book v ≡ false = f.left ∙ ap (λ (k : ℕ). any lacks (drop k v.points)) e ∙ ap (any lacks) (none v.points) in
      let q : xs ≡ filled 64 blank_point (points_of book v) =
      filling_end blank_point 64 (λ k. point_at book v.names (get_or v.points k blank_journey_point)) i (length v.points) xs f.array e few ∙ ap (filled 64 blank_point) (listed v.points) in
      rw (q, a, b, eq-eqb (ends v.points) 1 c, m)
    where
      none : {A : Type 0} (l : List A) → drop (length l) l ≡ []
      none [] = refl
      none (x ∷ xs) = none xs

      listed : (ps : List JourneyPoint) → tabulate (length ps) (λ k. point_at book v.names (get_or ps k blank_journey_point)) ≡ map (point_at book v.names) ps
      listed [] = refl
      listed (p ∷ ps) = ap (λ (l : List Point). point_at book v.names p ∷ l) (listed ps)

  -- what that row says of the whole
  pub eleven_refuses : (n : ℕ) → ten v ≡ false → points_for book v ≡ refuse n → load_for book v ≡ refuse n
  eleven_refuses n a = go (eleven book v) refl
    where
      go : (b : Bool) → eleven book v ≡ b → then_judge (row 11 b) (λ u. accept (filled 64 blank_point (points_of book v))) ≡ refuse n → load_for book v ≡ refuse n
      go true q e = row_11 book v a q ∙ ap refuse (number e)
        where
          number : ◌≡◌ {A = Judged (List Point)} (refuse 11) (refuse n) → 11 ≡ n
          number e = cc
      go false q e = let z : ◌≡◌ {A = ℕ} 0 1 = cc in absurd (omega arith)

  -- and row 12, over the points that it leaves
  module _ (xs : List Point) (a : ten v ≡ false) (e : points_for book v ≡ accept xs) where
    left : (eleven book v ≡ false) × (xs ≡ filled 64 blank_point (points_of book v))
    left = go (eleven book v) e
      where
        go : (b : Bool) → then_judge (row 11 b) (λ u. accept (filled 64 blank_point (points_of book v))) ≡ accept xs → (b ≡ false) × (xs ≡ filled 64 blank_point (points_of book v))
        go true e = let z : ◌≡◌ {A = ℕ} 0 1 = cc in absurd (omega arith)
        go false e = (refl, cc)

    pub index_refuses : falls (indices v.points) ≡ true → load_for book v ≡ refuse 12
    index_refuses f = row_12 book v a left.0 (rw f)

    module _ (most : length v.points ≤ 64) where
      rise : strictly_rises (places (take (length v.points) xs)) ≡ strictly_rises (places (points_of book v))
      rise = ap (λ (x : List Point). strictly_rises (places x)) (points_front book v xs left.1 most)

      pub places_refuse : falls (indices v.points) ≡ false → strictly_rises (places (take (length v.points) xs)) ≡ false → load_for book v ≡ refuse 12
      places_refuse f r = row_12 book v a left.0 (rw (f, sym rise ∙ r))

      -- what a load takes, where no row refuses
      pub loads : (load : Load) (segments : List Segment) → falls (indices v.points) ≡ false → strictly_rises (places (take (length v.points) xs)) ≡ true
          → load ≡ load_group v → segments ≡ filled 40 blank_segment (segments_of book v.names)
          → load_for book v ≡ accept (record { route = record { load = load; points = xs; segments = segments }; head = v.head })
      unfolding route_of
      loads load segments f r b c =
          no_row book v a left.0 (rw (f, sym rise ∙ r))
          ∙ (λ i. accept (record { route = record { load = sym b i; points = sym left.1 i; segments = sym c i }; head = v.head }))
