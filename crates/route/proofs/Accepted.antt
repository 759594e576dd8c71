-- What an accepted book keeps to, by look-up.
use Prim.Native.Nat.{ℕ, ◌≤◌}
use mathlib.Core.Path.{◌≡◌, refl}
use mathlib.Core.List.{List}
use Rattle.std.specs.Prelude.{Option, Some, None}
use native.Mathlib.Omega.{arith}
use Rattle.wire.specs.Lists.{All}
use Rattle.wire.specs.Judged.Judged.{accept}
use Rattle.segment_record.specs.declared.BookPoint.{BookPoint}
use Rattle.segment_record.specs.Record.{BookSegment, max_length, max_reach, lookup_point}
use Rattle.book.specs.Book.{lookup}
use Rattle.book.specs.Table.{book_of}
use Rattle.segment_record.proofs.Accepted.{PointFits, SegmentFits, all-point}
use Rattle.book.proofs.Accepted.{book-fits, all_lookup}
use Rattle.route.specs.Placing.{place_on, reach_on}
use Rattle.route.specs.Limits.{Limits, OnSome, Sound}

module _ (len : ℕ) (few : len ≤ max_length) (ps : List BookPoint) (h : All (PointFits len) ps) (t : ℕ) where
  found_place : place_on (lookup_point t ps) ≤ max_length
  found_place = go (lookup_point t ps) refl
    where
      go : (o : Option BookPoint) → lookup_point t ps ≡ o → place_on o ≤ max_length
      go None e = omega arith
      go (Some p) e = omega (arith, (all-point (PointFits len) ps h t p e).place, few)

  found_reach : reach_on (lookup_point t ps) ≤ max_reach
  found_reach = go (lookup_point t ps) refl
    where
      go : (o : Option BookPoint) → lookup_point t ps ≡ o → reach_on o ≤ max_reach
      go None e = omega arith
      go (Some p) e = (all-point (PointFits len) ps h t p e).reach

limits : (g : BookSegment) → SegmentFits g → Limits g
limits g h = record {
  long = h.most;
  places = found_place g.length h.most g.points h.points;
  reaches = found_reach g.length h.most g.points h.points;
  zones = h.zone_count;
}

found_limits : (book : List BookSegment) → All SegmentFits book → Sound book
found_limits book h c sp = go (lookup c sp book) refl
  where
    go : (o : Option BookSegment) → lookup c sp book ≡ o → OnSome Limits o
    go None e = tt
    go (Some g) e = limits g (all_lookup SegmentFits book h c sp g e)

pub book-sound : (l : List ℕ) (book : List BookSegment) → book_of l ≡ accept book → Sound book
book-sound l book e = found_limits book (book-fits l book e).0
