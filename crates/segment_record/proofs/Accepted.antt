-- What an accepted record tells: its values are in their ranges.
use Prim.Native.Nat.{ℕ, ◌≤◌}
use mathlib.Core.Path.{◌≡◌, subst}
use mathlib.Core.List.{List, [], ◌∷◌}
use mathlib.Core.Bool.{Bool, true, false, cond}
use Rattle.std.specs.Prelude.{Some, find}
use lib.ListN.{length}
use lib.Dec.{eqb}
use Rattle.engine_value.specs.Engine.{max4, max_nidc, max_nidtp, max_zones}
use Rattle.engine_value.specs.declared.Zone.{Zone}
use Rattle.wire.specs.Numbers.{bit}
use Rattle.wire.specs.Lists.{All}
use Rattle.fields.specs.Parse.{field, free, bit_map, listed}
use Rattle.fields.proofs.ReaderLaws.{field-inv}
use Rattle.fields.proofs.Sure.{Sure, sure-on, sure_of, listed_all}
use Rattle.segment_record.specs.declared.BookPoint.{BookPoint}
use Rattle.segment_record.specs.Record.{BookSegment, max_length, max_record_points, max_reach, book_point, zone_record, segment_record, lookup_point}

pub record PointFits (len : ℕ) (p : BookPoint) : Type 0 where
  pub nidtp : p.nidtp ≤ max_nidtp
  pub place : p.place ≤ len
  pub reach : p.reach ≤ max_reach

pub record ZoneFits (len : ℕ) (z : Zone) : Type 0 where
  pub order : z.start ≤ z.end
  pub end : z.end ≤ len

pub record SegmentFits (g : BookSegment) : Type 0 where
  pub nidc : g.nidc ≤ max_nidc
  pub nidsp : g.nidsp ≤ max4
  pub least : 1 ≤ g.length
  pub most : g.length ≤ max_length
  pub points : All (PointFits g.length) g.points
  pub point_count : length g.points ≤ max_record_points
  pub zones : All (ZoneFits g.length) g.zones
  pub zone_count : length g.zones ≤ max_zones

point_fits : (len : ℕ) (l : List ℕ) → Sure (PointFits len) (book_point len l)
unfolding book_point
point_fits len l =
    sure-on (PointFits len) (field 4 0 max_nidtp l) _ (λ t r₁ e₁.
    sure-on (PointFits len) (field 4 0 len r₁) _ (λ p r₂ e₂.
    sure-on (PointFits len) (field 2 0 max_reach r₂) _ (λ d r₃ e₃.
    record { nidtp = (field-inv 4 0 max_nidtp l t r₁ e₁).most; place = (field-inv 4 0 len r₁ p r₂ e₂).most; reach = (field-inv 2 0 max_reach r₂ d r₃ e₃).most })))

zone-fits : (len : ℕ) (l : List ℕ) → Sure (ZoneFits len) (zone_record len l)
unfolding zone_record
zone-fits len l =
    sure-on (ZoneFits len) (field 4 0 len l) _ (λ x r₁ e₁.
    sure-on (ZoneFits len) (field 4 x len r₁) _ (λ y r₂ e₂.
    let t = field-inv 4 x len r₁ y r₂ e₂ in
    record { order = t.least; end = t.most }))

pub segment_fits : (l : List ℕ) → Sure SegmentFits (segment_record l)
unfolding segment_record
segment_fits l =
    sure-on SegmentFits (bit_map (0 ∷ 1 ∷ 2 ∷ []) (5 ∷ 6 ∷ 7 ∷ []) l) _ (λ m r₁ e₁.
    sure-on SegmentFits (field 2 0 max_nidc r₁) _ (λ c r₂ e₂.
    sure-on SegmentFits (free 4 r₂) _ (λ sp r₃ e₃.
    sure-on SegmentFits (field 4 1 max_length r₃) _ (λ len r₄ e₄.
    sure-on SegmentFits (listed (bit 3 m) max_record_points (book_point len) r₄) _ (λ ps r₅ e₅.
    sure-on SegmentFits (listed (bit 4 m) max_zones (zone_record len) r₅) _ (λ zs r₆ e₆.
    let t = field-inv 4 1 max_length r₃ len r₄ e₄ in
    let p = sure_of (λ (xs : List BookPoint). (length xs ≤ max_record_points) × All (PointFits len) xs) _ ps r₅ e₅ (listed_all (PointFits len) (book_point len) (point_fits len) (bit 3 m) max_record_points r₄) in
    let z = sure_of (λ (xs : List Zone). (length xs ≤ max_zones) × All (ZoneFits len) xs) _ zs r₆ e₆ (listed_all (ZoneFits len) (zone_record len) (zone-fits len) (bit 4 m) max_zones r₅) in
    record {
      nidc = (field-inv 2 0 max_nidc r₁ c r₂ e₂).most;
      nidsp = (field-inv 4 0 max4 r₂ sp r₃ e₃).most;
      least = t.least;
      most = t.most;
      points = p.1;
      point_count = p.0;
      zones = z.1;
      zone_count = z.0;
    }))))))

-- what holds of all holds of the one that is found
pub all_found : {A : Type 0} (P : A → Type 0) (f : A → Bool) (l : List A) → All P l → (a : A) → find f l ≡ Some a → P a
all_found P f [] h a e = absurd cc
all_found P f (x ∷ xs) h a e = go (f x) e (λ q. all_found P f xs h.1 a q)
  where
    go : (b : Bool) → cond b (Some x) (find f xs) ≡ Some a → (find f xs ≡ Some a → P a) → P a
    go true q ih = let w : x ≡ a = cc in subst P w h.0
    go false q ih = ih q

pub all-point : (P : BookPoint → Type 0) (ps : List BookPoint) → All P ps → (t : ℕ) (p : BookPoint) → lookup_point t ps ≡ Some p → P p
all-point P ps h t p e = all_found P (λ q. eqb q.nidtp t) ps h p e
