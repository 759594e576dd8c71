-- Document 01, what the rows 10 to 12 look at in a journey, in its own words beside the tests that compute it.
use Rattle.std.specs.Prelude.{ℕ, ◌≤◌, ◌<◌, ◌≡◌, ◌↔◌, List, true, not, length, get_or, eqb}
use Rattle.wire.specs.Lists.{twice, falls, strictly_rises}
use Rattle.engine_value.specs.Engine.{blank_point}
use Rattle.engine_value.specs.declared.Point.{Point}
use Rattle.book.specs.Sentences.{One, Two}
use Rattle.journey.specs.Journey.{blank_name, blank_journey_point, JourneyValue}
use Rattle.journey.specs.declared.Name.{Name}
use Rattle.journey.specs.declared.JourneyPoint.{JourneyPoint}
use Rattle.journey_rows.specs.Rows.{same_name, index_beyond, nidtps, ends, indices, places, ending_of}

-- "10 segment twice": two have the same NID_C and NID_SP
abbrev pub SegmentTwice : List Name → Type 0
SegmentTwice ns = Two blank_name (λ a b. (a.nidc ≡ b.nidc) × (a.nidsp ≡ b.nidsp)) ns

-- "11 index beyond": a point's index is that of no segment
abbrev pub IndexBeyond : JourneyValue → Type 0
IndexBeyond j = One blank_journey_point (λ p. length j.names ≤ p.index) j.points

-- "11 .. NID_TP twice"
abbrev pub PointTwice : List JourneyPoint → Type 0
PointTwice ps = Two blank_journey_point (λ p q. p.nidtp ≡ q.nidtp) ps

-- "just one End of Journey": a point is, and no other one
abbrev pub EndsAt : List JourneyPoint → ℕ → Type 0
EndsAt ps i = (get_or ps i blank_journey_point).end ≡ true

abbrev pub OneEnd : List JourneyPoint → Type 0
OneEnd ps = (i : ℕ) × (i < length ps) × EndsAt ps i × ((k : ℕ) → k < length ps → EndsAt ps k → k ≡ i)

-- "12 index falls": a point's index is above that of one behind it
abbrev pub IndexFalls : List JourneyPoint → Type 0
IndexFalls ps = Two blank_journey_point (λ p q. q.index < p.index) ps

-- "12 .. or placed points do not strictly rise": a placed point is at the place of a placed one behind it, or beyond
abbrev pub PlacesFall : List Point → Type 0
PlacesFall ps = Two blank_point (λ p q. (p.placed ≡ true) × ((q.placed ≡ true) × (q.place ≤ p.place))) ps

pub record Sentences : Type 0 where
  pub segment_twice : (ns : List Name) → (twice same_name ns ≡ true) ↔ SegmentTwice ns
  pub index_beyond_lem : (j : JourneyValue) → (index_beyond j ≡ true) ↔ IndexBeyond j
  pub point_twice : (ps : List JourneyPoint) → (twice eqb (nidtps ps) ≡ true) ↔ PointTwice ps
  pub one_end : (ps : List JourneyPoint) → (ends ps ≡ 1) ↔ OneEnd ps
  pub index_falls : (ps : List JourneyPoint) → (falls (indices ps) ≡ true) ↔ IndexFalls ps
  pub places_fall : (ps : List Point) → (not (strictly_rises (places ps)) ≡ true) ↔ PlacesFall ps
  -- where the End of Journey stands
  pub ending : (ps : List JourneyPoint) → OneEnd ps → (ending_of ps < length ps) × EndsAt ps (ending_of ps)
