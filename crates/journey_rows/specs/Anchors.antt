-- Document 01, what the rows 10 to 12 look at in a journey. Values are worked out from the paper.
use Rattle.std.specs.Prelude.{ℕ, ◌≡◌, List, [], ◌∷◌, map, Bool, true, false, eqb}
use Rattle.wire.specs.Lists.{twice, falls, strictly_rises}
use Rattle.engine_value.specs.Engine.{no_operational}
use Rattle.engine_value.specs.declared.Point.{Point}
use Rattle.journey.specs.Journey.{JourneyValue, no_atots}
use Rattle.journey.specs.declared.Name.{Name}
use Rattle.journey.specs.declared.JourneyPoint.{JourneyPoint}
use Rattle.journey_rows.specs.Rows.{same_name, index_beyond, nidtps, ends, indices, places, ending_of}

abbrev pub name : ℕ → ℕ → Name
name c sp = record { nidc = c; nidsp = sp }

-- a point of NID_TP t on the segment of index i, and whether it is the End of Journey
abbrev pub point : ℕ → ℕ → Bool → JourneyPoint
point t i end = record { nidtp = t; index = i; alignment = 1; stopping = 2; stop = true; trackside = true; end = end; held = false }

-- a journey over these segments with points of these indices
abbrev pub over : List Name → List ℕ → JourneyValue
over ns is = record {
  head = record { operational = no_operational; date = 0; seconds = 0; counter = 0; atots = no_atots };
  names = ns;
  points = map (λ i. point 7001 i false) is;
}

-- points of these NID_TPs, the second of them on another segment
abbrev pub named : ℕ → ℕ → ℕ → List JourneyPoint
named a b c = point a 0 false ∷ point b 1 true ∷ point c 1 false ∷ []

-- three points, and which of them are Ends of Journey
abbrev pub ending : Bool → Bool → Bool → List JourneyPoint
ending a b c = point 1 0 a ∷ point 2 0 b ∷ point 3 1 c ∷ []

-- a point by its place, and whether it is placed
abbrev pub put : ℕ → Bool → Point
put p placed =
    record { nidtp = 7001; place = p; reach = 150; nidc = 17; alignment = 0; stopping = 0; stop = true; trackside = false; held = false; placed = placed }

pub record Anchors : Type 0 where
  -- "10 segment twice": NID_C and NID_SP together
  pub segment_twice : map (twice same_name) (
      (name 17 500 ∷ name 17 500 ∷ []) ∷ (name 17 500 ∷ name 18 500 ∷ name 17 500 ∷ [])
      ∷ (name 17 500 ∷ name 18 501 ∷ name 18 500 ∷ name 17 501 ∷ []) ∷ []
      ) ≡ true ∷ true ∷ false ∷ []
  -- "11 index beyond": from 0, so that of two segments 0 and 1 have one
  pub index_beyond_lem : map (λ is. index_beyond (over (name 17 500 ∷ name 18 500 ∷ []) is)) ((0 ∷ 1 ∷ 1 ∷ []) ∷ (0 ∷ 1 ∷ 2 ∷ []) ∷ (255 ∷ 1 ∷ []) ∷ [])
      ≡ false ∷ true ∷ true ∷ []
  pub beyond_one : map (λ is. index_beyond (over (name 17 500 ∷ []) is)) ((0 ∷ 0 ∷ []) ∷ (0 ∷ 1 ∷ []) ∷ []) ≡ false ∷ true ∷ []
  -- "11 .. NID_TP twice": in the whole journey
  pub nidtp_twice_lem : map (λ ps. twice eqb (nidtps ps)) (named 1 2 3 ∷ named 1 1 2 ∷ named 1 2 1 ∷ named 2 1 1 ∷ []) ≡ false ∷ true ∷ true ∷ true ∷ []
  -- "11 .. not just one End of Journey"
  pub how_many_ends : map ends (ending false false false ∷ ending false true false ∷ ending true false true ∷ ending true true true ∷ [])
      ≡ 0 ∷ 1 ∷ 2 ∷ 3 ∷ []
  -- "12 index falls": the same one again does not
  pub index_falls : map (λ is. falls (indices (over [] is).points)) ((0 ∷ 0 ∷ 1 ∷ 1 ∷ []) ∷ (1 ∷ 0 ∷ []) ∷ (0 ∷ 1 ∷ 0 ∷ []) ∷ (0 ∷ 3 ∷ 2 ∷ 3 ∷ []) ∷ [])
      ≡ false ∷ true ∷ true ∷ true ∷ []
  -- "12 .. or placed points do not strictly rise": equal places do not rise; a point that is not placed has none
  pub places_rise : map (λ ps. strictly_rises (places ps)) (
      (put 0 true ∷ put 1 true ∷ put 5 true ∷ []) ∷ (put 1 true ∷ put 1 true ∷ []) ∷ (put 3 true ∷ put 2 true ∷ [])
      ∷ (put 3 true ∷ put 0 false ∷ put 4 true ∷ put 0 false ∷ []) ∷ (put 3 true ∷ put 0 false ∷ put 3 true ∷ []) ∷ (put 0 false ∷ put 0 false ∷ []) ∷ []
      ) ≡ true ∷ false ∷ false ∷ true ∷ false ∷ true ∷ []
  -- where the End of Journey stands
  pub ending_of : map ending_of (ending true false false ∷ ending false true false ∷ ending false false true ∷ []) ≡ 0 ∷ 1 ∷ 2 ∷ []
