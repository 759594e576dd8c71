-- Document 01, the rows 10 to 12 of the table of numbers: what they look at in a journey.
use Rattle.std.specs.Prelude.{ℕ, ◌+◌, List, [], ◌∷◌, map, Bool, ◌&&◌, length, eqb, leb, if◌then◌else◌}
use Rattle.wire.specs.Numbers.{flag}
use Rattle.wire.specs.Lists.{any, those}
use Rattle.engine_value.specs.declared.Point.{Point}
use Rattle.journey.specs.Journey.{JourneyValue}
use Rattle.journey.specs.declared.Name.{Name}
use Rattle.journey.specs.declared.JourneyPoint.{JourneyPoint}

-- "10 segment twice": NID_C and NID_SP together
abbrev pub same_name : Name → Name → Bool
same_name a b = eqb a.nidc b.nidc && eqb a.nidsp b.nidsp

-- "11 index beyond"
abbrev pub index_beyond : JourneyValue → Bool
index_beyond j = any (λ p. leb (length j.names) p.index) j.points

-- "11 .. NID_TP twice"
abbrev pub nidtps : List JourneyPoint → List ℕ
nidtps ps = map (λ (p : JourneyPoint). p.nidtp) ps

-- "11 .. not just one End of Journey": how many there are
abbrev pub ends : List JourneyPoint → ℕ
ends [] = 0
ends (p ∷ ps) = flag p.end + ends ps

-- "12 index falls"
abbrev pub indices : List JourneyPoint → List ℕ
indices ps = map (λ (p : JourneyPoint). p.index) ps

-- "12 .. or placed points do not strictly rise": of the points as they are placed by the book
abbrev pub places : List Point → List ℕ
places ps = map (λ (p : Point). p.place) (those (λ (p : Point). p.placed) ps)

-- where the End of Journey stands
abbrev pub ending_of : List JourneyPoint → ℕ
ending_of [] = 0
ending_of (p ∷ ps) = if p.end then 0 else ending_of ps + 1
