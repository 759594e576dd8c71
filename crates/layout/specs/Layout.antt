-- A layout of fixed size is a value, the list of its fields; bytes, values, size and ranges are functions of it.
use Rattle.std.specs.Prelude.{ℕ, ◌+◌, ◌-◌, ◌*◌, ◌/◌, ◌%◌, ◌^◌, List, [], ◌∷◌, ◌++◌, map, Bool, true, ◌&&◌, get_or, drop, leb}
use Prim.Native.String.{String}
use Rattle.wire.specs.Numbers.{number, bytes_of, magnitude}

-- one of several numbers in a field: its weight in their sum, and the highest that it may be
pub record Part : Type 0 where
  pub weight : ℕ
  pub high : ℕ

abbrev pub part : ℕ → ℕ → Part
part weight high = record { weight = weight; high = high }

-- What stands in a field: any number that its bytes hold; a number to a highest one; a number between a lowest and a
-- highest one; a signed byte, from minus a highest size to that size; or several numbers as one sum, where
-- `weighted high parts` is a number to high and behind it others, each by its weight.
pub data Content : Type 0 where
  free : Content
  up_to : ℕ → Content
  between : ℕ → ℕ → Content
  signed : ℕ → Content
  weighted : ℕ → List Part → Content

-- a field: its name in the papers, its bytes, and what stands in it
pub record Field : Type 0 where
  pub name : String
  pub width : ℕ
  pub content : Content

abbrev pub field : String → ℕ → Content → Field
field name width content = record { name = name; width = width; content = content }

abbrev pub Layout : Type 0
Layout = List Field

-- ---- values

-- a number for each part
abbrev pub Numbers : List Part → Type 0
Numbers [] = Unit {0}
Numbers (p ∷ ps) = ℕ × Numbers ps

abbrev pub Value : Content → Type 0
Value free = ℕ
Value (up_to high) = ℕ
Value (between low high) = ℕ
Value (signed high) = ℕ
Value (weighted high ps) = ℕ × Numbers ps

abbrev pub Values : Layout → Type 0
Values [] = Unit {0}
Values (f ∷ fs) = Value f.content × Values fs

-- the numbers of parts as a list, and by their places in one
abbrev pub listed : (ps : List Part) → Numbers ps → List ℕ
listed [] v = []
listed (p ∷ ps) v = v.0 ∷ listed ps v.1

abbrev pub in_parts : (ps : List Part) → List ℕ → Numbers ps
in_parts [] l = tt
in_parts (p ∷ ps) l = (get_or l 0 0, in_parts ps (drop 1 l))

-- numbers, each by its weight: of weights and numbers, the sum of their products
abbrev pub weighed : List ℕ → List ℕ → ℕ
weighed [] l = 0
weighed (w ∷ ws) [] = 0
weighed (w ∷ ws) (n ∷ l) = w * n + weighed ws l

-- the numbers of a field as one
abbrev pub packed : (c : Content) → Value c → ℕ
packed free v = v
packed (up_to high) v = v
packed (between low high) v = v
packed (signed high) v = v
packed (weighted high ps) v = v.0 + weighed (map (λ p. p.weight) ps) (listed ps v.1)

-- and taken apart: what n has below the first weight of parts, and each number, what n has below the next weight by its own
abbrev pub below : List Part → ℕ → ℕ
below [] n = n
below (p ∷ ps) n = n % p.weight

abbrev pub numbers_of : (ps : List Part) → ℕ → Numbers ps
numbers_of [] n = tt
numbers_of (p ∷ ps) n = (below ps n / p.weight, numbers_of ps n)

abbrev pub unpacked : (c : Content) → ℕ → Value c
unpacked free n = n
unpacked (up_to high) n = n
unpacked (between low high) n = n
unpacked (signed high) n = n
unpacked (weighted high ps) n = (below ps n, numbers_of ps n)

-- ---- bytes, size, values at a position

unfoldable pub bytes : (l : Layout) → Values l → List ℕ
bytes [] v = []
bytes (f ∷ fs) v = bytes_of f.width (packed f.content v.0) ++ bytes fs v.1

abbrev pub size : Layout → ℕ
size [] = 0
size (f ∷ fs) = f.width + size fs

unfoldable pub values_at : (l : Layout) → ℕ → List ℕ → Values l
values_at [] k s = tt
values_at (f ∷ fs) k s = (unpacked f.content (number f.width (drop k s)), values_at fs (k + f.width) s)

-- ---- ranges

abbrev pub parts_fit : (ps : List Part) → Numbers ps → Bool
parts_fit [] v = true
parts_fit (p ∷ ps) v = leb v.0 p.high && parts_fit ps v.1

abbrev pub content_fits : (c : Content) → Value c → Bool
content_fits free v = true
content_fits (up_to high) v = leb v high
content_fits (between low high) v = leb low v && leb v high
content_fits (signed high) v = leb (magnitude v) high
content_fits (weighted high ps) v = leb v.0 high && parts_fit ps v.1

abbrev pub fits : (l : Layout) → Values l → Bool
fits [] v = true
fits (f ∷ fs) v = content_fits f.content v.0 && fits fs v.1

-- the layout with its free fields to the highest number of their bytes: the same bytes fit, and values that are carried on have a bound
abbrev pub highest : ℕ → Content → Content
highest width free = up_to (256 ^ width - 1)
highest width (up_to high) = up_to high
highest width (between low high) = between low high
highest width (signed high) = signed high
highest width (weighted high ps) = weighted high ps

abbrev pub to_highest : Layout → Layout
to_highest [] = []
to_highest (f ∷ fs) = field f.name f.width (highest f.width f.content) ∷ to_highest fs
