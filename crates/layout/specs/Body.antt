-- What stands behind the number of a packet or of an event: the fields of one layout; or a count of one byte, and as many rows of one layout.
use Rattle.std.specs.Prelude.{ℕ, ◌+◌, ◌*◌, List, ◌++◌, flat_map, length, Bool, ◌&&◌, drop, leb}
use Rattle.wire.specs.Numbers.{number, bytes_of}
use Rattle.wire.specs.Lists.{tabulate, every}
use Rattle.layout.specs.Layout.{Layout, Values, bytes, size, values_at, fits}

-- where it is rows, the most of them, and the layout of each
pub data Body : Type 0 where
  fields : Layout → Body
  rows : ℕ → Layout → Body

abbrev pub BodyValues : Body → Type 0
BodyValues (fields l) = Values l
BodyValues (rows most l) = List (Values l)

abbrev pub body_bytes : (b : Body) → BodyValues b → List ℕ
body_bytes (fields l) v = bytes l v
body_bytes (rows most l) vs = bytes_of 1 (length vs) ++ flat_map (bytes l) vs

abbrev pub body_size : (b : Body) → BodyValues b → ℕ
body_size (fields l) v = size l
body_size (rows most l) vs = 1 + length vs * size l

-- its bytes without the rows
abbrev pub least_size : Body → ℕ
least_size (fields l) = size l
least_size (rows most l) = 1

-- and what stands there, from a position on: row k behind the count and k rows
abbrev pub body_at : (b : Body) → ℕ → List ℕ → BodyValues b
body_at (fields l) k s = values_at l k s
body_at (rows most l) k s = tabulate (number 1 (drop k s)) (λ i. values_at l (k + 1 + i * size l) s)

abbrev pub body_fits : (b : Body) → BodyValues b → Bool
body_fits (fields l) v = fits l v
body_fits (rows most l) vs = leb (length vs) most && every (fits l) vs
