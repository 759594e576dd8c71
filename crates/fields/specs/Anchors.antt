-- Values worked out by hand from document 01, which the definitions must give.
use Rattle.std.specs.Prelude.{ℕ, ◌≡◌, true, false, List, [], ◌∷◌, map, Some, None}
use Rattle.std.specs.Borrow.{Bor}
use Rattle.wire.specs.Judged.Judged.{refuse, accept}
use Rattle.fields.specs.Parse.{Reader, ◌>>=◌, ◌>>◌, give, must, field, free, bit_map, optional, many, counted, listed, read, whole}
use Rattle.fields.specs.Parse.Parse.{bad, good}
use Rattle.fields.specs.View.{parsed}

-- a field of one byte from 2 to 5; and one with a free one behind it
abbrev pub small : Reader ℕ
small = field 1 2 5

abbrev pub pair : Reader (List ℕ)
pair = do
  a ← small
  b ← free 1
  give (a ∷ b ∷ [])

pub record Fields : Type 0 where
  -- of two bytes, 5 to 300 (01 2C): each side of both bounds; the bytes behind are left
  pub bounds : map (field 2 5 300) ((0 ∷ 4 ∷ 9 ∷ []) ∷ (0 ∷ 5 ∷ 9 ∷ []) ∷ (1 ∷ 0x2C ∷ 9 ∷ 8 ∷ []) ∷ (1 ∷ 0x2D ∷ 9 ∷ []) ∷ (5 ∷ 0 ∷ []) ∷ [])
      ≡ bad ∷ good 5 (9 ∷ []) ∷ good 300 (9 ∷ 8 ∷ []) ∷ bad ∷ bad ∷ []
  -- exactly its bytes, one less, none
  pub lengths : map (field 2 5 300) ((0 ∷ 5 ∷ []) ∷ (5 ∷ []) ∷ [] ∷ []) ≡ good 5 [] ∷ bad ∷ bad ∷ []
  pub absent_zero : field 1 0 5 [] ≡ bad
  -- every number of its bytes
  pub free1 : map (free 1) ((0 ∷ 7 ∷ []) ∷ (255 ∷ 7 ∷ []) ∷ [] ∷ []) ≡ good 0 (7 ∷ []) ∷ good 255 (7 ∷ []) ∷ bad ∷ []
  pub free4 : map (free 4) ((0 ∷ 0 ∷ 0 ∷ 0 ∷ 7 ∷ []) ∷ (255 ∷ 255 ∷ 255 ∷ 255 ∷ 7 ∷ []) ∷ (0 ∷ 0 ∷ 0 ∷ []) ∷ [])
      ≡ good 0 (7 ∷ []) ∷ good 4294967295 (7 ∷ []) ∷ bad ∷ []
  -- one after the other; where one is bad, so is the whole
  pub sequence : map pair ((2 ∷ 3 ∷ 4 ∷ []) ∷ (1 ∷ 3 ∷ []) ∷ (2 ∷ []) ∷ []) ≡ good (2 ∷ 3 ∷ []) (4 ∷ []) ∷ bad ∷ bad ∷ []
  pub musts : map (λ b. (must b >> small) (4 ∷ 3 ∷ [])) (true ∷ false ∷ []) ≡ good 4 (3 ∷ []) ∷ bad ∷ []
  -- "a bit map first": here bits 0 and 2 must stand, 5 and 7 not; 1, 3, 4 and 6 may
  pub maps : map (bit_map (0 ∷ 2 ∷ []) (5 ∷ 7 ∷ [])) ((0x05 ∷ 9 ∷ []) ∷ (0x5F ∷ []) ∷ (0x04 ∷ []) ∷ (0x01 ∷ []) ∷ (0x25 ∷ []) ∷ (0x85 ∷ []) ∷ [] ∷ [])
      ≡ good 0x05 (9 ∷ []) ∷ good 0x5F [] ∷ bad ∷ bad ∷ bad ∷ bad ∷ bad ∷ []
  -- "then only the fields whose bit stands"; "absent means"
  pub present : map (optional true 9 small) ((2 ∷ 7 ∷ []) ∷ (6 ∷ 7 ∷ []) ∷ [] ∷ []) ≡ good 2 (7 ∷ []) ∷ bad ∷ bad ∷ []
  pub absent : map (optional false 9 small) ((2 ∷ 7 ∷ []) ∷ (6 ∷ 7 ∷ []) ∷ [] ∷ []) ≡ good 9 (2 ∷ 7 ∷ []) ∷ good 9 (6 ∷ 7 ∷ []) ∷ good 9 [] ∷ []

pub record Items : Type 0 where
  -- so many items, in their order
  pub several : map (λ n. many n small (2 ∷ 3 ∷ 4 ∷ 6 ∷ [])) (0 ∷ 1 ∷ 3 ∷ 4 ∷ 5 ∷ [])
      ≡ good [] (2 ∷ 3 ∷ 4 ∷ 6 ∷ []) ∷ good (2 ∷ []) (3 ∷ 4 ∷ 6 ∷ []) ∷ good (2 ∷ 3 ∷ 4 ∷ []) (6 ∷ []) ∷ bad ∷ bad ∷ []
  -- "count (1, 1-16), each ..": here 1 to 3; a written 0 and a 4 are refused, and so are items that are short or out of their range
  pub counts : map (counted 3 small)
      ((0 ∷ 2 ∷ []) ∷ (1 ∷ 2 ∷ 3 ∷ []) ∷ (3 ∷ 2 ∷ 3 ∷ 4 ∷ 5 ∷ []) ∷ (4 ∷ 2 ∷ 3 ∷ 4 ∷ 5 ∷ []) ∷ (2 ∷ 2 ∷ []) ∷ (1 ∷ 6 ∷ []) ∷ [] ∷ [])
      ≡ bad ∷ good (2 ∷ []) (3 ∷ []) ∷ good (2 ∷ 3 ∷ 4 ∷ []) (5 ∷ []) ∷ bad ∷ bad ∷ bad ∷ bad ∷ []
  -- where its bit stands the same; else no item, and no byte of it
  pub bit_stands : map (listed true 3 small) ((0 ∷ 2 ∷ []) ∷ (1 ∷ 2 ∷ 3 ∷ []) ∷ (4 ∷ 2 ∷ 3 ∷ 4 ∷ 5 ∷ []) ∷ [] ∷ [])
      ≡ bad ∷ good (2 ∷ []) (3 ∷ []) ∷ bad ∷ bad ∷ []
  pub bit_clear : map (listed false 3 small) ((0 ∷ 2 ∷ []) ∷ (1 ∷ 2 ∷ 3 ∷ []) ∷ [] ∷ [])
      ≡ good [] (0 ∷ 2 ∷ []) ∷ good [] (1 ∷ 2 ∷ 3 ∷ []) ∷ good [] [] ∷ []

pub record Answers : Type 0 where
  -- "7 bad map, range or length": the row's number where nothing was read, or where a byte is left over
  pub reads : map (read {A = ℕ} 7) (bad ∷ good 5 [] ∷ good 5 (0 ∷ []) ∷ []) ≡ refuse 7 ∷ accept 5 ∷ accept 5 ∷ []
  pub wholes : map (whole {A = ℕ} 9) (bad ∷ good 5 [] ∷ good 5 (0 ∷ []) ∷ good 5 (1 ∷ 2 ∷ []) ∷ []) ≡ refuse 9 ∷ accept 5 ∷ refuse 9 ∷ refuse 9 ∷ []
  -- the number that was read, and the bytes behind it
  pub answered : (behind : Bor (List ℕ)) → map (parsed {A = ℕ}) (Some (258, behind) ∷ None ∷ []) ≡ good 258 behind.now ∷ bad ∷ []

pub record Anchors : Type 0 where
  pub fields : Fields
  pub items : Items
  pub answers : Answers
