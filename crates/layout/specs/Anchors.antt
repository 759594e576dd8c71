-- Values worked out by hand, which the definitions must give.
use Rattle.std.specs.Prelude.{ℕ, ◌≡◌, true, false, [], ◌∷◌, map, replicate}
use Rattle.layout.specs.Body.{body_bytes, body_size, least_size, body_at, body_fits}
use Rattle.layout.specs.Body.Body.{fields, rows}
use Rattle.layout.specs.Layout.{Content, Layout, Values, part, field, listed, in_parts, weighed, packed, unpacked, bytes, size, values_at, fits, to_highest}
use Rattle.layout.specs.Layout.Content.{free, up_to, between, signed, weighted}

-- a made-up layout: a number to 300, three numbers in one byte as of the info of a packet 62, a free number, one from 5 to 9,
-- a signed byte to 100
abbrev pub info : Content
info = weighted 1 (part 2 2 ∷ part 8 8 ∷ [])

abbrev pub sample : Layout
sample = field "a" 2 (up_to 300) ∷ field "info" 1 info ∷ field "b" 4 free ∷ field "c" 1 (between 5 9) ∷ field "d" 1 (signed 100) ∷ []

-- a row: a number to 300, a free one
abbrev pub pair : Layout
pair = field "a" 2 (up_to 300) ∷ field "b" 1 free ∷ []

abbrev pub of : ℕ → ℕ → ℕ → ℕ → ℕ → ℕ → ℕ → Values sample
of a reached alignment status b c d = (a, ((reached, (alignment, (status, tt))), (b, (c, (d, tt)))))

pub record Anchors : Type 0 where
  -- "info: Q_EOJ_REACHED .. + 2 × alignment + 8 × status": 1 + 2 × 2 + 8 × 5
  pub packing : map (packed info) ((1, (0, (0, tt))) ∷ (0, (1, (0, tt))) ∷ (0, (0, (1, tt))) ∷ (1, (2, (5, tt))) ∷ []) ≡ 1 ∷ 2 ∷ 8 ∷ 45 ∷ []
  pub unpacking : map (unpacked info) (1 ∷ 2 ∷ 8 ∷ 45 ∷ 255 ∷ [])
      ≡ (1, (0, (0, tt))) ∷ (0, (1, (0, tt))) ∷ (0, (0, (1, tt))) ∷ (1, (2, (5, tt))) ∷ (1, (3, (31, tt))) ∷ []
  -- 7 × 1 + 50 × 2 + 100 × 3; what has no weight, and what no number, counts nothing
  pub sums : weighed (7 ∷ 50 ∷ 100 ∷ []) (1 ∷ 2 ∷ 3 ∷ []) ∷ weighed (7 ∷ []) (1 ∷ 2 ∷ []) ∷ weighed (7 ∷ 50 ∷ []) (1 ∷ []) ∷ [] ≡ 407 ∷ 7 ∷ 7 ∷ []
  pub as_list : listed (part 2 2 ∷ part 8 8 ∷ []) (4, (5, tt)) ≡ 4 ∷ 5 ∷ []
  pub by_place : in_parts (part 2 2 ∷ part 8 8 ∷ []) (4 ∷ 5 ∷ []) ≡ (4, (5, tt))
  pub plain : packed free 7 ∷ packed (up_to 300) 8 ∷ packed (between 5 9) 10 ∷ packed (signed 100) 200 ∷ [] ≡ 7 ∷ 8 ∷ 10 ∷ 200 ∷ []
  pub taken : unpacked free 7 ∷ unpacked (up_to 300) 8 ∷ unpacked (between 5 9) 10 ∷ unpacked (signed 100) 200 ∷ [] ≡ 7 ∷ 8 ∷ 10 ∷ 200 ∷ []
  -- its fields one after the other, "most significant byte first": 300 is 01 2C
  pub laid : bytes sample (of 300 1 2 5 0x12345678 9 0x9C) ≡ 0x01 ∷ 0x2C ∷ 45 ∷ 0x12 ∷ 0x34 ∷ 0x56 ∷ 0x78 ∷ 9 ∷ 0x9C ∷ []
  pub nothing_laid : bytes [] tt ≡ []
  pub sizes : map size ([] ∷ sample ∷ []) ≡ 0 ∷ 9 ∷ []
  -- and what stands there, from a position on
  pub found : values_at sample 1 (0xEE ∷ 0x01 ∷ 0x2C ∷ 45 ∷ 0x12 ∷ 0x34 ∷ 0x56 ∷ 0x78 ∷ 9 ∷ 0x9C ∷ 0xEE ∷ []) ≡ of 300 1 2 5 0x12345678 9 0x9C
  -- each side of each bound; a signed byte at 100, −100 (156), 101 and −101 (155)
  pub fit : map (fits sample) (of 0 0 0 0 0 5 0 ∷ of 300 1 2 8 4294967295 9 100 ∷ of 300 1 2 8 4294967295 9 156 ∷ []) ≡ true ∷ true ∷ true ∷ []
  pub do_not : map (fits sample) (of 301 0 0 0 0 5 0 ∷ of 0 2 0 0 0 5 0 ∷ of 0 0 3 0 0 5 0 ∷ of 0 0 0 9 0 5 0 ∷ of 0 0 0 0 0 4 0 ∷ of 0 0 0 0 0 10 0
      ∷ of 0 0 0 0 0 5 101 ∷ of 0 0 0 0 0 5 155 ∷ []) ≡ false ∷ false ∷ false ∷ false ∷ false ∷ false ∷ false ∷ false ∷ []
  pub nothing_fits : fits [] tt ≡ true
  -- a body of fields is its layout's; one of rows has a count of one byte and that many rows, each from its own position on
  pub of_fields : body_bytes (fields sample) (of 300 1 2 5 0x12345678 9 0x9C) ≡ bytes sample (of 300 1 2 5 0x12345678 9 0x9C)
  pub of_rows : body_bytes (rows 3 pair) ((0x0102, (7, tt)) ∷ (300, (9, tt)) ∷ []) ≡ 2 ∷ 0x01 ∷ 0x02 ∷ 7 ∷ 0x01 ∷ 0x2C ∷ 9 ∷ []
  pub no_rows : body_bytes (rows 3 pair) [] ≡ 0 ∷ []
  pub body_sizes : body_size (fields sample) (of 0 0 0 0 0 0 0) ∷ body_size (rows 3 pair) [] ∷ body_size (rows 3 pair) ((0, (0, tt)) ∷ (0, (0, tt)) ∷ []) ∷ [] ≡ 9 ∷ 1 ∷ 7 ∷ []
  pub least_sizes : least_size (fields sample) ∷ least_size (rows 3 pair) ∷ [] ≡ 9 ∷ 1 ∷ []
  pub rows_found : body_at (rows 3 pair) 1 (0xEE ∷ 2 ∷ 0x01 ∷ 0x02 ∷ 7 ∷ 0x01 ∷ 0x2C ∷ 9 ∷ 0xEE ∷ []) ≡ (0x0102, (7, tt)) ∷ (300, (9, tt)) ∷ []
  -- past the end bytes count as 0
  pub rows_past : body_at (rows 3 pair) 0 (2 ∷ 0x01 ∷ 0x02 ∷ 7 ∷ 0x01 ∷ []) ≡ (0x0102, (7, tt)) ∷ (256, (0, tt)) ∷ []
  pub no_count : body_at (rows 3 pair) 0 [] ≡ []
  pub rows_fit : map (body_fits (rows 3 pair)) (
      [] ∷ ((300, (9, tt)) ∷ []) ∷ ((301, (9, tt)) ∷ []) ∷ ((0, (0, tt)) ∷ (301, (0, tt)) ∷ []) ∷ replicate 3 (0, (0, tt)) ∷ replicate 4 (0, (0, tt)) ∷ []
      ) ≡ true ∷ true ∷ false ∷ false ∷ true ∷ false ∷ []
  pub fields_fit : map (body_fits (fields sample)) (of 300 0 0 0 0 5 0 ∷ of 301 0 0 0 0 5 0 ∷ []) ≡ true ∷ false ∷ []
  -- free fields of one, two and four bytes to 255, 65,535 and 4,294,967,295; the others as they are
  pub highest : to_highest (field "a" 1 free ∷ field "b" 2 free ∷ field "c" 4 free ∷ sample)
      ≡ field "a" 1 (up_to 255) ∷ field "b" 2 (up_to 65535) ∷ field "c" 4 (up_to 4294967295)
      ∷ field "a" 2 (up_to 300) ∷ field "info" 1 info ∷ field "b" 4 (up_to 4294967295) ∷ field "c" 1 (between 5 9) ∷ field "d" 1 (signed 100) ∷ []
