-- Values worked out by hand from document 02, Q-7, and SUBSET-140, Table 7, which the definitions must give.
use Rattle.std.specs.Prelude.{ℕ, ◌≡◌, true, false, List, [], ◌∷◌, ◌++◌, map}
use Rattle.layout.specs.Layout.{Values, bytes, size, values_at, fits}
use Rattle.layout.specs.Body.{body_bytes, body_at}
use Rattle.adhesion.specs.Constraints.{max_location, row_layout, constraint_of, max_constraints, constraints_body, constraints_of, reversed, blank_constraint}
use Rattle.adhesion.specs.View.{constraint_view, constraints_values}
use Rattle.adhesion.specs.declared.TemporaryConstraint.{TemporaryConstraint}

-- no two bytes alike
abbrev pub north : TemporaryConstraint
north = record { nidsp = 0x456789AB; start = 0x00123456; end = 0x00ABCDEF; nidc = 0x0123; category = 0x2B; range = 0x4C }

abbrev pub south : TemporaryConstraint
south = record { nidsp = 0xFEDCBA98; start = 16777215; end = 16777215; nidc = 1023; category = 0xFF; range = 0xFE }

-- "NID_C, NID_SP, category, range, start, end, of 2, 4, 1, 1, 4 and 4 bytes", in this order
abbrev pub north_bytes : List ℕ
north_bytes = 0x01 ∷ 0x23 ∷ 0x45 ∷ 0x67 ∷ 0x89 ∷ 0xAB ∷ 0x2B ∷ 0x4C ∷ 0x00 ∷ 0x12 ∷ 0x34 ∷ 0x56 ∷ 0x00 ∷ 0xAB ∷ 0xCD ∷ 0xEF ∷ []

abbrev pub south_bytes : List ℕ
south_bytes = 0x03 ∷ 0xFF ∷ 0xFE ∷ 0xDC ∷ 0xBA ∷ 0x98 ∷ 0xFF ∷ 0xFE ∷ 0x00 ∷ 0xFF ∷ 0xFF ∷ 0xFF ∷ 0x00 ∷ 0xFF ∷ 0xFF ∷ 0xFF ∷ []

-- NID_C, start and end
abbrev pub row : ℕ → ℕ → ℕ → Values row_layout
row nidc start end = (nidc, (4294967295, (255, (255, (start, (end, tt))))))

abbrev pub from_to : ℕ → ℕ → TemporaryConstraint
from_to start end = record { nidsp = 0; start = start; end = end; nidc = 0; category = 0; range = 0 }

pub record Anchors : Type 0 where
  pub row_bytes : map (λ r. bytes row_layout (constraint_view r)) (north ∷ south ∷ []) ≡ north_bytes ∷ south_bytes ∷ []
  pub row_read : constraint_of (values_at row_layout 1 (0xEE ∷ north_bytes)) ≡ north
  pub row_size : size row_layout ≡ 16
  -- "count (0-31) and that many rows"
  pub counted : map (λ rs. body_bytes constraints_body (constraints_values rs)) ([] ∷ (north ∷ south ∷ []) ∷ []) ≡ (0 ∷ []) ∷ (2 ∷ north_bytes ++ south_bytes) ∷ []
  pub counted_read : constraints_of (body_at constraints_body 0 (2 ∷ north_bytes ++ south_bytes)) ≡ north ∷ south ∷ []
  pub most : max_constraints ≡ 31
  -- "nor either of them 16,777,215; NID_C ends at 1,023": these are allowed, one more is not
  pub highest : max_location ≡ 16777215
  pub fit : map (fits row_layout) (row 1023 16777215 16777215 ∷ row 1024 0 0 ∷ row 0 16777216 0 ∷ row 0 0 16777216 ∷ []) ≡ true ∷ false ∷ false ∷ false ∷ []
  -- "Start may not exceed end"
  pub reverses : map (λ n. reversed (from_to n 250)) (0 ∷ 249 ∷ 250 ∷ 251 ∷ 16777215 ∷ []) ≡ false ∷ false ∷ false ∷ true ∷ true ∷ []
  pub blank : blank_constraint ≡ from_to 0 0
