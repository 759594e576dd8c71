-- Document 02, Q-7: "count (0-31) and that many rows: NID_C, NID_SP, category, range, start, end, of 2, 4, 1, 1, 4 and 4 bytes", by SUBSET-140, Table 7, the
-- temporary constraints of reduced adhesion.
use Rattle.std.specs.Prelude.{ℕ, List, [], ◌∷◌, map, Bool, ltb}
use Rattle.layout.specs.Layout.{Layout, Values, field}
use Rattle.layout.specs.Layout.Content.{free, up_to}
use Rattle.layout.specs.Body.{Body}
use Rattle.layout.specs.Body.Body.{rows}
use Rattle.adhesion.specs.declared.TemporaryConstraint.{TemporaryConstraint}

-- "nor either of them 16,777,215; NID_C ends at 1,023": these are the highest
abbrev pub max_location : ℕ
max_location = 16777215

abbrev pub row_layout : Layout
row_layout =
    field "NID_C" 2 (up_to 1023)
    ∷ field "NID_SP" 4 free
    ∷ field "category" 1 free
    ∷ field "range" 1 free
    ∷ field "start" 4 (up_to max_location)
    ∷ field "end" 4 (up_to max_location)
    ∷ []

abbrev pub constraint_of : Values row_layout → TemporaryConstraint
constraint_of v =
    let (nidc, (nidsp, (category, (range, (start, (end, _)))))) = v in
    record { nidsp = nidsp; start = start; end = end; nidc = nidc; category = category; range = range }

-- "count (0-31)"
abbrev pub max_constraints : ℕ
max_constraints = 31

abbrev pub constraints_body : Body
constraints_body = rows max_constraints row_layout

abbrev pub constraints_of : List (Values row_layout) → List TemporaryConstraint
constraints_of vs = map constraint_of vs

-- "a row whose start exceeds its end"
abbrev pub reversed : TemporaryConstraint → Bool
reversed r = ltb r.end r.start

-- where there is no row
abbrev pub blank_constraint : TemporaryConstraint
blank_constraint = record { nidsp = 0; start = 0; end = 0; nidc = 0; category = 0; range = 0 }
