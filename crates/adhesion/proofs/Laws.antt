-- Rows from a position on.
use Prim.Native.Nat.{ℕ, ◌+◌, ◌*◌, ◌<◌, ◌≤◌}
use mathlib.Core.Path.{◌≡◌, refl, sym, ap, ◌∙◌}
use mathlib.Core.List.{List, [], ◌∷◌, map}
use lib.ListN.{length, drop, get_or, length-map, get_or-eq_default}
use native.Mathlib.Omega.{arith}
use lib.Seq.{sets}
use Rattle.std.specs.Prelude.{flat_map}
use Rattle.std.proofs.lemmas.List.{get_or-map, drop_more}
use Rattle.wire.specs.Numbers.{number, bytes_of}
use Rattle.wire.specs.Lists.{every, any}
use Rattle.std.specs.List.{range_with_len}
use Rattle.std.proofs.lemmas.List.FromFn.{fill_by_all}
use Rattle.std.proofs.lemmas.List.Folds.{list_all-map}
use mathlib.Core.Bool.{Bool, ◌||◌}
use Rattle.wire.proofs.ListLaws.{tabulate-length, tabulate-at}
use Rattle.std.specs.Borrow.{Bor}
use Rattle.std.specs.Prelude.{Option}
use Rattle.std.specs.Option.{UnwrapsOrElse}
use Rattle.std.specs.Slice.{IsGetRangeResult}
use Rattle.wire.proofs.NumberLaws.{rest_from, length-bytes_of, sets_more}
use Rattle.layout.specs.Layout.{Values, bytes, values_at, fits}
use Rattle.layout.specs.Body.{body_bytes, body_at}
use Rattle.layout.proofs.LayoutLaws.{length-bytes, values_from}
use Rattle.layout.proofs.BodyLaws.{body_from}
use Rattle.adhesion.specs.Constraints.{row_layout, constraint_of, constraints_body, constraints_of, blank_constraint}
use Rattle.adhesion.specs.View.{constraint_view, constraints_values}
use Rattle.adhesion.specs.declared.TemporaryConstraint.{TemporaryConstraint}

module _ (at : ℕ) (s : List ℕ) (r : Option (Bor (List ℕ))) (rest : Bor (List ℕ)) (h : IsGetRangeResult s at (length s) r) (e : UnwrapsOrElse r (λ x. x.now ≡ []) rest) where
  pub row_from : constraint_of (values_at row_layout 0 rest.now) ≡ constraint_of (values_at row_layout at s)
  row_from = rw (rest_from s at r rest h e) (ap constraint_of (values_from row_layout at s))

  pub rows_from : constraints_of (body_at constraints_body 0 rest.now) ≡ constraints_of (body_at constraints_body at s)
  rows_from = rw (rest_from s at r rest h e) (ap constraints_of (body_from constraints_body at s))

-- ---- the rows of lent bytes

module _ (s : List ℕ) where
  abbrev pub in_bytes : List TemporaryConstraint
  in_bytes = constraints_of (body_at constraints_body 0 s)

  pub count_is : number 1 s ≡ length in_bytes
  count_is = sym (length-map _ constraint_of ∙ tabulate-length (number 1 s) _)

  pub row_is : (k : ℕ) → k < length in_bytes → constraint_of (values_at row_layout (1 + 16 * k) s) ≡ get_or in_bytes k blank_constraint
  row_is k h =
      let n : k < number 1 s = omega (arith, count_is) in
      let m : length (body_at constraints_body 0 s) ≡ number 1 s = tabulate-length (number 1 s) _ in
      let e : 1 + 16 * k ≡ 0 + 1 + k * 16 = omega arith in
      ap (λ (p : ℕ). constraint_of (values_at row_layout p s)) e
      ∙ ap constraint_of (sym (tabulate-at (number 1 s) (λ i. values_at row_layout (0 + 1 + i * 16) s) k (constraint_view blank_constraint) n))
      ∙ sym (get_or-map constraint_of (body_at constraints_body 0 s) k (constraint_view blank_constraint) blank_constraint (omega arith))

  pub no_row : (k : ℕ) → length in_bytes ≤ k → blank_constraint ≡ get_or in_bytes k blank_constraint
  no_row k h = sym (get_or-eq_default in_bytes blank_constraint h)

-- ---- a test of each row, by its index

module _ {A : Type 0} (d : A) (l : List A) (test : A → Bool) where
  indexed : map (λ k. get_or l k d) (range_with_len 0 (length l)) ≡ l
  indexed = sym (fill_by_all (λ k. get_or l k d) l (length l) d refl (λ k h. refl))

  pub all_indexed : every (λ k. test (get_or l k d)) (range_with_len 0 (length l)) ≡ every test l
  all_indexed = sym (list_all-map test (λ k. get_or l k d) (range_with_len 0 (length l))) ∙ ap (every test) indexed

  any-map : (ks : List ℕ) → any test (map (λ k. get_or l k d) ks) ≡ any (λ k. test (get_or l k d)) ks
  any-map [] = refl
  any-map (k ∷ ks) = ap (λ b. test (get_or l k d) || b) (any-map ks)

  pub any_indexed : any (λ k. test (get_or l k d)) (range_with_len 0 (length l)) ≡ any test l
  any_indexed = sym (any-map (range_with_len 0 (length l))) ∙ ap (any test) indexed

pub all_fit : (rows : List TemporaryConstraint)
    → every (λ k. fits row_layout (constraint_view (get_or rows k blank_constraint))) (range_with_len 0 (length rows)) ≡ every (fits row_layout) (constraints_values rows)
all_fit rows = all_indexed blank_constraint rows (λ r. fits row_layout (constraint_view r)) ∙ sym (list_all-map (fits row_layout) constraint_view rows)

-- ---- rows and their values

pub remade : (rows : List TemporaryConstraint) → constraints_of (constraints_values rows) ≡ rows
remade [] = refl
remade (r ∷ rows) = ap (λ (l : List TemporaryConstraint). r ∷ l) (remade rows)

pub values_remade : (vs : List (Values row_layout)) → constraints_values (constraints_of vs) ≡ vs
values_remade [] = refl
values_remade (v ∷ vs) = ap (λ (l : List (Values row_layout)). v ∷ l) (values_remade vs)

-- ---- rows put one behind the other

module _ (rows : List TemporaryConstraint) (at : ℕ) where
  abbrev row_bytes : List (Values row_layout) → List ℕ
  row_bytes vs = flat_map (bytes row_layout) vs

  -- behind the count
  pub put_first : (l m : List ℕ) (n : ℕ) → m ≡ sets l at (bytes_of 1 n) → n ≡ length rows
      → sets m (at + 1 + 16 * 0) (flat_map (bytes row_layout) (constraints_values rows)) ≡ sets l at (body_bytes constraints_body (constraints_values rows))
  put_first l m n e c =
      let count : List ℕ = bytes_of 1 (length (constraints_values rows)) in
      let same : n ≡ length (constraints_values rows) = omega (arith, length-map rows constraint_view) in
      let behind : at + 1 + 16 * 0 ≡ at + length count = omega (arith, length-bytes_of 1 (length (constraints_values rows))) in
      ap (λ (m : List ℕ). sets m (at + 1 + 16 * 0) (row_bytes (constraints_values rows))) (e ∙ ap (λ (n : ℕ). sets l at (bytes_of 1 n)) same)
      ∙ ap (λ (p : ℕ). sets (sets l at count) p (row_bytes (constraints_values rows))) behind
      ∙ sets_more count (row_bytes (constraints_values rows)) l at

  -- row k, and those behind it
  pub put_next : (k : ℕ) → k < length rows → (l m : List ℕ) → m ≡ sets l (at + 1 + 16 * k) (bytes row_layout (constraint_view (get_or rows k blank_constraint)))
      → sets m (at + 1 + 16 * (k + 1)) (flat_map (bytes row_layout) (drop (k + 1) (constraints_values rows)))
      ≡ sets l (at + 1 + 16 * k) (flat_map (bytes row_layout) (drop k (constraints_values rows)))
  put_next k h l m e =
      let row : Values row_layout = constraint_view (get_or rows k blank_constraint) in
      let rest = drop (k + 1) (constraints_values rows) in
      let one : get_or (constraints_values rows) k row ≡ row = get_or-map constraint_view rows k blank_constraint row h in
      let first : drop k (constraints_values rows) ≡ row ∷ rest
      = drop_more (constraints_values rows) k row (omega (arith, length-map rows constraint_view)) ∙ ap (λ (v : Values row_layout). v ∷ rest) one in
      let behind : at + 1 + 16 * (k + 1) ≡ at + 1 + 16 * k + length (bytes row_layout row) = omega (arith, length-bytes row_layout row) in
      ap (λ (m : List ℕ). sets m (at + 1 + 16 * (k + 1)) (row_bytes rest)) e
      ∙ ap (λ (p : ℕ). sets (sets l (at + 1 + 16 * k) (bytes row_layout row)) p (row_bytes rest)) behind
      ∙ sets_more (bytes row_layout row) (row_bytes rest) l (at + 1 + 16 * k)
      ∙ ap (λ (vs : List (Values row_layout)). sets l (at + 1 + 16 * k) (row_bytes vs)) (sym first)
