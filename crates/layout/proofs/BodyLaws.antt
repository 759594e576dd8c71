-- Over every body: its size, and that reading and writing undo each other, for rows by induction over them, whatever their count.
use Prim.Native.Nat.{ℕ, zero, suc, ◌+◌, ◌*◌, ◌<◌, ◌≤◌}
use mathlib.Core.Path.{◌≡◌, refl, sym, ap, ◌∙◌}
use mathlib.Core.List.{List, [], ◌∷◌, ◌++◌, append_assoc}
use mathlib.Core.Bool.{Bool, true, ◌&&◌}
use native.Mathlib.Omega.{arith}
use lib.ListN.{length, drop, length-append}
use lib.Seq.{drop-drop, drop_at}
use lib.Dec.{leb, ltb}
use borrow.Author.Tests.{leb-true, ltb-true}
use Rattle.std.specs.Prelude.{flat_map}
use Rattle.wire.specs.Numbers.{number, bytes_of, Bytes}
use Rattle.wire.specs.Lists.{All, tabulate, every}
use Rattle.wire.proofs.NumberLaws.{length-bytes_of, number-bytes_of, reread}
use Rattle.wire.proofs.ListLaws.{and_left, and_right, tabulate-length}
use Rattle.layout.specs.Layout.{Layout, Values, bytes, size, values_at, fits}
use Rattle.layout.specs.Body.{Body, BodyValues, body_bytes, body_size, body_at, body_fits}
use Rattle.layout.specs.Body.Body.{fields, rows}
use Rattle.layout.proofs.LayoutLaws.{length-bytes, values_from, sound, Typed, read-written, written_read, read_typed}

-- ---- one row behind the other

module _ (l : Layout) where
  abbrev pub row_at : ℕ → List ℕ → ℕ → Values l
  row_at k s i = values_at l (k + i * size l) s

  pub length-rows : (vs : List (Values l)) → length (flat_map (bytes l) vs) ≡ length vs * size l
  length-rows [] = omega arith
  length-rows (v ∷ vs) = length-append (bytes l v) (flat_map (bytes l) vs) ∙ omega (arith, length-bytes l v, length-rows vs)

  -- the rows behind the first are those from its end on
  rows_behind : (n k : ℕ) (s : List ℕ) → tabulate n (λ i. row_at k s (suc i)) ≡ tabulate n (row_at (k + size l) s)
  rows_behind n k s =
      let e : (i : ℕ) → k + suc i * size l ≡ k + size l + i * size l = λ i. omega arith in
      λ x. tabulate n (λ i. values_at l (e i x) s)

  first_row : (k : ℕ) → k + 0 * size l ≡ k
  first_row k = omega arith

  -- rows that were written are read, whatever stands before and behind them
  pub rows_back : (vs : List (Values l)) (k : ℕ) (s rest : List ℕ) → sound l ≡ true → every (fits l) vs ≡ true → All (Typed l) vs
      → drop k s ≡ flat_map (bytes l) vs ++ rest → tabulate (length vs) (row_at k s) ≡ vs
  rows_back [] k s rest o e t d = refl
  rows_back (v ∷ vs) k s rest o e t d =
      let d' : drop k s ≡ bytes l v ++ (flat_map (bytes l) vs ++ rest) = d ∙ append_assoc (bytes l v) (flat_map (bytes l) vs) rest in
      let first : row_at k s 0 ≡ v = ap (λ (n : ℕ). values_at l n s) (first_row k) ∙ read-written l v k s _ o (and_left (fits l v) _ e) t.0 d' in
      let behind : drop (k + size l) s ≡ flat_map (bytes l) vs ++ rest = sym (drop-drop (size l) k s) ∙ ap (drop (size l)) d' ∙ drop_at (bytes l v) _ (size l) (length-bytes l v) in
      let others = rows_behind (length vs) k s ∙ rows_back vs (k + size l) s rest o (and_right (fits l v) _ e) t.1 behind in
      λ i. first i ∷ others i

  -- rows that were read are written to their bytes
  pub rows_again : (n k : ℕ) (s : List ℕ) → sound l ≡ true → Bytes s → k + n * size l ≤ length s
      → flat_map (bytes l) (tabulate n (row_at k s)) ++ drop (k + n * size l) s ≡ drop k s
  rows_again zero k s o b h = rw (first_row k)
  rows_again (suc n) k s o b h =
      let e : k + suc n * size l ≡ k + size l + n * size l = omega arith in
      rw (append_assoc, first_row k, rows_behind n k s, e, rows_again n (k + size l) s o b (omega arith)) (written_read l k s o b (omega arith))

  pub rows_typed : (n k : ℕ) (s : List ℕ) → Bytes s → All (Typed l) (tabulate n (row_at k s))
  rows_typed zero k s b = tt
  rows_typed (suc n) k s b = (read_typed l (k + 0 * size l) s b, rw (rows_behind n k s) (rows_typed n (k + size l) s b))

-- ---- a body

pub length-body : (b : Body) (v : BodyValues b) → length (body_bytes b v) ≡ body_size b v
length-body (fields l) v = length-bytes l v
length-body (rows most l) vs = length-append (bytes_of 1 (length vs)) _ ∙ omega (arith, length-bytes_of 1 (length vs), length-rows l vs)

-- one that can hold its ranges and its count
abbrev pub body_sound : Body → Bool
body_sound (fields l) = sound l
body_sound (rows most l) = sound l && ltb most 256

abbrev pub BodyTyped : (b : Body) → BodyValues b → Type 0
BodyTyped (fields l) v = Typed l v
BodyTyped (rows most l) vs = All (Typed l) vs

-- the count of rows that were written is read
count_back : (most : ℕ) (l : Layout) (vs : List (Values l)) (k : ℕ) (s rest : List ℕ) → body_sound (rows most l) ≡ true → body_fits (rows most l) vs ≡ true
    → drop k s ≡ body_bytes (rows most l) vs ++ rest → number 1 (drop k s) ≡ length vs
count_back most l vs k s rest o e d =
    let n = length vs in
    let few : n ≤ most = leb-true _ _ (and_left (leb n most) _ e) in
    let room : most < 256 = ltb-true _ _ (and_right (sound l) _ o) in
    ap (number 1) (d ∙ append_assoc (bytes_of 1 n) _ rest) ∙ number-bytes_of 1 n _ (omega arith)

-- bytes that were written tell their size, whatever stands behind them
pub size_told : (b : Body) (v : BodyValues b) (k : ℕ) (s rest : List ℕ) → body_sound b ≡ true → body_fits b v ≡ true → drop k s ≡ body_bytes b v ++ rest
    → body_size b (body_at b k s) ≡ body_size b v
size_told (fields l) v k s rest o e d = refl
size_told (rows most l) vs k s rest o e d =
    let n : length (tabulate (number 1 (drop k s)) (λ i. values_at l (k + 1 + i * size l) s)) ≡ length vs
    = tabulate-length (number 1 (drop k s)) _ ∙ count_back most l vs k s rest o e d in
    rw n

pub body_back : (b : Body) (v : BodyValues b) (k : ℕ) (s rest : List ℕ) → body_sound b ≡ true → body_fits b v ≡ true → BodyTyped b v
    → drop k s ≡ body_bytes b v ++ rest → body_at b k s ≡ v
body_back (fields l) v k s rest o e t d = read-written l v k s rest o e t d
body_back (rows most l) vs k s rest o e t d =
    let n = length vs in
    let d' : drop k s ≡ bytes_of 1 n ++ (flat_map (bytes l) vs ++ rest) = d ∙ append_assoc (bytes_of 1 n) _ rest in
    let behind : drop (k + 1) s ≡ flat_map (bytes l) vs ++ rest = sym (drop-drop 1 k s) ∙ ap (drop 1) d' ∙ drop_at (bytes_of 1 n) _ 1 (length-bytes_of 1 n) in
    rw (count_back most l vs k s rest o e d) (rows_back l vs (k + 1) s rest (and_left (sound l) _ o) (and_right (leb n most) _ e) t behind)

pub body_again : (b : Body) (k : ℕ) (s : List ℕ) → body_sound b ≡ true → Bytes s → k + body_size b (body_at b k s) ≤ length s
    → body_bytes b (body_at b k s) ++ drop (k + body_size b (body_at b k s)) s ≡ drop k s
body_again (fields l) k s o b h = written_read l k s o b h
body_again (rows most l) k s o b h =
    let n = number 1 (drop k s) in
    let m : length (tabulate n (λ i. values_at l (k + 1 + i * size l) s)) ≡ n = tabulate-length n _ in
    let e : k + (1 + n * size l) ≡ k + 1 + n * size l = omega arith in
    let h' : k + (1 + n * size l) ≤ length s = rw m at h in
    rw (m, append_assoc, e, rows_again l n (k + 1) s (and_left (sound l) _ o) b (omega arith)) (reread 1 k s b (omega arith))

pub body_typed : (b : Body) (k : ℕ) (s : List ℕ) → Bytes s → BodyTyped b (body_at b k s)
body_typed (fields l) k s b = read_typed l k s b
body_typed (rows most l) k s b = rows_typed l (number 1 (drop k s)) (k + 1) s b

-- ---- from a position on

pub body_from : (b : Body) (k : ℕ) (s : List ℕ) → body_at b 0 (drop k s) ≡ body_at b k s
body_from (fields l) k s = values_from l k s
body_from (rows most l) k s = λ x. tabulate (number 1 (drop k s)) (λ i. row i x)
  where
    row : (i : ℕ) → values_at l (0 + 1 + i * size l) (drop k s) ≡ values_at l (k + 1 + i * size l) s
    row i =
        let j = 0 + 1 + i * size l in
        let e : k + j ≡ k + 1 + i * size l = omega arith in
        sym (values_from l j (drop k s)) ∙ ap (values_at l 0) (drop-drop j k s) ∙ values_from l (k + j) s ∙ ap (λ (m : ℕ). values_at l m s) e
