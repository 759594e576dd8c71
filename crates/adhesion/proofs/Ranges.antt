-- The ranges in words, and as the definitions test them.
use Prim.Native.Nat.{ℕ, zero, suc, ◌<◌}
use mathlib.Core.Path.{◌≡◌, refl, sym}
use mathlib.Core.Bool.{Bool, true, false, ◌||◌, false≢true}
use mathlib.Core.List.{List, [], ◌∷◌}
use native.Mathlib.Omega.{arith}
use lib.Dec.{leb}
use lib.ListN.{length, get_or}
use borrow.Author.Tests.{le-leb, le-ltb, lt-ltb, leb-true, ltb-true, ltb-false}
use Rattle.wire.specs.Lists.{All, every, any}
use Rattle.wire.proofs.ListLaws.{and_left, and_right}
use Rattle.layout.specs.Layout.{fits}
use Rattle.layout.proofs.LayoutLaws.{Typed}
use Rattle.adhesion.specs.Constraints.{row_layout, reversed, blank_constraint}
use Rattle.adhesion.specs.View.{constraint_view, constraints_values}
use Rattle.adhesion.specs.Ranges.{InRange, InOrder, OneReversed}
use Rattle.adhesion.specs.declared.TemporaryConstraint.{TemporaryConstraint}

-- ---- the ranges

-- rows that fit, with their free values within their bytes
abbrev pub Fitting : List TemporaryConstraint → Type 0
Fitting rows = (every (fits row_layout) (constraints_values rows) ≡ true) × All (Typed row_layout) (constraints_values rows)

row_fits : (r : TemporaryConstraint) → InRange r → (fits row_layout (constraint_view r) ≡ true) × Typed row_layout (constraint_view r)
row_fits r h = (
  rw (le-leb r.nidc 1023 h.nidc, le-leb r.start 16777215 h.start, le-leb r.end 16777215 h.end) refl,
  (tt, (h.nidsp, (h.category, (h.range, (tt, (tt, tt)))))),
)

pub rows_fit : (rows : List TemporaryConstraint) → All InRange rows → Fitting rows
rows_fit [] h = (refl, tt)
rows_fit (r ∷ rows) h =
    let a = row_fits r h.0 in
    let b = rows_fit rows h.1 in
    (rw (a.0) b.0, (a.1, b.1))

row_in_range : (r : TemporaryConstraint) → fits row_layout (constraint_view r) ≡ true → Typed row_layout (constraint_view r) → InRange r
row_in_range r f t =
    let behind = and_right (leb r.nidc 1023) _ f in
    record {
      nidc = leb-true _ _ (and_left (leb r.nidc 1023) _ f);
      nidsp = t.1.0;
      category = t.1.1.0;
      range = t.1.1.1.0;
      start = leb-true _ _ (and_left (leb r.start 16777215) _ behind);
      end = leb-true _ _ (and_left (leb r.end 16777215) _ (and_right (leb r.start 16777215) _ behind));
    }

pub rows_in_range : (rows : List TemporaryConstraint) → every (fits row_layout) (constraints_values rows) ≡ true
    → All (Typed row_layout) (constraints_values rows) → All InRange rows
rows_in_range [] f t = tt
rows_in_range (r ∷ rows) f t =
    let one = fits row_layout (constraint_view r) in
    (row_in_range r (and_left one _ f) t.0, rows_in_range rows (and_right one _ f) t.1)

-- ---- start and end

pub in_order : (rows : List TemporaryConstraint) → All InOrder rows → any reversed rows ≡ false
in_order [] h = refl
in_order (r ∷ rows) h = rw (le-ltb r.end r.start h.0) (in_order rows h.1)

pub order_in : (rows : List TemporaryConstraint) → any reversed rows ≡ false → All InOrder rows
order_in [] d = tt
order_in (r ∷ rows) d =
    let neither = go (reversed r) refl d in
    (ltb-false r.end r.start neither.0, order_in rows neither.1)
  where
    go : (b : Bool) → reversed r ≡ b → (b || any reversed rows) ≡ false → (reversed r ≡ false) × (any reversed rows ≡ false)
    go true q e = absurd (false≢true (sym e))
    go false q e = (q, e)

pub one_reversed : (rows : List TemporaryConstraint) → any reversed rows ≡ true → OneReversed rows
one_reversed [] d = absurd (false≢true d)
one_reversed (r ∷ rows) d = go (reversed r) refl d (one_reversed rows)
  where
    go : (b : Bool) → reversed r ≡ b → (b || any reversed rows) ≡ true → (any reversed rows ≡ true → OneReversed rows) → OneReversed (r ∷ rows)
    go true q e ih = record { index = 0; one_of_them = omega arith; beyond = ltb-true r.end r.start q }
    go false q e ih = let o = ih e in record { index = suc o.index; one_of_them = omega (arith, o.one_of_them); beyond = o.beyond }

pub any_reversed : (rows : List TemporaryConstraint) → OneReversed rows → any reversed rows ≡ true
any_reversed rows o = at rows o.index o.one_of_them o.beyond
  where
    at : (rows : List TemporaryConstraint) (k : ℕ) → k < length rows → (get_or rows k blank_constraint).end < (get_or rows k blank_constraint).start
        → any reversed rows ≡ true
    at [] k h b = absurd (omega (arith, h))
    at (r ∷ rows) zero h b = rw (lt-ltb r.end r.start b) refl
    at (r ∷ rows) (suc k) h b = rw (at rows k (omega (arith, h)) b) (or_true (reversed r))
      where
        or_true : (b : Bool) → (b || true) ≡ true
        or_true true = refl
        or_true false = refl
