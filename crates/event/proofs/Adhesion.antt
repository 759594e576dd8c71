-- The rows of an event of kind 15 as packet 64 has them: a row that is read from bytes fits its free fields, and one that fits the event fits the packet.
use Prim.Native.Nat.{ℕ, ◌≤◌}
use mathlib.Core.Path.{◌≡◌, refl, sym, ap, ◌∙◌, subst}
use mathlib.Core.Bool.{true}
use mathlib.Core.List.{List, [], ◌∷◌}
use native.Mathlib.Omega.{arith}
use lib.ListN.{length, length-map}
use lib.Dec.{leb}
use borrow.Author.Tests.{le-leb, leb-true}
use Rattle.wire.proofs.ListLaws.{and_left, and_right}
use Rattle.wire.specs.Numbers.{Bytes}
use Rattle.wire.specs.Lists.{All, every}
use Rattle.layout.specs.Layout.{Values, fits, to_highest, values_at}
use Rattle.layout.specs.Body.{Body, body_at, body_fits}
use Rattle.layout.specs.Body.Body.{rows}
use Rattle.layout.proofs.LayoutLaws.{Typed}
use Rattle.layout.proofs.BodyLaws.{body_typed}
use Rattle.adhesion.specs.Constraints.{row_layout, constraints_body, max_constraints, constraints_of}
use Rattle.adhesion.specs.View.{constraint_view, constraints_values}
use Rattle.adhesion.specs.declared.TemporaryConstraint.{TemporaryConstraint}
use Rattle.adhesion.proofs.Laws.{values_remade}
use Rattle.event.specs.Event.{Event}
use Rattle.event.proofs.Accepted.{Fits}

-- the body of kind 15
abbrev pub event_body : Body
event_body = rows max_constraints (to_highest row_layout)

pub same_rows : (s : List ℕ) → body_at event_body 1 s ≡ body_at constraints_body 1 s
unfolding values_at
same_rows s = refl

row_fits : (v : Values row_layout) → Typed row_layout v → fits (to_highest row_layout) v ≡ fits row_layout v
row_fits v t =
    let (nidc, (nidsp, (category, (range, _)))) = v in
    rw (le-leb nidsp 4294967295 (omega (arith, t.1.0)), le-leb category 255 (omega (arith, t.1.1.0)), le-leb range 255 (omega (arith, t.1.1.1.0))) refl

pub values_fit : (vs : List (Values row_layout)) → All (Typed row_layout) vs → every (fits (to_highest row_layout)) vs ≡ every (fits row_layout) vs
values_fit [] t = refl
values_fit (v ∷ vs) t = rw (row_fits v t.0, values_fit vs t.1)

pub same_fit : (s : List ℕ) → Bytes s → body_fits event_body (body_at constraints_body 1 s) ≡ body_fits constraints_body (body_at constraints_body 1 s)
same_fit s b = rw (values_fit (body_at constraints_body 1 s) (body_typed constraints_body 1 s b))

-- ---- an accepted event's rows

row_fit : (v : Values row_layout) → fits (to_highest row_layout) v ≡ true → (fits row_layout v ≡ true) × Typed row_layout v
row_fit v h =
    let (nidc, (nidsp, (category, (range, (start, (end, _)))))) = v in
    let behind-nidc = and_right (leb nidc 1023) _ h in
    let behind-nidsp = and_right (leb nidsp 4294967295) _ behind-nidc in
    let behind-category = and_right (leb category 255) _ behind-nidsp in
    let nidsp-most : nidsp ≤ 4294967295 = leb-true _ _ (and_left (leb nidsp 4294967295) _ behind-nidc) in
    let category-most : category ≤ 255 = leb-true _ _ (and_left (leb category 255) _ behind-nidsp) in
    let range-most : range ≤ 255 = leb-true _ _ (and_left (leb range 255) _ behind-category) in
    let typed : Typed row_layout v = (tt, (omega arith, (omega arith, (omega arith, (tt, (tt, tt)))))) in
    (sym (row_fits v typed) ∙ h, typed)

all_fit : (vs : List (Values row_layout)) → every (fits (to_highest row_layout)) vs ≡ true → (every (fits row_layout) vs ≡ true) × All (Typed row_layout) vs
all_fit [] h = (refl, tt)
all_fit (v ∷ vs) h =
    let a = row_fit v (and_left (fits (to_highest row_layout) v) _ h) in
    let b = all_fit vs (and_right (fits (to_highest row_layout) v) _ h) in
    (rw (a.0) b.0, (a.1, b.1))

pub record RowsFit (rs : List TemporaryConstraint) : Type 0 where
  pub few : length rs ≤ 31
  pub fit : body_fits constraints_body (constraints_values rs) ≡ true
  pub typed : All (Typed row_layout) (constraints_values rs)

pub rows-fit : (rs : List TemporaryConstraint) → Fits (Event.Adhesion rs) → RowsFit rs
rows-fit rs f =
    let vs = f.0 in
    let same : constraints_of vs ≡ rs = cc f.2 in
    let values : vs ≡ constraints_values rs = sym (values_remade vs) ∙ ap constraints_values same in
    let count = and_left (leb (length vs) 31) _ f.1 in
    let each = all_fit vs (and_right (leb (length vs) 31) _ f.1) in
    let n : length vs ≡ length rs = ap length values ∙ length-map rs constraint_view in
    let few : length vs ≤ 31 = leb-true _ _ count in
    record {
      few = omega arith;
      fit = ap (body_fits constraints_body) (sym values) ∙ rw (count, each.0);
      typed = subst (All (Typed row_layout)) values each.1;
    }
