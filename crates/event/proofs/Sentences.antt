-- The sentences of kind 15.
use Prim.Native.Nat.{ℕ, ◌+◌, ◌*◌, ◌≤◌}
use Rattle.std.specs.Prelude.{if◌then◌else◌}
use mathlib.Core.Path.{◌≡◌, refl, sym, ap, ◌∙◌, subst}
use mathlib.Core.Logic.{◌↔◌}
use mathlib.Core.Bool.{Bool, true, false, not, false≢true}
use mathlib.Core.List.{List, [], ◌∷◌, ◌++◌, append-nil}
use native.Mathlib.Omega.{arith}
use lib.Dec.{eqb, leb, eqb-suc-zero}
use lib.ListN.{length, drop, get_or, length-map, drop_of_length-le}
use borrow.Author.Tests.{eqb-true, eqb-false, eq-eqb, ne_eqb, le-leb}
use Rattle.wire.specs.Numbers.{number, Bytes}
use Rattle.wire.specs.Lists.{All, any}
use Rattle.wire.specs.Judged.{Judged, then_judge, row}
use Rattle.wire.specs.Judged.Judged.{refuse, accept}
use Rattle.wire.proofs.ListLaws.{and_right, tabulate-length}
use Rattle.layout.specs.Body.{BodyValues, body_size, body_at, body_bytes, body_fits}
use Rattle.layout.proofs.BodyLaws.{length-body, body_back, body_again}
use Rattle.adhesion.specs.Constraints.{constraints_body, constraints_of, reversed}
use Rattle.adhesion.specs.View.{constraint_view, constraints_values}
use Rattle.adhesion.specs.Ranges.{InRange, InOrder}
use Rattle.adhesion.specs.declared.TemporaryConstraint.{TemporaryConstraint}
use Rattle.adhesion.proofs.Laws.{remade, values_remade}
use Rattle.adhesion.proofs.Ranges.{rows_fit, rows_in_range, in_order, order_in, one_reversed, any_reversed}
use Rattle.event.specs.Kinds.{Content, kind, kinds, kind_of, event_constraints}
use Rattle.event.specs.Events.{event_of, event_of_kind, event_with, event_rows, content_among}
use Rattle.event.specs.Event.{Event}
use Rattle.event.specs.Sentences.{Sentences, Reversing, bytes_of_rows}
use Rattle.event.proofs.Accepted.{among-gives, event-fits, event-kind, event-straight}
use Rattle.event.proofs.Adhesion.{event_body, same_rows, values_fit, rows-fit}

-- the rows of the place "event", by what they look at
abbrev verdict : Bool → Bool → Bool → Event → Judged Event
verdict a b d e = then_judge (row 1 (not a)) (λ t. then_judge (row 2 (not b)) (λ u. then_judge (row 21 d) (λ w. accept e)))

-- ---- bytes that begin with 15

module _ (rest : List ℕ) where
  abbrev whole : List ℕ
  whole = 15 ∷ rest

  abbrev values : BodyValues constraints_body
  values = body_at constraints_body 1 whole

  abbrev told : List TemporaryConstraint
  told = constraints_of values

  abbrev long : Bool
  long = eqb (length whole) (1 + body_size constraints_body values)

  by_rows : event_of whole ≡ verdict long (body_fits event_body values) (any reversed told) (Event.Adhesion told)
  unfolding event_of event_of_kind content_among event_with event_rows
  by_rows =
      rw (eqb-suc-zero (length rest))
      (ap (λ (v : BodyValues event_body). verdict (eqb (length whole) (1 + body_size event_body v)) (body_fits event_body v) (any reversed (constraints_of v)) (Event.Adhesion (constraints_of v)))
      (same_rows whole))

  -- bytes as long as their count says are those of the rows that stand there
  again : Bytes whole → length whole ≡ 1 + body_size constraints_body values → whole ≡ bytes_of_rows told
  again b n =
      let all : drop (1 + body_size constraints_body values) whole ≡ [] = drop_of_length-le whole {i = 1 + body_size constraints_body values} (omega (arith, n)) in
      let back = body_again constraints_body 1 whole refl b (omega (arith, n)) in
      let bytes : body_bytes constraints_body values ≡ rest = sym (append-nil _) ∙ ap (λ (l : List ℕ). body_bytes constraints_body values ++ l) (sym all) ∙ back in
      ap (λ (l : List ℕ). 15 ∷ l) (sym bytes ∙ ap (body_bytes constraints_body) (sym (values_remade values)))

module _ (count : ℕ) (rest : List ℕ) where
  first : number 1 (count ∷ rest) ≡ count
  unfolding number
  first = omega arith

  size_is : 1 + body_size constraints_body (values (count ∷ rest)) ≡ 2 + 16 * count
  size_is =
      let m : length (values (count ∷ rest)) ≡ number 1 (count ∷ rest) = tabulate-length (number 1 (count ∷ rest)) _ in
      omega (arith, m, first)

  refused-1 : (a b d : Bool) (e : Event) → verdict a b d e ≡ refuse 1 → a ≡ false
  refused-1 false b d e q = refl
  refused-1 true false d e q = let z : ◌≡◌ {A = ℕ} 2 1 = cc in absurd (omega arith)
  refused-1 true true true e q = let z : ◌≡◌ {A = ℕ} 21 1 = cc in absurd (omega arith)
  refused-1 true true false e q = let z : ◌≡◌ {A = ℕ} 0 1 = cc in absurd (omega arith)

  wrong_length : (event_of (15 ∷ count ∷ rest) ≡ refuse 1) ↔ (2 + length rest ≡ 2 + 16 * count → ⊥)
  wrong_length = (there, back)
    where
      there : event_of (15 ∷ count ∷ rest) ≡ refuse 1 → 2 + length rest ≡ 2 + 16 * count → ⊥
      there q n =
          let shorter = refused-1 (long (count ∷ rest)) _ _ _ (sym (by_rows (count ∷ rest)) ∙ q) in
          eqb-false _ _ shorter (omega (arith, n, size_is))

      back : (2 + length rest ≡ 2 + 16 * count → ⊥) → event_of (15 ∷ count ∷ rest) ≡ refuse 1
      back h =
          let other : long (count ∷ rest) ≡ false = ne_eqb _ _ (λ n. h (omega (arith, n, size_is))) in
          by_rows (count ∷ rest) ∙ rw (other) refl

-- ---- rows in their ranges

module _ (rows : List TemporaryConstraint) (few : length rows ≤ 31) (each : All InRange rows) where
  abbrev content : List ℕ
  content = body_bytes constraints_body (constraints_values rows)

  there_fit : body_fits constraints_body (constraints_values rows) ≡ true
  there_fit = rw (le-leb (length (constraints_values rows)) 31 (omega (arith, few, length-map rows constraint_view))) (rows_fit rows each).0

  there : values content ≡ constraints_values rows
  there = body_back constraints_body (constraints_values rows) 1 (whole content) [] refl there_fit (rows_fit rows each).1 (sym (append-nil content))

  told_back : told content ≡ rows
  told_back = ap constraints_of there ∙ remade rows

  -- nothing but a row that is reversed refuses them
  judged_rows : event_of (bytes_of_rows rows) ≡ then_judge (row 21 (any reversed rows)) (λ w. accept (Event.Adhesion rows))
  judged_rows =
      let size : body_size constraints_body (values content) ≡ body_size constraints_body (constraints_values rows) = ap (body_size constraints_body) there in
      let n : length (whole content) ≡ 1 + body_size constraints_body (values content) = omega (arith, size, length-body constraints_body (constraints_values rows)) in
      let f : body_fits event_body (values content) ≡ true
      = ap (body_fits event_body) there ∙ event_fit ∙ there_fit in
      by_rows content ∙ rw (eq-eqb _ _ n, f, told_back) refl
    where
      event_fit : body_fits event_body (constraints_values rows) ≡ body_fits constraints_body (constraints_values rows)
      event_fit = rw (values_fit (constraints_values rows) (rows_fit rows each).1)

-- ---- accepted

module _ (s : List ℕ) (rows : List TemporaryConstraint) (b : Bytes s) (e : event_of s ≡ accept (Event.Adhesion rows)) where
  as_they_stand : s ≡ bytes_of_rows rows
  as_they_stand = begins s b e (event-kind s (Event.Adhesion rows) e)
    where
      accepted : (a f d : Bool) (x y : Event) → verdict a f d x ≡ accept y → (a ≡ true) × (x ≡ y)
      accepted true true false x y q = (refl, cc)
      accepted true true true x y q = let z : ◌≡◌ {A = ℕ} 0 1 = cc in absurd (omega arith)
      accepted true false d x y q = let z : ◌≡◌ {A = ℕ} 0 1 = cc in absurd (omega arith)
      accepted false f d x y q = let z : ◌≡◌ {A = ℕ} 0 1 = cc in absurd (omega arith)

      same : (l m : List TemporaryConstraint) → Event.Adhesion l ≡ Event.Adhesion m → l ≡ m
      same l m q = cc

      begins : (s : List ℕ) → Bytes s → event_of s ≡ accept (Event.Adhesion rows) → 15 ≡ get_or s 0 0 → s ≡ bytes_of_rows rows
      begins [] b e k = absurd (omega (arith, k))
      begins (k ∷ rest) b e q =
          let whole_is : k ∷ rest ≡ whole rest = ap (λ (n : ℕ). n ∷ rest) (sym q) in
          let a = accepted _ _ _ _ _ (sym (by_rows rest) ∙ ap event_of (sym whole_is) ∙ e) in
          whole_is ∙ again rest (subst Bytes whole_is b) (eqb-true _ _ a.0) ∙ ap bytes_of_rows (same _ _ a.1)

  in_ranges : (length rows ≤ 31) × All InRange rows × All InOrder rows
  in_ranges =
      let r = rows-fit rows (event-fits s (Event.Adhesion rows) e) in
      (r.few, rows_in_range rows (and_right (leb (length (constraints_values rows)) 31) _ r.fit) r.typed, order_in rows (event-straight s (Event.Adhesion rows) e))

-- ---- 21

-- kind 15 alone has rows
has_rows : (e : Event) → any reversed (event_constraints e) ≡ true → kind_of e ≡ 15
has_rows (Event.Adhesion rs) q = refl
has_rows Event.PowerOn q = absurd (false≢true q)
has_rows Event.Configured q = absurd (false≢true q)
has_rows Event.PowerOff q = absurd (false≢true q)
has_rows Event.Fault q = absurd (false≢true q)
has_rows (Event.Reports n) q = absurd (false≢true q)
has_rows (Event.Mode n) q = absurd (false≢true q)
has_rows (Event.Lever n) q = absurd (false≢true q)
has_rows Event.Press q = absurd (false≢true q)
has_rows (Event.PositionReport x) q = absurd (false≢true q)
has_rows (Event.Length n) q = absurd (false≢true q)
has_rows Event.Load q = absurd (false≢true q)
has_rows (Event.Skip t) q = absurd (false≢true q)
has_rows (Event.Revoke t) q = absurd (false≢true q)
has_rows (Event.Traction x) q = absurd (false≢true q)

refused-21 : (a b d : Bool) (e : Event) → verdict a b d e ≡ refuse 21 → (a ≡ true) × (b ≡ true) × (d ≡ true)
refused-21 true true true e q = (refl, refl, refl)
refused-21 true true false e q = let z : ◌≡◌ {A = ℕ} 0 1 = cc in absurd (omega arith)
refused-21 true false d e q = let z : ◌≡◌ {A = ℕ} 2 21 = cc in absurd (omega arith)
refused-21 false b d e q = let z : ◌≡◌ {A = ℕ} 1 21 = cc in absurd (omega arith)

not_among : (es : List Event) (k n : ℕ) → content_among es k ≡ refuse n → n ≡ 1
unfolding content_among
not_among [] k n q = let z : 1 ≡ n = cc in sym z
not_among (e ∷ es) k n q = go (eqb k (kind e).number) q (not_among es k n)
  where
    go : (b : Bool) → (if b then accept (kind e).content else content_among es k) ≡ refuse n → (content_among es k ≡ refuse n → n ≡ 1) → n ≡ 1
    go true q ih = let z : ◌≡◌ {A = ℕ} 0 1 = cc in absurd (omega arith)
    go false q ih = ih q

kind-15 : (k : ℕ) (rest : List ℕ) → event_of (k ∷ rest) ≡ refuse 21 → k ≡ 15
unfolding event_of event_of_kind event_with event_rows
kind-15 k rest e = go (content_among kinds k) refl (sym (rw (eqb-suc-zero (length rest)) refl) ∙ e)
  where
    go : (j : Judged Content) → content_among kinds k ≡ j → then_judge j (λ c. event_with c (k ∷ rest)) ≡ refuse 21 → k ≡ 15
    go (refuse n) f q = let z : n ≡ 21 = cc in absurd (omega (arith, z, not_among kinds k n f))
    go (accept c) f q =
        let v = body_at c.body 1 (k ∷ rest) in
        let r = refused-21 (eqb (length (k ∷ rest)) (1 + body_size c.body v)) (body_fits c.body v) (any reversed (event_constraints (c.event v))) (c.event v) q in
        sym (among-gives kinds k c f v r.1).1 ∙ has_rows (c.event v) r.2

none_empty : event_of [] ≡ refuse 21 → ⊥
unfolding event_of
none_empty e = let z : ◌≡◌ {A = ℕ} 1 21 = cc in absurd (omega arith)

twenty_one : (s : List ℕ) → Bytes s → (event_of s ≡ refuse 21) ↔ Reversing s
twenty_one s b = (there s b, back)
  where
    there : (s : List ℕ) → Bytes s → event_of s ≡ refuse 21 → Reversing s
    there [] b e = absurd (none_empty e)
    there (k ∷ rest) b e =
        let whole_is : k ∷ rest ≡ whole rest = ap (λ (n : ℕ). n ∷ rest) (kind-15 k rest e) in
        let r = refused-21 _ _ _ _ (sym (by_rows rest) ∙ ap event_of (sym whole_is) ∙ e) in
        let f = rows-fit (told rest) (values rest, r.1, refl) in
        record {
          rows = told rest;
          told = whole_is ∙ again rest (subst Bytes whole_is b) (eqb-true _ _ r.0);
          few = f.few;
          in_range = rows_in_range (told rest) (and_right (leb (length (constraints_values (told rest))) 31) _ f.fit) f.typed;
          reversed = one_reversed (told rest) r.2;
        }

    back : Reversing s → event_of s ≡ refuse 21
    back r = ap event_of r.told ∙ judged_rows r.rows r.few r.in_range ∙ rw (any_reversed r.rows r.reversed) refl

pub sentences : Sentences
sentences = record {
  one = wrong_length;
  any_count = λ rows few each straight. judged_rows rows few each ∙ rw (in_order rows straight) refl;
  no_others = λ s rows b e. let r = in_ranges s rows b e in (as_they_stand s rows b e, r.0, r.1, r.2);
  twenty_one = twenty_one;
}
