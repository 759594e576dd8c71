-- The sentences of document 02, Q-6.
use Prim.Native.Nat.{ℕ, ◌<◌, ◌≤◌, min}
use mathlib.Core.Path.{◌≡◌, refl, sym, ap, ◌∙◌}
use mathlib.Core.Logic.{◌↔◌, ◌⊎◌, inl, inr}
use mathlib.Core.List.{List, [], ◌∷◌, map}
use mathlib.Core.Bool.{Bool, true, false, not, ◌&&◌, false≢true}
use native.Mathlib.Omega.{arith}
use lib.ListN.{length, take, length-take, length-map}
use lib.Dec.{eqb}
use Rattle.std.specs.Prelude.{if◌then◌else◌, Option, Some, None, option_map}
use Rattle.std.specs.List.{filter_map}
use Rattle.std.proofs.lemmas.List.{get_or-take, get_or-map, ext_get_or}
use Rattle.wire.specs.Lists.{any}
use Rattle.wire.proofs.ListLaws.{and_left, tabulate-at, tabulate-length}
use Rattle.engine_value.specs.Engine.{Route, blank_point}
use Rattle.engine_value.specs.declared.Point.{Point}
use Rattle.engine_value.proofs.Filled.{filled_length, filled_take}
use Rattle.segment_record.specs.Record.{BookSegment}
use Rattle.journey.specs.Journey.{JourneyValue}
use Rattle.journey.specs.declared.JourneyPoint.{JourneyPoint}
use Rattle.book.proofs.Pairs.{any_map, some_at, and_both, equal}
use Rattle.book.specs.Sentences.{One}
use Rattle.route.specs.Placing.{point_of, point_at, points_of}
use Rattle.route.specs.Route.{route_of}
use Rattle.position.specs.Position.{point, point_count, indices}
use Rattle.trackside.specs.Trackside.{Mark, mark, gained, lost, status_told, mark_of, marks, each_told, Foretold, foretell, marks_in, told_by, foretold}
use Rattle.trackside.specs.Sentences.{Had, Gained, Lost, Sentences}
use Rattle.trackside.proofs.Laws.{found_map}

-- ---- one point

is_true : (b : Bool) → (b ≡ true) ↔ (b ≡ true)
is_true b = ((λ e. e), (λ e. e))

is_false : (b : Bool) → (not b ≡ true) ↔ (b ≡ false)
is_false true = ((λ e. absurd (false≢true e)), (λ e. absurd (false≢true (sym e))))
is_false false = ((λ e. refl), (λ e. refl))

module _ (old : Route) (t : ℕ) (full : length old.points ≡ 64) where
  abbrev taken : List Point
  taken = take (point_count old) old.points

  as_long : length taken ≡ point_count old
  as_long = length-take (point_count old) old.points ∙ omega (arith, full)

  -- by a test on the trackside skip
  had : (f : Bool → Bool) (skipped : Bool) → ((b : Bool) → (f b ≡ true) ↔ (b ≡ skipped))
      → (any (λ (m : Mark). eqb m.nidtp t && f m.skipped) (marks old) ≡ true) ↔ Had old t skipped
  had f skipped h = (there, back)
    where
      Stands : Point → Type 0
      Stands p = (p.nidtp ≡ t) × (p.trackside ≡ skipped)

      one : (any (λ (p : Point). eqb p.nidtp t && f p.trackside) taken ≡ true) ↔ One blank_point Stands taken
      one = some_at blank_point (λ (p : Point). eqb p.nidtp t && f p.trackside) Stands (λ p. and_both _ _ _ _ (equal p.nidtp t) (h p.trackside)) taken

      same : any (λ (m : Mark). eqb m.nidtp t && f m.skipped) (marks old) ≡ any (λ (p : Point). eqb p.nidtp t && f p.trackside) taken
      same = any_map mark_of (λ (m : Mark). eqb m.nidtp t && f m.skipped) taken

      there : any (λ (m : Mark). eqb m.nidtp t && f m.skipped) (marks old) ≡ true → Had old t skipped
      there e =
          let (i, l, p) = one.0 (sym same ∙ e) in
          let k : i < point_count old = omega (arith, as_long, l) in
          let q = get_or-take (point_count old) old.points i blank_point k in
          record { index = i; one_of_them = k; same_name = ap (λ (p : Point). p.nidtp) (sym q) ∙ p.0; was = ap (λ (p : Point). p.trackside) (sym q) ∙ p.1 }

      back : Had old t skipped → any (λ (m : Mark). eqb m.nidtp t && f m.skipped) (marks old) ≡ true
      back w =
          let q = get_or-take (point_count old) old.points w.index blank_point w.one_of_them in
          same ∙ one.1 (w.index, omega (arith, as_long, w.one_of_them), (ap (λ (p : Point). p.nidtp) q ∙ w.same_name, ap (λ (p : Point). p.trackside) q ∙ w.was))

module _ (old new : Route) (k : ℕ) (full : length old.points ≡ 64) where
  abbrev m : Mark
  m = mark_of (point new k)

  gains_is : (gained (marks old) m ≡ true) ↔ Gained old new k
  gains_is =
      let h = had old m.nidtp full not false is_false in
      let b = and_both m.skipped _ _ _ (is_true m.skipped) h in (
        (λ e. let (s, w) = b.0 e in record { skipped = s; before = w }),
        (λ (g : Gained old new k). b.1 (g.skipped, g.before)),
      )

  loses_is : (lost (marks old) m ≡ true) ↔ Lost old new k
  loses_is =
      let h = had old m.nidtp full (λ b. b) true is_true in
      let b = and_both (not m.skipped) _ _ _ (is_false m.skipped) h in (
        (λ e. let (s, w) = b.0 e in record { unskipped = s; before = w }),
        (λ (g : Lost old new k). b.1 (g.unskipped, g.before)),
      )

-- the statuses, by what is gained and lost
abbrev by_tests : Bool → Bool → Option ℕ
by_tests g l = if g then Some 7 else if l then Some 8 else None

says_7 : (g l : Bool) → (by_tests g l ≡ Some 7) ↔ (g ≡ true)
says_7 true l = ((λ e. refl), (λ e. refl))
says_7 false true = ((λ e. let z : ◌≡◌ {A = ℕ} 8 7 = cc in absurd (omega arith)), (λ e. absurd (false≢true e)))
says_7 false false = ((λ e. cc), (λ e. absurd (false≢true e)))

-- no point both gains and loses it
apart : (old : List Mark) (m : Mark) → lost old m ≡ true → gained old m ≡ false
apart old m e = go m.skipped (and_left (not m.skipped) _ e)
  where
    go : (b : Bool) → not b ≡ true → (b && any (λ (q : Mark). eqb q.nidtp m.nidtp && not q.skipped) old) ≡ false
    go true e = absurd (false≢true e)
    go false e = refl

says_8 : (old : List Mark) (m : Mark) → (status_told old m ≡ Some 8) ↔ (lost old m ≡ true)
unfolding status_told
says_8 old m = ((λ e. there (gained old m) (lost old m) e), (λ e. rw (apart old m e, e) refl))
  where
    there : (g l : Bool) → by_tests g l ≡ Some 8 → l ≡ true
    there true l e = let z : ◌≡◌ {A = ℕ} 7 8 = cc in absurd (omega arith)
    there false true e = refl
    there false false e = cc

no_other : (old : List Mark) (m : Mark) (s : ℕ) → status_told old m ≡ Some s → (s ≡ 7) ⊎ (s ≡ 8)
unfolding status_told
no_other old m s e = go (gained old m) (lost old m) e
  where
    go : (g l : Bool) → by_tests g l ≡ Some s → (s ≡ 7) ⊎ (s ≡ 8)
    go true l e = inl (let z : 7 ≡ s = cc in sym z)
    go false true e = inr (let z : 8 ≡ s = cc in sym z)
    go false false e = cc

first : (m : Mark) → status_told [] m ≡ None
unfolding status_told
first m = go m.skipped
  where
    go : (b : Bool) → by_tests (b && false) (not b && false) ≡ None
    go true = refl
    go false = refl

-- ---- the values of two journeys

-- the points that a load takes are marked as the journey's
pub marks_of_values : (book : List BookSegment) (v : JourneyValue) → length v.points ≤ 64 → marks (route_of book v) ≡ marks_in v
unfolding route_of point_of
marks_of_values book v h =
    let n : min (length v.points) 64 ≡ length (points_of book v) = omega (arith, length-map v.points (point_at book v.names)) in
    ap (λ k. map mark_of (take k (route_of book v).points)) n
    ∙ ap (map mark_of) (filled_take blank_point 64 (points_of book v) (omega (arith, length-map v.points (point_at book v.names))))
    ∙ same v.points
  where
    same : (l : List JourneyPoint) → map mark_of (map (point_at book v.names) l) ≡ map (λ (p : JourneyPoint). mark p.nidtp p.trackside) l
    same [] = refl
    same (p ∷ l) = ap (λ (r : List Mark). mark p.nidtp p.trackside ∷ r) (same l)

map_map : {A B C : Type 0} (g : B → C) (f : A → B) (l : List A) → map (λ a. g (f a)) l ≡ map g (map f l)
map_map g f [] = refl
map_map {A} {B} {C} g f (a ∷ l) = ap (λ (r : List C). g (f a) ∷ r) (map_map g f l)

-- the points by their indices, and as they stand
module _ (j : Route) (full : length j.points ≡ 64) where
  abbrev n : ℕ
  n = point_count j

  points_are : map (point j) (indices j) ≡ take n j.points
  points_are =
      let counted : length (indices j) ≡ n = tabulate-length n (λ k. k) in
      ext_get_or blank_point _ _ (omega (arith, length-map (indices j) (point j), counted, length-take n j.points, full))
      (λ k l.
      let m : k < n = omega (arith, l, length-map (indices j) (point j), counted) in
      get_or-map (point j) (indices j) k 0 blank_point (omega (arith, counted, m)) ∙ ap (point j) (tabulate-at n (λ k. k) k 0 m) ∙ sym (get_or-take n j.points k blank_point m))

  marked : map (λ k. mark_of (point j k)) (indices j) ≡ marks j
  marked = map_map mark_of (point j) (indices j) ∙ ap (map mark_of) points_are

-- what two journeys of the engine tell, by their marks
pub by_marks : (old new : Route) → length new.points ≡ 64 → each_told old new (λ k s. foretell (point new k).nidtp s) ≡ told_by (marks old) (marks new)
unfolding each_told
by_marks old new full =
    let told : Mark → Option Foretold = λ m. option_map (foretell m.nidtp) (status_told (marks old) m) in
    sym (found_map told (λ k. mark_of (point new k)) (indices new)) ∙ ap (filter_map told) (marked new full)

foretells : (a b : List BookSegment) (old new : JourneyValue) → length old.points ≤ 64 → length new.points ≤ 64
    → each_told (route_of a old) (route_of b new) (λ k s. foretell (point (route_of b new) k).nidtp s) ≡ foretold old new
unfolding route_of foretold
foretells a b old new l m =
    by_marks (route_of a old) (route_of b new) (filled_length blank_point 64 (points_of b new))
    ∙ ap (λ x. told_by x (marks (route_of b new))) (marks_of_values a old l)
    ∙ ap (told_by (marks_in old)) (marks_of_values b new m)

-- one way and the other
both : {A B C : Type 0} → A ↔ B → B ↔ C → A ↔ C
both p q = ((λ a. q.0 (p.0 a)), (λ c. p.1 (q.1 c)))

pub sentences : Sentences
unfolding status_told
sentences = record {
  gains = λ old new k full. both (says_7 _ _) (gains_is old new k full);
  loses = λ old new k full. both (says_8 (marks old) (mark_of (point new k))) (loses_is old new k full);
  no_other = no_other;
  first = first;
  foretells = foretells;
}
