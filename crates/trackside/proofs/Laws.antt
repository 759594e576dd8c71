-- What a comparison gives, as the definitions have it: as changes of the points, and of the values of two journeys.
use Prim.Native.Nat.{ℕ, zero, suc, ◌+◌, ◌-◌, ◌≤◌, ◌<◌}
use mathlib.Core.Path.{◌≡◌, refl, sym, ap, subst, ◌∙◌}
use mathlib.Core.List.{List, [], ◌∷◌, ◌++◌, map, append-nil}
use mathlib.Core.Bool.{Bool, true, false, cond, not, ◌&&◌}
use native.Mathlib.Omega.{arith}
use lib.ListN.{length, take}
use lib.Dec.{eqb, ltb}
use borrow.Author.Tests.{lt-ltb, le-ltb}
use Rattle.std.specs.Prelude.{if◌then◌else◌, Option, Some, None, IfSome, is_some, option_map}
use Rattle.std.specs.List.{filter_map, cons_option, count_by, enumerate_from, range_with_len}
use Rattle.std.proofs.lemmas.List.Elements.{filter_map-append}
use Rattle.std.proofs.lemmas.List.Recursion.{is_count_by}
use Rattle.std.specs.Bool.{then_some}
use Rattle.wire.specs.Lists.{All, any, tabulate}
use Rattle.wire.proofs.ListLaws.{tabulate-length, tabulate_more}
use Rattle.engine_value.specs.Engine.{Route, max_points}
use Rattle.engine_value.specs.declared.Point.{Point}
use Rattle.engine_value.specs.declared.Progress.{Progress}
use Rattle.book.proofs.Pairs.{any_map}
use Rattle.packets.specs.View.{status_number}
use Rattle.packets.specs.declared.PointStatus.{PointStatus}
use Rattle.position.specs.Position.{point, point_count, indices}
use Rattle.timing.specs.Changes.{Change, change}
use Rattle.trackside.specs.Trackside.{Mark, mark, status_told, mark_of, marks, each_told, trackside_changes}
use Rattle.trackside.specs.View.{has, status_of, status_at, change_of, changes_from}

-- ---- what a test gives of the numbers below n

abbrev numbers : ℕ → List ℕ
numbers n = tabulate n (λ k. k)

module _ {A : Type 0} where
  one_more : (f : ℕ → Option A) (n : ℕ) → filter_map f (numbers (suc n)) ≡ filter_map f (numbers n) ++ cons_option (f n) []
  one_more f n = ap (filter_map f) (tabulate_more n (λ k. k)) ∙ filter_map-append f (numbers n) (n ∷ [])

  -- tests that agree on each
  pub numbers_same : (f g : ℕ → Option A) (n : ℕ) → ((k : ℕ) → k < n → f k ≡ g k) → filter_map f (numbers n) ≡ filter_map g (numbers n)
  numbers_same f g zero h = refl
  numbers_same f g (suc n) h =
      one_more f n
      ∙ ap (λ l. l ++ cons_option (f n) []) (numbers_same f g n (λ k l. h k (omega arith)))
      ∙ ap (λ o. filter_map g (numbers n) ++ cons_option o []) (h n (omega arith))
      ∙ sym (one_more g n)

  -- it gives nothing from m on
  none_beyond : (f : ℕ → Option A) (m d : ℕ) → ((k : ℕ) → m ≤ k → f k ≡ None) → filter_map f (numbers (m + d)) ≡ filter_map f (numbers m)
  none_beyond f m zero h = let e : m + 0 ≡ m = omega arith in ap (λ n. filter_map f (numbers n)) e
  none_beyond f m (suc d) h =
      let e : m + suc d ≡ suc (m + d) = omega arith in
      ap (λ n. filter_map f (numbers n)) e ∙ one_more f (m + d)
      ∙ ap (λ o. filter_map f (numbers (m + d)) ++ cons_option o []) (h (m + d) (omega arith))
      ∙ append-nil _ ∙ none_beyond f m d h

found_most : {A B : Type 0} (h : A → Option B) (l : List A) → length (filter_map h l) ≤ length l
found_most h [] = omega arith
found_most {B = B} h (a ∷ l) = go (h a) (found_most h l)
  where
    go : (o : Option B) → length (filter_map h l) ≤ length l → length (cons_option o (filter_map h l)) ≤ suc (length l)
    go None m = omega arith
    go (Some b) m = omega arith

all_more : {A : Type 0} (P : A → Type 0) (l : List A) (o : Option A) → All P l → IfSome o P → All P (l ++ cons_option o [])
all_more P [] None a p = tt
all_more P [] (Some x) a p = (p, tt)
all_more P (y ∷ l) o a p = (a.0, all_more P l o a.1 p)

all_numbers : {A : Type 0} (P : A → Type 0) (f : ℕ → Option A) (n : ℕ) → ((k : ℕ) → k < n → IfSome (f k) P) → All P (filter_map f (numbers n))
all_numbers P f zero h = tt
all_numbers P f (suc n) h = subst (All P) (sym (one_more f n)) (all_more P (filter_map f (numbers n)) (f n) (all_numbers P f n (λ k l. h k (omega arith))) (h n (omega arith)))

map_option : {A B C : Type 0} (g : B → C) (h : A → B) (o : Option A) → option_map g (option_map h o) ≡ option_map (λ a. g (h a)) o
map_option g h None = refl
map_option g h (Some a) = refl

map_found : {A B C : Type 0} (g : B → C) (h : A → Option B) (l : List A) → map g (filter_map h l) ≡ filter_map (λ a. option_map g (h a)) l
map_found g h [] = refl
map_found {A} {B} {C} g h (a ∷ l) = go (h a) (map_found g h l)
  where
    go : (o : Option B) → map g (filter_map h l) ≡ filter_map (λ a. option_map g (h a)) l
        → map g (cons_option o (filter_map h l)) ≡ cons_option (option_map g o) (filter_map (λ a. option_map g (h a)) l)
    go None e = e
    go (Some b) e = ap (λ (m : List C). g b ∷ m) e

pub found_map : {A B C : Type 0} (h : B → Option C) (f : A → B) (l : List A) → filter_map h (map f l) ≡ filter_map (λ a. h (f a)) l
found_map h f [] = refl
found_map h f (a ∷ l) = ap (cons_option (h (f a))) (found_map h f l)

map_table : {A B : Type 0} (g : A → B) (n : ℕ) (f : ℕ → A) → tabulate n (λ k. g (f k)) ≡ map g (tabulate n f)
map_table g zero f = refl
map_table {A} {B} g (suc n) f = ap (λ (l : List B). g (f 0) ∷ l) (map_table g n (λ k. f (suc k)))

shifted : {A : Type 0} (g : ℕ → Option A) (n : ℕ) → filter_map g (tabulate n (λ k. suc k)) ≡ filter_map (λ k. g (suc k)) (numbers n)
shifted g n = ap (filter_map g) (map_table suc n (λ k. k)) ∙ found_map g suc (numbers n)

-- a table as the library has it
pub table_is : {A : Type 0} (n : ℕ) (f : ℕ → A) → map f (range_with_len 0 n) ≡ tabulate n f
table_is n f = go n 0 f f (λ k. let e : k ≡ 0 + k = omega arith in ap f e)
  where
    go : {A : Type 0} (n k : ℕ) (f g : ℕ → A) → ((i : ℕ) → g i ≡ f (k + i)) → map f (range_with_len k n) ≡ tabulate n g
    go zero k f g h = refl
    go {A} (suc n) k f g h =
        let e : k ≡ k + 0 = omega arith in
        ap (λ (l : List A). f k ∷ l) (go n (k + 1) f (λ i. g (suc i)) (λ i. let q : k + suc i ≡ k + 1 + i = omega arith in h (suc i) ∙ ap f q))
        ∙ ap (λ (a : A). a ∷ tabulate n (λ i. g (suc i))) (ap f e ∙ sym (h 0))

-- a table's elements, each with its place
table_places : {A B : Type 0} (h : ℕ × A → Option B) (n k : ℕ) (f : ℕ → A) → filter_map h (enumerate_from k (tabulate n f)) ≡ filter_map (λ i. h (k + i, f i)) (numbers n)
table_places h zero k f = refl
table_places h (suc n) k f =
    let e : k ≡ k + 0 = omega arith in
    ap (λ i. cons_option (h (i, f 0)) (filter_map h (enumerate_from (k + 1) (tabulate n (λ i. f (suc i)))))) e
    ∙ ap (cons_option (h (k + 0, f 0)))
    (table_places h n (k + 1) (λ i. f (suc i))
    ∙ numbers_same _ _ n (λ i l. let q : k + 1 + i ≡ k + suc i = omega arith in ap (λ j. h (j, f (suc i))) q)
    ∙ sym (shifted (λ i. h (k + i, f i)) n))

-- ---- one point

-- tests that agree
any_by : {A : Type 0} {f g : A → Bool} → ((a : A) → f a ≡ g a) → (l : List A) → any f l ≡ any g l
any_by h [] = refl
any_by h (a ∷ l) = rw (h a, any_by h l)

-- of the journey's points, and of what is compared of them
abbrev stands : Bool → Bool → Bool
stands b t = if t then b else not b

by_bool : (b : Bool) (s : PointStatus) → option_map status_number (then_some b s) ≡ (if b then Some (status_number s) else None)
by_bool true s = refl
by_bool false s = refl

module _ (old : Route) (p : Point) where
  unskipped : has old p.nidtp false ≡ any (λ (m : Mark). eqb m.nidtp p.nidtp && not m.skipped) (marks old)
  unskipped =
      any_by (λ (q : Point). go (eqb q.nidtp p.nidtp) q.trackside) (take (point_count old) old.points)
      ∙ sym (any_map mark_of (λ (m : Mark). eqb m.nidtp p.nidtp && not m.skipped) (take (point_count old) old.points))
    where
      go : (a t : Bool) → (a && stands false t) ≡ (a && not t)
      go a true = refl
      go a false = refl

  skipped : has old p.nidtp true ≡ any (λ (m : Mark). eqb m.nidtp p.nidtp && m.skipped) (marks old)
  skipped =
      any_by (λ (q : Point). go (eqb q.nidtp p.nidtp) q.trackside) (take (point_count old) old.points)
      ∙ sym (any_map mark_of (λ (m : Mark). eqb m.nidtp p.nidtp && m.skipped) (take (point_count old) old.points))
    where
      go : (a t : Bool) → (a && stands true t) ≡ (a && t)
      go a true = refl
      go a false = refl

  told_of : option_map status_number (status_of old p) ≡ status_told (marks old) (mark_of p)
  unfolding status_told
  told_of = go p.trackside unskipped skipped
    where
      go : (t : Bool)
          → has old p.nidtp false ≡ any (λ (m : Mark). eqb m.nidtp p.nidtp && not m.skipped) (marks old)
          → has old p.nidtp true ≡ any (λ (m : Mark). eqb m.nidtp p.nidtp && m.skipped) (marks old)
          → option_map status_number (then_some (has old p.nidtp (not t)) (if t then PointStatus.TracksideSkip else PointStatus.TracksideRevoked)) ≡ status_told (marks old) (mark p.nidtp t)
      go true u s = by_bool (has old p.nidtp false) PointStatus.TracksideSkip ∙ ap (λ b. if b then Some 7 else None) u
      go false u s = by_bool (has old p.nidtp true) PointStatus.TracksideRevoked ∙ ap (λ b. if b then Some 8 else None) s

-- ---- the changes of a load

-- how many they are
abbrev how_many : List (Option PointStatus) → ℕ
how_many [] = 0
how_many (None ∷ l) = how_many l
how_many (Some s ∷ l) = suc (how_many l)

counting : (l : List (Option PointStatus)) → count_by is_some l ≡ how_many l
counting l = sym (is_count_by how_many is_some refl step l)
  where
    step : (o : Option PointStatus) (l : List (Option PointStatus)) → how_many (o ∷ l) ≡ cond (is_some o) (1 + how_many l) (how_many l)
    step None l = refl
    step (Some s) l = omega arith

pub counted : (p : Progress) (k : ℕ) (l : List (Option PointStatus)) → count_by is_some l ≡ length (changes_from p k l)
counted p k l = counting l ∙ as_many k l
  where
    as_many : (k : ℕ) (l : List (Option PointStatus)) → how_many l ≡ length (changes_from p k l)
    as_many k [] = refl
    as_many k (None ∷ l) = as_many (k + 1) l
    as_many k (Some s ∷ l) = ap suc (as_many (k + 1) l)

pub counted_most : (l : List (Option PointStatus)) → count_by is_some l ≤ length l
counted_most l = omega (arith, counting l, most l)
  where
    most : (l : List (Option PointStatus)) → how_many l ≤ length l
    most [] = omega arith
    most (None ∷ l) = omega (arith, most l)
    most (Some s ∷ l) = omega (arith, most l)

count_most : (j : Route) → point_count j + (64 - point_count j) ≡ 64
count_most j = omega arith

module _ (old new : Route) where
  module _ (p : Progress) where
    abbrev by_case : ℕ → Option Change
    by_case k = option_map (λ s. change k (status_number s) p) (status_at old new k)

    by_test : (k : ℕ) (b : Bool) → ltb k (point_count new) ≡ b
        → by_case k ≡ option_map (λ s. change k (status_number s) p) (if b then status_of old (point new k) else None)
    by_test k b q = ap (λ b. option_map (λ s. change k (status_number s) p) (if b then status_of old (point new k) else None)) q

    within : (k : ℕ) → k < point_count new → by_case k ≡ option_map (λ s. change k s p) (status_told (marks old) (mark_of (point new k)))
    within k l =
        by_test k true (lt-ltb k (point_count new) l)
        ∙ sym (map_option (λ s. change k s p) status_number (status_of old (point new k)))
        ∙ ap (option_map (λ s. change k s p)) (told_of old (point new k))

    pub changes_are : changes_from p 0 (tabulate max_points (status_at old new)) ≡ trackside_changes old new p
    unfolding each_told
    changes_are =
        table_places (change_of p) 64 0 (status_at old new)
        ∙ ap (λ n. filter_map by_case (numbers n)) (sym (count_most new))
        ∙ none_beyond by_case (point_count new) (64 - point_count new) (λ k l. by_test k false (le-ltb k (point_count new) l))
        ∙ numbers_same by_case (λ k. option_map (λ s. change k s p) (status_told (marks old) (mark_of (point new k)))) (point_count new) within

  -- they are no more than the points
  pub told_most : {A : Type 0} (f : ℕ → ℕ → A) → length (each_told old new f) ≤ 64
  unfolding each_told
  told_most f =
      omega (arith, found_most (λ k. option_map (f k) (status_told (marks old) (mark_of (point new k)))) (indices new), tabulate-length (point_count new) (λ k. k))

  -- what holds of each that is told
  pub each_all : {A : Type 0} (P : A → Type 0) (f : ℕ → ℕ → A)
      → ((k s : ℕ) → k < point_count new → status_told (marks old) (mark_of (point new k)) ≡ Some s → P (f k s)) → All P (each_told old new f)
  unfolding each_told
  each_all P f h = all_numbers P (λ k. option_map (f k) (status_told (marks old) (mark_of (point new k)))) (point_count new) at
    where
      at : (k : ℕ) → k < point_count new → IfSome (option_map (f k) (status_told (marks old) (mark_of (point new k)))) P
      at k l = go (status_told (marks old) (mark_of (point new k))) (λ s. h k s l)
        where
          go : (o : Option ℕ) → ((s : ℕ) → o ≡ Some s → P (f k s)) → IfSome (option_map (f k) o) P
          go None g = tt
          go (Some s) g = g s refl

  -- what is made of each
  pub each_map : {A B : Type 0} (g : A → B) (f : ℕ → ℕ → A) → map g (each_told old new f) ≡ each_told old new (λ k s. g (f k s))
  unfolding each_told
  each_map g f =
      map_found g (λ k. option_map (f k) (status_told (marks old) (mark_of (point new k)))) (indices new)
      ∙ numbers_same _ _ (point_count new) (λ k l. map_option g (f k) (status_told (marks old) (mark_of (point new k))))
