-- Laws of lists: tests over them, tables, and the tests for an order in the form of a loop that knows the element before.
use Prim.Native.Nat.{ℕ, zero, suc, ◌+◌, ◌*◌, ◌≤◌, ◌<◌}
use mathlib.Core.Path.{◌≡◌, refl, sym, ap, ◌∙◌}
use mathlib.Core.List.{List, [], ◌∷◌, ◌++◌, map}
use mathlib.Core.Bool.{Bool, true, false, ◌&&◌, ◌||◌, and-true, and-false, and_assoc, false≢true}
use native.Mathlib.Numerals.{add-one}
use native.Mathlib.Omega.{arith}
use lib.ListN.{length, get_or, take, set}
use lib.Seq.{take-suc-set}
use lib.Dec.{eqb, ltb, leb}
use borrow.Author.Tests.{eqb-true, lt-ltb, le-ltb, ltb-true, ltb-false, le-leb, leb-true}
use Rattle.std.proofs.lemmas.List.Folds.{list_all-append}
-- `map` of two lists; an element that is there is the same whatever stands for one that is not
pub use Rattle.std.proofs.lemmas.List.{map-append, get_or_default as get_or-there}
use Rattle.wire.specs.Lists.{All, any, every, same_numbers, tabulate, sum, falls, strictly_rises}

-- ---- tests

pub and_left : (a b : Bool) → (a && b) ≡ true → a ≡ true
and_left true b e = refl
and_left false b e = e

pub and_right : (a b : Bool) → (a && b) ≡ true → b ≡ true
and_right true b e = e
and_right false b e = absurd (false≢true e)

pub or-false : (a b : Bool) → (a || b) ≡ false → (a ≡ false) × (b ≡ false)
or-false true b e = absurd (false≢true (sym e))
or-false false b e = (refl, e)

-- where no test stands, each fails
pub any_false : {A : Type 0} (f : A → Bool) (l : List A) → any f l ≡ false → All (λ a. f a ≡ false) l
any_false f [] e = tt
any_false f (x ∷ xs) e = let h = or-false (f x) (any f xs) e in (h.0, any_false f xs h.1)

-- tests, or values, that agree on each element
module _ {A : Type 0} (P : A → Type 0) where
  pub any_same : (f g : A → Bool) → ((a : A) → P a → f a ≡ g a) → (l : List A) → All P l → any f l ≡ any g l
  any_same f g h [] p = refl
  any_same f g h (x ∷ xs) p = rw (h x p.0, any_same f g h xs p.1)

  pub map_same : {B : Type 0} (f g : A → B) → ((a : A) → P a → f a ≡ g a) → (l : List A) → All P l → map f l ≡ map g l
  map_same f g h [] p = refl
  map_same f g h (x ∷ xs) p = rw (h x p.0, map_same f g h xs p.1)

pub every_append : {A : Type 0} (f : A → Bool) (xs : List A) (y : A) → every f (xs ++ (y ∷ [])) ≡ (every f xs && f y)
every_append f xs y = rw (list_all-append, and-true (f y))

-- tests as a loop has them: one after the other, joined to those before (docs/PORT.md names the two laws)
abbrev pub every_from : {A : Type 0} → (A → Bool) → Bool → List A → Bool
every_from f before [] = before
every_from f before (x ∷ xs) = every_from f (before && f x) xs

pub every_from_lem : {A : Type 0} (f : A → Bool) (before : Bool) (l : List A) → every_from f before l ≡ (before && every f l)
every_from_lem f before [] = sym (and-true before)
every_from_lem f before (x ∷ xs) = every_from_lem f (before && f x) xs ∙ and_assoc before (f x) (every f xs)

abbrev pub same_from : Bool → List ℕ → List ℕ → Bool
same_from before [] [] = before
same_from before [] (y ∷ ys) = false
same_from before (x ∷ xs) [] = false
same_from before (x ∷ xs) (y ∷ ys) = same_from (before && eqb x y) xs ys

pub same_from_lem : (before : Bool) (xs ys : List ℕ) → same_from before xs ys ≡ (before && same_numbers xs ys)
same_from_lem before [] [] = sym (and-true before)
same_from_lem before [] (y ∷ ys) = sym (and-false before)
same_from_lem before (x ∷ xs) [] = sym (and-false before)
same_from_lem before (x ∷ xs) (y ∷ ys) = same_from_lem (before && eqb x y) xs ys ∙ and_assoc before (eqb x y) (same_numbers xs ys)

pub same_equal : (xs ys : List ℕ) → same_numbers xs ys ≡ true → xs ≡ ys
same_equal [] [] e = refl
same_equal [] (y ∷ ys) e = absurd (false≢true e)
same_equal (x ∷ xs) [] e = absurd (false≢true e)
same_equal (x ∷ xs) (y ∷ ys) e = λ i. eqb-true x y (and_left (eqb x y) _ e) i ∷ same_equal xs ys (and_right (eqb x y) _ e) i

-- ---- tables and sums

pub tabulate-length : {A : Type 0} (n : ℕ) (f : ℕ → A) → length (tabulate n f) ≡ n
tabulate-length zero f = refl
tabulate-length (suc n) f = ap suc (tabulate-length n (λ k. f (suc k)))

pub tabulate-at : {A : Type 0} (n : ℕ) (f : ℕ → A) (k : ℕ) (d : A) → k < n → get_or (tabulate n f) k d ≡ f k
tabulate-at zero f k d h = absurd (omega arith)
tabulate-at (suc n) f zero d h = refl
tabulate-at (suc n) f (suc k) d h = tabulate-at n (λ k. f (suc k)) k d (omega arith)

pub tabulate_more : {A : Type 0} (n : ℕ) (f : ℕ → A) → tabulate (suc n) f ≡ tabulate n f ++ (f n ∷ [])
tabulate_more zero f = refl
tabulate_more {A} (suc n) f = ap (λ (l : List A). f 0 ∷ l) (tabulate_more n (λ k. f (suc k)))

pub sum-append : (xs : List ℕ) (y : ℕ) → sum (xs ++ (y ∷ [])) ≡ sum xs + y
sum-append [] y = omega arith
sum-append (x ∷ xs) y = let e = sum-append xs y in omega arith

pub sum-most : (m : ℕ) (l : List ℕ) → All (λ x. x ≤ m) l → sum l ≤ length l * m
sum-most m [] h = omega arith
sum-most m (x ∷ xs) h = omega (arith, h.0, sum-most m xs h.1)

-- ---- orders

-- `falls`, where the number before the list is known
abbrev pub falls_from : ℕ → List ℕ → Bool
falls_from last [] = false
falls_from last (x ∷ xs) = ltb x last || falls_from x xs

any_below : (a b : ℕ) (l : List ℕ) → a ≤ b → any (λ y. ltb y a) l ≡ true → any (λ y. ltb y b) l ≡ true
any_below a b [] h e = e
any_below a b (x ∷ xs) h e = go (ltb x a) refl e (λ q. any_below a b xs h q)
  where
    go : (t : Bool) → ltb x a ≡ t → (t || any (λ y. ltb y a) xs) ≡ true → (any (λ y. ltb y a) xs ≡ true → any (λ y. ltb y b) xs ≡ true) → (ltb x b || any (λ y. ltb y b) xs) ≡ true
    go true q r ih = let k : x < a = ltb-true x a q in rw (lt-ltb x b (omega arith))
    go false q r ih = last (ltb x b) (ih r)
      where
        last : (t : Bool) → any (λ y. ltb y b) xs ≡ true → (t || any (λ y. ltb y b) xs) ≡ true
        last true w = refl
        last false w = w

falls-after : (last : ℕ) (l : List ℕ) → falls_from last l ≡ (any (λ y. ltb y last) l || falls l)
falls-after last [] = refl
falls-after last (x ∷ xs) = rw (falls-after x xs) (go (ltb x last) refl (any (λ y. ltb y last) xs) refl)
  where
    go : (t : Bool) → ltb x last ≡ t → (u : Bool) → any (λ y. ltb y last) xs ≡ u
        → (t || (any (λ y. ltb y x) xs || falls xs)) ≡ ((t || u) || (any (λ y. ltb y x) xs || falls xs))
    go true q u r = refl
    go false q false r = refl
    go false q true r = let h : last ≤ x = ltb-false x last q in rw (any_below last x xs h r)

pub falls_from_lem : (l : List ℕ) → falls_from 0 l ≡ falls l
falls_from_lem l = falls-after 0 l ∙ rw (none l)
  where
    none : (l : List ℕ) → any (λ y. ltb y 0) l ≡ false
    none [] = refl
    none (x ∷ xs) = rw (le-ltb x 0 (omega arith), none xs)

-- `strictly_rises`, where the numbers begin at `least`
abbrev pub rises_from : ℕ → List ℕ → Bool
rises_from least [] = true
rises_from least (x ∷ xs) = leb least x && rises_from (x + 1) xs

every_above : (a b : ℕ) (l : List ℕ) → a ≤ b → every (λ y. leb b y) l ≡ true → every (λ y. leb a y) l ≡ true
every_above a b [] h e = e
every_above a b (x ∷ xs) h e =
    let k : b ≤ x = leb-true b x (and_left (leb b x) (every (λ y. leb b y) xs) e) in
    rw (le-leb a x (omega arith), every_above a b xs h (and_right (leb b x) (every (λ y. leb b y) xs) e))

rises_after : (least : ℕ) (l : List ℕ) → rises_from least l ≡ (every (λ y. leb least y) l && strictly_rises l)
rises_after least [] = refl
rises_after least (x ∷ xs) = rw (rises_after (x + 1) xs, add-one x) (go (leb least x) refl (every (λ y. leb (suc x) y) xs) refl)
  where
    go : (t : Bool) → leb least x ≡ t → (u : Bool) → every (λ y. leb (suc x) y) xs ≡ u
        → (t && (u && strictly_rises xs)) ≡ ((t && every (λ y. leb least y) xs) && (u && strictly_rises xs))
    go false q u r = refl
    go true q false r = sym (and-false (every (λ y. leb least y) xs))
    go true q true r = let h : least ≤ x = leb-true least x q in rw (every_above least (suc x) xs (omega arith) r)

pub rises_from_lem : (l : List ℕ) → rises_from 0 l ≡ strictly_rises l
rises_from_lem l = rises_after 0 l ∙ rw (all l)
  where
    all : (l : List ℕ) → every (λ y. leb 0 y) l ≡ true
    all [] = refl
    all (x ∷ xs) = rw (le-leb 0 x (omega arith), all xs)

-- ---- elements of an array

-- what holds of each element holds of the one at an index
pub all-at : {A : Type 0} (P : A → Type 0) (d : A) → P d → (xs : List A) (k : ℕ) → All P xs → P (get_or xs k d)
all-at P d h [] k a = h
all-at P d h (x ∷ xs) zero a = a.0
all-at P d h (x ∷ xs) (suc k) a = all-at P d h xs k a.1

-- one more is stored
pub one_more : {A : Type 0} (i : ℕ) (xs : List A) (a : A) → i < length xs → take (i + 1) (set xs i a) ≡ take i xs ++ (a ∷ [])
one_more i xs a h = ap (λ (k : ℕ). take k (set xs i a)) (add-one i) ∙ take-suc-set xs i a h
