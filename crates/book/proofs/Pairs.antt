-- Tests over a list, said by indices: one element, each of them, two of them one behind the other.
use Prim.Native.Nat.{ℕ, zero, suc, ◌≤◌, ◌<◌}
use mathlib.Core.Path.{◌≡◌, refl, sym, ap, ◌∙◌}
use mathlib.Core.Logic.{◌↔◌, ◌⊎◌, inl, inr}
use mathlib.Core.List.{List, [], ◌∷◌, map}
use mathlib.Core.Bool.{Bool, true, false, not, ◌&&◌, ◌||◌, false≢true}
use native.Mathlib.Omega.{arith}
use lib.Dec.{eqb, ltb, leb}
use borrow.Author.Tests.{eqb-true, eq-eqb, ltb-true, lt-ltb, leb-true, le-leb}
use Rattle.wire.specs.Lists.{any, every, those, twice, falls, strictly_rises}
use Rattle.wire.proofs.ListLaws.{and_left, and_right}
use Rattle.book.specs.Sentences.{One, Two}

-- ---- tests and what they say

pub or_either : (a b : Bool) → ((a || b) ≡ true) ↔ ((a ≡ true) ⊎ (b ≡ true))
or_either a b = (there a, back a)
  where
    there : (a : Bool) → (a || b) ≡ true → (a ≡ true) ⊎ (b ≡ true)
    there true e = inl refl
    there false e = inr e

    back : (a : Bool) → (a ≡ true) ⊎ (b ≡ true) → (a || b) ≡ true
    back true q = refl
    back false (inl e) = absurd (false≢true e)
    back false (inr e) = e

pub either : {A B C D : Type 0} → A ↔ B → C ↔ D → (A ⊎ C) ↔ (B ⊎ D)
either {A} {B} {C} {D} p q = (there, back)
  where
    there : A ⊎ C → B ⊎ D
    there (inl a) = inl (p.0 a)
    there (inr c) = inr (q.0 c)

    back : B ⊎ D → A ⊎ C
    back (inl b) = inl (p.1 b)
    back (inr d) = inr (q.1 d)

pub and_both : (a b : Bool) (P Q : Type 0) → (a ≡ true) ↔ P → (b ≡ true) ↔ Q → ((a && b) ≡ true) ↔ (P × Q)
and_both a b P Q p q = (λ e. (p.0 (and_left a b e), q.0 (and_right a b e)), back)
  where
    back : P × Q → (a && b) ≡ true
    back (x, y) = rw (p.1 x, q.1 y)

pub equal : (a b : ℕ) → (eqb a b ≡ true) ↔ (a ≡ b)
equal a b = (eqb-true a b, eq-eqb a b)

pub below : (a b : ℕ) → (ltb a b ≡ true) ↔ (a < b)
below a b = (ltb-true a b, lt-ltb a b)

pub at_most : (a b : ℕ) → (leb a b ≡ true) ↔ (a ≤ b)
at_most a b = (leb-true a b, le-leb a b)

pub equal_back : (a b : ℕ) → (eqb b a ≡ true) ↔ (a ≡ b)
equal_back a b = (λ e. sym ((equal b a).0 e), λ e. (equal b a).1 (sym e))

-- a test that is another
pub through : (a b : Bool) (P : Type 0) → a ≡ b → (b ≡ true) ↔ P → (a ≡ true) ↔ P
through a b P e h = (λ q. h.0 (sym e ∙ q), λ p. e ∙ h.1 p)

-- a test that fails
pub fails : (b : Bool) (P : Type 0) → (b ≡ true) ↔ P → (not b ≡ true) ↔ (¬ P)
fails true P h = (λ e. absurd (false≢true e), λ n. absurd (n (h.0 refl)))
fails false P h = (λ e p. false≢true (h.1 p), λ n. refl)

-- ---- one of them, and each

module _ {A : Type 0} (blank : A) (f : A → Bool) (P : A → Type 0) (agree : (a : A) → (f a ≡ true) ↔ P a) where
  one_there : (l : List A) → any f l ≡ true → One blank P l
  one_there [] e = absurd (false≢true e)
  one_there (x ∷ xs) e = go (f x) refl e (λ q. one_there xs q)
    where
      next : One blank P xs → One blank P (x ∷ xs)
      next (i, h, p) = (suc i, omega arith, p)

      go : (b : Bool) → f x ≡ b → (b || any f xs) ≡ true → (any f xs ≡ true → One blank P xs) → One blank P (x ∷ xs)
      go true q e ih = (0, omega arith, (agree x).0 q)
      go false q e ih = next (ih e)

  one_back : (l : List A) → One blank P l → any f l ≡ true
  one_back [] (i, h, p) = absurd (omega arith)
  one_back (x ∷ xs) (zero, h, p) = rw ((agree x).1 p)
  one_back (x ∷ xs) (suc i, h, p) = (or_either (f x) (any f xs)).1 (inr (one_back xs (i, omega arith, p)))

  pub some_at : (l : List A) → (any f l ≡ true) ↔ One blank P l
  some_at l = (one_there l, one_back l)

-- ---- two of them

abbrev pub later : {A : Type 0} → (A → A → Bool) → List A → Bool
later r [] = false
later r (x ∷ xs) = any (r x) xs || later r xs

module _ {A : Type 0} (blank : A) (r : A → A → Bool) (P : A → A → Type 0) (agree : (a b : A) → (r a b ≡ true) ↔ P a b) where
  two_there : (l : List A) → later r l ≡ true → Two blank P l
  two_there [] e = absurd (false≢true e)
  two_there (x ∷ xs) e = go ((or_either (any (r x) xs) (later r xs)).0 e) (λ q. two_there xs q)
    where
      first : One blank (P x) xs → Two blank P (x ∷ xs)
      first (k, h, p) = (0, suc k, omega arith, omega arith, p)

      next : Two blank P xs → Two blank P (x ∷ xs)
      next (i, k, h, m, p) = (suc i, suc k, omega arith, omega arith, p)

      go : (any (r x) xs ≡ true) ⊎ (later r xs ≡ true) → (later r xs ≡ true → Two blank P xs) → Two blank P (x ∷ xs)
      go (inl q) ih = first ((some_at blank (r x) (P x) (agree x) xs).0 q)
      go (inr q) ih = next (ih q)

  two_back : (l : List A) → Two blank P l → later r l ≡ true
  two_back [] (i, k, h, m, p) = absurd (omega arith)
  two_back (x ∷ xs) (i, zero, h, m, p) = absurd (omega arith)
  two_back (x ∷ xs) (zero, suc k, h, m, p) = rw ((some_at blank (r x) (P x) (agree x) xs).1 (k, omega arith, p))
  two_back (x ∷ xs) (suc i, suc k, h, m, p) = (or_either (any (r x) xs) (later r xs)).1 (inr (two_back xs (i, k, omega arith, omega arith, p)))

  pub two_at : (l : List A) → (later r l ≡ true) ↔ Two blank P l
  two_at l = (two_there l, two_back l)

-- ---- the tests of `wire` in this form

pub twice-later : {A : Type 0} (same : A → A → Bool) (l : List A) → twice same l ≡ later (λ x y. same y x) l
twice-later same [] = refl
twice-later same (x ∷ xs) = ap (λ (b : Bool). any (λ y. same y x) xs || b) (twice-later same xs)

pub falls-later : (l : List ℕ) → falls l ≡ later (λ x y. ltb y x) l
falls-later [] = refl
falls-later (x ∷ xs) = ap (λ (b : Bool). any (λ y. ltb y x) xs || b) (falls-later xs)

not-and : (a b : Bool) → not (a && b) ≡ (not a || not b)
not-and true b = refl
not-and false b = refl

not-every : {A : Type 0} (f : A → Bool) (l : List A) → not (every f l) ≡ any (λ y. not (f y)) l
not-every f [] = refl
not-every f (x ∷ xs) = not-and (f x) (every f xs) ∙ ap (λ (b : Bool). not (f x) || b) (not-every f xs)

pub rises_later : (l : List ℕ) → not (strictly_rises l) ≡ later (λ x y. not (ltb x y)) l
rises_later [] = refl
rises_later (x ∷ xs) =
    not-and (every (λ y. ltb x y) xs) (strictly_rises xs)
    ∙ rw (not-every (λ y. ltb x y) xs, rises_later xs)

-- of what a function gives for each element
module _ {A B : Type 0} (f : A → B) where
  pub any_map : (g : B → Bool) (l : List A) → any g (map f l) ≡ any (λ x. g (f x)) l
  any_map g [] = refl
  any_map g (x ∷ xs) = ap (λ (b : Bool). g (f x) || b) (any_map g xs)

  pub later_map : (r : B → B → Bool) (l : List A) → later r (map f l) ≡ later (λ x y. r (f x) (f y)) l
  later_map r [] = refl
  later_map r (x ∷ xs) = rw (any_map (r (f x)) xs, later_map r xs)

-- a number of each element, of those elements of which a test holds
module _ {A : Type 0} (t : A → Bool) (f : A → ℕ) (r : ℕ → ℕ → Bool) where
  any_those : (n : ℕ) (l : List A) → any (r n) (map f (those t l)) ≡ any (λ b. t b && r n (f b)) l
  any_those n [] = refl
  any_those n (x ∷ xs) = go (t x) refl (any_those n xs)
    where
      go : (b : Bool) → t x ≡ b → any (r n) (map f (those t xs)) ≡ any (λ b. t b && r n (f b)) xs
          → any (r n) (map f (those t (x ∷ xs))) ≡ any (λ b. t b && r n (f b)) (x ∷ xs)
      go true q ih = rw (q, ih)
      go false q ih = rw (q, ih)

  none_true : (l : List A) → any (λ (b : A). false) l ≡ false
  none_true [] = refl
  none_true (x ∷ xs) = none_true xs

  pub later_those : (l : List A) → later r (map f (those t l)) ≡ later (λ a b. t a && (t b && r (f a) (f b))) l
  later_those [] = refl
  later_those (x ∷ xs) = go (t x) refl (later_those xs)
    where
      go : (b : Bool) → t x ≡ b → later r (map f (those t xs)) ≡ later (λ a b. t a && (t b && r (f a) (f b))) xs
          → later r (map f (those t (x ∷ xs))) ≡ later (λ a b. t a && (t b && r (f a) (f b))) (x ∷ xs)
      go true q ih = rw (q, any_those (f x) xs, ih)
      go false q ih = rw (q, none_true xs, ih)

-- ---- "twice"

pub twice-at : {A : Type 0} (blank : A) (same : A → A → Bool) (P : A → A → Type 0) → ((a b : A) → (same b a ≡ true) ↔ P a b)
    → (l : List A) → (twice same l ≡ true) ↔ Two blank P l
twice-at blank same P agree l =
    through (twice same l) (later (λ x y. same y x) l) (Two blank P l) (twice-later same l) (two_at blank (λ x y. same y x) P agree l)

-- two elements have one number
pub number-twice : {A : Type 0} (blank : A) (f : A → ℕ) (l : List A) → (twice eqb (map f l) ≡ true) ↔ Two blank (λ a b. f a ≡ f b) l
number-twice blank f l =
    through (twice eqb (map f l)) (later (λ x y. eqb (f y) (f x)) l) (Two blank (λ a b. f a ≡ f b) l)
    (twice-later eqb (map f l) ∙ later_map f (λ x y. eqb y x) l)
    (two_at blank (λ x y. eqb (f y) (f x)) (λ a b. f a ≡ f b) (λ a b. equal_back (f a) (f b)) l)
