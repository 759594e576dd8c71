-- What holds of the elements of a list.
use Rattle.std.specs.Prelude.{ℕ, zero, suc, ◌+◌, List, [], ◌∷◌, Bool, true, false, ◌&&◌, ◌||◌, eqb, ltb}
use Rattle.std.specs.List.{AllByRecursion}
-- it holds of each, as a test, and of one; those of which it holds
pub use Rattle.std.specs.List.{list_all as every, list_any as any, filter as those}

-- it holds of each, as a fact
abbrev pub All : {A : Type 0} → (A → Type 0) → List A → Type 0
All P l = AllByRecursion P l

-- the same numbers in the same order
abbrev pub same_numbers : List ℕ → List ℕ → Bool
same_numbers [] [] = true
same_numbers [] (y ∷ ys) = false
same_numbers (x ∷ xs) [] = false
same_numbers (x ∷ xs) (y ∷ ys) = eqb x y && same_numbers xs ys

-- f 0, f 1 and so on, n of them
abbrev pub tabulate : {A : Type 0} → ℕ → (ℕ → A) → List A
tabulate zero f = []
tabulate (suc n) f = f 0 ∷ tabulate n (λ k. f (suc k))

abbrev pub sum : List ℕ → ℕ
sum [] = 0
sum (x ∷ xs) = x + sum xs

-- one of them stands twice; `same` says when two are the same
abbrev pub twice : {A : Type 0} → (A → A → Bool) → List A → Bool
twice same [] = false
twice same (x ∷ xs) = any (λ y. same y x) xs || twice same xs

-- a number is above one behind it
abbrev pub falls : List ℕ → Bool
falls [] = false
falls (x ∷ xs) = any (λ y. ltb y x) xs || falls xs

-- each number is below all behind it
abbrev pub strictly_rises : List ℕ → Bool
strictly_rises [] = true
strictly_rises (x ∷ xs) = every (λ y. ltb x y) xs && strictly_rises xs
