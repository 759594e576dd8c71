-- What holds of the values that a reader gives, where it gives any.
use Prim.Native.Nat.{ℕ, zero, suc, ◌≤◌}
use mathlib.Core.Path.{◌≡◌, refl, ap, subst}
use mathlib.Core.List.{List, ◌∷◌}
use mathlib.Core.Bool.{Bool, true, false}
use native.Mathlib.Omega.{arith}
use lib.ListN.{length}
use Rattle.wire.specs.Lists.{All}
use Rattle.fields.specs.Parse.{Parse, Reader, and_then, field, optional, many, counted, listed}
use Rattle.fields.specs.Parse.Parse.{bad, good}
use Rattle.fields.proofs.ReaderLaws.{field-inv}

-- an optional field is within its range, or the value that an absent one means
pub optional-most : (b : Bool) (other w low high most : ℕ) (l : List ℕ) (n : ℕ) (r : List ℕ) → other ≤ most → high ≤ most → optional b other (field w low high) l ≡ good n r → n ≤ most
unfolding optional
optional-most true other w low high most l n r h k e = let t : n ≤ high = (field-inv w low high l n r e).most in omega arith
optional-most false other w low high most l n r h k e = let q : other ≡ n = cc in omega arith

abbrev pub Sure : {A : Type 0} → (A → Type 0) → Parse A → Type 0
Sure P bad = Unit {0}
Sure P (good a r) = P a

pub sure-on : {A B : Type 0} (P : B → Type 0) (p : Parse A) (f : A → List ℕ → Parse B) → ((a : A) (r : List ℕ) → p ≡ good a r → Sure P (f a r)) → Sure P (and_then p f)
sure-on P bad f h = tt
sure-on P (good a r) f h = h a r refl

module _ {A : Type 0} (P : A → Type 0) where
  pub sure_of : (p : Parse A) (a : A) (r : List ℕ) → p ≡ good a r → Sure P p → P a
  sure_of p a r e h = subst (λ (q : Parse A). Sure P q) e h

  module _ (p : Reader A) (each : (l : List ℕ) → Sure P (p l)) where
    pub many_all : (n : ℕ) (l : List ℕ) → Sure (λ (xs : List A). (length xs ≡ n) × All P xs) (many n p l)
    unfolding many
    many_all zero l = (refl, tt)
    many_all (suc n) l = go (p l) refl (λ r. many_all n r)
      where
        Q : List A → Type 0
        Q xs = (length xs ≡ suc n) × All P xs

        go : (q : Parse A) → p l ≡ q → ((r : List ℕ) → Sure (λ (xs : List A). (length xs ≡ n) × All P xs) (many n p r))
            → Sure Q (and_then q (λ a r. and_then (many n p r) (λ rest r₂. good (a ∷ rest) r₂)))
        go bad e ih = tt
        go (good a r) e ih = on (many n p r) (ih r)
          where
            on : (q : Parse (List A)) → Sure (λ (xs : List A). (length xs ≡ n) × All P xs) q → Sure Q (and_then q (λ rest r₂. good (a ∷ rest) r₂))
            on bad h = tt
            on (good rest r₂) h = (ap suc h.0, (sure_of (p l) a r e (each l), h.1))

    pub counted_all : (high : ℕ) (l : List ℕ) → Sure (λ (xs : List A). (1 ≤ length xs) × (length xs ≤ high) × All P xs) (counted high p l)
    unfolding counted
    counted_all high l = go (field 1 1 high l) refl
      where
        Q : List A → Type 0
        Q xs = (1 ≤ length xs) × (length xs ≤ high) × All P xs

        go : (q : Parse ℕ) → field 1 1 high l ≡ q → Sure Q (and_then q (λ n r. many n p r))
        go bad e = tt
        go (good n r) e = on (many n p r) (many_all n r)
          where
            on : (q : Parse (List A)) → Sure (λ (xs : List A). (length xs ≡ n) × All P xs) q → Sure Q q
            on bad h = tt
            on (good xs r₂) h =
                let t = field-inv 1 1 high l n r e in
                let a : 1 ≤ n = t.least in
                let b : n ≤ high = t.most in
                let z : length xs ≡ n = h.0 in
                (omega arith, omega arith, h.1)

    pub listed_all : (b : Bool) (high : ℕ) (l : List ℕ) → Sure (λ (xs : List A). (length xs ≤ high) × All P xs) (listed b high p l)
    unfolding listed
    listed_all true high l = on (counted high p l) (counted_all high l)
      where
        on : (q : Parse (List A)) → Sure (λ (xs : List A). (1 ≤ length xs) × (length xs ≤ high) × All P xs) q → Sure (λ (xs : List A). (length xs ≤ high) × All P xs) q
        on bad h = tt
        on (good xs r) h = (h.1, h.2)
    listed_all false high l = (omega arith, tt)
