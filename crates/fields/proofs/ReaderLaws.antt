-- Laws of the readers: a field, and one law over the width that what was written reads back.
use Prim.Native.Nat.{ℕ, suc, ◌+◌, ◌-◌, ◌^◌, ◌≤◌, ◌<◌}
use mathlib.Core.Path.{◌≡◌, refl, sym}
use mathlib.Core.List.{List, [], ◌∷◌, ◌++◌, append_assoc}
use mathlib.Core.Bool.{Bool, true, false, cond, ◌&&◌}
use lib.ListN.{length, drop, length-drop, length-append}
use lib.Seq.{drop-drop, drop_at}
use lib.Dec.{leb}
use Rattle.std.proofs.lemmas.List.{append-nil}
use native.Mathlib.Omega.{arith}
use borrow.Author.Tests.{le-leb, leb-true}
use Rattle.wire.specs.Numbers.{number, bytes_of}
use Rattle.wire.proofs.ListLaws.{and_left, and_right}
use Rattle.wire.proofs.NumberLaws.{number-bytes_of, length-bytes_of}
use Rattle.fields.specs.Parse.{Parse, Reader, and_then, field, many}
use Rattle.fields.specs.Parse.Parse.{bad, good}
use Rattle.fields.specs.View.{parsed_by}
use Rattle.std.specs.Borrow.{Bor}
use Rattle.std.specs.Bool.{then_some}

-- a field at a position of s that is there and within its range
pub field_good : (s : List ℕ) (at w low high : ℕ) → at + w ≤ length s → low ≤ number w (drop at s) → number w (drop at s) ≤ high → good (number w (drop at s)) (drop (at + w) s) ≡ field w low high (drop at s)
unfolding field
field_good s at w low high h a b = rw (le-leb w (length (drop at s)) (rw length-drop (omega arith)), le-leb _ _ a, le-leb _ _ b, drop-drop)

-- where two readers follow each other and the second gives a value, the first does
pub then_inv : {A B : Type 0} (m : Parse A) (f : A → List ℕ → Parse B) (b : B) (r : List ℕ) → and_then m f ≡ good b r
    → (a : A) × (r₁ : List ℕ) × (m ≡ good a r₁) × (f a r₁ ≡ good b r)
then_inv bad f b r e = let z : ◌≡◌ {A = ℕ} 0 1 = cc in absurd (omega arith)
then_inv (good a r₁) f b r e = (a, r₁, refl, e)

pub cond-good : {A : Type 0} (t : Bool) (x : A) (y : List ℕ) (a : A) (r : List ℕ) → cond t (good x y) bad ≡ good a r → (t ≡ true) × (a ≡ x) × (r ≡ y)
cond-good true x y a r e = (refl, cc, cc)
cond-good false x y a r e = let z : ◌≡◌ {A = ℕ} 0 1 = cc in absurd (omega arith)

-- what a field that was read tells: its bytes were there, its value and its range, and what is left
pub record FieldRead (w low high : ℕ) (l : List ℕ) (n : ℕ) (r : List ℕ) : Type 0 where
  pub there : w ≤ length l
  pub value : n ≡ number w l
  pub rest : r ≡ drop w l
  pub least : low ≤ n
  pub most : n ≤ high

pub field-inv : (w low high : ℕ) (l : List ℕ) (n : ℕ) (r : List ℕ) → field w low high l ≡ good n r → FieldRead w low high l n r
unfolding field
field-inv w low high l n r e =
    let t = cond-good (leb w (length l) && (leb low (number w l) && leb (number w l) high)) (number w l) (drop w l) n r e in
    let b = and_right (leb w (length l)) _ t.0 in
    let v : n ≡ number w l = t.1 in
    let lo : low ≤ number w l = leb-true _ _ (and_left (leb low (number w l)) _ b) in
    let hi : number w l ≤ high = leb-true _ _ (and_right (leb low (number w l)) _ b) in
    record { there = leb-true _ _ (and_left (leb w (length l)) _ t.0); value = v; rest = t.2; least = omega arith; most = omega arith }

-- a field that was read is at most the highest
pub field_most : (w low high : ℕ) (l : List ℕ) (n : ℕ) (r : List ℕ) → good n r ≡ field w low high l → n ≤ high
field_most w low high l n r e = (field-inv w low high l n r (sym e)).most

-- a field that was written reads back
pub field-bytes : (w low high n : ℕ) (rest : List ℕ) → n < 256 ^ w → low ≤ n → n ≤ high → field w low high (bytes_of w n ++ rest) ≡ good n rest
unfolding field
field-bytes w low high n rest h a b =
    let e = number-bytes_of w n rest h in
    let k : w ≤ length (bytes_of w n ++ rest) = rw (length-append, length-bytes_of) (omega arith) in
    rw (e, le-leb w _ k, le-leb low n a, le-leb n high b, drop_at (bytes_of w n) rest w (length-bytes_of w n))

-- ---- items one after the other, in a loop

-- those that were read, and those that are still read
abbrev pub with_front : {A : Type 0} → List A → Parse (List A) → Parse (List A)
with_front xs bad = bad
with_front xs (good ys r) = good (xs ++ ys) r

module _ {A : Type 0} (p : Reader A) (xs : List A) (n i : ℕ) (l : List ℕ) where
  pub many_goes_on : (a : A) (r : List ℕ) → i < n → p l ≡ good a r → with_front (xs ++ a ∷ []) (many (n - (i + 1)) p r) ≡ with_front xs (many (n - i) p l)
  unfolding many
  many_goes_on a r h e = let k : n - i ≡ suc (n - (i + 1)) = omega arith in rw (k, e) (go (many (n - (i + 1)) p r))
    where
      go : (q : Parse (List A)) → with_front (xs ++ a ∷ []) q ≡ with_front xs (and_then q (λ ys r₂. good (a ∷ ys) r₂))
      go bad = refl
      go (good ys r₂) = simp append_assoc

  pub many_ends : i < n → p l ≡ bad → with_front xs (many (n - i) p l) ≡ bad
  unfolding many
  many_ends h e = let k : n - i ≡ suc (n - (i + 1)) = omega arith in rw (k, e)

  pub many_done : n ≤ i → with_front xs (many (n - i) p l) ≡ good xs l
  unfolding many
  many_done h = let k : n - i ≡ 0 = omega arith in rw k (simp append-nil)

-- what is read where a test holds
pub parsed_then_some : {A B : Type 0} (f : A → B) (b : Bool) (a : A) (r : Bor (List ℕ)) → parsed_by f (then_some b (a, r)) ≡ cond b (good (f a) r.now) bad
parsed_then_some f true a r = refl
parsed_then_some f false a r = refl
