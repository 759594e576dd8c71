-- What the library's methods answer, in the words of the rows.
use Prim.Native.Nat.{ℕ, zero, suc, ◌+◌, ◌≤◌, ◌<◌}
use mathlib.Core.Path.{◌≡◌, refl, sym, ap, subst, ◌∙◌}
use mathlib.Core.List.{List, [], ◌∷◌, map}
use mathlib.Core.Bool.{Bool, true, false, cond, not, ◌||◌, and-false}
use native.Mathlib.Omega.{arith}
use native.Mathlib.Numerals.{add-one}
use lib.ListN.{length, get_or, take, length-take}
use lib.Seq.{get_or-take}
use lib.Dec.{ltb, leb}
use borrow.Author.Tests.{lt-ltb, le-ltb, ltb-true, ltb-false, le-leb, lt-leb, leb-true, leb-false}
use Rattle.std.specs.Prelude.{Option, Some, None}
use Rattle.std.specs.Bool.{OnTrue, IsTrue}
use Rattle.std.specs.Iterator.{DrainsIf}
use Rattle.std.specs.Iterator.Runs.{Run}
use Rattle.std.proofs.iter.runs.Made.{took}
use Rattle.std.proofs.lemmas.Iterator.{YieldsList, items_from_drains}
use Rattle.std.proofs.lemmas.Iterator.Consumers.{YieldsList-so_far}
use Rattle.std.proofs.lemmas.List.{map-id}
use Rattle.std.specs.Option.{unwrap_or}
use Rattle.std.specs.List.{position, position_or_len, count_by, IsAllAdjacentAnswer}
use Rattle.std.proofs.lemmas.List.Recursion.{is_count_by, is_position_or_len}
use Rattle.std.proofs.lemmas.List.Sums.{prefix_len-le-length}
use Rattle.wire.specs.Numbers.{flag}
use Rattle.wire.specs.Lists.{any, twice, falls, strictly_rises}
use Rattle.wire.proofs.ListLaws.{falls_from, falls_from_lem, rises_from, rises_from_lem}
use Rattle.journey.specs.declared.JourneyPoint.{JourneyPoint}
use Rattle.journey_rows.specs.Rows.{ends, ending_of}

-- a test of the names is one of what bears them
pub twice_map : {A B : Type 0} (f : A → B) (same : B → B → Bool) (l : List A) → twice same (map f l) ≡ twice (λ a b. same (f a) (f b)) l
twice_map f same [] = refl
twice_map {A = A} {B = B} f same (x ∷ xs) = rw (any_map xs, twice_map f same xs)
  where
    any_map : (l : List A) → any (λ b. same b (f x)) (map f l) ≡ any (λ a. same (f a) (f x)) l
    any_map [] = refl
    any_map (y ∷ ys) = rw (any_map ys)

-- how many stand, and where the first does
pub ends_count : (ps : List JourneyPoint) → count_by (λ (p : JourneyPoint). p.end) ps ≡ ends ps
ends_count ps = sym (is_count_by ends (λ (p : JourneyPoint). p.end) refl (λ p ps. step p.end (ends ps)) ps)
  where
    step : (b : Bool) (n : ℕ) → flag b + n ≡ cond b (1 + n) n
    step true n = omega arith
    step false n = omega arith

pub ending_within : (ps : List JourneyPoint) → ending_of ps ≤ length ps
ending_within [] = omega arith
ending_within (p ∷ ps) = go p.end (ending_within ps)
  where
    go : (b : Bool) → ending_of ps ≤ length ps → cond b 0 (ending_of ps + 1) ≤ suc (length ps)
    go true h = omega arith
    go false h = omega (arith, h)

pub ending_position : (ps : List JourneyPoint) → unwrap_or (position (λ (p : JourneyPoint). p.end) ps) (length ps) ≡ ending_of ps
ending_position ps = first (ltb (position_or_len (λ (p : JourneyPoint). p.end) ps) (length ps)) refl ∙ sym at
  where
    step : (p : JourneyPoint) (ps : List JourneyPoint) → ending_of (p ∷ ps) ≡ cond p.end 0 (1 + ending_of ps)
    step p ps = go p.end
      where
        go : (b : Bool) → cond b 0 (ending_of ps + 1) ≡ cond b 0 (1 + ending_of ps)
        go true = refl
        go false = omega arith

    at : ending_of ps ≡ position_or_len (λ (p : JourneyPoint). p.end) ps
    at = is_position_or_len ending_of (λ (p : JourneyPoint). p.end) refl step ps

    first : (b : Bool) → ltb (position_or_len (λ (p : JourneyPoint). p.end) ps) (length ps) ≡ b
        → unwrap_or (cond b (Some (position_or_len (λ (p : JourneyPoint). p.end) ps)) None) (length ps) ≡ position_or_len (λ (p : JourneyPoint). p.end) ps
    first true e = refl
    first false e = omega (arith, ltb-false _ _ e, prefix_len-le-length (λ (p : JourneyPoint). not p.end) ps)

-- ---- "index falls": a point's index beside that of the next

falls-behind : (x : ℕ) (xs : List ℕ) → falls (x ∷ xs) ≡ falls_from x xs
falls-behind x xs = sym (falls_from_lem (x ∷ xs)) ∙ rw (le-ltb x 0 (omega arith))

module _ {A : Type 0} (f : A → ℕ) (d : A) where
  unfallen : (x : A) (xs : List A) → ((k : ℕ) → k < length xs → true ≡ leb (f (get_or (x ∷ xs) k d)) (f (get_or xs k d))) → falls_from (f x) (map f xs) ≡ false
  unfallen x [] h = refl
  unfallen x (y ∷ ys) h = let l : f x ≤ f y = leb-true (f x) (f y) (sym (h 0 (omega arith))) in rw (le-ltb (f y) (f x) l, unfallen y ys (λ k l. h (suc k) (omega arith)))

  fallen : (x : A) (xs : List A) (k : ℕ) → k < length xs → false ≡ leb (f (get_or (x ∷ xs) k d)) (f (get_or xs k d)) → falls_from (f x) (map f xs) ≡ true
  fallen x [] k l h = absurd (omega arith)
  fallen x (y ∷ ys) zero l h = rw (lt-ltb (f y) (f x) (leb-false (f x) (f y) (sym h)))
  fallen x (y ∷ ys) (suc k) l h = rw (fallen y ys k (omega arith) h) (either (ltb (f y) (f x)))
    where
      either : (b : Bool) → (b || true) ≡ true
      either true = refl
      either false = refl

pub sorted_falls : {A : Type 0} (f : A → ℕ) (l : List A) (r : Bool) → IsAllAdjacentAnswer (λ x y b. b ≡ leb (f x) (f y)) l r → not r ≡ falls (map f l)
sorted_falls f [] true h = refl
sorted_falls f [] false (k, l, h) = absurd (omega arith)
sorted_falls f (x ∷ xs) true h = sym (falls-behind (f x) (map f xs) ∙ unfallen f x x xs (λ k l. rw add-one at (h k x (omega arith))))
sorted_falls f (x ∷ xs) false (k, l, h) = sym (falls-behind (f x) (map f xs) ∙ fallen f x x xs k (omega arith) (rw add-one at (h x)))

-- ---- "strictly rise": a number beside the next

rising : (x : ℕ) (xs : List ℕ) → ((k : ℕ) → k < length xs → ltb (get_or (x ∷ xs) k 0) (get_or xs k 0) ≡ true) → rises_from (x + 1) xs ≡ true
rising x [] h = refl
rising x (y ∷ ys) h = let l : x < y = ltb-true x y (h 0 (omega arith)) in rw (le-leb (x + 1) y (omega arith), rising y ys (λ k l. h (suc k) (omega arith)))

unrisen : (x : ℕ) (xs : List ℕ) (k : ℕ) → k < length xs → ltb (get_or (x ∷ xs) k 0) (get_or xs k 0) ≡ false → rises_from (x + 1) xs ≡ false
unrisen x [] k l h = absurd (omega arith)
unrisen x (y ∷ ys) zero l h = let m : y ≤ x = ltb-false x y h in rw (lt-leb (x + 1) y (omega arith))
unrisen x (y ∷ ys) (suc k) l h = rw (unrisen y ys k (omega arith) h, and-false (leb (x + 1) y))

sorted_rises : (l : List ℕ) (r : Bool) → IsAllAdjacentAnswer (λ x y b. ltb x y ≡ b) l r → r ≡ strictly_rises l
sorted_rises l r h = go l r h ∙ rises_from_lem l
  where
    go : (l : List ℕ) (r : Bool) → IsAllAdjacentAnswer (λ x y b. ltb x y ≡ b) l r → r ≡ rises_from 0 l
    go [] true h = refl
    go [] false (k, l, h) = absurd (omega arith)
    go (x ∷ xs) true h = sym (rw (le-leb 0 x (omega arith), rising x xs (λ k l. rw add-one at (h k 0 (omega arith)))))
    go (x ∷ xs) false (k, l, h) = sym (rw (le-leb 0 x (omega arith), unrisen x xs k (omega arith) (rw add-one at (h 0))))

-- the answer over the items that were taken, up to one that is not above the one before it
pub run_rises : {S : Type 0} {steps : S → Option ℕ → S → Type 0} {s : S} {all : List ℕ} (p : Run steps) (r : Bool) → p.from ≡ s
    → OnTrue r (IsTrue p.whole) → IsAllAdjacentAnswer (λ x y b. ltb x y ≡ b) p.items r → YieldsList steps (λ x. x) s all → r ≡ strictly_rises all
run_rises {steps = steps} {s = s} {all = all} p r at w h road = go r w h
  where
    d : DrainsIf steps (p.whole ≡ true) s p.items
    d = subst (λ t. DrainsIf steps (p.whole ≡ true) t p.items) at (took p)

    go : (r : Bool) → OnTrue r (IsTrue p.whole) → IsAllAdjacentAnswer (λ x y b. ltb x y ≡ b) p.items r → r ≡ strictly_rises all
    go true w h = sorted_rises p.items true h ∙ ap strictly_rises (sym (map-id p.items) ∙ items_from_drains p.items (d.0, d.1, λ _. d.2 w) road)
    go false w (k, l, h) =
        let front : p.items ≡ take (length p.items) all = sym (map-id p.items) ∙ YieldsList-so_far road p.items d.0 d.1 in
        let n : length p.items ≤ length all = omega (arith, ap length front, length-take (length p.items) all) in
        let same : (j e : ℕ) → j < length p.items → get_or p.items j e ≡ get_or all j e = λ j e m. ap (λ (x : List ℕ). get_or x j e) front ∙ get_or-take (length p.items) all j e m in
        sorted_rises all false (k, omega (arith, l, n), λ e. rw (sym (same k e (omega (arith, l))), sym (same (k + 1) e l)) (h e))
