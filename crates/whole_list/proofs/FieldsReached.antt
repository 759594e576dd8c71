-- "A point became reached": the test over all points, and what it says.
use mathlib.Core.Path.{◌≡◌, refl, sym, ◌∙◌, ap}
use mathlib.Core.Logic.{◌↔◌, ◌⊎◌, inl, inr}
use mathlib.Core.Bool.{Bool, true, false, not, ◌&&◌, ◌||◌, false≢true}
use Prim.Native.Nat.{ℕ, zero, suc, ◌<◌}
use native.Mathlib.Omega.{arith}
use native.Mathlib.Nat.{eq-or-lt_of_le, le_of_suc-le-suc}
use Rattle.wire.proofs.ListLaws.{and_left, and_right}
use Rattle.position.specs.Standing.{is_reached}
use Rattle.position.specs.declared.Standing.{Standing}
use Rattle.position.specs.declared.Standing.TheVariants.{Unused, Targeted, Reached, Passed}
use Rattle.position.proofs.Laws.{reached_is}
use Rattle.whole_list.specs.Rules.{some_below}

pub same_bool_lem : (a b : Bool) → (a ≡ true → b ≡ true) → (b ≡ true → a ≡ true) → a ≡ b
same_bool_lem true b f g = sym (f refl)
same_bool_lem false true f g = g refl
same_bool_lem false false f g = refl

or_true : (b : Bool) → (b || true) ≡ true
or_true true = refl
or_true false = refl

some_witness : (n : ℕ) (f : ℕ → Bool) → some_below n f ≡ true → (k : ℕ) × (k < n) × (f k ≡ true)
unfolding some_below
some_witness zero f e = absurd (false≢true e)
some_witness (suc n) f e = go _ refl (some_witness n f) e
  where
    go : (b : Bool) → f n ≡ b → (some_below n f ≡ true → (k : ℕ) × (k < n) × (f k ≡ true)) → (f n || some_below n f) ≡ true → (k : ℕ) × (k < suc n) × (f k ≡ true)
    go true q r e = (n, omega arith, q)
    go false q r e = let z = r (rw q at e) in (z.0, omega (arith, z.1), z.2)

some_one : (n : ℕ) (f : ℕ → Bool) (k : ℕ) → k < n → f k ≡ true → some_below n f ≡ true
unfolding some_below
some_one zero f k l e = absurd (omega arith)
some_one (suc n) f k l e = go (eq-or-lt_of_le (le_of_suc-le-suc l)) (λ q. some_one n f k q e)
  where
    go : (k ≡ n) ⊎ (k < n) → (k < n → some_below n f ≡ true) → (f n || some_below n f) ≡ true
    go (inl q) r = rw (← q, e)
    go (inr q) r = rw (r q) (or_true (f n))

not-reached : (s : Standing) → (s ≡ Reached → ⊥) → not (is_reached s) ≡ true
not-reached Unused f = refl
not-reached Targeted f = refl
not-reached Reached f = absurd (f refl)
not-reached Passed f = refl

-- reached after, not before: some point of n
pub newly : (n : ℕ) (after before : ℕ → Standing)
    → (some_below n (λ k. is_reached (after k) && not (is_reached (before k))) ≡ true) ↔ ((k : ℕ) × (k < n) × (after k ≡ Reached) × (before k ≡ Reached → ⊥))
newly n after before = (there, back)
  where
    there : some_below n (λ k. is_reached (after k) && not (is_reached (before k))) ≡ true → (k : ℕ) × (k < n) × (after k ≡ Reached) × (before k ≡ Reached → ⊥)
    there e =
        let (k, l, t) = some_witness n (λ k. is_reached (after k) && not (is_reached (before k))) e in
        (k, l, reached_is (after k) (and_left (is_reached (after k)) _ t), λ q. false≢true (sym (ap (λ s. not (is_reached s)) q) ∙ and_right (is_reached (after k)) _ t))

    back : (k : ℕ) × (k < n) × (after k ≡ Reached) × (before k ≡ Reached → ⊥) → some_below n (λ k. is_reached (after k) && not (is_reached (before k))) ≡ true
    back (k, l, e, f) =
        some_one n (λ k. is_reached (after k) && not (is_reached (before k))) k l
        (ap (λ s. is_reached s && not (is_reached (before k))) e ∙ not-reached (before k) f)
