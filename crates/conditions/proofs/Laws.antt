-- Laws of the conditions' definitions, by case, for the proofs of the functions.
use Rattle.std.specs.Prelude.{if◌then◌else◌}
use mathlib.Core.Path.{◌≡◌, refl}
use mathlib.Core.Bool.{Bool, true, false}
use Prim.Native.Nat.{ℕ, zero, suc, ◌+◌, min, ◌≤◌, ◌<◌}
use native.Mathlib.Omega.{arith}
use lib.Dec.{eqb, ltb}
use borrow.Author.Tests.{ltb-true, ltb-false}
use mir.Val.{bool_byte}
use Rattle.wire.specs.Numbers.{flag}
use Rattle.engine_value.specs.declared.Progress.{Progress}
use Rattle.position.specs.Standing.{standing, is_passed}
use Rattle.position.specs.declared.Standing.TheVariants.{Targeted, Reached}
use Rattle.conditions.specs.Conditions.{first_ahead}

-- ---- where a point stands, by the first point not passed

module _ (p : Progress) (k : ℕ) where
  pub passed_is : is_passed (standing p k) ≡ ltb k p.next
  passed_is = go _ refl _ refl
    where
      go : (b : Bool) → ltb k p.next ≡ b → (d : Bool) → eqb k p.next ≡ d → is_passed (standing p k) ≡ ltb k p.next
      go true q d r = rw q
      go false q false r = rw (q, r)
      go false q true r = rw (q, r) (next p.reached)
        where
          next : (b : Bool) → is_passed (if b then Reached else Targeted) ≡ false
          next true = refl
          next false = refl

-- the first point not passed, of the n points from k on
pub first_ahead_lem : (p : Progress) (n k : ℕ) → k ≤ p.next → first_ahead (standing p) n k ≡ min p.next (k + n)
unfolding first_ahead
first_ahead_lem p zero k h = omega arith
first_ahead_lem p (suc n) k h = rw passed_is (go _ refl (λ q. first_ahead_lem p n (k + 1) q))
  where
    go : (b : Bool) → ltb k p.next ≡ b → (k + 1 ≤ p.next → first_ahead (standing p) n (k + 1) ≡ min p.next (k + 1 + n))
        → (if ltb k p.next then first_ahead (standing p) n (k + 1) else k) ≡ min p.next (k + suc n)
    go true q f =
        let l : k < p.next = ltb-true _ _ q in
        let e : first_ahead (standing p) n (k + 1) ≡ min p.next (k + 1 + n) = f (omega arith) in
        rw (q, e) (omega arith)
    go false q f = let l : p.next ≤ k = ltb-false _ _ q in rw q (omega arith)

-- a test as a byte
pub byte_is : (b : Bool) → bool_byte b ≡ flag b
byte_is true = refl
byte_is false = refl
