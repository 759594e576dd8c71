-- Where a point stands, by a progress; a stop that is found is a point of the journey.
use Prim.Native.Nat.{ℕ, ◌<◌}
use mathlib.Core.Path.{◌≡◌, refl}
use mathlib.Core.Bool.{Bool, true, false, false≢true}
use native.Mathlib.Omega.{arith}
use lib.Dec.{eqb, ltb}
use borrow.Author.Tests.{eq-eqb, ne_eqb, lt-ltb, le-ltb, eqb-true}
use Rattle.std.specs.Prelude.{Some}
use Rattle.std.proofs.lemmas.List.{length-take}
use Rattle.std.proofs.lemmas.List.Quantifiers.{position-Some}
use Rattle.engine_value.specs.Engine.{Route, progress, blank_point}
use Rattle.engine_value.specs.declared.Progress.{Progress}
use Rattle.position.specs.declared.Standing.{Standing}
use Rattle.position.specs.declared.Standing.TheVariants.{Unused, Targeted, Reached, Passed}
use Rattle.position.specs.Position.{point_count}
use Rattle.position.specs.Standing.{standing, is_reached}
use Rattle.position.specs.Skips.{is_stop, stop_named}

pub stop_below : (j : Route) (t k : ℕ) → stop_named j t ≡ Some k → k < point_count j
unfolding stop_named
stop_below j t k e = omega (arith, (position-Some (is_stop t) _ k blank_point e).0, length-take (point_count j) j.points)

-- ---- standings of a progress

pub standing_passed : (p : Progress) (k : ℕ) → k < p.next → standing p k ≡ Passed
standing_passed p k h = rw (lt-ltb k p.next h)

pub standing_unused : (p : Progress) (k : ℕ) → p.next < k → standing p k ≡ Unused
standing_unused p k h = rw (le-ltb k p.next (omega arith), ne_eqb k p.next (λ q. omega arith))

pub standing-at : (p : Progress) → p.reached ≡ true → standing p p.next ≡ Reached
standing-at p e = rw (le-ltb p.next p.next (omega arith), eq-eqb p.next p.next refl, e)

pub standing-reached : (k : ℕ) → standing (progress k true) k ≡ Reached
standing-reached k = rw (le-ltb k k (omega arith), eq-eqb k k refl)

pub standing-targeted : (k : ℕ) → standing (progress k false) k ≡ Targeted
standing-targeted k = rw (le-ltb k k (omega arith), eq-eqb k k refl)

pub reached_is : (s : Standing) → is_reached s ≡ true → s ≡ Reached
reached_is Unused e = absurd (false≢true e)
reached_is Targeted e = absurd (false≢true e)
reached_is Reached e = refl
reached_is Passed e = absurd (false≢true e)

pub reached-only : (p : Progress) (k : ℕ) → standing p k ≡ Reached → (k ≡ p.next) × (p.reached ≡ true)
reached-only p k e = go _ refl _ refl _ refl
  where
    go : (a : Bool) → ltb k p.next ≡ a → (b : Bool) → eqb k p.next ≡ b → (c : Bool) → p.reached ≡ c → (k ≡ p.next) × (p.reached ≡ true)
    go true x b y c z = absurd (cc)
    go false x false y c z = absurd (cc)
    go false x true y false z = absurd (cc)
    go false x true y true z = (eqb-true k p.next y, z)
