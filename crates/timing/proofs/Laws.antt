-- The searches of specs/ as the code makes them: what a search over the points finds, and what a report and a load make of it.
use Rattle.std.specs.Prelude.{Option, Some, None, MatchOption, max}
use Rattle.std.specs.Option.{unwrap_or}
use Prim.Native.Nat.{ℕ, zero, suc, ◌+◌, ◌-◌, ◌<◌, ◌≤◌}
use mathlib.Core.Path.{◌≡◌, refl, sym, ap, ◌∙◌}
use mathlib.Core.Bool.{Bool, true, false, ◌&&◌, and-false, false≢true}
use mathlib.Core.Logic.{◌⊎◌, inl, inr}
use native.Mathlib.Omega.{arith}
use lib.Dec.{ltb}
use lib.ListN.{get_or, replicate}
use borrow.Author.Tests.{ltb-true, lt-ltb, le-ltb}
use Rattle.std.proofs.lemmas.Bool.{cases_lt}
use Rattle.wire.proofs.ListLaws.{and_left, and_right}
use Rattle.engine_value.specs.Engine.{Route, progress}
use Rattle.engine_value.specs.declared.Position.{Position}
use Rattle.position.specs.Position.{point, point_count, placed, front_at}
use Rattle.timing.specs.Distance.{Report, at_front, beyond, at_stop, exceeds, exceeds_reach, moving, leaves}
use Rattle.timing.specs.Load.{unskipped_report, put_behind, target_from, target}
use Rattle.timing.specs.Report.{looked}

-- with the front known
pub beyond_known : (j : Route) (r : Report) (f : ℕ) → front_at j r.position ≡ Some f → (k : ℕ) → beyond j r k ≡ exceeds f r.length (point j k) (r.skips k)
unfolding beyond
beyond_known j r f at k = rw at

-- where a point is left: the speed, the front, and d > R
pub leaves_when : (j : Route) (r : Report) (k : ℕ) → leaves j r k ≡ true
    → (0 < r.position.speed) × ((f : ℕ) × (front_at j r.position ≡ Some f) × (exceeds_reach f r.length (point j k) ≡ true))
unfolding leaves
leaves_when j r k e = (ltb-true 0 _ (and_left (moving r) _ e), at (front_at j r.position) refl (and_right (moving r) _ e))
  where
    at : (x : Option ℕ) → front_at j r.position ≡ x → at_front x (λ f. exceeds_reach f r.length (point j k)) ≡ true
        → (f : ℕ) × (front_at j r.position ≡ Some f) × (exceeds_reach f r.length (point j k) ≡ true)
    at None q h = absurd (false≢true h)
    at (Some f) q h = (f, q, h)

pub leaves_so : (j : Route) (r : Report) (k f : ℕ) → 0 < r.position.speed → front_at j r.position ≡ Some f → exceeds_reach f r.length (point j k) ≡ true
    → leaves j r k ≡ true
unfolding leaves
leaves_so j r k f m q b = rw (lt-ltb 0 r.position.speed m, q) b

-- ---- the first point that a load would not put behind, from k on among the first n

module _ (j : Route) (r : Report) (n : ℕ) where
  target_none : (k : ℕ) → n ≤ k → target_from j r (n - k) k ≡ k
  unfolding target_from
  target_none k h = let e : n - k ≡ 0 = omega arith in rw e

  left : (k : ℕ) → k < n → n - k ≡ suc (n - (k + 1))
  left k h = omega arith

  target_here : (k : ℕ) → k < n → put_behind j r k ≡ false → target_from j r (n - k) k ≡ k
  unfolding target_from
  target_here k h e = rw (left k h, e)

  target_more : (k : ℕ) → k < n → put_behind j r k ≡ true → target_from j r (n - k) k ≡ target_from j r (n - (k + 1)) (k + 1)
  unfolding target_from
  target_more k h e = rw (left k h, e)

  -- those before m are put behind, and it is not
  target_at : (d k m : ℕ) → m ≡ k + d → m ≤ max k n → ((i : ℕ) → k ≤ i → i < m → put_behind j r i ≡ true) → (m < n → put_behind j r m ≡ false)
      → m ≡ target_from j r (n - k) k
  target_at zero k m e l b h = go (cases_lt m n)
    where
      same : m ≡ k
      same = omega arith

      go : (m < n) ⊎ (n ≤ m) → m ≡ target_from j r (n - k) k
      go (inl q) = rw (← same) (sym (target_here m q (h q)))
      go (inr q) = rw (← same) (sym (target_none m q))
  target_at (suc d) k m e l b h = target_at d (k + 1) m (omega arith) (omega arith) (λ i p q. b i (omega arith) q) h ∙ sym (target_more k (omega arith) (b k (omega arith) (omega arith)))

  -- as a search finds it
  pub target_found : (k : ℕ) (found : Option ℕ)
      → MatchOption found ((i : ℕ) → k ≤ i → i < n → put_behind j r i ≡ true)
      (λ m. (k ≤ m) × (m < n) × (put_behind j r m ≡ false) × ((i : ℕ) → k ≤ i → i < m → put_behind j r i ≡ true))
      → unwrap_or found (max k n) ≡ target_from j r (n - k) k
  target_found k None f = target_at (max k n - k) k (max k n) (omega arith) (omega arith) (λ i p q. f i p (omega arith)) (λ q. absurd (omega arith))
  target_found k (Some m) f = target_at (m - k) k m (omega arith) (omega arith) f.3 (λ q. f.2)

-- a report looks as far as that, and there the point may be reached
module _ (j : Route) (r : Report) where
  abbrev reaches : ℕ → ℕ → Bool
  reaches k end = ltb k end && (placed j k && at_stop j r k)

  stop_nowhere : (k : ℕ) → front_at j r.position ≡ None → at_stop j r k ≡ false
  unfolding at_stop
  stop_nowhere k e = rw e

  pub looked_is : (n k : ℕ) → looked j r n k ≡ progress (target_from j r n k) (reaches (target_from j r n k) (k + n))
  unfolding looked target_from
  looked_is zero k = ap (λ b. progress k (b && (placed j k && at_stop j r k))) (sym (le-ltb k (k + zero) (omega arith)))
  looked_is (suc n) k = go _ refl _ refl _ refl (looked_is n (k + 1))
    where
      shut : (a b : Bool) → a && (b && false) ≡ false
      shut a b = rw (and-false b) (and-false a)

      inside : ltb k (k + suc n) ≡ true
      inside = lt-ltb k (k + suc n) (omega arith)

      go : (f : Option ℕ) → front_at j r.position ≡ f → (b : Bool) → placed j k ≡ b → (c : Bool) → beyond j r k ≡ c
          → looked j r n (k + 1) ≡ progress (target_from j r n (k + 1)) (reaches (target_from j r n (k + 1)) (k + 1 + n))
          → looked j r (suc n) k ≡ progress (target_from j r (suc n) k) (reaches (target_from j r (suc n) k) (k + suc n))
      go None x b y c z h = rw x (ap (progress k) (sym (ap (λ s. ltb k (k + suc n) && (placed j k && s)) (stop_nowhere k x) ∙ shut (ltb k (k + suc n)) (placed j k))))
      go (Some f) x false y c z h = rw (x, y, inside) (ap (λ b. progress k (b && at_stop j r k)) (sym y))
      go (Some f) x true y false z h = rw (x, y, z, inside) (ap (λ b. progress k (b && at_stop j r k)) (sym y))
      go (Some f) x true y true z h = rw (x, y, z) (h ∙ ap (λ e. progress (target_from j r n (k + 1)) (reaches (target_from j r n (k + 1)) e)) more)
        where
          more : k + 1 + n ≡ k + suc n
          more = omega arith

  looked_to : (n k : ℕ) → looked j r (n - k) k ≡ progress (target_from j r (n - k) k) (reaches (target_from j r (n - k) k) n)
  looked_to n k = go (cases_lt k n)
    where
      m : ℕ
      m = target_from j r (n - k) k

      off : (end : ℕ) → end ≤ m → reaches m end ≡ false
      off end h = rw (le-ltb m end h)

      go : (k < n) ⊎ (n ≤ k) → looked j r (n - k) k ≡ progress m (reaches m n)
      go (inl h) = looked_is (n - k) k ∙ ap (λ e. progress m (reaches m e)) (omega arith)
      go (inr h) =
          let e : m ≡ k = target_none j r n k h in
          looked_is (n - k) k ∙ ap (progress m) (off (k + (n - k)) (omega arith) ∙ sym (off n (omega arith)))

  -- the first left is among the n points
  pub look_within : (n k : ℕ) → target_from j r (n - k) k < n
      → looked j r (n - k) k ≡ progress (target_from j r (n - k) k) (placed j (target_from j r (n - k) k) && at_stop j r (target_from j r (n - k) k))
  look_within n k h = rw (looked_to n k, lt-ltb _ _ h)

  -- it is not
  pub look_past : (n k : ℕ) → n ≤ target_from j r (n - k) k → looked j r (n - k) k ≡ progress (target_from j r (n - k) k) false
  look_past n k h = rw (looked_to n k, le-ltb _ _ h)

-- with the position unknown
module _ (j : Route) (r : Report) (at : front_at j r.position ≡ None) where
  unknown_target : (n k : ℕ) → target_from j r n k ≡ k
  unfolding target_from
  unknown_target zero k = refl
  unknown_target (suc n) k = rw at

  pub look_unknown : (n k : ℕ) → looked j r n k ≡ progress k false
  look_unknown n k = looked_is j r n k ∙ rw (unknown_target n k, stop_nowhere j r k at, and-false, and-false)

pub target_unknown : (j : Route) (x : Position) (length : ℕ) → front_at j x ≡ None → 0 ≡ target j x length
unfolding target
target_unknown j x length at = sym (unknown_target j (unskipped_report x length) at (point_count j) 0)

-- of a load: none of the driver skips stands
pub target_is : (j : Route) (x : Position) (length : ℕ)
    → target j x length ≡ target_from j (record { position = x; length = length; skips = λ k. get_or (replicate 64 false) k false }) (point_count j - 0) 0
unfolding target
target_is j x length = rw all (ap (λ (s : ℕ → Bool). target_from j (record { position = x; length = length; skips = s }) (point_count j) 0) (λ i k. sym (none 64 k) i))
  where
    none : (n k : ℕ) → get_or (replicate n false) k false ≡ false
    none zero k = refl
    none (suc n) zero = refl
    none (suc n) (suc k) = none n k

    all : point_count j - 0 ≡ point_count j
    all = omega arith
