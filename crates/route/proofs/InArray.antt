-- An array made by `from_fn`, and a list in the engine's array.
use Prim.Native.Nat.{ℕ, zero, suc, ◌+◌, ◌≤◌, ◌<◌}
use mathlib.Core.Path.{◌≡◌, sym, ap, subst, ◌∙◌}
use mathlib.Core.Logic.{inl, inr}
use mathlib.Core.List.{List, map}
use native.Mathlib.Omega.{arith}
use lib.ListN.{get_or, length-map, get_or-eq_default}
use denote.Param.Members.{Mut}
use denote.Ref.{Bor}
use Rattle.std.specs.Prelude.{Option, Some, None}
use Rattle.std.specs.Option.{UnwrapsOrElse, option_copied}
use Rattle.std.specs.Slice.{IsItemAt}
use Rattle.std.specs.Array.{IsFromFnResult, IsFromFnResultFrom}
use Rattle.std.specs.Fn.{Called}
use Rattle.std.specs.List.{range_with_len}
use Rattle.std.proofs.lemmas.Bool.{cases_lt}
use Rattle.std.proofs.lemmas.List.{get_or-map}
use Rattle.std.proofs.lemmas.List.FromFn.{fill_by_all}
use Rattle.engine_value.specs.Engine.{filled, blank_segment}
use Rattle.route.specs.declared.placed.Placed.{Placed}
use Rattle.engine_value.proofs.Filled.{filled_length}
use Rattle.route.proofs.Filling.{filled_within}

-- what an array of the values of a pure function holds
module _ {F B : Type 0} (g : Mut F (ℕ × Unit {0}) B) (f : F) (h : ℕ → B) (pure : (k : ℕ) (y : B) (q : F) → Called g f (k, tt) y q → (q ≡ f) × (y ≡ h k)) (ys : List B) where
  each_is : (n i : ℕ) → IsFromFnResultFrom g f ys i n → (k : ℕ) (d : B) → i ≤ k → k < i + n → get_or ys k d ≡ h k
  each_is zero i a k d l m = absurd (omega arith)
  each_is (suc n) i a k d l m =
      let s = pure i a.1 a.0 a.3 in
      elim (cases_lt i k) [
        | inl lt ↦ each_is n (i + 1) (subst (λ (p : F). IsFromFnResultFrom g p ys (i + 1) n) s.0 a.4) k d (omega arith) (omega arith)
        | inr le ↦ let e : i ≡ k = omega arith in subst (λ (m : ℕ). get_or ys m d ≡ h m) e (a.2.1 d ∙ s.1)
      ]

  pub from_fn_is : (n : ℕ) (d : B) → IsFromFnResult g f ys n → ys ≡ map h (range_with_len 0 n)
  from_fn_is n d a = fill_by_all h ys n d a.long (λ k lt. each_is n 0 a.each k d (omega arith) (omega arith))

-- the array of a list's elements by their index
pub filled_is : {A : Type 0} (blank : A) (n : ℕ) (l : List A) → map (λ k. get_or l k blank) (range_with_len 0 n) ≡ filled n blank l
filled_is blank n l = sym (fill_by_all (λ k. get_or l k blank) (filled n blank l) n blank (filled_length blank n l) (λ k lt. filled_within blank n l k lt))

-- the segment of an index as `get` gives it, blank beyond the last
pub segment_here : (l : List Placed) (k : ℕ) (x : Placed) (o : Option (Bor Placed)) → IsItemAt l k o → UnwrapsOrElse (option_copied o) (λ p. p.segment ≡ blank_segment) x
    → x.segment ≡ get_or (map (λ (p : Placed). p.segment) l) k blank_segment
segment_here l k x None i u = u ∙ sym (get_or-eq_default (map (λ (p : Placed). p.segment) l) blank_segment (omega (arith, i.3, length-map l (λ (p : Placed). p.segment))))
segment_here l k x (Some p) i u = ap (λ (p : Placed). p.segment) u ∙ sym (get_or-map (λ (p : Placed). p.segment) l k p.now blank_segment i.3.0 ∙ ap (λ (p : Placed). p.segment) (sym i.1))
