-- Arrays that hold f 0, f 1 and so on from their front on, and blank elements behind them.
use Prim.Native.Nat.{ℕ, zero, suc, ◌+◌, ◌-◌, ◌≤◌, ◌<◌}
use mathlib.Core.Path.{◌≡◌, refl, sym, ap, ◌∙◌}
use mathlib.Core.List.{List, ◌++◌}
use mathlib.Core.Bool.{Bool, true, false}
use native.Mathlib.Omega.{arith}
use lib.ListN.{length, get_or, set, replicate, length-set, length-replicate, get_or-eq_default, get_or-append}
use lib.Seq.{get_or-take, get_or-append-add}
use lib.Dec.{ltb}
use borrow.Author.Tests.{ltb-true, ltb-false}
use Rattle.std.proofs.Common.{◌≢◌, below_more}
use Rattle.std.proofs.lemmas.List.{same_lists, get_or-set_same, get_or-set_other}
use Rattle.wire.specs.Lists.{tabulate}
use Rattle.wire.proofs.ListLaws.{get_or-there, tabulate-at, tabulate-length}
use Rattle.engine_value.specs.Engine.{filled}
use Rattle.engine_value.proofs.Filled.{filled_length}

-- the first i of them are set
pub record Filling {A : Type 0} (blank : A) (high : ℕ) (f : ℕ → A) (i : ℕ) (xs : List A) : Type 0 where
  pub size : length xs ≡ high
  pub done : (k : ℕ) → k < i → get_or xs k blank ≡ f k
  pub rest : (k : ℕ) → i ≤ k → get_or xs k blank ≡ blank

module _ {A : Type 0} (blank : A) (high : ℕ) where
  blanks : (n i : ℕ) → get_or (replicate n blank) i blank ≡ blank
  blanks zero i = refl
  blanks (suc n) zero = refl
  blanks (suc n) (suc i) = blanks n i

  -- an element by its index, blank beyond the list
  pub filled_within : (l : List A) (k : ℕ) → k < high → get_or (filled high blank l) k blank ≡ get_or l k blank
  filled_within l k h = get_or-take high (l ++ replicate high blank) k blank h ∙ inside (ltb k (length l)) refl
    where
      inside : (b : Bool) → ltb k (length l) ≡ b → get_or (l ++ replicate high blank) k blank ≡ get_or l k blank
      inside true q = get_or-append l (replicate high blank) blank k (ltb-true k (length l) q)
      inside false q =
          let m : length l ≤ k = ltb-false k (length l) q in
          let e : k ≡ length l + (k - length l) = omega arith in
          ap (λ (n : ℕ). get_or (l ++ replicate high blank) n blank) e
          ∙ get_or-append-add l (replicate high blank) (k - length l) blank
          ∙ blanks high (k - length l) ∙ sym (get_or-eq_default l blank m)

  pub filled_at : (l : List A) (k : ℕ) → length l ≤ high → get_or (filled high blank l) k blank ≡ get_or l k blank
  filled_at l k h = go (ltb k high) refl
    where
      go : (b : Bool) → ltb k high ≡ b → get_or (filled high blank l) k blank ≡ get_or l k blank
      go true q = filled_within l k (ltb-true k high q)
      go false q =
          let m : high ≤ k = ltb-false k high q in
          get_or-eq_default (filled high blank l) blank (omega (arith, filled_length blank high l)) ∙ sym (get_or-eq_default l blank (omega arith))

  module _ (f : ℕ → A) where
    pub filling_none : Filling blank high f 0 (replicate high blank)
    filling_none = record { size = length-replicate high blank; done = λ k h. absurd (omega arith); rest = λ k h. blanks high k }

    -- one more is set
    pub filling_more : (i : ℕ) (xs : List A) (a : A) → i < high → a ≡ f i → Filling blank high f i xs → Filling blank high f (i + 1) (set xs i a)
    filling_more i xs a h e g =
        let z : length xs ≡ high = g.size in
        record {
          size = length-set xs i a ∙ z;
          done = below_more (λ k. get_or (set xs i a) k blank ≡ f k) i
              (λ k l. let ne : k ≢ i = omega arith in get_or-set_other xs i k a blank ne ∙ g.done k l)
              (get_or-set_same xs i a blank (omega arith) ∙ e);
          rest = λ k l. let ne : k ≢ i = omega arith in get_or-set_other xs i k a blank ne ∙ g.rest k (omega arith);
        }

    -- n are set
    pub filling_end : (i n : ℕ) (xs : List A) → Filling blank high f i xs → i ≡ n → i ≤ high → xs ≡ filled high blank (tabulate n f)
    filling_end i n xs g e h =
        let to : filled high blank (tabulate i f) ≡ filled high blank (tabulate n f) = ap (λ (k : ℕ). filled high blank (tabulate k f)) e in
        same_lists xs (filled high blank (tabulate i f)) (z ∙ sym (filled_length blank high (tabulate i f)))
        (λ k d l. get_or-there xs k d blank l ∙ at k (ltb k i) refl ∙ get_or-there (filled high blank (tabulate i f)) k blank d (omega (arith, filled_length blank high (tabulate i f), z, l))) ∙ to
      where
        z : length xs ≡ high
        z = g.size

        all : length (tabulate i f) ≡ i
        all = tabulate-length i f

        at : (k : ℕ) (b : Bool) → ltb k i ≡ b → get_or xs k blank ≡ get_or (filled high blank (tabulate i f)) k blank
        at k true q = let l : k < i = ltb-true k i q in g.done k l ∙ sym (filled_at (tabulate i f) k (omega (arith, all)) ∙ tabulate-at i f k blank l)
        at k false q = let l : i ≤ k = ltb-false k i q in g.rest k l ∙ sym (filled_at (tabulate i f) k (omega (arith, all)) ∙ get_or-eq_default (tabulate i f) blank (omega (arith, all)))
