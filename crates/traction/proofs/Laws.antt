-- The lowest range; no request, no packet; when range or Q_ATO_SupTB change; the engine's group holds what is remembered.
use Rattle.std.specs.Prelude.{Option, Some, None, if◌then◌else◌}
use Rattle.std.specs.Option.{unwrap_or}
use Rattle.std.specs.List.{position}
use mathlib.Core.Path.{◌≡◌, refl, sym, ap}
use mathlib.Core.Logic.{◌≢◌, ◌↔◌, ◌⊎◌, inl, inr}
use mathlib.Core.Bool.{Bool, true, false, not, ◌||◌, false≢true}
use mathlib.Core.List.{[], ◌∷◌}
use Prim.Native.Nat.{ℕ, suc}
use native.Mathlib.Omega.{arith}
use lib.Dec.{eqb}
use borrow.Author.Tests.{eqb-true, eqb-false}
use Rattle.event.specs.Kinds.{carried}
use Rattle.event.specs.declared.TractionRequest.{TractionRequest}
use Rattle.event.specs.Event.{Event}
use Rattle.state_codes.specs.declared.State.{State}
use Rattle.state_codes.specs.declared.State.TheVariants.{NP, CO, NA, AV, RE, EG, DE, FA}
use Rattle.packets.specs.declared.Requested.{Requested}
use Rattle.traction.specs.Requests.{driving, changed, content_if, written_content}
use Rattle.traction.specs.declared.Remembered.{Remembered}
use Rattle.traction.specs.View.{remembered_in, traction_of}

-- the first of five tests that is true, five where none is
pub first_of_five : (a b c d e : Bool)
    → unwrap_or (position (λ (t : Bool). t) (a ∷ b ∷ c ∷ d ∷ e ∷ [])) 5 ≡ (if a then 0 else suc (if b then 0 else suc (if c then 0 else suc (if d then 0 else suc (if e then 0 else 1)))))
first_of_five true b c d e = refl
first_of_five false true c d e = refl
first_of_five false false true d e = refl
first_of_five false false false true e = refl
first_of_five false false false false true = refl
first_of_five false false false false false = refl

-- an event that makes no request writes none
pub not_written : (s : State) (event : Event) (before after : Option Remembered) → (carried event).traction ≡ None → written_content s event before after ≡ None
not_written s event before after q = go (driving s) (changed before after) (carried event).traction q
  where
    go : (a b : Bool) (o : Option TractionRequest) → o ≡ None → content_if b (if a then o else None) ≡ None
    go true true o q = ap (content_if true) q
    go true false o q = refl
    go false true o q = refl
    go false false o q = refl

-- none before, or others after
pub changed_exactly : (before after : Option Remembered) → (changed before after ≡ true) ↔ ((before ≡ None) ⊎ (after ≢ before))
changed_exactly None after = ((λ q. inl refl), (λ q. refl))
changed_exactly (Some b) None = ((λ q. inr (λ e. none_some (sym e))), (λ q. refl))
  where
    none_some : Some b ≡ None → ⊥
    none_some e = let z : ◌≡◌ {A = ℕ} 0 1 = cc in omega arith
changed_exactly (Some b) (Some a) = go (eqb a.range b.range) refl (eqb a.suptb b.suptb) refl
  where
    same : Some a ≡ Some b → a ≡ b
    same e = cc

    none_some : Some b ≡ None → ⊥
    none_some e = let z : ◌≡◌ {A = ℕ} 0 1 = cc in omega arith

    go : (p : Bool) → eqb a.range b.range ≡ p → (q : Bool) → eqb a.suptb b.suptb ≡ q → ((not p || not q) ≡ true) ↔ ((Some b ≡ None) ⊎ (Some a ≢ Some b))
    go true i true j =
        let equal : a ≡ b = λ k. record { range = eqb-true a.range b.range i k; suptb = eqb-true a.suptb b.suptb j k } in
        ((λ e. absurd (false≢true e)), (λ d. absurd (no d equal)))
      where
        no : (Some b ≡ None) ⊎ (Some a ≢ Some b) → a ≡ b → ⊥
        no (inl e) s = none_some e
        no (inr n) s = n (ap Some s)
    go true i false j = ((λ e. inr (λ s. eqb-false a.suptb b.suptb j (ap (λ (r : Remembered). r.suptb) (same s)))), (λ d. refl))
    go false i q j = ((λ e. inr (λ s. eqb-false a.range b.range i (ap (λ (r : Remembered). r.range) (same s)))), (λ d. refl))

pub driving_exactly : (s : State) → (driving s ≡ true) ↔ ((s ≡ EG) ⊎ (s ≡ DE))
driving_exactly s = (which s, is_driving)
  where
    is_driving : (s ≡ EG) ⊎ (s ≡ DE) → driving s ≡ true
    is_driving (inl e) = ap driving e
    is_driving (inr e) = ap driving e

    which : (s : State) → driving s ≡ true → (s ≡ EG) ⊎ (s ≡ DE)
    which NP q = absurd (false≢true q)
    which CO q = absurd (false≢true q)
    which NA q = absurd (false≢true q)
    which AV q = absurd (false≢true q)
    which RE q = absurd (false≢true q)
    which EG q = inl refl
    which DE q = inr refl
    which FA q = absurd (false≢true q)

-- what is written, is the content of a request made in EG or DE that changes something
module _ (s : State) (event : Event) (before after : Option Remembered) where
  pub written_inv : (r : Requested) → written_content s event before after ≡ Some r
      → (driving s ≡ true) × (changed before after ≡ true) × ((x : TractionRequest) × ((carried event).traction ≡ Some x))
  written_inv r q = go (driving s) (changed before after) (carried event).traction q
    where
      no : {A : Type 0} → None ≡ Some r → A
      no e = let z : ◌≡◌ {A = ℕ} 0 1 = cc in absurd (omega arith)

      go : (a b : Bool) (o : Option TractionRequest) → content_if b (if a then o else None) ≡ Some r → (a ≡ true) × (b ≡ true) × ((x : TractionRequest) × (o ≡ Some x))
      go true true None q = no q
      go true true (Some x) q = (refl, refl, (x, refl))
      go true false o q = no q
      go false true o q = no q
      go false false o q = no q

  pub written_is : (x : TractionRequest) → driving s ≡ true → changed before after ≡ true → (carried event).traction ≡ Some x → written_content s event before after ≡ Some x.content
  written_is x a b q = rw (a, b, q)

pub told_again : (m : Option Remembered) → remembered_in (traction_of m) ≡ m
told_again None = refl
told_again (Some r) = refl
