-- Laws of the codes.
use mathlib.Core.Path.{◌≡◌, refl, sym, ap, ◌∙◌}
use mathlib.Core.Bool.{Bool, true, false}
use Prim.Native.Nat.{ℕ, ◌≤◌}
use native.Mathlib.Omega.{arith}
use lib.Dec.{eqb}
use borrow.Author.Tests.{eqb-true}
use Rattle.state_codes.specs.Codes.{code, state_at, is, mode_at}
use Rattle.state_codes.specs.declared.State.{State}
use Rattle.state_codes.specs.declared.State.TheVariants.{NP, CO, NA, AV, RE, EG, DE, FA}
use Rattle.state_codes.specs.declared.EtcsMode.TheVariants.{AD}

pub state_code : (s : State) → state_at (code s) ≡ s
state_code NP = refl
state_code CO = refl
state_code NA = refl
state_code AV = refl
state_code RE = refl
state_code EG = refl
state_code DE = refl
state_code FA = refl

pub code-most : (s : State) → code s ≤ 7
code-most NP = omega arith
code-most CO = omega arith
code-most NA = omega arith
code-most AV = omega arith
code-most RE = omega arith
code-most EG = omega arith
code-most DE = omega arith
code-most FA = omega arith

pub same_state : (s t : State) → is s t ≡ true → s ≡ t
same_state s t q = sym (state_code s) ∙ ap state_at (eqb-true (code s) (code t) q) ∙ state_code t

-- the mode of a report is AD for 1 alone
pub mode_AD : (n : ℕ) → mode_at n ≡ AD → n ≡ 1
mode_AD n e = go _ refl
  where
    go : (b : Bool) → eqb n 1 ≡ b → n ≡ 1
    go true q = eqb-true n 1 q
    go false q = let z : ◌≡◌ {A = ℕ} 0 1 = cc in absurd (omega arith)
