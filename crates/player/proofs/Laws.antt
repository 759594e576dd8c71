-- Laws of a run: it ends where the input is cut short, or goes on behind an event.
use Prim.Native.Nat.{ℕ, zero, suc, ◌+◌, ◌-◌, ◌≤◌}
use mathlib.Core.Path.{◌≡◌, refl, sym, ap, ◌∙◌}
use mathlib.Core.List.{List}
use lib.ListN.{length, drop, length-drop}
use lib.Seq.{drop-drop}
use native.Mathlib.Omega.{arith}
use Rattle.fields.specs.Parse.Parse.{bad, good}
use Rattle.engine_value.specs.declared.Engine.{Engine}
use Rattle.call.specs.Call.{step_of}
use Rattle.player_text.specs.Calls.{Given, call}
use Rattle.player_text.proofs.Laws.{call-behind, call_shorter}
use Rattle.player_step.specs.View.{lent}
use Rattle.player.specs.Played.{left, run}

pub run_end : (k : ℕ) (e : Engine) (m l : List ℕ) → call l ≡ bad → left e m l ≡ run k e m l
unfolding run
run_end zero e m l h = refl
run_end (suc k) e m l h = rw h

-- after an event, one event fewer is left
pub run-next : (k : ℕ) (e : Engine) (m l : List ℕ) (g : Given) (r : List ℕ) → call l ≡ good g r → length l ≤ k
    → (j : ℕ) × (length r ≤ j) × (run j (step_of e (lent g m)).engine (step_of e (lent g m)).memory r ≡ run k e m l)
unfolding run
run-next zero e m l g r h f = absurd (omega (arith, call_shorter l g r h))
run-next (suc k) e m l g r h f = (k, omega (arith, call_shorter l g r h), rw h)

-- what is left of the input is its end
pub end-next : (s l : List ℕ) (g : Given) (r : List ℕ) → drop (length s - length l) s ≡ l → call l ≡ good g r → drop (length s - length r) s ≡ r
end-next s l g r e h =
    let (n, _, there, rest) = call-behind l g r h in
    let a : length s - (length s - length l) ≡ length l = sym (length-drop (length s - length l) s) ∙ ap length e in
    let b : length l - n ≡ length r = sym (length-drop n l) ∙ ap length rest in
    let k : length s - length r ≡ length s - length l + n = omega (arith, a, b, there) in
    rw k (sym (drop-drop n (length s - length l) s) ∙ ap (λ (x : List ℕ). drop n x) e ∙ rest)
