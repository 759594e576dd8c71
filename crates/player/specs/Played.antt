-- The events of the input, one after the other, each with the engine and the output memory that the one before it left.
use Rattle.std.specs.Prelude.{ℕ, zero, suc, List}
use Rattle.fields.specs.Parse.{Parse}
use Rattle.fields.specs.Parse.Parse.{bad, good}
use Rattle.engine_value.specs.declared.Engine.{Engine}
use Rattle.call.specs.Call.{step_of}
use Rattle.player_text.specs.Calls.{Given, call}
use Rattle.player_step.specs.View.{lent}

-- what a run leaves: the engine, the output memory, and the input from the first event on that is cut short
pub record Left : Type 0 where
  pub engine : Engine
  pub memory : List ℕ
  pub input : List ℕ

abbrev pub left : Engine → List ℕ → List ℕ → Left
left e m l = record { engine = e; memory = m; input = l }

abbrev pub next : Engine → List ℕ → List ℕ → Parse Given → (Engine → List ℕ → List ℕ → Left) → Left
next e m l bad rest = left e m l
next e m l (good g r) rest = rest (step_of e (lent g m)).engine (step_of e (lent g m)).memory r

-- "input cut short ends the run"; k events at most
unfoldable pub run : ℕ → Engine → List ℕ → List ℕ → Left
run zero e m l = left e m l
run (suc k) e m l = next e m l (call l) (run k)
