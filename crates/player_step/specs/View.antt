-- What the code's values stand for.
use Rattle.std.specs.Prelude.{ℕ, List}
use Rattle.engine_value.specs.declared.Engine.{Engine}
use Rattle.call_values.specs.Call.{Call}
use Rattle.call.specs.Call.{Outcome, step_of}
use Rattle.player_text.specs.Calls.{Given}
use Rattle.player_text.specs.View.{given_view}
use Rattle.player_text.specs.declared.calls.Call as code

-- the call of an event of the input, with the output memory that is lent
abbrev pub lent : Given → List ℕ → Call
lent g m = record { event = g.event; journey = g.journey; book = g.book; memory = m }

-- what comes of an event of the input
abbrev pub played : Engine → code.Call → List ℕ → Outcome
played e c m = step_of e (lent (given_view c) m)
