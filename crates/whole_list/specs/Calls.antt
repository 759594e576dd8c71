-- A list of calls in the order of time, and what comes of it.
use Rattle.std.specs.Prelude.{List, [], ◌∷◌, ℕ, Option, Some}
use Rattle.engine_value.specs.Engine.{fresh}
use Rattle.engine_value.specs.declared.Engine.{Engine}
use Rattle.call_values.specs.Call.{Call, Answer, refused, accepted}
use Rattle.call_values.specs.declared.Accepted.{Accepted}
use Rattle.call.specs.Call.{step_of}
use Rattle.whole_list.specs.Values.{History}

-- "A call .. gets the engine that the last one, accepted or refused, returned or left."
unfoldable pub play : Engine → List Call → Engine
play e [] = e
play e (c ∷ l) = play (step_of e c).engine l

-- the engine after a list of calls on one fresh engine
abbrev pub engine_after : List Call → Engine
engine_after calls = play fresh calls

-- one call as it went: what it brought, what it answered, and its memory as it left it
pub record Done : Type 0 where
  pub call : Call
  pub answer : Answer
  pub memory : List ℕ

unfoldable pub trace : Engine → List Call → List Done
trace e [] = []
trace e (c ∷ l) = record { call = c; answer = (step_of e c).answer; memory = (step_of e c).memory } ∷ trace (step_of e c).engine l

-- "It is accepted if it answers a state and not a number"
abbrev pub with_accepted : Answer → Call → History → History
with_accepted (refused n bytes) c h = h
with_accepted (accepted a) c h = c ∷ h

-- "The rules see only the calls' arguments and which were accepted."
unfoldable pub accepted_in : History → List Done → History
accepted_in h [] = h
accepted_in h (d ∷ l) = accepted_in (with_accepted d.answer d.call h) l

abbrev pub history_of : List Call → History
history_of calls = accepted_in [] (trace fresh calls)

-- the last accepted answer
abbrev pub later_answer : Answer → Option Accepted → Option Accepted
later_answer (refused n bytes) o = o
later_answer (accepted a) o = Some a

unfoldable pub last_answer : Option Accepted → List Done → Option Accepted
last_answer o [] = o
last_answer o (d ∷ l) = last_answer (later_answer d.answer o) l

-- the calls that were accepted, in the order of time
abbrev pub keep : Answer → Call → List Call → List Call
keep (refused n bytes) c l = l
keep (accepted a) c l = c ∷ l

unfoldable pub accepted_calls : Engine → List Call → List Call
accepted_calls e [] = []
accepted_calls e (c ∷ l) = keep (step_of e c).answer c (accepted_calls (step_of e c).engine l)
