-- Document 02, Q-7, over every list: "Each accepted such event, and nothing else, writes packet 64 with its rows".
use Rattle.std.specs.Prelude.{◌≡◌, List, []}
use mathlib.Core.Logic.{◌↔◌}
use Rattle.wire.specs.Numbers.{Bytes}
use Rattle.wire.specs.Judged.{Judged}
use Rattle.wire.specs.Judged.Judged.{refuse, accept}
use Rattle.adhesion.specs.declared.TemporaryConstraint.{TemporaryConstraint}
use Rattle.event.specs.Kinds.{carried}
use Rattle.event.specs.Sentences.{Reversing}
use Rattle.call_values.specs.Call.{Call}
use Rattle.call.specs.Call.{step_of}
use Rattle.whole_list.specs.Values.{event_of_call}
use Rattle.whole_list.specs.Requests.{listed}
use Rattle.whole_list.specs.Table.{table_by}
use Rattle.whole_list.specs.Calls.{engine_after, history_of}
use Rattle.whole_list.specs.Recorded.{packets_after, rows_told}

-- by the rules: those of an accepted kind 15, as one packet has them; of any other call none
abbrev pub slippery_if : Judged (Unit {0}) → Call → List (List TemporaryConstraint)
slippery_if (refuse n) c = []
slippery_if (accept t) c = listed (carried (event_of_call c)).constraints

-- a call c, made after the calls `earlier`
pub record SlipperyTold (earlier : List Call) (c : Call) : Type 0 where
  -- its packets 64, as the reader gives them
  pub rows : let r = step_of (engine_after earlier) c in rows_told (packets_after r.answer r.memory) ≡ slippery_if (table_by (history_of earlier) c) c
  -- "21, a row whose start exceeds its end, checked after 2 and before 3": in whatever state, and no other event gets it
  pub twenty_one : Bytes c.event → (table_by (history_of earlier) c ≡ refuse 21) ↔ Reversing c.event
