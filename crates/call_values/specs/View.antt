-- What the code's answers stand for. "For an answer that is an enum, a definition gives this paper's number and values for each of its cases."
use Rattle.std.specs.Prelude.{Result, Ok, Err}
use Rattle.wire.specs.Refusals.{number_of}
use Rattle.call_values.specs.Call.{Answer, refused, accepted}
use Rattle.call_values.specs.declared.Accepted.{Accepted}
use Rattle.call_values.specs.declared.Refused.{Refused}

abbrev pub answer_view : Result Accepted Refused → Answer
answer_view (Ok a) = accepted a
answer_view (Err r) = refused (number_of r.row) r.bytes
