-- What a call answers, as a struct of numbers and bools: an exported function can hand over no enum.
use Rattle.std.specs.Prelude.{true, false}
use Rattle.call_values.specs.Call as call
use Rattle.host.specs.declared.Answer.{Answer}

-- "An accepted event returns state, request and bytes written."
-- "Every refusal returns the number only"; 02, Q-4: "The result of a refusal gains the byte count"
abbrev pub answered : call.Answer → Answer
answered (call.Answer.accepted a) = record { accepted = true; number = 0; state = a.state; request = a.request; bytes = a.bytes }
answered (call.Answer.refused n bytes) = record { accepted = false; number = n; state = 0; request = false; bytes = bytes }
