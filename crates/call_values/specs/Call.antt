-- What a call brings, and what it answers.
use Rattle.std.specs.Prelude.{ℕ, List}
pub use Rattle.call_values.specs.declared.Accepted.{Accepted}

-- "A call brings any event, profiles and output memory"
pub record Call : Type 0 where
  pub event : List ℕ
  pub journey : List ℕ
  pub book : List ℕ
  pub memory : List ℕ

-- "An accepted event returns state, request and bytes written." A refusal returns the number of the row that refuses; 02, Q-4: "The result of a refusal
-- gains the byte count"
pub data Answer : Type 0 where
  refused : ℕ → ℕ → Answer
  accepted : Accepted → Answer

-- the bytes that a call wrote
abbrev pub bytes_written : Answer → ℕ
bytes_written (refused n bytes) = bytes
bytes_written (accepted a) = a.bytes
