-- A row's ranges in the words of document 02, Q-7, for what is said of all rows.
use Rattle.std.specs.Prelude.{ℕ, ◌≤◌, ◌<◌, List, length, get_or}
use Rattle.adhesion.specs.Constraints.{blank_constraint}
use Rattle.adhesion.specs.declared.TemporaryConstraint.{TemporaryConstraint}

-- "nor either of them 16,777,215; NID_C ends at 1,023": neither may exceed it. The other values are free: within their bytes
pub record InRange (r : TemporaryConstraint) : Type 0 where
  pub nidc : r.nidc ≤ 1023
  pub nidsp : r.nidsp < 4294967296
  pub category : r.category < 256
  pub range : r.range < 256
  pub start : r.start ≤ 16777215
  pub end : r.end ≤ 16777215

-- "Start may not exceed end"
abbrev pub InOrder : TemporaryConstraint → Type 0
InOrder r = r.start ≤ r.end

-- one of them has its start beyond its end
pub record OneReversed (rows : List TemporaryConstraint) : Type 0 where
  pub index : ℕ
  pub one_of_them : index < length rows
  pub beyond : (get_or rows index blank_constraint).end < (get_or rows index blank_constraint).start
