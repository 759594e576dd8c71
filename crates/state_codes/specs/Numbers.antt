-- The places "power" and "state" of the table of numbers.
use Rattle.std.specs.Prelude.{ℕ, not, ◌&&◌, ◌||◌, eqb}
use Rattle.wire.specs.Judged.{Judged, row, ◌>>◌}
use Rattle.state_codes.specs.Codes.{is}
use Rattle.state_codes.specs.declared.State.{State}
use Rattle.state_codes.specs.declared.State.TheVariants.{NP, CO, RE, FA}

-- "3 NP and kind not 1; 4 kind 1 outside NP; 5 FA and kind not 3 (kind 1: 4)"
unfoldable pub power_rows : State → ℕ → Judged (Unit {0})
power_rows s kind = do
  row 3 (is s NP && not (eqb kind 1))
  row 4 (eqb kind 1 && not (is s NP))
  row 5 (is s FA && not (eqb kind 3))

-- "6 kind 2 outside CO, kind 8 outside RE"
unfoldable pub state_row : State → ℕ → Judged (Unit {0})
state_row s kind = row 6 ((eqb kind 2 && not (is s CO)) || (eqb kind 8 && not (is s RE)))

-- both places, one after the other
unfoldable pub state_rows : State → ℕ → Judged (Unit {0})
state_rows s kind = do
  power_rows s kind
  state_row s kind
