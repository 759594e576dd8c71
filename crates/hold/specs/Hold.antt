-- Document 02, Q-5: held at a stop. "The engine's point record gains the mark."
use Rattle.std.specs.Prelude.{ℕ, Bool, ◌&&◌, eqb, take, if◌then◌else◌, Option, Some, None, is_some, option_map}
use Rattle.std.specs.List.{find}
use Rattle.wire.specs.Lists.{any}
use Rattle.wire.specs.Judged.{Judged, row, ◌>>◌}
use Rattle.engine_value.specs.Engine.{Route, route_in}
use Rattle.engine_value.specs.declared.Point.{Point}
use Rattle.engine_value.specs.declared.Engine.{Engine}
use Rattle.position.specs.Position.{point, point_count, indices}
use Rattle.position.specs.Standing.{standing, is_reached}
use Rattle.position.specs.declared.Standing.{Standing}
use Rattle.state_codes.specs.Codes.{state_at}
use Rattle.state_codes.specs.Numbers.{state_rows}

-- "a held stop is reached": that stop; no more than one point is reached
unfoldable pub held_stop : Route → (ℕ → Standing) → Option Point
held_stop j stands = option_map (point j) (find (λ k. is_reached (stands k) && (point j k).held) (indices j))

-- in an engine
abbrev pub held_stop_in : Engine → Option Point
held_stop_in e = held_stop (route_in e) (standing e.progress)

-- state: "Turned away: 20, a press at a held stop, checked right after 6."
unfoldable pub hold_row : Option Point → ℕ → Judged (Unit {0})
hold_row held kind = row 20 (eqb kind 8 && is_some held)

-- the places "power" and "state" of the table, 3 to 6 and 20, one after the other
unfoldable pub rows_of_state : Engine → ℕ → Judged (Unit {0})
rows_of_state e kind = do
  state_rows (state_at e.control.state) kind
  hold_row (held_stop_in e) kind

-- not "the new journey has its NID_TP unheld or lacks it": a point of journey j is of that name, and held
abbrev pub keeps_hold : Route → ℕ → Bool
keeps_hold j t = any (λ (p : Point). eqb p.nidtp t && p.held) (take (point_count j) j.points)

-- "If an accepted load comes while a held stop is reached, and the new journey has its NID_TP unheld or lacks it": that stop, as the old journey has it
unfoldable pub hold_ended : Option Point → Route → Option Point
hold_ended None new = None
hold_ended (Some p) new = if keeps_hold new p.nidtp then None else Some p
