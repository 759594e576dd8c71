-- Driver skips: "14 no stop of that name".
use Rattle.std.specs.Prelude.{ℕ, Option, Some, None, List, Bool, false, ◌&&◌, get_or, take, eqb}
use Rattle.std.specs.List.{position}
use Rattle.engine_value.specs.Engine.{Route, route_in}
use Rattle.engine_value.specs.declared.Point.{Point}
use Rattle.engine_value.specs.declared.Engine.{Engine}
use Rattle.position.specs.Position.{point_count}
use Rattle.position.specs.declared.Stop.{Stop}

-- a stop of that name
abbrev pub is_stop : ℕ → Point → Bool
is_stop t p = p.stop && eqb p.nidtp t

-- the first of the journey's points that is one
unfoldable pub stop_named : Route → ℕ → Option ℕ
stop_named j t = position (is_stop t) (take (point_count j) j.points)

-- the stop, and whether the driver skips it
abbrev pub stop_at : List Bool → Option ℕ → Option Stop
stop_at skips None = None
stop_at skips (Some k) = Some (record { at = k; skipped = get_or skips k false })

abbrev pub stop_in : Engine → ℕ → Option Stop
stop_in e t = stop_at e.skips (stop_named (route_in e) t)
