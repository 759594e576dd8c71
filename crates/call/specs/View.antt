-- What the code answers of an engine.
use Rattle.engine_value.specs.Engine.{route_in, max_points}
use Rattle.engine_value.specs.declared.Engine.{Engine}
use Rattle.status_word.specs.View.{conditions_number}
use Rattle.position.specs.Position.{point_count}
use Rattle.call.specs.Call.{conditions_in}
use Rattle.call.specs.Shown.{state_in, request_in, standings_in, constraint_count_in}
use Rattle.call.specs.declared.Shown.{Shown}

-- what an engine shows
abbrev pub shown_view : Engine → Shown
shown_view e =
    record {
      state = state_in e;
      request = request_in e;
      conditions = conditions_number (conditions_in e);
      point_count = point_count (route_in e);
      standings = standings_in e max_points;
      constraint_count = constraint_count_in e;
    }
