-- What the values of the code say.
use Rattle.engine_value.specs.Engine.{Route}
use Rattle.engine_value.specs.declared.Route as code

-- the journey where it is kept
abbrev pub route_view : code.Route → Route
route_view j = record { load = j.load; points = j.points.now; segments = j.segments.now }
