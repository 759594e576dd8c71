-- What the values of the code say.
use Rattle.std.specs.Prelude.{false, get_or}
use Rattle.engine_value.specs.Engine.{Route}
use Rattle.engine_value.specs.View.{route_view}
use Rattle.timing.specs.Distance.{Report}
use Rattle.timing.specs.declared.PositionReport as code

-- the journey of a position report
abbrev pub journey_of : code.PositionReport → Route
journey_of r = route_view r.place.journey

-- a position report, with the train length and the driver skips where they are kept
abbrev pub report_view : code.PositionReport → Report
report_view r = record { position = r.place.position; length = r.length; skips = λ k. get_or r.skips.now k false }
