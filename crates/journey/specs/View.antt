-- What the values of the code say.
use Rattle.std.specs.Prelude.{min, take}
use Rattle.engine_value.specs.Engine.{max_segments, max_points}
use Rattle.journey.specs.Journey.{JourneyValue}
use Rattle.journey.specs.declared.Journey.{Journey}

-- the names and the points that the counts take in; safe for every value of the struct
abbrev pub value_view : Journey → JourneyValue
value_view j = record { head = j.head; names = take (min max_segments j.name_count) j.names; points = take (min max_points j.point_count) j.points }
