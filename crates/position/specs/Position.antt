-- The journey's segments and points, and the known position.
use Rattle.std.specs.Prelude.{ℕ, ◌+◌, min, Option, Some, None, is_some, option_map, List, Bool, not, ◌&&◌, get_or, take, eqb, leb, if◌then◌else◌}
use Rattle.std.specs.List.{find}
use Rattle.wire.specs.Lists.{any, tabulate}
use Rattle.engine_value.specs.Engine.{Route, blank_point, undefined, max_points}
use Rattle.engine_value.specs.declared.Zone.{Zone}
use Rattle.engine_value.specs.declared.Load.{Load}
use Rattle.engine_value.specs.declared.Segment.{Segment}
use Rattle.engine_value.specs.declared.Point.{Point}
use Rattle.engine_value.specs.declared.Position.{Position}
use Rattle.position.specs.declared.Named.{Named}

-- how many points there are; the array holds 64
abbrev pub points_loaded : Load → ℕ
points_loaded l = min l.point_count max_points

abbrev pub point_count : Route → ℕ
point_count j = points_loaded j.load

-- the points of a journey by their index, in its order
abbrev pub indices : Route → List ℕ
indices j = tabulate (point_count j) (λ k. k)

abbrev pub point : Route → ℕ → Point
point j k = get_or j.points k blank_point

-- "A point is placed if its segment is", as the load found it. The term is document 01's.
abbrev pub placed : Route → ℕ → Bool
placed j k = (point j k).placed

-- ---- the journey segment that a position names

-- the journey's segments, in its order
abbrev pub listed : Route → List Segment
listed j = take j.load.segment_count j.segments

abbrev pub bears : ℕ → ℕ → Segment → Bool
bears c sp s = eqb s.nidc c && eqb s.nidsp sp

-- "both ends inside"
abbrev pub in_zone : ℕ → Zone → Bool
in_zone offset z = leb z.start offset && leb offset z.end

abbrev pub zones_of : Segment → List Zone
zones_of s = take s.zone_count s.zones

-- what is looked up in a segment, with the offset in it
abbrev pub named : ℕ → Segment → Named
named offset s = record { booked = s.booked; placed = s.placed; inside = any (in_zone offset) (zones_of s); start = s.start; length = s.length }

-- "its segment", of the offset: the first of the journey's that bears the name. The position, the conditions and row 13 look it up, whether or
-- not the offset is defined
abbrev pub segment_named : Route → Position → Option Named
segment_named j x = option_map (named x.offset) (find (bears x.nidc x.nidsp) (listed j))

-- ---- the known position

abbrev pub offset_defined : Position → Bool
offset_defined x = not (eqb x.offset undefined)

-- "The position is known if the offset is defined, its segment placed and the offset within its length"; the front, counted from the journey's
-- start. By the segment that the position names
unfoldable pub front : Option Named → Position → Option ℕ
front None x = None
front (Some s) x = if offset_defined x && (s.placed && leb x.offset s.length) then Some (s.start + x.offset) else None

abbrev pub front_at : Route → Position → Option ℕ
front_at j x = front (segment_named j x) x

abbrev pub known : Route → Position → Bool
known j x = is_some (front_at j x)
