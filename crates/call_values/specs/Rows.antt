-- The tests of rows 13 and 15.
use Rattle.std.specs.Prelude.{Option, Some, None, Bool, false, not, ◌&&◌, if◌then◌else◌}
use Rattle.engine_value.specs.declared.Position.{Position}
use Rattle.position.specs.Position.{offset_defined}
use Rattle.position.specs.declared.Named.{Named}
use Rattle.conditions.specs.Conditions.{too_far}

-- position: "13 journey segment that is in the book, offset defined and beyond its length"
unfoldable pub offset_beyond : Option Named → Position → Bool
offset_beyond None x = false
offset_beyond (Some s) x = offset_defined x && too_far x s

-- skip: "15 .. driver skip already given, or no driver skip to revoke": it is as the event would have it
abbrev pub same_bool : Bool → Bool → Bool
same_bool a b = if a then b else not b
