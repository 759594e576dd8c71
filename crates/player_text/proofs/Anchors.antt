-- The anchors, by computation.
use mathlib.Core.Path.{refl}
use Rattle.wire.specs.Numbers.{number}
use Rattle.fields.specs.Parse.{field}
use Rattle.packets.specs.Packets.{cut, cut_packets}
use Rattle.player_text.specs.Calls.{some, block, profiles, call}
use Rattle.player_text.specs.Lines.{hex, decimal, hex_lines, lines}
use Rattle.player_text.specs.Anchors.{Anchors}

pub anchors : Anchors
unfolding number field cut cut_packets some block profiles call hex decimal hex_lines lines
anchors = record {
  events = refl;
  profiles = refl;
  short = refl;
  example = refl;
  accepted_lem = refl;
  refused_lem = refl;
  turned_down = refl;
  decimals = refl;
  digits = refl;
  a_line_each = refl;
  lends = refl;
}
