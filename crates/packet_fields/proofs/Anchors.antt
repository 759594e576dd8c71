-- The anchors, by computation.
use mathlib.Core.Path.{refl}
use Rattle.wire.specs.Numbers.{number}
use Rattle.layout.specs.Layout.{values_at}
use Rattle.packets.specs.Packets.{judged_packet, packet_of}
use Rattle.packet_fields.specs.Anchors.{Anchors}

pub anchors : Anchors
unfolding number values_at judged_packet packet_of
anchors = record {
  accepted = refl;
  no_number = refl;
  kinds = refl;
  sizes = refl;
  headers = refl;
  values = refl;
  rows = refl;
  no_rows = refl;
  status = refl;
  not_accepted = refl;
  numbers = refl;
  number_only = refl;
}
