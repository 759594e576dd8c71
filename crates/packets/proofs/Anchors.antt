-- The anchors, by computation.
use mathlib.Core.Path.{refl}
use Rattle.wire.specs.Numbers.{number, bytes_of}
use Rattle.layout.specs.Layout.{bytes, values_at}
use Rattle.packets.specs.Packets.{value_bytes, judged_packet, packet_of, written_count, written_memory, cut, cut_packets}
use Rattle.packets.specs.Anchors.{InBytes, Ranges, Lengths, Writing, Pieces, Anchors}

in_bytes : InBytes
unfolding value_bytes bytes bytes_of number values_at judged_packet packet_of
in_bytes = record {
  power_on_lem = record { bytes = refl; reads = refl; size = refl };
  stop = record { bytes = refl; reads = refl; size = refl };
  point = record { bytes = refl; reads = refl; size = refl };
  ended = record { bytes = refl; reads = refl; size = refl };
  status_numbers = refl;
  journey = record { bytes = refl; reads = refl; size = refl };
  turned_down = record { bytes = refl; reads = refl; size = refl };
  jp_statuses = refl;
  status = record { bytes = refl; reads = refl; size = refl };
  traction = record { bytes = refl; reads = refl; size = refl };
  no_rows = record { bytes = refl; reads = refl; size = refl };
  one_row = record { bytes = refl; reads = refl; size = refl };
  two_rows = record { bytes = refl; reads = refl; size = refl };
  most_rows = record { bytes = refl; reads = refl; size = refl };
  sizes = refl;
  content_at_lem = refl;
  unknown = refl;
  sequence = refl;
}

ranges : Ranges
unfolding number values_at judged_packet packet_of written_count
ranges = record {
  headers = refl;
  point_names = refl;
  infos = refl;
  statuses = refl;
  stopping = refl;
  most_stopping = refl;
  journeys = refl;
  states = refl;
  requests = refl;
  rows = refl;
  reversed_rows = refl;
  row_counts = refl;
}

lengths : Lengths
unfolding number values_at judged_packet packet_of
lengths = record { rows = refl; empty = refl; shorter = refl; longer = refl; alone = refl; length_first = refl; others = refl; other = refl }

writing : Writing
unfolding value_bytes bytes bytes_of written_count written_memory
writing = record {
  count = refl;
  counts = refl;
  memory = refl;
  short = refl;
  traction_short = refl;
  rows_short = refl;
  rows_kept = refl;
  too_many = refl;
  short_kept = refl;
  unfit = refl;
  unfit_kept = refl;
  jp_written = refl;
  beyond = refl;
  beyond_one = refl;
}

pieces : Pieces
unfolding number values_at cut cut_packets
pieces = record { sizes = refl; by_count = refl; rows_first = refl; rows_cut_short = refl; fronts = refl; none = refl; three = refl; traction = refl; cut_short = refl; unknown = refl }

pub anchors : Anchors
anchors = record { in_bytes = in_bytes; ranges = ranges; lengths = lengths; writing = writing; pieces = pieces }
