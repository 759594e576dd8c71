-- The anchors, by computation.
use mathlib.Core.Path.{refl}
use Rattle.traction.specs.Anchors.{InRanges, Requests, Views, Anchors}

in_ranges : InRanges
in_ranges = record {
  range0 = refl;
  range1 = refl;
  range2 = refl;
  range3 = refl;
  range4 = refl;
  range5 = refl;
  first = refl;
  lowest_one = refl;
  from_0 = refl;
  from_1 = refl;
  from_2 = refl;
  from_3 = refl;
  from_4 = refl;
  worked = refl;
  jumps = refl;
}

requests : Requests
requests = record {
  of = refl;
  sizes = refl;
  from_2 = refl;
  in_state_lem = refl;
  made_in = refl;
  made_by = refl;
  entering = refl;
  leaving = refl;
  elsewhere = refl;
  off = refl;
  stored = refl;
  stored_first = refl;
  kept = refl;
  forgotten = refl;
  changes = refl;
  written_in = refl;
  unchanged = refl;
  not_asked = refl;
}

views : Views
views = record { groups = refl; told = refl }

pub anchors : Anchors
anchors = record { in_ranges = in_ranges; requests = requests; views = views }
