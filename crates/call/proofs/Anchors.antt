-- The anchors, by computation.
use mathlib.Core.Path.{refl}
use Rattle.call.proofs.Computed.{computed}
use Rattle.call.specs.Shown.{standings_in}
use Rattle.call.specs.Anchors.{Anchors}

pub anchors : Anchors
unfolding computed standings_in
anchors = record {
  brought = refl;
  nothing_brought = refl;
  points_kept = refl;
  press_kept = refl;
  press_loaded = refl;
  ignored = refl;
  power_off_lem = refl;
  report = refl;
  standing_still = refl;
  row_13 = refl;
  row_13_elsewhere = refl;
  loaded = refl;
  first_load = refl;
  skips_given = refl;
  skips_revoked = refl;
  skip_ahead = refl;
  revoke_ahead = refl;
  given = refl;
  revoked = refl;
  skips_after = refl;
  route_after_lem = refl;
  stores = refl;
  nine = refl;
  status = refl;
  told = refl;
  reaches_held = refl;
  stays_held = refl;
  row_20 = refl;
  load_ends = refl;
  load_targeted = refl;
  load_writes = refl;
  load_ends_all = refl;
  skips_told = refl;
  first_skips = refl;
  driver_skips = refl;
  skips_written = refl;
  end_in_EG = refl;
  first_request = refl;
  requests = refl;
  requests_in = refl;
  written_in = refl;
  forgetting = refl;
  request_order = refl;
  row_16_request = refl;
  slippery = refl;
  rows_kept = refl;
  rows_loaded = refl;
  rows_off = refl;
  none_written = refl;
  slippery_order = refl;
  row_16_slippery = refl;
  row_21_order = refl;
  shows_rows = refl;
  counts_rows = refl;
  row_16 = refl;
  row_16_two = refl;
  in_NP = refl;
  in_FA = refl;
  in_NA = refl;
  in_CO = refl;
  in_RE = refl;
  stands = refl;
  stands_past = refl;
  shows = refl;
  shows_fresh = refl;
}
