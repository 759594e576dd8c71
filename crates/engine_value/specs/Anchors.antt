-- Values worked out by hand from document 01, which the definitions must give.
use Rattle.std.specs.Prelude.{ℕ, ◌+◌, ◌≡◌, true, false, [], ◌∷◌, map, replicate}
use Rattle.engine_value.specs.Engine.{max2, max4, max_nidc, max_nidtp, undefined, no_operational, max_segments, max_points, max_zones, filled}
use Rattle.engine_value.specs.Engine.{blank_zone, blank_segment, blank_point, progress, no_skips, no_traction, fresh, adhesion_of, no_adhesion, no_route, route_in, with_control}
use Rattle.engine_value.specs.Engine.{Value, mode, lever, reports, train_length, place, number_in, train_of, inputs_of}
use Rattle.engine_value.specs.declared.Load.{Load}
use Rattle.engine_value.specs.declared.Position.{Position}
use Rattle.engine_value.specs.declared.Control.{Control}
use Rattle.engine_value.specs.declared.Traction.{Traction}
use Rattle.engine_value.specs.declared.Adhesion.{Adhesion}
use Rattle.adhesion.specs.Anchors.{north, south}
use Rattle.adhesion.specs.Constraints.{blank_constraint}
use Rattle.engine_value.specs.declared.Engine.{Engine}

pub record Constants : Type 0 where
  -- numbers of two and of four bytes
  pub two_bytes : max2 ≡ 0xFFFF
  pub four_bytes : max4 ≡ 0xFFFFFFFF
  -- "NID_C (2 bytes, 0-1023)"; "NID_TP (4, below 4,294,967,295)"
  pub country : max_nidc ≡ 1023
  pub point_name : max_nidtp + 1 ≡ 4294967295
  -- "offset (4; 16,777,215 undefined, none higher)"; "NID_OPERATIONAL (4; FFFFFFFF hexadecimal with no journey)"
  pub no_offset : undefined ≡ 16777215
  pub no_operational_lem : no_operational ≡ 0xFFFFFFFF
  -- "A book is 0 to 40 records"; "segments: count (1, 1-40)"; "points: count (1, 1-64)"; "inhibition zones: count (1, 1-4)"
  pub segments : max_segments ≡ 40
  pub points : max_points ≡ 64
  pub zones : max_zones ≡ 4

-- "Fresh: NP, mode other, lever neutral, reports 0, length 0, speed 0, NID_C and NID_SP 0, offset undefined, no journey, no press, no request."
pub record Fresh : Type 0 where
  pub NP : fresh.control.state ≡ 0
  -- "mode (1: 0 other, ..); lever (1: 0 neutral, ..)"
  pub mode_other : fresh.inputs.mode ≡ 0
  pub lever_neutral : fresh.inputs.lever ≡ 0
  pub reports_0 : fresh.inputs.reports ≡ 0
  pub length_0 : fresh.train.length ≡ 0
  pub speed_0 : fresh.train.position.speed ≡ 0
  pub nidc_0 : fresh.train.position.nidc ≡ 0
  pub nidsp_0 : fresh.train.position.nidsp ≡ 0
  pub offset_undefined : fresh.train.position.offset ≡ 16777215
  -- "no journey", thus no point that is reached and no driver skip; "NID_OPERATIONAL (4; FFFFFFFF hexadecimal with no journey)"
  pub no_journey : fresh.load ≡ record { operational = 0xFFFFFFFF; valid = false; ending = 0; point_count = 0; segment_count = 0 }
  pub no_progress : fresh.progress ≡ record { next = 0; reached = false }
  pub no_skips_lem : fresh.skips ≡ replicate 64 false
  pub no_points : fresh.points ≡ replicate 64 blank_point
  pub no_segments : fresh.segments ≡ replicate 40 blank_segment
  pub no_press : fresh.control.press ≡ false
  pub no_request_lem : fresh.control.request ≡ false
  -- 02, Q-1: no request yet, so "the first request writes"
  pub no_traction_lem : fresh.traction ≡ record { remembered = false; range = 0; suptb = 0; spare = 0 }
  -- 02, Q-7: "the rows of the latest one since power off, else none"
  pub no_adhesion_lem : fresh.adhesion ≡ record { constraints = replicate 31 blank_constraint; count = 0 }
  pub no_route_lem : no_route ≡ route_in fresh
  pub skips_cleared : no_skips ≡ replicate 64 false

-- every value of a blank element is 0 or false
pub record Blank : Type 0 where
  pub constraint : blank_constraint ≡ record { nidsp = 0; start = 0; end = 0; nidc = 0; category = 0; range = 0 }
  pub zone : blank_zone ≡ record { start = 0; end = 0 }
  pub segment : blank_segment ≡ record {
    nidsp = 0;
    start = 0;
    length = 0;
    zone_count = 0;
    zones = replicate 4 (record { start = 0; end = 0 });
    nidc = 0;
    booked = false;
    placed = false;
  }
  pub point : blank_point ≡ record {
    nidtp = 0;
    place = 0;
    reach = 0;
    nidc = 0;
    alignment = 0;
    stopping = 0;
    stop = false;
    trackside = false;
    held = false;
    placed = false;
  }
  -- the first n of a list, then blank ones
  pub filling : map (filled {A = ℕ} 3 9) ([] ∷ (1 ∷ 2 ∷ []) ∷ (1 ∷ 2 ∷ 3 ∷ 4 ∷ []) ∷ []) ≡ (9 ∷ 9 ∷ 9 ∷ []) ∷ (1 ∷ 2 ∷ 9 ∷ []) ∷ (1 ∷ 2 ∷ 3 ∷ []) ∷ []

-- values that cannot be taken for one another
abbrev pub values : Value → ℕ
values mode = 1
values lever = 2
values reports = 31
values train_length = 400

abbrev pub somewhere : Position
somewhere = record { nidsp = 500; offset = 39900; nidc = 17; speed = 3 }

abbrev pub journey : Load
journey = record { operational = 7; valid = true; ending = 1; point_count = 2; segment_count = 1 }

abbrev pub engaged : Control
engaged = record { state = 5; press = false; request = true }

-- range 3, Q_ATO_SupTB 200
abbrev pub requested : Traction
requested = record { remembered = true; range = 3; suptb = 200; spare = 0 }

-- two rows, no two values alike
abbrev pub slippery : Adhesion
slippery = record { constraints = north ∷ south ∷ replicate 29 blank_constraint; count = 2 }

abbrev pub sample : Control → Traction → Adhesion → Engine
sample c t a = record {
  points = blank_point ∷ blank_point ∷ [];
  skips = true ∷ [];
  segments = blank_segment ∷ [];
  load = journey;
  train = record { position = somewhere; length = 400 };
  progress = progress 1 true;
  inputs = record { mode = 1; lever = 2; reports = 31 };
  control = c;
  traction = t;
  adhesion = a;
}

pub record Groups : Type 0 where
  pub places : map place (mode ∷ lever ∷ reports ∷ train_length ∷ []) ≡ 0 ∷ 1 ∷ 2 ∷ 3 ∷ []
  -- "Mode, lever, reports, position and train length": each value in its field
  pub numbers : map (number_in (sample engaged requested slippery)) (mode ∷ lever ∷ reports ∷ train_length ∷ []) ≡ 1 ∷ 2 ∷ 31 ∷ 400 ∷ []
  pub train : train_of somewhere values ≡ record { position = somewhere; length = 400 }
  pub inputs : inputs_of values ≡ record { mode = 1; lever = 2; reports = 31 }
  pub reached : progress 1 true ≡ record { next = 1; reached = true }
  pub unreached : progress 2 false ≡ record { next = 2; reached = false }
  pub route : route_in (sample engaged requested slippery) ≡ record { load = journey; points = blank_point ∷ blank_point ∷ []; segments = blank_segment ∷ [] }
  -- 02, Q-7: "the engine shows the rows"; behind them blank ones
  pub adhesion : adhesion_of (north ∷ south ∷ []) ≡ slippery
  pub control : with_control (sample fresh.control no_traction no_adhesion) engaged requested slippery ≡ sample engaged requested slippery

pub record Anchors : Type 0 where
  pub constants : Constants
  pub freshly : Fresh
  pub blank : Blank
  pub groups : Groups
