-- The engine as a value: blank elements, fresh.
use Rattle.std.specs.Prelude.{ℕ, List, [], ◌++◌, Bool, false, replicate, take, length}
use Rattle.engine_value.specs.declared.Zone.{Zone}
use Rattle.engine_value.specs.declared.Segment.{Segment}
use Rattle.engine_value.specs.declared.Point.{Point}
use Rattle.engine_value.specs.declared.Load.{Load}
use Rattle.engine_value.specs.declared.Progress.{Progress}
use Rattle.engine_value.specs.declared.Position.{Position}
use Rattle.engine_value.specs.declared.Train.{Train}
use Rattle.engine_value.specs.declared.Inputs.{Inputs}
use Rattle.engine_value.specs.declared.Control.{Control}
use Rattle.engine_value.specs.declared.Traction.{Traction}
use Rattle.engine_value.specs.declared.Adhesion.{Adhesion}
use Rattle.adhesion.specs.Constraints.{max_constraints, blank_constraint}
use Rattle.adhesion.specs.declared.TemporaryConstraint.{TemporaryConstraint}
use Rattle.engine_value.specs.declared.Engine.{Engine}

-- ---- constants

-- the greatest numbers of two and of four bytes
abbrev pub max2 : ℕ
max2 = 65535

abbrev pub max4 : ℕ
max4 = 4294967295

-- "NID_C (2 bytes, 0-1023)"
abbrev pub max_nidc : ℕ
max_nidc = 1023

-- "NID_TP (4, below 4,294,967,295)"
abbrev pub max_nidtp : ℕ
max_nidtp = 4294967294

-- "offset (4; 16,777,215 undefined, none higher)"
abbrev pub undefined : ℕ
undefined = 16777215

-- "NID_OPERATIONAL (4; FFFFFFFF hexadecimal with no journey)"
abbrev pub no_operational : ℕ
no_operational = 4294967295

-- "segments: count (1, 1-40)"; "A book is 0 to 40 records"
abbrev pub max_segments : ℕ
max_segments = 40

-- "points: count (1, 1-64)"
abbrev pub max_points : ℕ
max_points = 64

-- of a segment record: "inhibition zones: count (1, 1-4)"
abbrev pub max_zones : ℕ
max_zones = 4

-- ---- what stands in the arrays beyond the counts

-- the first n of l, and behind them blank
abbrev pub filled : {A : Type 0} → ℕ → A → List A → List A
filled n blank l = take n (l ++ replicate n blank)

abbrev pub blank_zone : Zone
blank_zone = record { start = 0; end = 0 }

abbrev pub blank_segment : Segment
blank_segment = record { nidsp = 0; start = 0; length = 0; zone_count = 0; zones = replicate max_zones blank_zone; nidc = 0; booked = false; placed = false }

abbrev pub blank_point : Point
blank_point = record { nidtp = 0; place = 0; reach = 0; nidc = 0; alignment = 0; stopping = 0; stop = false; trackside = false; held = false; placed = false }

-- ---- the values from events

-- the values that the engine keeps from an event, each a number; the position beside them
pub data Value : Type 0 where
  mode lever reports train_length : Value

abbrev pub place : Value → ℕ
place mode = 0
place lever = 1
place reports = 2
place train_length = 3

abbrev pub number_in : Engine → Value → ℕ
number_in e mode = e.inputs.mode
number_in e lever = e.inputs.lever
number_in e reports = e.inputs.reports
number_in e train_length = e.train.length

-- the train with that position, and the inputs, of these numbers
abbrev pub train_of : Position → (Value → ℕ) → Train
train_of x n = record { position = x; length = n train_length }

abbrev pub inputs_of : (Value → ℕ) → Inputs
inputs_of n = record { mode = n mode; lever = n lever; reports = n reports }

-- ---- "Fresh: NP, mode other, lever neutral, reports 0, length 0, speed 0, NID_C and NID_SP 0, offset undefined, no journey, no press, no request."

abbrev pub progress : ℕ → Bool → Progress
progress n r = record { next = n; reached = r }

-- "no journey"
abbrev pub no_load : Load
no_load = record { operational = no_operational; valid = false; ending = 0; point_count = 0; segment_count = 0 }

abbrev pub fresh_position : Position
fresh_position = record { nidsp = 0; offset = undefined; nidc = 0; speed = 0 }

abbrev pub fresh_train : Train
fresh_train = train_of fresh_position (λ v. 0)

abbrev pub fresh_inputs : Inputs
fresh_inputs = inputs_of (λ v. 0)

abbrev pub fresh_control : Control
fresh_control = record { state = 0; press = false; request = false }

-- 02, Q-1: range and Q_ATO_SupTB of no request are remembered
abbrev pub no_traction : Traction
no_traction = record { remembered = false; range = 0; suptb = 0; spare = 0 }

-- 02, Q-7: the group that shows some rows
abbrev pub adhesion_of : List TemporaryConstraint → Adhesion
adhesion_of rows = record { constraints = filled max_constraints blank_constraint rows; count = length rows }

-- "else none"
abbrev pub no_adhesion : Adhesion
no_adhesion = adhesion_of []

abbrev pub no_skips : List Bool
no_skips = replicate max_points false

abbrev pub fresh : Engine
fresh = record {
  points = replicate max_points blank_point;
  skips = no_skips;
  segments = replicate max_segments blank_segment;
  load = no_load;
  train = fresh_train;
  progress = progress 0 false;
  inputs = fresh_inputs;
  control = fresh_control;
  traction = no_traction;
  adhesion = no_adhesion;
}

-- ---- a load's result: what stands in the engine until the next one

pub record Route : Type 0 where
  pub load : Load
  pub points : List Point
  pub segments : List Segment

abbrev pub no_route : Route
no_route = record { load = no_load; points = replicate max_points blank_point; segments = replicate max_segments blank_segment }

abbrev pub route_in : Engine → Route
route_in e = record { load = e.load; points = e.points; segments = e.segments }

-- the engine with other groups of control, traction and adhesion (antt has no record update)
abbrev pub with_control : Engine → Control → Traction → Adhesion → Engine
with_control e c t a =
    record {
      points = e.points;
      skips = e.skips;
      segments = e.segments;
      load = e.load;
      train = e.train;
      progress = e.progress;
      inputs = e.inputs;
      control = c;
      traction = t;
      adhesion = a;
    }
