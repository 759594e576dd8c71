-- Values worked out by hand from documents 01 and 02, which the table of the kinds and the reader must give, a line a kind.
use Rattle.std.specs.Prelude.{ℕ, ◌≡◌, true, false, Option, Some, None, Ok, Err, List, [], ◌∷◌, ◌++◌, map, flat_map, take, replicate}
use Rattle.wire.specs.Judged.{Judged}
use Rattle.wire.specs.Judged.Judged.{refuse, accept}
use Rattle.wire.specs.View.{judged}
use Rattle.wire.specs.declared.Refusal.{Refusal}
use Rattle.engine_value.specs.Engine.{mode, lever, reports, train_length}
use Rattle.engine_value.specs.declared.Position.{Position}
use Rattle.event.specs.Kinds.{Row, SwitchOn, Configure, SwitchOff, Fail, EngagePress, ByState}
use Rattle.event.specs.Kinds.{Role, off, load, report, other, skip, is_off, is_load, is_report, is_skip, skip_given, skip_name, newer}
use Rattle.event.specs.Kinds.{kind_of, row_of, role_of, carried, event_constraints}
use Rattle.event.specs.Events.{event_of}
use Rattle.event.specs.View.{kind_number, known_kind, role_view}
use Rattle.adhesion.specs.Anchors.{north, south, north_bytes, south_bytes}
use Rattle.event.specs.declared.TractionRequest.{TractionRequest}
use Rattle.event.specs.Event.{Event}
use Rattle.event.specs.declared.EventKind.{EventKind}
use Rattle.event.specs.declared.Role as code

-- ---- one event of each kind

-- mode, lever, reports, train length and position that an event brings
abbrev pub Brought : Type 0
Brought = Option ℕ × Option ℕ × Option ℕ × Option ℕ × Option Position

abbrev pub brought_by : Event → Brought
brought_by e = ((carried e).number mode, (carried e).number lever, (carried e).number reports, (carried e).number train_length, (carried e).position)

abbrev pub nothing : Brought
nothing = (None, None, None, None, None)

-- no two bytes alike
abbrev pub somewhere : Position
somewhere = record { nidc = 0x0123; nidsp = 0x456789AB; offset = 0x00CDEF12; speed = 0x3456 }

-- −20 in two's complement
abbrev pub asked : TractionRequest
asked = record { request = 0xEC; content = record { m_ato_trabrrq = 0xA1; m_ato_locobrrq = 0xB2; q_ato_suptb = 0xC3; m_ato_rtbrq = 0xD4E5 } }

-- an event, its number, its row, its role, what it brings, and its bytes
abbrev pub Vector : Type 0
Vector = Event × ℕ × Row × Role × Brought × List ℕ

-- "One byte kind, then: 1 power on; 2 configured; 3 power off; 4 fault; 5 reports (1: ..); 6 ETCS mode (1: ..); 7 lever (1: ..); 8 engage press;
-- 9 position: NID_C (2, ..), NID_SP (4), offset (4; ..), speed (2); 10 train length (4, ..); 11 load, ..; 12 driver skip (4, NID_TP); 13 driver
-- revokes skip (4)"; "power on gives CO; CO waits for configured, then U; fault gives FA until power off"; "Mode, lever, reports, position and train
-- length come from the latest accepted event .. that carries them"; 02: "A kind 14 event carries one signed byte, .., then the five bytes of packet 61";
-- "A kind 15 event brings count (0-31) and that many rows: NID_C, NID_SP, category, range, start, end, of 2, 4, 1, 1, 4 and 4 bytes"
abbrev pub vectors : List Vector
vectors =
    (Event.PowerOn, 1, SwitchOn, other, nothing, 1 ∷ [])
    ∷ (Event.Configured, 2, Configure, other, nothing, 2 ∷ [])
    ∷ (Event.PowerOff, 3, SwitchOff, off, nothing, 3 ∷ [])
    ∷ (Event.Fault, 4, Fail, other, nothing, 4 ∷ [])
    ∷ (Event.Reports 22, 5, ByState, other, (None, None, Some 22, None, None), 5 ∷ 22 ∷ [])
    ∷ (Event.Mode 1, 6, ByState, other, (Some 1, None, None, None, None), 6 ∷ 1 ∷ [])
    ∷ (Event.Lever 2, 7, ByState, other, (None, Some 2, None, None, None), 7 ∷ 2 ∷ [])
    ∷ (Event.Press, 8, EngagePress, other, nothing, 8 ∷ [])
    ∷ (
      Event.PositionReport somewhere,
      9,
      ByState,
      report,
      (None, None, None, None, Some somewhere),
      9 ∷ 0x01 ∷ 0x23 ∷ 0x45 ∷ 0x67 ∷ 0x89 ∷ 0xAB ∷ 0x00 ∷ 0xCD ∷ 0xEF ∷ 0x12 ∷ 0x34 ∷ 0x56 ∷ [],
    )
    ∷ (Event.Length 0x012345, 10, ByState, other, (None, None, None, Some 0x012345, None), 10 ∷ 0x00 ∷ 0x01 ∷ 0x23 ∷ 0x45 ∷ [])
    ∷ (Event.Load, 11, ByState, load, nothing, 11 ∷ [])
    ∷ (Event.Skip 0x456789AB, 12, ByState, skip 0x456789AB true, nothing, 12 ∷ 0x45 ∷ 0x67 ∷ 0x89 ∷ 0xAB ∷ [])
    ∷ (Event.Revoke 7001, 13, ByState, skip 7001 false, nothing, 13 ∷ 0x00 ∷ 0x00 ∷ 0x1B ∷ 0x59 ∷ [])
    ∷ (Event.Traction asked, 14, ByState, other, nothing, 14 ∷ 0xEC ∷ 0xA1 ∷ 0xB2 ∷ 0xC3 ∷ 0xD4 ∷ 0xE5 ∷ [])
    ∷ (Event.Adhesion (north ∷ south ∷ []), 15, ByState, other, nothing, 15 ∷ 2 ∷ north_bytes ++ south_bytes)
    ∷ []

abbrev pub event_in : Vector → Event
event_in (e, n, w, r, b, l) = e

-- the table and the reader give these
abbrev pub said : Vector → ℕ × Row × Role × Brought × Judged Event
said (e, n, w, r, b, l) = (n, w, r, b, accept e)

abbrev pub given : Vector → ℕ × Row × Role × Brought × Judged Event
given (e, n, w, r, b, l) = (kind_of e, row_of e, role_of e, brought_by e, event_of l)

abbrev pub bytes_in : Vector → List ℕ
bytes_in (e, n, w, r, b, l) = l

-- ---- the rows of the place "event"

-- the number that refuses; 0 where none does
abbrev pub number_in : Judged Event → ℕ
number_in (refuse n) = n
number_in (accept e) = 0

abbrev pub number_for : List ℕ → ℕ
number_for l = number_in (event_of l)

-- a position report of NID_C and offset, the rest free
abbrev pub report_of : List ℕ → List ℕ → List ℕ
report_of nidc offset = 9 ∷ (nidc ++ (0xFF ∷ 0xFF ∷ 0xFF ∷ 0xFF ∷ (offset ++ (0xFF ∷ 0xFF ∷ []))))

-- a row of NID_C, start and end, the rest free
abbrev pub constraint_bytes : List ℕ → List ℕ → List ℕ → List ℕ
constraint_bytes nidc start end = nidc ++ (0xFF ∷ 0xFF ∷ 0xFF ∷ 0xFF ∷ 0xFF ∷ 0xFF ∷ (start ++ end))

-- start 251, end 250
abbrev pub reversed_bytes : List ℕ
reversed_bytes = constraint_bytes (0x00 ∷ 0x11 ∷ []) (0x00 ∷ 0x00 ∷ 0x00 ∷ 0xFB ∷ []) (0x00 ∷ 0x00 ∷ 0x00 ∷ 0xFA ∷ [])

pub record Rows : Type 0 where
  -- "2 field out of range": "reports (1: bit 0 .. 4 ..; 5-7 zero)"; "ETCS mode (1: 0 other, 1 AD)"; "lever (1: 0 neutral, 1 traction, 2 brake)"
  pub reports_range : map (λ n. event_of (5 ∷ n ∷ [])) (0 ∷ 1 ∷ 2 ∷ 4 ∷ 8 ∷ 16 ∷ 31 ∷ 32 ∷ 64 ∷ 128 ∷ [])
      ≡ map accept (map Event.Reports (0 ∷ 1 ∷ 2 ∷ 4 ∷ 8 ∷ 16 ∷ 31 ∷ [])) ++ (refuse 2 ∷ refuse 2 ∷ refuse 2 ∷ [])
  pub mode_range : map (λ n. event_of (6 ∷ n ∷ [])) (0 ∷ 1 ∷ 2 ∷ 255 ∷ []) ≡ accept (Event.Mode 0) ∷ accept (Event.Mode 1) ∷ refuse 2 ∷ refuse 2 ∷ []
  pub lever_range : map (λ n. event_of (7 ∷ n ∷ [])) (0 ∷ 1 ∷ 2 ∷ 3 ∷ 255 ∷ [])
      ≡ accept (Event.Lever 0) ∷ accept (Event.Lever 1) ∷ accept (Event.Lever 2) ∷ refuse 2 ∷ refuse 2 ∷ []
  -- "NID_C (2, 0-1023), NID_SP (4), offset (4; 16,777,215 undefined, none higher), speed (2)": NID_SP and speed are free
  pub nidc_range : map (λ c. number_for (report_of c (0 ∷ 0 ∷ 0 ∷ 0 ∷ []))) ((0x00 ∷ 0x00 ∷ []) ∷ (0x03 ∷ 0xFF ∷ []) ∷ (0x04 ∷ 0x00 ∷ []) ∷ [])
      ≡ 0 ∷ 0 ∷ 2 ∷ []
  pub offset_range : map (λ o. number_for (report_of (0x03 ∷ 0xFF ∷ []) o)) ((0x00 ∷ 0xFF ∷ 0xFF ∷ 0xFF ∷ []) ∷ (0x01 ∷ 0x00 ∷ 0x00 ∷ 0x00 ∷ []) ∷ [])
      ≡ 0 ∷ 2 ∷ []
  -- "train length (4, 1-100,000)": 0, 1, 100,000 (01 86 A0), 100,001
  pub length_range : map (λ l. number_for (10 ∷ 0x00 ∷ l))
      ((0x00 ∷ 0x00 ∷ 0x00 ∷ []) ∷ (0x00 ∷ 0x00 ∷ 0x01 ∷ []) ∷ (0x01 ∷ 0x86 ∷ 0xA0 ∷ []) ∷ (0x01 ∷ 0x86 ∷ 0xA1 ∷ []) ∷ []) ≡ 2 ∷ 0 ∷ 0 ∷ 2 ∷ []
  -- "driver skip (4, NID_TP)", "driver revokes skip (4)": no range
  pub skip_range : map (λ k. number_for (k ∷ 0xFF ∷ 0xFF ∷ 0xFF ∷ 0xFF ∷ [])) (12 ∷ 13 ∷ []) ≡ 0 ∷ 0 ∷ []
  -- "the request from −100 to 100", "A request beyond 100 gets number 2": 0, 1, 100, 101, 127; −128, −101, −100, −1. The content is free
  pub traction_range : map (λ n. number_for (14 ∷ n ∷ 0xFF ∷ 0xFF ∷ 0xFF ∷ 0xFF ∷ 0xFF ∷ [])) (0x00 ∷ 0x01 ∷ 0x64 ∷ 0x65 ∷ 0x7F ∷ 0x80 ∷ 0x9B ∷ 0x9C ∷ 0xFF ∷ [])
      ≡ 0 ∷ 0 ∷ 0 ∷ 2 ∷ 2 ∷ 2 ∷ 2 ∷ 0 ∷ 0 ∷ []
  -- kind 15: "Start may not exceed end, nor either of them 16,777,215; NID_C ends at 1,023": each at its highest, and one more; start at end, and beyond it
  pub constraint_range : map (λ r. number_for (15 ∷ 1 ∷ r)) (
      constraint_bytes (0x03 ∷ 0xFF ∷ []) (0x00 ∷ 0xFF ∷ 0xFF ∷ 0xFF ∷ []) (0x00 ∷ 0xFF ∷ 0xFF ∷ 0xFF ∷ [])
      ∷ constraint_bytes (0x04 ∷ 0x00 ∷ []) (0x00 ∷ 0x00 ∷ 0x00 ∷ 0x00 ∷ []) (0x00 ∷ 0x00 ∷ 0x00 ∷ 0x00 ∷ [])
      ∷ constraint_bytes (0x00 ∷ 0x00 ∷ []) (0x01 ∷ 0x00 ∷ 0x00 ∷ 0x00 ∷ []) (0x01 ∷ 0x00 ∷ 0x00 ∷ 0x00 ∷ [])
      ∷ constraint_bytes (0x00 ∷ 0x00 ∷ []) (0x00 ∷ 0x00 ∷ 0x00 ∷ 0x00 ∷ []) (0x01 ∷ 0x00 ∷ 0x00 ∷ 0x00 ∷ [])
      ∷ constraint_bytes (0x00 ∷ 0x00 ∷ []) (0x00 ∷ 0x00 ∷ 0x00 ∷ 0xFA ∷ []) (0x00 ∷ 0x00 ∷ 0x00 ∷ 0xFA ∷ [])
      ∷ reversed_bytes
      ∷ []
      ) ≡ 0 ∷ 2 ∷ 2 ∷ 2 ∷ 0 ∷ 21 ∷ []
  -- "A count over 31 of fitting length .. gets 2", over all rows before "21 .. checked after 2"; a reversed row among others
  pub constraint_order : map number_for (
      (15 ∷ 31 ∷ flat_map (λ r. r) (replicate 31 south_bytes))
      ∷ (15 ∷ 32 ∷ flat_map (λ r. r) (replicate 32 south_bytes))
      ∷ (15 ∷ 32 ∷ flat_map (λ r. r) (replicate 32 reversed_bytes))
      ∷ (15 ∷ 2 ∷ reversed_bytes ++ constraint_bytes (0x04 ∷ 0x00 ∷ []) (0x00 ∷ 0x00 ∷ 0x00 ∷ 0x00 ∷ []) (0x00 ∷ 0x00 ∷ 0x00 ∷ 0x00 ∷ []))
      ∷ (15 ∷ 2 ∷ north_bytes ++ reversed_bytes)
      ∷ (15 ∷ 2 ∷ reversed_bytes ++ north_bytes)
      ∷ []
      ) ≡ 0 ∷ 2 ∷ 2 ∷ 2 ∷ 21 ∷ 21 ∷ []
  -- "A length other than 2 + 16 × count gets 1, also for a count over 31": no count; none, and a byte; one, and a byte more, a byte less, two, none; 32 and one; a
  -- reversed row with a byte too much
  pub constraint_lengths : map number_for (
      (15 ∷ []) ∷ (15 ∷ 0 ∷ []) ∷ (15 ∷ 0 ∷ 0 ∷ []) ∷ (15 ∷ 1 ∷ north_bytes ++ (0 ∷ [])) ∷ (15 ∷ 1 ∷ take 15 north_bytes) ∷ (15 ∷ 1 ∷ north_bytes ++ south_bytes)
      ∷ (15 ∷ 1 ∷ []) ∷ (15 ∷ 32 ∷ north_bytes) ∷ (15 ∷ 255 ∷ []) ∷ (15 ∷ 1 ∷ reversed_bytes ++ (0 ∷ [])) ∷ []
      ) ≡ 1 ∷ 0 ∷ 1 ∷ 1 ∷ 1 ∷ 1 ∷ 1 ∷ 1 ∷ 1 ∷ 1 ∷ []
  -- "1 empty, unknown kind or wrong length": one more byte, one less
  pub empty : event_of [] ≡ refuse 1
  pub unknown : map (λ k. number_for (k ∷ [])) (0 ∷ 16 ∷ 17 ∷ 255 ∷ []) ≡ 1 ∷ 1 ∷ 1 ∷ 1 ∷ []
  pub longer : map (λ v. number_for (bytes_in v ++ (0 ∷ []))) vectors ≡ 1 ∷ 1 ∷ 1 ∷ 1 ∷ 1 ∷ 1 ∷ 1 ∷ 1 ∷ 1 ∷ 1 ∷ 1 ∷ 1 ∷ 1 ∷ 1 ∷ 1 ∷ []
  pub shorter : map number_for (
      (5 ∷ []) ∷ (6 ∷ []) ∷ (7 ∷ []) ∷ (9 ∷ 0 ∷ 0 ∷ 0 ∷ 0 ∷ 0 ∷ 0 ∷ 0 ∷ 0 ∷ 0 ∷ 0 ∷ 0 ∷ []) ∷ (10 ∷ 0 ∷ 0 ∷ 1 ∷ [])
      ∷ (12 ∷ 0 ∷ 0 ∷ 0 ∷ []) ∷ (13 ∷ 0 ∷ 0 ∷ 0 ∷ []) ∷ (14 ∷ 0 ∷ 0 ∷ 0 ∷ 0 ∷ 0 ∷ []) ∷ []
      ) ≡ 1 ∷ 1 ∷ 1 ∷ 1 ∷ 1 ∷ 1 ∷ 1 ∷ 1 ∷ []
  -- the length is looked at before the range
  pub length_first : map number_for ((7 ∷ 3 ∷ 0 ∷ []) ∷ (14 ∷ 0x65 ∷ 0 ∷ 0 ∷ 0 ∷ 0 ∷ []) ∷ []) ≡ 1 ∷ 1 ∷ []
  -- "For an answer that is an enum, a definition gives this paper's number and values for each of its cases."
  pub numbers : map kind_number (
      EventKind.PowerOn ∷ EventKind.Configured ∷ EventKind.PowerOff ∷ EventKind.Fault ∷ EventKind.Reports ∷ EventKind.Mode ∷ EventKind.Lever
      ∷ EventKind.Press ∷ EventKind.PositionReport ∷ EventKind.Length ∷ EventKind.Load ∷ EventKind.Skip ∷ EventKind.Revoke ∷ EventKind.Traction
      ∷ EventKind.Adhesion ∷ []
      ) ≡ 1 ∷ 2 ∷ 3 ∷ 4 ∷ 5 ∷ 6 ∷ 7 ∷ 8 ∷ 9 ∷ 10 ∷ 11 ∷ 12 ∷ 13 ∷ 14 ∷ 15 ∷ []
  pub known : map known_kind (0 ∷ 1 ∷ 15 ∷ 16 ∷ 255 ∷ []) ≡ refuse 1 ∷ accept 1 ∷ accept 15 ∷ refuse 1 ∷ refuse 1 ∷ []
  pub views : map judged (Ok (Event.Lever 2) ∷ Err Refusal.EventRange ∷ []) ≡ accept (Event.Lever 2) ∷ refuse 2 ∷ []

-- ---- roles

abbrev pub roles : List Role
roles = off ∷ load ∷ report ∷ other ∷ skip 7001 true ∷ skip 7002 false ∷ []

-- those of the code, each once
abbrev pub code_roles : List code.Role
code_roles = code.Role.Off ∷ code.Role.Load ∷ code.Role.Report ∷ code.Role.Other ∷ code.Role.Skip 7001 true ∷ code.Role.Skip 7002 false ∷ []

pub record Roles : Type 0 where
  pub views : map role_view code_roles ≡ roles
  pub offs : map is_off roles ≡ true ∷ false ∷ false ∷ false ∷ false ∷ false ∷ []
  pub loads : map is_load roles ≡ false ∷ true ∷ false ∷ false ∷ false ∷ false ∷ []
  pub reports : map is_report roles ≡ false ∷ false ∷ true ∷ false ∷ false ∷ false ∷ []
  pub skips : map is_skip roles ≡ false ∷ false ∷ false ∷ false ∷ true ∷ true ∷ []
  pub skips_given : map skip_given roles ≡ false ∷ false ∷ false ∷ false ∷ true ∷ false ∷ []
  pub names : map skip_name roles ≡ 0 ∷ 0 ∷ 0 ∷ 0 ∷ 7001 ∷ 7002 ∷ []
  -- "Mode, lever, reports, position and train length come from the latest accepted event .. that carries them": each value as it is
  pub values : (n : ℕ) → map brought_by (Event.Mode n ∷ Event.Lever n ∷ Event.Reports n ∷ Event.Length n ∷ [])
      ≡ (Some n, None, None, None, None) ∷ (None, Some n, None, None, None) ∷ (None, None, Some n, None, None) ∷ (None, None, None, Some n, None) ∷ []
  pub position : (x : Position) → brought_by (Event.PositionReport x) ≡ (None, None, None, None, Some x)
  pub traction : map (λ v. (carried (event_in v)).traction) vectors
      ≡ None ∷ None ∷ None ∷ None ∷ None ∷ None ∷ None ∷ None ∷ None ∷ None ∷ None ∷ None ∷ None ∷ Some asked ∷ None ∷ []
  -- 02, Q-7: the rows in their order; none of another kind, as of a kind 15 without rows
  pub constraints : map (λ v. (carried (event_in v)).constraints) vectors
      ≡ None ∷ None ∷ None ∷ None ∷ None ∷ None ∷ None ∷ None ∷ None ∷ None ∷ None ∷ None ∷ None ∷ None ∷ Some (north ∷ south ∷ []) ∷ []
  pub rows : map event_constraints (Event.Adhesion (south ∷ north ∷ []) ∷ Event.Adhesion [] ∷ Event.Traction asked ∷ []) ≡ (south ∷ north ∷ []) ∷ [] ∷ [] ∷ []
  pub newest : map {B = ℕ} (λ b. newer b 5) (None ∷ Some 6 ∷ []) ≡ 5 ∷ 6 ∷ []

pub record Anchors : Type 0 where
  pub kinds : map given vectors ≡ map said vectors
  pub rows : Rows
  pub roles : Roles
