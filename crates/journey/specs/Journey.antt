-- Document 01, "Book and journey": the layout of a journey, and number 9 of the place "journey" of the table of numbers.
use Rattle.std.specs.Prelude.{ℕ, List, [], ◌∷◌, false, not, ◌||◌}
use Rattle.wire.specs.Numbers.{bit}
use Rattle.engine_value.specs.Engine.{max_nidc, max_nidtp, no_operational, max_segments, max_points}
use Rattle.fields.specs.Parse.{Reader, field, free, bit_map, optional, give, must, counted, ◌>>=◌, ◌>>◌, whole}
use Rattle.wire.specs.Judged.{Judged}
use Rattle.journey.specs.declared.Name.{Name}
use Rattle.journey.specs.declared.JourneyPoint.{JourneyPoint}
use Rattle.journey.specs.declared.Head.{Head}

-- ---- ranges, and what an absent field means

-- "date (2, 0-32,767)"
abbrev pub max_date : ℕ
max_date = 32767

-- "NID_ATOTS (2, 0-16,383; absent means 16,384)"
abbrev pub max_atots : ℕ
max_atots = 16383

abbrev pub no_atots : ℕ
no_atots = 16384

-- "alignment (1: 0 front, 1 middle, 2 rear; absent means 0)"
abbrev pub max_alignment : ℕ
max_alignment = 2

-- "stopping data (1, 0-127; absent means 0)"
abbrev pub max_stopping : ℕ
max_stopping = 127

-- ---- what stands where a list has no element

abbrev pub blank_name : Name
blank_name = record { nidc = 0; nidsp = 0 }

abbrev pub blank_journey_point : JourneyPoint
blank_journey_point = record { nidtp = 0; index = 0; alignment = 0; stopping = 0; stop = false; trackside = false; end = false; held = false }

-- ---- layouts

-- the values of a journey
pub record JourneyValue : Type 0 where
  pub head : Head
  pub names : List Name
  pub points : List JourneyPoint

-- "each NID_C, NID_SP as above": NID_C (2 bytes, 0-1023), NID_SP (4)
unfoldable pub name_record : Reader Name
name_record = do
  c ← field 2 0 max_nidc
  sp ← free 4
  give (record { nidc = c; nidsp = sp })

-- "A point's map: 0 NID_TP (4, below 4,294,967,295); 1 segment index (1, from 0); 2 alignment (1: 0 front, 1 middle, 2 rear; absent means 0);
-- 3 stopping data (1, 0-127; absent means 0); 4 it is a stop; 5 trackside skips it; 6 End of Journey. Bits 4-6 carry no field;
-- 0 and 1 must stand, ..; 5 needs 4." 02, Q-5: "Bit 7 of a journey point now means held and needs bit 4."
unfoldable pub point_record : Reader JourneyPoint
point_record = do
  m ← bit_map (0 ∷ 1 ∷ []) []
  must (not (bit 5 m || bit 7 m) || bit 4 m)
  t ← field 4 0 max_nidtp
  i ← free 1
  a ← optional (bit 2 m) 0 (field 1 0 max_alignment)
  d ← optional (bit 3 m) 0 (field 1 0 max_stopping)
  give (record { nidtp = t; index = i; alignment = a; stopping = d; stop = bit 4 m; trackside = bit 5 m; end = bit 6 m; held = bit 7 m })

-- "Journey. Map: 0 NID_OPERATIONAL (4; absent means FFFFFFFF hexadecimal); 1 stamp: date (2, 0-32,767), seconds (4), counter (1);
-- 2 NID_ATOTS (2, 0-16,383; absent means 16,384); .. Bits 1, 3, 4 must stand, 5-7 not."
unfoldable pub head_record : Reader Head
head_record = do
  m ← bit_map (1 ∷ 3 ∷ 4 ∷ []) (5 ∷ 6 ∷ 7 ∷ [])
  o ← optional (bit 0 m) no_operational (free 4)
  d ← field 2 0 max_date
  t ← free 4
  n ← free 1
  a ← optional (bit 2 m) no_atots (field 2 0 max_atots)
  give (record { operational = o; date = d; seconds = t; counter = n; atots = a })

-- ".. 3 segments: count (1, 1-40), each NID_C, NID_SP as above; 4 points: count (1, 1-64)."
unfoldable pub journey_record : Reader JourneyValue
journey_record = do
  h ← head_record
  ns ← counted max_segments name_record
  ps ← counted max_points point_record
  give (record { head = h; names = ns; points = ps })

-- "9 bad map, range or length": the journey fills the slice
abbrev pub journey_value : List ℕ → Judged JourneyValue
journey_value l = whole 9 (journey_record l)
