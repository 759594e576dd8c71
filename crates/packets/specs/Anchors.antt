-- Packets in bytes, worked out by hand from documents 01 and 02 (Q-1, Q-2, Q-4 to Q-7), which the definitions must give.
use Rattle.std.specs.Prelude.{ℕ, ◌≡◌, List, [], ◌∷◌, ◌++◌, map, flat_map, length, take, set, replicate}
use Rattle.wire.specs.Judged.{Judged}
use Rattle.wire.specs.Judged.Judged.{refuse, accept}
use Rattle.adhesion.specs.Anchors.{north, south, north_bytes, south_bytes}
use Rattle.adhesion.specs.declared.TemporaryConstraint.{TemporaryConstraint}
use Rattle.status_word.specs.Word.{conditions_of}
use Rattle.status_word.specs.Anchors.{five, nine}
use Rattle.packets.specs.Layouts.{content_at, unknown_nidc}
use Rattle.packets.specs.Packets.{packet_bytes, joined, size_of, packet_of, written_count, written_memory, size_at, front_size, cut_packets}
use Rattle.packets.specs.View.{status_number, jp_status_number}
use Rattle.packets.specs.declared.Header.{Header}
use Rattle.packets.specs.Packet.{Packet}
use Rattle.packets.specs.declared.PointStatus.{PointStatus}
use Rattle.packets.specs.declared.JpStatus.{JpStatus}

-- ---- packets and their bytes

-- "Input 00 01 01 prints .. 4400000000000000FFFFFF0000FFFFFFFF0801": the fresh position, no journey, state CO, condition 7 alone
abbrev pub power_on : Packet
power_on =
    Packet.AtoStatus (record {
      header = record { nidc = 0; nidsp = 0; offset = 16777215; speed = 0; operational = 4294967295 };
      state = 1;
      conditions = conditions_of (0 ∷ 0 ∷ 0 ∷ 0 ∷ 0 ∷ 0 ∷ 0 ∷ 1 ∷ 0 ∷ []);
    })

abbrev pub power_on_bytes : List ℕ
power_on_bytes =
    0x44 ∷ 0x00 ∷ 0x00 ∷ 0x00 ∷ 0x00 ∷ 0x00 ∷ 0x00 ∷ 0x00 ∷ 0xFF ∷ 0xFF ∷ 0xFF ∷ 0x00 ∷ 0x00 ∷ 0xFF ∷ 0xFF ∷ 0xFF ∷ 0xFF ∷ 0x08 ∷ 0x01 ∷ []

-- "P7 the stop at 39,900 writes 3E 0011 000001F4 00009BDC 0000 FFFFFFFF 0011 00001B59 09 00."
abbrev pub stopped : Packet
stopped =
    Packet.TimingPoint (record {
      header = record { nidc = 17; nidsp = 500; offset = 39900; speed = 0; operational = 4294967295 };
      nidc = 17;
      nidtp = 7001;
      q_eoj_reached = 1;
      alignment = 0;
      status = 1;
      stopping = 0;
    })

abbrev pub stopped_bytes : List ℕ
stopped_bytes =
    0x3E ∷ 0x00 ∷ 0x11 ∷ 0x00 ∷ 0x00 ∷ 0x01 ∷ 0xF4 ∷ 0x00 ∷ 0x00 ∷ 0x9B ∷ 0xDC ∷ 0x00 ∷ 0x00 ∷ 0xFF ∷ 0xFF ∷ 0xFF ∷ 0xFF
    ∷ 0x00 ∷ 0x11 ∷ 0x00 ∷ 0x00 ∷ 0x1B ∷ 0x59 ∷ 0x09 ∷ 0x00 ∷ []

-- "header: NID_C (2), NID_SP (4), offset (4), speed (2), NID_OPERATIONAL (4; ..)": no two bytes alike
abbrev pub header : Header
header = record { nidc = 0x0123; nidsp = 0x456789AB; offset = 0x00CDEF12; speed = 0x3456; operational = 0x789ABCDE }

abbrev pub header_bytes : List ℕ
header_bytes = 0x01 ∷ 0x23 ∷ 0x45 ∷ 0x67 ∷ 0x89 ∷ 0xAB ∷ 0x00 ∷ 0xCD ∷ 0xEF ∷ 0x12 ∷ 0x34 ∷ 0x56 ∷ 0x78 ∷ 0x9A ∷ 0xBC ∷ 0xDE ∷ []

-- "62: point's NID_C (2), NID_TP (4), info: Q_EOJ_REACHED .. + 2 × alignment + 8 × status .., stopping data (1; ..)."
abbrev pub timing_point : ℕ → ℕ → ℕ → ℕ → Packet
timing_point reached alignment status stopping =
    Packet.TimingPoint (record {
      header = header;
      nidc = 0x02A5;
      nidtp = 0xF0E1D2C3;
      q_eoj_reached = reached;
      alignment = alignment;
      status = status;
      stopping = stopping;
    })

abbrev pub timing_point_bytes : ℕ → ℕ → List ℕ
timing_point_bytes info stopping = 0x3E ∷ header_bytes ++ (0x02 ∷ 0xA5 ∷ 0xF0 ∷ 0xE1 ∷ 0xD2 ∷ 0xC3 ∷ info ∷ stopping ∷ [])

-- "65 ..: NID_C (1,024 unless the position is known), NID_ATOTS, date, seconds, counter, status .."
abbrev pub jp_received_as : ℕ → Packet
jp_received_as status =
    Packet.JpReceived (record { header = header; nidc = 1024; atots = 0x3A5B; date = 0x7C1D; seconds = 0x89ABCDEF; counter = 0xFE; status = status })

abbrev pub jp_received_as_bytes : ℕ → List ℕ
jp_received_as_bytes status =
    0x41 ∷ header_bytes ++ (0x04 ∷ 0x00 ∷ 0x3A ∷ 0x5B ∷ 0x7C ∷ 0x1D ∷ 0x89 ∷ 0xAB ∷ 0xCD ∷ 0xEF ∷ 0xFE ∷ status ∷ [])

abbrev pub jp_received : Packet
jp_received = jp_received_as 0

abbrev pub jp_received_bytes : List ℕ
jp_received_bytes = jp_received_as_bytes 0x00

-- "68: state + 16 × conditions (2)."
abbrev pub ato_status : ℕ → List ℕ → Packet
ato_status state conditions = Packet.AtoStatus (record { header = header; state = state; conditions = conditions_of conditions })

abbrev pub ato_status_bytes : List ℕ
ato_status_bytes = 0x44 ∷ header_bytes ++ (0x1A ∷ 0x65 ∷ [])

-- 61, SUBSET-140's Table 4: M_ATO_TraBrRq (1), M_ATO_LocoBrRq (1), Q_ATO_SupTB (1), M_ATO_RTBRq (2; an INT16 as its unsigned 16 bits)
abbrev pub traction_brake : Packet
traction_brake =
    Packet.TractionBrake (record {
      header = header;
      requested = record { m_ato_trabrrq = 0x2B; m_ato_locobrrq = 0x4C; q_ato_suptb = 0x6D; m_ato_rtbrq = 0x8E5F };
    })

abbrev pub traction_brake_bytes : List ℕ
traction_brake_bytes = 0x3D ∷ header_bytes ++ (0x2B ∷ 0x4C ∷ 0x6D ∷ 0x8E ∷ 0x5F ∷ [])

-- 64, SUBSET-140's Table 7: count (1), then a row: NID_C (2), NID_SP (4), category (1), range (1), start (4), end (4)
abbrev pub row : ℕ → ℕ → ℕ → TemporaryConstraint
row nidc start end = record { nidsp = 0x456789AB; start = start; end = end; nidc = nidc; category = 0x2B; range = 0x4C }

-- `south` of adhesion's anchors has 16,777,215 as start and end, and NID_C 1,023
abbrev pub adhesion_system : List TemporaryConstraint → Packet
adhesion_system rows = Packet.AdhesionSystem header rows

abbrev pub adhesion_system_bytes : ℕ → List ℕ → List ℕ
adhesion_system_bytes count rows = 0x40 ∷ header_bytes ++ (count ∷ rows)

abbrev pub two_rows_bytes : List ℕ
two_rows_bytes = adhesion_system_bytes 2 (north_bytes ++ south_bytes)

pub record Worked (p : Packet) (s : List ℕ) : Type 0 where
  pub bytes : packet_bytes p ≡ s
  pub reads : packet_of s ≡ accept p
  pub size : size_of p ≡ length s

pub record InBytes : Type 0 where
  pub power_on_lem : Worked power_on power_on_bytes
  pub stop : Worked stopped stopped_bytes
  -- 1 + 2 × 2 + 8 × 1; "(0 passed, 1 stopped, 2 departed, 5 driver skip, 6 skip revoked)", 02, Q-5, 3 and 4, and Q-6, 7 and 8
  pub point : Worked (timing_point 1 2 1 0x55) (timing_point_bytes 0x0D 0x55)
  pub ended : Worked (timing_point 0 1 2 0) (timing_point_bytes 0x12 0x00)
  pub status_numbers : map status_number (PointStatus.Passed ∷ PointStatus.Stopped ∷ PointStatus.Departed ∷ PointStatus.Held ∷ PointStatus.HoldRevoked
      ∷ PointStatus.Skipped ∷ PointStatus.Revoked ∷ PointStatus.TracksideSkip ∷ PointStatus.TracksideRevoked ∷ []) ≡ 0 ∷ 1 ∷ 2 ∷ 3 ∷ 4 ∷ 5 ∷ 6 ∷ 7 ∷ 8 ∷ []
  pub journey : Worked jp_received jp_received_bytes
  -- 02, Q-4: "status 0 or 1 in packet 65", whatever the stamp
  pub turned_down : Worked (jp_received_as 1) (jp_received_as_bytes 0x01)
  pub jp_statuses : map jp_status_number (JpStatus.Accepted ∷ JpStatus.TurnedDown ∷ []) ≡ 0 ∷ 1 ∷ []
  -- 5 + 32 + 64 + 512 + 2,048 + 4,096
  pub status : Worked (ato_status 5 five) ato_status_bytes
  pub traction : Worked traction_brake traction_brake_bytes
  -- 02, Q-7: no row, one, two in their order, 31
  pub no_rows : Worked (adhesion_system []) (adhesion_system_bytes 0 [])
  pub one_row : Worked (adhesion_system (north ∷ [])) (adhesion_system_bytes 1 north_bytes)
  pub two_rows : Worked (adhesion_system (north ∷ south ∷ [])) two_rows_bytes
  pub most_rows : Worked (adhesion_system (replicate 31 south)) (adhesion_system_bytes 31 (flat_map (λ r. r) (replicate 31 south_bytes)))
  -- "for 62, 65, 68 .. 25, 29, 19 bytes"; 02: "packet 61 has 22 bytes", "packet 64 has 18 bytes and 16 a row": the content behind number and header
  pub sizes : map size_of (stopped ∷ jp_received ∷ power_on ∷ traction_brake ∷ adhesion_system [] ∷ adhesion_system (north ∷ south ∷ north ∷ []) ∷ []) ≡ 25 ∷ 29 ∷ 19 ∷ 22 ∷ 18 ∷ 66 ∷ []
  pub content_at_lem : content_at ≡ 17
  pub unknown : unknown_nidc ≡ 1024
  -- one after the other
  pub sequence : joined (stopped ∷ power_on ∷ []) ≡ stopped_bytes ++ power_on_bytes

-- ---- the reader

-- the number that refuses; 0 where none does
abbrev pub number_in : {A : Type 0} → Judged A → ℕ
number_in (refuse n) = n
number_in (accept p) = 0

abbrev pub read_number : List ℕ → ℕ
read_number s = number_in (packet_of s)

-- one packet of each kind with that header
abbrev pub of_each : List ℕ → List (List ℕ)
of_each h =
    (0x3E ∷ h ++ (0x00 ∷ 0x11 ∷ 0x00 ∷ 0x00 ∷ 0x1B ∷ 0x59 ∷ 0x09 ∷ 0x00 ∷ []))
    ∷ (0x41 ∷ h ++ (0x00 ∷ 0x11 ∷ 0x00 ∷ 0x00 ∷ 0x00 ∷ 0x00 ∷ 0x00 ∷ 0x00 ∷ 0x00 ∷ 0x00 ∷ 0x00 ∷ 0x00 ∷ []))
    ∷ (0x44 ∷ h ++ (0x08 ∷ 0x01 ∷ []))
    ∷ (0x3D ∷ h ++ (0x00 ∷ 0x00 ∷ 0x00 ∷ 0x00 ∷ 0x00 ∷ []))
    ∷ (0x40 ∷ h ++ (0x00 ∷ []))
    ∷ []

-- a packet of each kind with that content
abbrev pub read62 : List ℕ → ℕ
read62 content = read_number (0x3E ∷ header_bytes ++ content)

abbrev pub read65 : List ℕ → ℕ
read65 content = read_number (0x41 ∷ header_bytes ++ content)

abbrev pub read68 : List ℕ → ℕ
read68 content = read_number (0x44 ∷ header_bytes ++ content)

-- start 251, end 250
abbrev pub reversed_bytes : List ℕ
reversed_bytes = 0x00 ∷ 0x11 ∷ 0x00 ∷ 0x00 ∷ 0x01 ∷ 0xF4 ∷ 0x01 ∷ 0x02 ∷ 0x00 ∷ 0x00 ∷ 0x00 ∷ 0xFB ∷ 0x00 ∷ 0x00 ∷ 0x00 ∷ 0xFA ∷ []

abbrev pub read61 : List ℕ → ℕ
read61 content = read_number (0x3D ∷ header_bytes ++ content)

-- "Ranges: NID_C to 1,023 (content of 65: 1,024); offset to 16,777,215; NID_ATOTS to 16,384; date to 32,767; alignment 0-2;
-- status 0-8 in 62, ..; stopping data to 127, 0 unless status 1; state 0-7; spare bits 0. Other fields are free."
-- 02, Q-4: "The reader now takes status 0 or 1 in packet 65"
pub record Ranges : Type 0 where
  -- each field of a header at its greatest; NID_C 1,024; offset 16,777,216
  pub headers : map (λ h. map read_number (of_each h)) (
      (0x03 ∷ 0xFF ∷ 0xFF ∷ 0xFF ∷ 0xFF ∷ 0xFF ∷ 0x00 ∷ 0xFF ∷ 0xFF ∷ 0xFF ∷ 0xFF ∷ 0xFF ∷ 0xFF ∷ 0xFF ∷ 0xFF ∷ 0xFF ∷ [])
      ∷ (0x04 ∷ 0x00 ∷ 0x00 ∷ 0x00 ∷ 0x00 ∷ 0x00 ∷ 0x00 ∷ 0x00 ∷ 0x00 ∷ 0x00 ∷ 0x00 ∷ 0x00 ∷ 0x00 ∷ 0x00 ∷ 0x00 ∷ 0x00 ∷ [])
      ∷ (0x00 ∷ 0x00 ∷ 0x00 ∷ 0x00 ∷ 0x00 ∷ 0x00 ∷ 0x01 ∷ 0x00 ∷ 0x00 ∷ 0x00 ∷ 0x00 ∷ 0x00 ∷ 0x00 ∷ 0x00 ∷ 0x00 ∷ 0x00 ∷ [])
      ∷ []
      ) ≡ (0 ∷ 0 ∷ 0 ∷ 0 ∷ 0 ∷ []) ∷ (19 ∷ 19 ∷ 19 ∷ 19 ∷ 19 ∷ []) ∷ (19 ∷ 19 ∷ 19 ∷ 19 ∷ 19 ∷ []) ∷ []
  -- 62: NID_C 1,023 with NID_TP FFFFFFFF; NID_C 1,024
  pub point_names : map read62 (
      (0x03 ∷ 0xFF ∷ 0xFF ∷ 0xFF ∷ 0xFF ∷ 0xFF ∷ 0x00 ∷ 0x00 ∷ [])
      ∷ (0x04 ∷ 0x00 ∷ 0x00 ∷ 0x00 ∷ 0x00 ∷ 0x00 ∷ 0x00 ∷ 0x00 ∷ [])
      ∷ []
      ) ≡ 0 ∷ 19 ∷ []
  -- alignment 2 and 3; status 8 and 9; 15; the last bit
  pub infos : map (λ info. read_number (timing_point_bytes info 0x00)) (0x04 ∷ 0x05 ∷ 0x06 ∷ 0x07 ∷ 0x40 ∷ 0x45 ∷ 0x48 ∷ 0x78 ∷ 0x80 ∷ [])
      ≡ 0 ∷ 0 ∷ 19 ∷ 19 ∷ 0 ∷ 0 ∷ 19 ∷ 19 ∷ 19 ∷ []
  -- every status has stopping data 0; only 1 has others, to 127
  pub statuses : map (λ info. read_number (timing_point_bytes info 0x00)) (0x00 ∷ 0x08 ∷ 0x10 ∷ 0x18 ∷ 0x20 ∷ 0x28 ∷ 0x30 ∷ 0x38 ∷ 0x40 ∷ [])
      ≡ 0 ∷ 0 ∷ 0 ∷ 0 ∷ 0 ∷ 0 ∷ 0 ∷ 0 ∷ 0 ∷ []
  pub stopping : map (λ info. read_number (timing_point_bytes info 0x01)) (0x00 ∷ 0x08 ∷ 0x10 ∷ 0x18 ∷ 0x20 ∷ 0x28 ∷ 0x30 ∷ 0x38 ∷ 0x40 ∷ [])
      ≡ 19 ∷ 0 ∷ 19 ∷ 19 ∷ 19 ∷ 19 ∷ 19 ∷ 19 ∷ 19 ∷ []
  pub most_stopping : map (λ n. read_number (timing_point_bytes 0x09 n)) (0x7F ∷ 0x80 ∷ 0xFF ∷ []) ≡ 0 ∷ 19 ∷ 19 ∷ []
  -- 65: NID_C 1,024, NID_ATOTS 16,384, date 32,767, the rest at its greatest, with status 0, and with 1; then NID_C 1,025; NID_ATOTS 16,385; date 32,768;
  -- status 2; status 128
  pub journeys : map read65 (
      (0x04 ∷ 0x00 ∷ 0x40 ∷ 0x00 ∷ 0x7F ∷ 0xFF ∷ 0xFF ∷ 0xFF ∷ 0xFF ∷ 0xFF ∷ 0xFF ∷ 0x00 ∷ [])
      ∷ (0x04 ∷ 0x00 ∷ 0x40 ∷ 0x00 ∷ 0x7F ∷ 0xFF ∷ 0xFF ∷ 0xFF ∷ 0xFF ∷ 0xFF ∷ 0xFF ∷ 0x01 ∷ [])
      ∷ (0x04 ∷ 0x01 ∷ 0x00 ∷ 0x00 ∷ 0x00 ∷ 0x00 ∷ 0x00 ∷ 0x00 ∷ 0x00 ∷ 0x00 ∷ 0x00 ∷ 0x00 ∷ [])
      ∷ (0x00 ∷ 0x00 ∷ 0x40 ∷ 0x01 ∷ 0x00 ∷ 0x00 ∷ 0x00 ∷ 0x00 ∷ 0x00 ∷ 0x00 ∷ 0x00 ∷ 0x00 ∷ [])
      ∷ (0x00 ∷ 0x00 ∷ 0x00 ∷ 0x00 ∷ 0x80 ∷ 0x00 ∷ 0x00 ∷ 0x00 ∷ 0x00 ∷ 0x00 ∷ 0x00 ∷ 0x00 ∷ [])
      ∷ (0x00 ∷ 0x00 ∷ 0x00 ∷ 0x00 ∷ 0x00 ∷ 0x00 ∷ 0x00 ∷ 0x00 ∷ 0x00 ∷ 0x00 ∷ 0x00 ∷ 0x02 ∷ [])
      ∷ (0x00 ∷ 0x00 ∷ 0x00 ∷ 0x00 ∷ 0x00 ∷ 0x00 ∷ 0x00 ∷ 0x00 ∷ 0x00 ∷ 0x00 ∷ 0x00 ∷ 0x80 ∷ [])
      ∷ []
      ) ≡ 0 ∷ 0 ∷ 19 ∷ 19 ∷ 19 ∷ 19 ∷ 19 ∷ []
  -- 68: state 7 with all nine conditions; state 8; bits 13, 14, 15
  pub states : map read68 ((0x1F ∷ 0xF7 ∷ []) ∷ (0x00 ∷ 0x08 ∷ []) ∷ (0x20 ∷ 0x00 ∷ []) ∷ (0x40 ∷ 0x00 ∷ []) ∷ (0x80 ∷ 0x00 ∷ []) ∷ [])
      ≡ 0 ∷ 19 ∷ 19 ∷ 19 ∷ 19 ∷ []
  -- 61: "its content is free": each field at its least and at its greatest
  pub requests : map read61 ((0x00 ∷ 0x00 ∷ 0x00 ∷ 0x00 ∷ 0x00 ∷ []) ∷ (0xFF ∷ 0xFF ∷ 0xFF ∷ 0xFF ∷ 0xFF ∷ []) ∷ []) ≡ 0 ∷ 0 ∷ []
  -- 64: "Start may not exceed end, nor either of them 16,777,215; NID_C ends at 1,023": each at its highest and one more, start at end and beyond it; NID_SP,
  -- category and range are free
  pub rows : map (λ r. number_in (written_count (adhesion_system (r ∷ [])) [])) (
      row 0 0 0 ∷ row 1023 0 16777215 ∷ row 1023 16777215 16777215 ∷ row 1024 0 0 ∷ row 0 0 16777216 ∷ row 0 16777216 16777216 ∷ row 0 16777216 0
      ∷ row 0 250 250 ∷ row 0 251 250 ∷ []
      ) ≡ 16 ∷ 16 ∷ 16 ∷ 19 ∷ 19 ∷ 19 ∷ 19 ∷ 16 ∷ 19 ∷ []
  -- the same by the bytes: start 251 and end 250 alone, behind another row, before another row
  pub reversed_rows : map read_number (
      adhesion_system_bytes 1 reversed_bytes ∷ adhesion_system_bytes 2 (north_bytes ++ reversed_bytes) ∷ adhesion_system_bytes 2 (reversed_bytes ++ north_bytes) ∷ []
      ) ≡ 19 ∷ 19 ∷ 19 ∷ []
  -- "count (0-31)": 31 rows and 32
  pub row_counts : map (λ n. read_number (adhesion_system_bytes n (flat_map (λ r. r) (replicate n south_bytes)))) (31 ∷ 32 ∷ []) ≡ 0 ∷ 19 ∷ []

pub record Lengths : Type 0 where
  -- 64: 17 without the count, a byte less and a byte more than the count says, with a row less and a row more, for counts 2 and 32
  pub rows : map read_number (
      take 17 two_rows_bytes ∷ take 18 two_rows_bytes ∷ take 49 two_rows_bytes ∷ (two_rows_bytes ++ (0x00 ∷ [])) ∷ take 34 two_rows_bytes ∷ (two_rows_bytes ++ north_bytes)
      ∷ adhesion_system_bytes 32 (north_bytes ++ south_bytes) ∷ adhesion_system_bytes 255 [] ∷ []
      ) ≡ 17 ∷ 17 ∷ 17 ∷ 17 ∷ 17 ∷ 17 ∷ 17 ∷ 17 ∷ []
  -- "17 empty, or for 62, 65, 68 not 25, 29, 19 bytes", for 61 not 22: one less, one more, the number alone
  pub empty : packet_of [] ≡ refuse 17
  pub shorter : map read_number (take 24 stopped_bytes ∷ take 28 jp_received_bytes ∷ take 18 power_on_bytes ∷ take 21 traction_brake_bytes ∷ []) ≡ 17 ∷ 17 ∷ 17 ∷ 17 ∷ []
  pub longer : map (λ s. read_number (s ++ (0x00 ∷ []))) (stopped_bytes ∷ jp_received_bytes ∷ power_on_bytes ∷ traction_brake_bytes ∷ []) ≡ 17 ∷ 17 ∷ 17 ∷ 17 ∷ []
  pub alone : map (λ n. read_number (n ∷ [])) (62 ∷ 65 ∷ 68 ∷ 61 ∷ 64 ∷ []) ≡ 17 ∷ 17 ∷ 17 ∷ 17 ∷ 17 ∷ []
  -- the length is looked at before the ranges: a state 8 with a byte too much
  pub length_first : read68 (0x00 ∷ 0x08 ∷ 0x00 ∷ []) ≡ 17
  -- "18 another number", of whatever length
  pub others : map (λ n. read_number (n ∷ [])) (0 ∷ 60 ∷ 63 ∷ 66 ∷ 67 ∷ 69 ∷ 255 ∷ []) ≡ 18 ∷ 18 ∷ 18 ∷ 18 ∷ 18 ∷ 18 ∷ 18 ∷ []
  pub other : read_number (0x45 ∷ header_bytes ++ (0x08 ∷ 0x01 ∷ [])) ≡ 18

-- ---- the writer

pub record Writing : Type 0 where
  -- "The packet writer returns its byte count and keeps the bytes behind"
  pub count : map (λ m. written_count stopped (m ++ stopped_bytes)) ([] ∷ (0xEE ∷ []) ∷ []) ≡ accept 25 ∷ accept 25 ∷ []
  pub counts : map (λ p. written_count p (stopped_bytes ++ power_on_bytes)) (jp_received ∷ ato_status 5 five ∷ traction_brake ∷ []) ≡ accept 29 ∷ accept 19 ∷ accept 22 ∷ []
  pub memory : written_memory power_on (stopped_bytes ++ (0xEE ∷ [])) ≡ power_on_bytes ++ (0x00 ∷ 0x00 ∷ 0x1B ∷ 0x59 ∷ 0x09 ∷ 0x00 ∷ 0xEE ∷ [])
  -- "16 shorter than": one byte less; "changes neither engine nor memory"
  pub short : map (λ m. written_count power_on m) (take 18 stopped_bytes ∷ take 19 stopped_bytes ∷ []) ≡ refuse 16 ∷ accept 19 ∷ []
  pub traction_short : map (λ m. written_count traction_brake m) (take 21 stopped_bytes ∷ take 22 stopped_bytes ∷ []) ≡ refuse 16 ∷ accept 22 ∷ []
  pub rows_short : map (λ m. written_count (adhesion_system (north ∷ [])) m) (take 33 two_rows_bytes ∷ take 34 two_rows_bytes ∷ []) ≡ refuse 16 ∷ accept 34 ∷ []
  pub rows_kept : written_memory (adhesion_system (south ∷ [])) two_rows_bytes ≡ adhesion_system_bytes 1 south_bytes ++ south_bytes
  -- "count (0-31)": from 32 rows on 19, before 16
  pub too_many : map (λ n. number_in (written_count (adhesion_system (replicate n north)) [])) (31 ∷ 32 ∷ 255 ∷ 256 ∷ []) ≡ 16 ∷ 19 ∷ 19 ∷ 19 ∷ []
  pub short_kept : written_memory power_on (take 18 stopped_bytes) ≡ take 18 stopped_bytes
  -- "(the writer of one packet: 19, then 16)": with room and with none
  pub unfit : map (λ m. written_count (ato_status 8 []) m) (stopped_bytes ∷ [] ∷ []) ≡ refuse 19 ∷ refuse 19 ∷ []
  pub unfit_kept : written_memory (ato_status 8 []) stopped_bytes ≡ stopped_bytes
  -- the writer takes status 0 and 1 in packet 65, and no other
  pub jp_written : map (λ s. number_in (written_count (jp_received_as s) [])) (0 ∷ 1 ∷ 2 ∷ 255 ∷ []) ≡ 16 ∷ 16 ∷ 19 ∷ 19 ∷ []
  -- values that would run into their neighbours in the same bytes: Q_EOJ_REACHED 2, alignment 3, status 9, state 8
  pub beyond : map (λ p. number_in (written_count p []))
      (timing_point 1 2 8 0 ∷ timing_point 2 0 0 0 ∷ timing_point 0 3 0 0 ∷ timing_point 0 0 9 0 ∷ ato_status 7 nine ∷ ato_status 8 [] ∷ [])
      ≡ 16 ∷ 19 ∷ 19 ∷ 19 ∷ 16 ∷ 19 ∷ []
  -- and each of the nine conditions at 2
  pub beyond_one : map (λ k. number_in (written_count (ato_status 0 (set nine k 2)) [])) (0 ∷ 1 ∷ 2 ∷ 3 ∷ 4 ∷ 5 ∷ 6 ∷ 7 ∷ 8 ∷ []) ≡ replicate 9 19

-- ---- packets in memory

pub record Pieces : Type 0 where
  -- the bytes of a packet by its number
  pub sizes : map (λ n. size_at (n ∷ [])) (62 ∷ 65 ∷ 68 ∷ 61 ∷ 64 ∷ 0 ∷ 60 ∷ 255 ∷ []) ≡ 25 ∷ 29 ∷ 19 ∷ 22 ∷ 18 ∷ 0 ∷ 0 ∷ 0 ∷ []
  -- 64 by its count, whatever stands behind it: 18 and 16 × 0, 1, 2, 31, 32, 255
  pub by_count : map (λ n. size_at (adhesion_system_bytes n (0xEE ∷ []))) (0 ∷ 1 ∷ 2 ∷ 31 ∷ 32 ∷ 255 ∷ []) ≡ 18 ∷ 34 ∷ 50 ∷ 514 ∷ 530 ∷ 4098 ∷ []
  pub rows_first : cut_packets (two_rows_bytes ++ (adhesion_system_bytes 0 [] ++ power_on_bytes)) ≡ two_rows_bytes ∷ adhesion_system_bytes 0 [] ∷ power_on_bytes ∷ []
  pub rows_cut_short : cut_packets (power_on_bytes ++ take 40 two_rows_bytes) ≡ power_on_bytes ∷ take 40 two_rows_bytes ∷ []
  -- of the piece in front: cut short, a packet and a byte, no such number
  pub fronts : map front_size ((0x3E ∷ 0x44 ∷ []) ∷ (power_on_bytes ++ (0x3E ∷ [])) ∷ (0x00 ∷ power_on_bytes) ∷ []) ≡ 2 ∷ 19 ∷ 20 ∷ []
  pub none : cut_packets [] ≡ []
  pub three : cut_packets (jp_received_bytes ++ (stopped_bytes ++ power_on_bytes)) ≡ jp_received_bytes ∷ stopped_bytes ∷ power_on_bytes ∷ []
  pub traction : cut_packets (traction_brake_bytes ++ power_on_bytes) ≡ traction_brake_bytes ∷ power_on_bytes ∷ []
  -- cut short, and where no packet has the number
  pub cut_short : cut_packets (power_on_bytes ++ (0x3E ∷ 0x44 ∷ [])) ≡ power_on_bytes ∷ (0x3E ∷ 0x44 ∷ []) ∷ []
  pub unknown : cut_packets (0x00 ∷ power_on_bytes) ≡ (0x00 ∷ power_on_bytes) ∷ []

pub record Anchors : Type 0 where
  pub in_bytes : InBytes
  pub ranges : Ranges
  pub lengths : Lengths
  pub writing : Writing
  pub pieces : Pieces
