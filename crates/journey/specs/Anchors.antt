-- Document 01, "Book and journey": a journey in bytes, each side of each range. Values are worked out from the paper.
use Rattle.std.specs.Prelude.{ℕ, zero, suc, ◌≡◌, List, [], ◌∷◌, ◌++◌, map, Bool, true, false, length}
use Rattle.wire.specs.Judged.{Judged, then_judge}
use Rattle.wire.specs.Judged.Judged.{refuse, accept}
use Rattle.fields.specs.Parse.{Parse}
use Rattle.fields.specs.Parse.Parse.{bad, good}
use Rattle.journey.specs.Journey.{name_record, point_record, head_record, journey_value}
use Rattle.journey.specs.declared.Name.{Name}
use Rattle.journey.specs.declared.JourneyPoint.{JourneyPoint}
use Rattle.journey.specs.declared.Head.{Head}

-- whether it is read
abbrev pub taken : {A : Type 0} → Parse A → Bool
taken bad = false
taken (good a r) = true

-- the same bytes n times
abbrev pub times : ℕ → List ℕ → List ℕ
times zero l = []
times (suc n) l = l ++ times n l

-- ---- bytes and values

abbrev pub stamp : List ℕ
stamp = 0x7F ∷ 0xFF ∷ 0x0A ∷ 0x0B ∷ 0x0C ∷ 0x0D ∷ 0xFE ∷ []

abbrev pub stamped : ℕ → ℕ → Head
stamped o a = record { operational = o; date = 32767; seconds = 168496141; counter = 254; atots = a }

-- segments (17, 500) and (1023, 4294967295), and the first of them alone
abbrev pub n500 : List ℕ
n500 = 0x00 ∷ 0x11 ∷ 0x00 ∷ 0x00 ∷ 0x01 ∷ 0xF4 ∷ []

abbrev pub n_last : List ℕ
n_last = 0x03 ∷ 0xFF ∷ 0xFF ∷ 0xFF ∷ 0xFF ∷ 0xFF ∷ []

abbrev pub name500 : Name
name500 = record { nidc = 17; nidsp = 500 }

-- point 7001 of segment 3 with its map and what comes behind, and its value
abbrev pub p7001 : ℕ → List ℕ → List ℕ
p7001 m l = m ∷ 0x00 ∷ 0x00 ∷ 0x1B ∷ 0x59 ∷ 0x03 ∷ l

abbrev pub point7001 : ℕ → ℕ → Bool → Bool → Bool → Bool → JourneyPoint
point7001 a d stop trackside end held =
    record { nidtp = 7001; index = 3; alignment = a; stopping = d; stop = stop; trackside = trackside; end = end; held = held }

-- a journey with no optional field of the head: how many names and points are read
abbrev pub sizes : List ℕ → Judged (ℕ × ℕ)
sizes l = then_judge (journey_value ((0x1A ∷ stamp) ++ l)) (λ j. accept (length j.names, length j.points))

pub record Anchors : Type 0 where
  -- "Journey. Map: 0 NID_OPERATIONAL (4; absent means FFFFFFFF hexadecimal); 1 stamp: date (2, ..), seconds (4), counter (1);
  -- 2 NID_ATOTS (2, 0-16,383; absent means 16,384)"
  pub head_all : head_record ((0x1F ∷ 0x12 ∷ 0x34 ∷ 0x56 ∷ 0x78 ∷ stamp) ++ (0x3F ∷ 0xFF ∷ 0xAA ∷ [])) ≡ good (stamped 305419896 16383) (0xAA ∷ [])
  pub head_least : head_record ((0x1A ∷ stamp) ++ (0xAA ∷ [])) ≡ good (stamped 4294967295 16384) (0xAA ∷ [])
  pub no_operational_lem : head_record ((0x1E ∷ stamp) ++ (0x00 ∷ 0x07 ∷ [])) ≡ good (stamped 4294967295 7) []
  pub no_atots_lem : head_record (0x1B ∷ 0x00 ∷ 0x00 ∷ 0x00 ∷ 0x00 ∷ stamp) ≡ good (stamped 0 16384) []
  -- ".. Bits 1, 3, 4 must stand, 5-7 not."
  pub head_bits : map (λ m. taken (head_record (m ∷ stamp))) (0x1A ∷ 0x18 ∷ 0x12 ∷ 0x0A ∷ 0x3A ∷ 0x5A ∷ 0x9A ∷ [])
      ≡ true ∷ false ∷ false ∷ false ∷ false ∷ false ∷ false ∷ []
  pub no_stamp : head_record (0x18 ∷ []) ≡ bad
  -- "date (2, 0-32,767), seconds (4), counter (1)"
  pub stamps : map (λ l. taken (head_record (0x1A ∷ l))) (
      (0x00 ∷ 0x00 ∷ 0x00 ∷ 0x00 ∷ 0x00 ∷ 0x00 ∷ 0x00 ∷ []) ∷ (0x7F ∷ 0xFF ∷ 0xFF ∷ 0xFF ∷ 0xFF ∷ 0xFF ∷ 0xFF ∷ [])
      ∷ (0x80 ∷ 0x00 ∷ 0x00 ∷ 0x00 ∷ 0x00 ∷ 0x00 ∷ 0x00 ∷ []) ∷ (0x00 ∷ 0x00 ∷ 0x00 ∷ 0x00 ∷ 0x00 ∷ 0x00 ∷ []) ∷ []
      ) ≡ true ∷ true ∷ false ∷ false ∷ []
  -- "NID_ATOTS (2, 0-16,383; ..)": 16,384 is not written; any NID_OPERATIONAL is
  pub atots_range : map (λ l. taken (head_record ((0x1E ∷ stamp) ++ l))) ((0x00 ∷ 0x00 ∷ []) ∷ (0x40 ∷ 0x00 ∷ []) ∷ []) ≡ true ∷ false ∷ []
  pub operational_last : head_record (0x1B ∷ 0xFF ∷ 0xFF ∷ 0xFF ∷ 0xFF ∷ stamp) ≡ good (stamped 4294967295 16384) []
  -- "each NID_C, NID_SP as above"
  pub names : map name_record (
      (0x00 ∷ 0x00 ∷ 0x00 ∷ 0x00 ∷ 0x00 ∷ 0x00 ∷ []) ∷ n500 ∷ (n_last ++ (0xAA ∷ []))
      ∷ (0x04 ∷ 0x00 ∷ 0x00 ∷ 0x00 ∷ 0x00 ∷ 0x00 ∷ []) ∷ (0x00 ∷ 0x11 ∷ 0x00 ∷ 0x00 ∷ 0x00 ∷ []) ∷ []
      ) ≡ good (record { nidc = 0; nidsp = 0 }) [] ∷ good name500 [] ∷ good (record { nidc = 1023; nidsp = 4294967295 }) (0xAA ∷ [])
      ∷ bad ∷ bad ∷ []
  -- "A point's map: 0 NID_TP (4, ..); 1 segment index (1, from 0); 2 alignment (1: 0 front, 1 middle, 2 rear; absent means 0);
  -- 3 stopping data (1, 0-127; absent means 0); 4 it is a stop; 5 trackside skips it; 6 End of Journey. Bits 4-6 carry no field"
  pub point_all : point_record (p7001 0x7F (0x02 ∷ 0x7F ∷ 0xAA ∷ [])) ≡ good (point7001 2 127 true true true false) (0xAA ∷ [])
  pub point_bits_lem : map point_record (
      p7001 0x03 (0x01 ∷ []) ∷ p7001 0x07 (0x01 ∷ []) ∷ p7001 0x0B (0x01 ∷ []) ∷ p7001 0x13 (0x01 ∷ [])
      ∷ p7001 0x33 (0x01 ∷ []) ∷ p7001 0x43 (0x01 ∷ []) ∷ []
      ) ≡ good (point7001 0 0 false false false false) (0x01 ∷ []) ∷ good (point7001 1 0 false false false false) [] ∷ good (point7001 0 1 false false false false) []
      ∷ good (point7001 0 0 true false false false) (0x01 ∷ []) ∷ good (point7001 0 0 true true false false) (0x01 ∷ [])
      ∷ good (point7001 0 0 false false true false) (0x01 ∷ []) ∷ []
  -- "0 and 1 must stand, ..; 5 needs 4."
  pub point_maps : map (λ m. taken (point_record (p7001 m []))) (0x02 ∷ 0x01 ∷ 0x23 ∷ 0x63 ∷ []) ≡ false ∷ false ∷ false ∷ false ∷ []
  -- 02, Q-5: "Bit 7 of a journey point now means held and needs bit 4": alone, with 5 or 6 and without 4 it is refused; it stands beside either of them
  pub held_maps : map (λ m. taken (point_record (p7001 m []))) (0x83 ∷ 0xA3 ∷ 0xC3 ∷ 0x93 ∷ 0xB3 ∷ 0xD3 ∷ []) ≡ false ∷ false ∷ false ∷ true ∷ true ∷ true ∷ []
  pub held_all : point_record (p7001 0xFF (0x02 ∷ 0x7F ∷ 0xAA ∷ [])) ≡ good (point7001 2 127 true true true true) (0xAA ∷ [])
  pub held_alone : point_record (p7001 0x93 (0x01 ∷ [])) ≡ good (point7001 0 0 true false false true) (0x01 ∷ [])
  pub none_left_out : map point_record ((0x02 ∷ 0x03 ∷ []) ∷ (0x01 ∷ 0x00 ∷ 0x00 ∷ 0x1B ∷ 0x59 ∷ []) ∷ []) ≡ bad ∷ bad ∷ []
  -- "NID_TP (4, below 4,294,967,295)", "segment index (1, from 0)"
  pub point_names : map (λ l. taken (point_record (0x03 ∷ l))) (
      (0x00 ∷ 0x00 ∷ 0x00 ∷ 0x00 ∷ 0x00 ∷ []) ∷ (0xFF ∷ 0xFF ∷ 0xFF ∷ 0xFE ∷ 0xFF ∷ []) ∷ (0xFF ∷ 0xFF ∷ 0xFF ∷ 0xFF ∷ 0x00 ∷ []) ∷ []
      ) ≡ true ∷ true ∷ false ∷ []
  -- "alignment (1: 0 front, 1 middle, 2 rear; ..)", "stopping data (1, 0-127; ..)"
  pub point_ranges : map (λ l. taken (point_record (p7001 0x0F l))) (
      (0x00 ∷ 0x00 ∷ []) ∷ (0x02 ∷ 0x7F ∷ []) ∷ (0x03 ∷ 0x7F ∷ []) ∷ (0x02 ∷ 0x80 ∷ []) ∷ []
      ) ≡ true ∷ true ∷ false ∷ false ∷ []
  -- "Each record is a bit map first, then only the fields whose bit stands, from bit 0 up.": head, segments, points
  pub whole_journey : journey_value ((0x1A ∷ stamp) ++ (2 ∷ n_last) ++ n500 ++ (2 ∷ p7001 0x43 []) ++ (0x13 ∷ 0x00 ∷ 0x00 ∷ 0x00 ∷ 0x02 ∷ 0x00 ∷ []))
      ≡ accept (record {
        head = stamped 4294967295 16384;
        names = record { nidc = 1023; nidsp = 4294967295 } ∷ name500 ∷ [];
        points = point7001 0 0 false false true false
            ∷ record { nidtp = 2; index = 0; alignment = 0; stopping = 0; stop = true; trackside = false; end = false; held = false } ∷ [];
      })
  -- "3 segments: count (1, 1-40), ..; 4 points: count (1, 1-64)"
  pub counts : map sizes (
      ((1 ∷ n500) ++ (1 ∷ p7001 0x03 [])) ∷ (0 ∷ 1 ∷ p7001 0x03 []) ∷ ((1 ∷ n500) ++ (0 ∷ [])) ∷ []
      ) ≡ accept (1, 1) ∷ refuse 9 ∷ refuse 9 ∷ []
  pub counts_most : sizes ((40 ∷ times 40 n500) ++ (64 ∷ times 64 (p7001 0x03 []))) ≡ accept (40, 64)
  pub names_over : sizes ((41 ∷ times 41 n500) ++ (1 ∷ p7001 0x03 [])) ≡ refuse 9
  pub points_over : sizes ((1 ∷ n500) ++ (65 ∷ times 65 (p7001 0x03 []))) ≡ refuse 9
  -- "9 bad map, range or length": no byte, one left over, one missing
  pub lengths : map sizes (
      ((1 ∷ n500) ++ (1 ∷ p7001 0x03 (0x00 ∷ []))) ∷ ((1 ∷ n500) ++ (1 ∷ 0x03 ∷ 0x00 ∷ 0x00 ∷ 0x1B ∷ 0x59 ∷ [])) ∷ (2 ∷ n500) ∷ []
      ) ≡ refuse 9 ∷ refuse 9 ∷ refuse 9 ∷ []
  pub no_bytes : journey_value [] ≡ refuse 9
