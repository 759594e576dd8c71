-- Document 01, "Book and journey": a segment record in bytes, each side of each range. Values are worked out from the paper.
use Rattle.std.specs.Prelude.{ℕ, zero, suc, ◌≡◌, List, [], ◌∷◌, ◌++◌, map, Bool, true, false, length}
use Rattle.std.specs.Prelude.{Some, None}
use Rattle.fields.specs.Parse.{Parse}
use Rattle.fields.specs.Parse.Parse.{bad, good}
use Rattle.engine_value.specs.declared.Zone.{Zone}
use Rattle.segment_record.specs.declared.BookPoint.{BookPoint}
use Rattle.segment_record.specs.Record.{BookSegment, book_point, zone_record, segment_record, lookup_point}

-- whether it is read, and how many points and zones it then has
abbrev pub taken : {A : Type 0} → Parse A → Bool
taken bad = false
taken (good a r) = true

abbrev pub counts : Parse BookSegment → ℕ × ℕ
counts bad = (0, 0)
counts (good s r) = (length s.points, length s.zones)

-- the same bytes n times
abbrev pub times : ℕ → List ℕ → List ℕ
times zero l = []
times (suc n) l = l ++ times n l

-- a record by its map, the bytes of NID_C and of the length, and what comes behind; NID_SP 500
abbrev pub segment : ℕ → List ℕ → List ℕ → List ℕ → List ℕ
segment m c len l = m ∷ (c ++ (0x00 ∷ 0x00 ∷ 0x01 ∷ 0xF4 ∷ (len ++ l)))

abbrev pub country17 : List ℕ
country17 = 0x00 ∷ 0x11 ∷ []

abbrev pub of100000 : List ℕ
of100000 = 0x00 ∷ 0x01 ∷ 0x86 ∷ 0xA0 ∷ []

abbrev pub with100000 : ℕ → List ℕ → Parse BookSegment
with100000 m l = segment_record (segment m country17 of100000 l)

-- point 7001 at 40,000, R 150, and the last place and R; a zone, and the last place
abbrev pub p7001 : List ℕ
p7001 = 0x00 ∷ 0x00 ∷ 0x1B ∷ 0x59 ∷ 0x00 ∷ 0x00 ∷ 0x9C ∷ 0x40 ∷ 0x00 ∷ 0x96 ∷ []

abbrev pub p_last : List ℕ
p_last = 0xFF ∷ 0xFF ∷ 0xFF ∷ 0xFE ∷ 0x00 ∷ 0x01 ∷ 0x86 ∷ 0xA0 ∷ 0x27 ∷ 0x10 ∷ []

abbrev pub z_first : List ℕ
z_first = 0x00 ∷ 0x00 ∷ 0x4E ∷ 0x20 ∷ 0x00 ∷ 0x00 ∷ 0x75 ∷ 0x30 ∷ []

abbrev pub z_last : List ℕ
z_last = 0x00 ∷ 0x01 ∷ 0x86 ∷ 0xA0 ∷ 0x00 ∷ 0x01 ∷ 0x86 ∷ 0xA0 ∷ []

abbrev pub point7001 : BookPoint
point7001 = record { nidtp = 7001; place = 40000; reach = 150 }

abbrev pub point_last : BookPoint
point_last = record { nidtp = 4294967294; place = 100000; reach = 10000 }

abbrev pub zones : List Zone
zones = record { start = 20000; end = 30000 } ∷ record { start = 100000; end = 100000 } ∷ []

abbrev pub having : List BookPoint → List Zone → BookSegment
having ps zs = record { nidc = 17; nidsp = 500; length = 100000; points = ps; zones = zs }

pub record Anchors : Type 0 where
  -- "Map one byte: 0 NID_C (2 bytes, 0-1023); 1 NID_SP (4); 2 length (4, ..); 3 points: count (1, 1-16), each NID_TP (4, ..), place (4, ..),
  -- reached distance R (2, ..); 4 inhibition zones: count (1, 1-4), each start, end (4, 4; ..)": all of them, and the byte behind
  pub all : with100000 0x1F ((2 ∷ p7001) ++ p_last ++ (2 ∷ z_first) ++ z_last ++ (0xAA ∷ []))
      ≡ good (having (point7001 ∷ point_last ∷ []) zones) (0xAA ∷ [])
  -- "then only the fields whose bit stands"
  pub plain : with100000 0x07 (2 ∷ []) ≡ good (having [] []) (2 ∷ [])
  pub no_zones : with100000 0x0F (1 ∷ p7001) ≡ good (having (point7001 ∷ []) []) []
  pub no_points : with100000 0x17 ((2 ∷ z_first) ++ z_last) ≡ good (having [] zones) []
  -- "Bits 0-2 must stand, 5-7 not."
  pub bits : map (λ m. taken (with100000 m [])) (0x07 ∷ 0x06 ∷ 0x05 ∷ 0x03 ∷ 0x27 ∷ 0x47 ∷ 0x87 ∷ [])
      ≡ true ∷ false ∷ false ∷ false ∷ false ∷ false ∷ false ∷ []
  pub none_left_out : map (λ l. taken (segment_record l)) (
      (0x06 ∷ 0x00 ∷ 0x00 ∷ 0x01 ∷ 0xF4 ∷ of100000) ∷ (0x05 ∷ 0x00 ∷ 0x11 ∷ of100000) ∷ (0x03 ∷ 0x00 ∷ 0x11 ∷ 0x00 ∷ 0x00 ∷ 0x01 ∷ 0xF4 ∷ []) ∷ []
      ) ≡ false ∷ false ∷ false ∷ []
  -- "NID_C (2 bytes, 0-1023)"
  pub countries : map (λ c. taken (segment_record (segment 0x07 c of100000 []))) (
      (0x00 ∷ 0x00 ∷ []) ∷ (0x03 ∷ 0xFF ∷ []) ∷ (0x04 ∷ 0x00 ∷ []) ∷ []
      ) ≡ true ∷ true ∷ false ∷ []
  -- "NID_SP (4)": it is free
  pub any_nidsp : map (λ l. taken (segment_record (0x07 ∷ 0x00 ∷ 0x11 ∷ l))) (
      (0x00 ∷ 0x00 ∷ 0x00 ∷ 0x00 ∷ of100000) ∷ (0xFF ∷ 0xFF ∷ 0xFF ∷ 0xFF ∷ of100000) ∷ []
      ) ≡ true ∷ true ∷ []
  -- "length (4, 1-16,777,214)"
  pub lengths : map (λ n. taken (segment_record (segment 0x07 country17 n []))) (
      (0x00 ∷ 0x00 ∷ 0x00 ∷ 0x00 ∷ []) ∷ (0x00 ∷ 0x00 ∷ 0x00 ∷ 0x01 ∷ [])
      ∷ (0x00 ∷ 0xFF ∷ 0xFF ∷ 0xFE ∷ []) ∷ (0x00 ∷ 0xFF ∷ 0xFF ∷ 0xFF ∷ []) ∷ []
      ) ≡ false ∷ true ∷ true ∷ false ∷ []
  -- "points: count (1, 1-16)"; "inhibition zones: count (1, 1-4)"
  pub points_zero : with100000 0x0F (0 ∷ []) ≡ bad
  pub points_most : counts (with100000 0x0F (16 ∷ times 16 p7001)) ≡ (16, 0)
  pub points_over : with100000 0x0F (17 ∷ times 17 p7001) ≡ bad
  pub zones_zero : with100000 0x17 (0 ∷ []) ≡ bad
  pub zones_most : counts (with100000 0x17 (4 ∷ times 4 z_first)) ≡ (0, 4)
  pub zones_over : with100000 0x17 (5 ∷ times 5 z_first) ≡ bad
  -- places and zones are within the record's own length; one item short is bad
  pub within : map (λ (l : List ℕ). taken (segment_record (segment 0x1F country17 (0x00 ∷ 0x00 ∷ 0x75 ∷ 0x30 ∷ []) l))) (
      ((1 ∷ p7001) ++ (1 ∷ z_first))
      ∷ (1 ∷ 0x00 ∷ 0x00 ∷ 0x1B ∷ 0x59 ∷ 0x00 ∷ 0x00 ∷ 0x75 ∷ 0x30 ∷ 0x00 ∷ 0x96 ∷ 1 ∷ z_first)
      ∷ (1 ∷ 0x00 ∷ 0x00 ∷ 0x1B ∷ 0x59 ∷ 0x00 ∷ 0x00 ∷ 0x75 ∷ 0x30 ∷ 0x00 ∷ 0x96 ∷ 1 ∷ z_last)
      ∷ (1 ∷ 0x00 ∷ 0x00 ∷ 0x1B ∷ 0x59 ∷ 0x00 ∷ 0x00 ∷ 0x75 ∷ 0x30 ∷ 0x00 ∷ 0x96 ∷ 2 ∷ z_first) ∷ []
      ) ≡ false ∷ true ∷ false ∷ false ∷ []
  -- "each NID_TP (4, below 4,294,967,295), place (4, 0 to length), reached distance R (2, 0-10,000)", for a length of 300
  pub point_ranges : map (λ l. taken (book_point 300 l)) (
      (0x00 ∷ 0x00 ∷ 0x00 ∷ 0x00 ∷ 0x00 ∷ 0x00 ∷ 0x00 ∷ 0x00 ∷ 0x00 ∷ 0x00 ∷ [])
      ∷ (0xFF ∷ 0xFF ∷ 0xFF ∷ 0xFE ∷ 0x00 ∷ 0x00 ∷ 0x01 ∷ 0x2C ∷ 0x27 ∷ 0x10 ∷ [])
      ∷ (0xFF ∷ 0xFF ∷ 0xFF ∷ 0xFF ∷ 0x00 ∷ 0x00 ∷ 0x01 ∷ 0x2C ∷ 0x27 ∷ 0x10 ∷ [])
      ∷ (0xFF ∷ 0xFF ∷ 0xFF ∷ 0xFE ∷ 0x00 ∷ 0x00 ∷ 0x01 ∷ 0x2D ∷ 0x27 ∷ 0x10 ∷ [])
      ∷ (0xFF ∷ 0xFF ∷ 0xFF ∷ 0xFE ∷ 0x00 ∷ 0x00 ∷ 0x01 ∷ 0x2C ∷ 0x27 ∷ 0x11 ∷ []) ∷ []
      ) ≡ true ∷ true ∷ false ∷ false ∷ false ∷ []
  -- "each start, end (4, 4; start ≤ end ≤ length)", for a length of 300
  pub zone_ranges : map (λ l. taken (zone_record 300 l)) (
      (0x00 ∷ 0x00 ∷ 0x00 ∷ 0x00 ∷ 0x00 ∷ 0x00 ∷ 0x00 ∷ 0x00 ∷ [])
      ∷ (0x00 ∷ 0x00 ∷ 0x01 ∷ 0x2C ∷ 0x00 ∷ 0x00 ∷ 0x01 ∷ 0x2C ∷ [])
      ∷ (0x00 ∷ 0x00 ∷ 0x01 ∷ 0x2C ∷ 0x00 ∷ 0x00 ∷ 0x01 ∷ 0x2B ∷ [])
      ∷ (0x00 ∷ 0x00 ∷ 0x01 ∷ 0x2B ∷ 0x00 ∷ 0x00 ∷ 0x01 ∷ 0x2D ∷ []) ∷ []
      ) ≡ true ∷ true ∷ false ∷ false ∷ []
  -- a record's point by its name
  pub look_up : map (λ t. lookup_point t (point7001 ∷ point_last ∷ [])) (7001 ∷ 4294967294 ∷ 7002 ∷ []) ≡ Some point7001 ∷ Some point_last ∷ None ∷ []
