-- Document 01, "Book and journey": a segment record, and the look-up of a point in it.
use Rattle.std.specs.Prelude.{ℕ, List, [], ◌∷◌, Option, eqb, find}
use Rattle.wire.specs.Numbers.{bit}
use Rattle.fields.specs.Parse.{Reader, field, free, bit_map, give, listed, ◌>>=◌}
use Rattle.engine_value.specs.Engine.{max_nidc, max_nidtp, max_zones}
use Rattle.engine_value.specs.declared.Zone.{Zone}
use Rattle.segment_record.specs.declared.BookPoint.{BookPoint}

-- ---- ranges

-- "length (4, 1-16,777,214)"
abbrev pub max_length : ℕ
max_length = 16777214

-- "points: count (1, 1-16)"
abbrev pub max_record_points : ℕ
max_record_points = 16

-- "reached distance R (2, 0-10,000)"
abbrev pub max_reach : ℕ
max_reach = 10000

-- ---- layouts

pub record BookSegment : Type 0 where
  pub nidc : ℕ
  pub nidsp : ℕ
  pub length : ℕ
  pub points : List BookPoint
  pub zones : List Zone

-- "each NID_TP (4, below 4,294,967,295), place (4, 0 to length), reached distance R (2, 0-10,000)"
unfoldable pub book_point : ℕ → Reader BookPoint
book_point len = do
  t ← field 4 0 max_nidtp
  p ← field 4 0 len
  r ← field 2 0 max_reach
  give (record { nidtp = t; place = p; reach = r })

-- "each start, end (4, 4; start ≤ end ≤ length)"
unfoldable pub zone_record : ℕ → Reader Zone
zone_record len = do
  a ← field 4 0 len
  b ← field 4 a len
  give (record { start = a; end = b })

-- "Segment record. Map one byte: 0 NID_C (2 bytes, 0-1023); 1 NID_SP (4); 2 length (4, 1-16,777,214); 3 points: count (1, 1-16), ..;
-- 4 inhibition zones: count (1, 1-4), .. Bits 0-2 must stand, 5-7 not."
unfoldable pub segment_record : Reader BookSegment
segment_record = do
  m ← bit_map (0 ∷ 1 ∷ 2 ∷ []) (5 ∷ 6 ∷ 7 ∷ [])
  c ← field 2 0 max_nidc
  sp ← free 4
  len ← field 4 1 max_length
  ps ← listed (bit 3 m) max_record_points (book_point len)
  zs ← listed (bit 4 m) max_zones (zone_record len)
  give (record { nidc = c; nidsp = sp; length = len; points = ps; zones = zs })

-- ---- look-ups

abbrev pub lookup_point : ℕ → List BookPoint → Option BookPoint
lookup_point t ps = find (λ p. eqb p.nidtp t) ps
