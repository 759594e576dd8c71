-- What the values of the code say.
use Rattle.std.specs.Prelude.{ℕ, ◌≡◌, ◌&&◌, Bool, List, map, length, take, drop, leb, if◌then◌else◌}
use Rattle.wire.specs.Numbers.{number}
use Rattle.fields.specs.Parse.{Reader}
use Rattle.fields.specs.Parse.Parse.{bad, good}
use Rattle.engine_value.specs.Engine.{max_nidtp}
use Rattle.engine_value.specs.declared.Zone.{Zone}
use Rattle.segment_record.specs.Record.{BookSegment, max_reach}
use Rattle.segment_record.specs.declared.BookPoint.{BookPoint}
use Rattle.segment_record.specs.declared.Entry.{Entry}

-- a reader of k bytes: their value, where it fits
pub record Takes {A : Type 0} (k : ℕ) (fits : A → Bool) (value : List ℕ → A) (p : Reader A) : Type 0 where
  pub reads : (l : List ℕ) → p l ≡ (if leb k (length l) && fits (value (take k l)) then good (value (take k l)) (drop k l) else bad)

-- the point and the zone of their bytes, and their ranges in a segment of a length
abbrev pub point_of : List ℕ → BookPoint
point_of l = record { nidtp = number 4 l; place = number 4 (drop 4 l); reach = number 2 (drop 8 l) }

abbrev pub zone_of : List ℕ → Zone
zone_of l = record { start = number 4 l; end = number 4 (drop 4 l) }

abbrev pub point_fits : ℕ → BookPoint → Bool
point_fits len p = leb p.nidtp max_nidtp && (leb p.place len && leb p.reach max_reach)

abbrev pub zone_fits : ℕ → Zone → Bool
zone_fits len z = leb z.start z.end && leb z.end len

-- the record that an entry stands for
abbrev pub entry_view : Entry → BookSegment
entry_view e = record { nidc = e.nidc; nidsp = e.nidsp; length = e.length; points = map point_of e.points.now; zones = map zone_of e.zones.now }
