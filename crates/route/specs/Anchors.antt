-- Document 01, "Book and journey": what a load takes, and the rows 10 to 12 against a book. Values are worked out from the paper.
-- The journey has two countries: segments A (17, 500) and B (18, 500) are in the book, C (17, 501) is not, D (17, 502) is.
use Rattle.std.specs.Prelude.{ℕ, ◌-◌, ◌≡◌, List, [], ◌∷◌, ◌++◌, map, true, false, length, replicate}
use Rattle.wire.specs.Judged.{Judged}
use Rattle.wire.specs.Judged.Judged.{refuse, accept}
use Rattle.engine_value.specs.Engine.{blank_zone, blank_segment, blank_point}
use Rattle.engine_value.specs.declared.Zone.{Zone}
use Rattle.engine_value.specs.declared.Segment.{Segment}
use Rattle.engine_value.specs.declared.Point.{Point}
use Rattle.segment_record.specs.declared.BookPoint.{BookPoint}
use Rattle.segment_record.specs.Record.{BookSegment}
use Rattle.journey.specs.declared.Name.{Name}
use Rattle.journey.specs.declared.JourneyPoint.{JourneyPoint}
use Rattle.journey.specs.declared.Head.{Head}
use Rattle.route.specs.Placing.{placed_at, start_at, segments_of, points_of}
use Rattle.route.specs.Table.{checked, journey_of}
use Rattle.route.specs.Route.{load_group, load_of}

-- ---- the book

abbrev pub book_point : ℕ → ℕ → ℕ → BookPoint
book_point t p r = record { nidtp = t; place = p; reach = r }

abbrev pub zone : ℕ → ℕ → Zone
zone a b = record { start = a; end = b }

abbrev pub book : List BookSegment
book =
    record { nidc = 17; nidsp = 502; length = 4000; points = book_point 4 100 20 ∷ []; zones = zone 0 50 ∷ [] }
    ∷ record { nidc = 18; nidsp = 500; length = 2000; points = book_point 9 0 1 ∷ book_point 2 500 10 ∷ []; zones = zone 100 200 ∷ zone 300 400 ∷ [] }
    ∷ record { nidc = 17; nidsp = 500; length = 1000; points = book_point 1 400 150 ∷ book_point 6 1000 0 ∷ book_point 7 300 0 ∷ []; zones = [] }
    ∷ []

abbrev pub book_bytes : List ℕ
book_bytes =
    0x1F ∷ 0x00 ∷ 0x11 ∷ 0x00 ∷ 0x00 ∷ 0x01 ∷ 0xF6 ∷ 0x00 ∷ 0x00 ∷ 0x0F ∷ 0xA0
    ∷ 0x01 ∷ 0x00 ∷ 0x00 ∷ 0x00 ∷ 0x04 ∷ 0x00 ∷ 0x00 ∷ 0x00 ∷ 0x64 ∷ 0x00 ∷ 0x14
    ∷ 0x01 ∷ 0x00 ∷ 0x00 ∷ 0x00 ∷ 0x00 ∷ 0x00 ∷ 0x00 ∷ 0x00 ∷ 0x32
    ∷ 0x1F ∷ 0x00 ∷ 0x12 ∷ 0x00 ∷ 0x00 ∷ 0x01 ∷ 0xF4 ∷ 0x00 ∷ 0x00 ∷ 0x07 ∷ 0xD0
    ∷ 0x02 ∷ 0x00 ∷ 0x00 ∷ 0x00 ∷ 0x09 ∷ 0x00 ∷ 0x00 ∷ 0x00 ∷ 0x00 ∷ 0x00 ∷ 0x01
    ∷ 0x00 ∷ 0x00 ∷ 0x00 ∷ 0x02 ∷ 0x00 ∷ 0x00 ∷ 0x01 ∷ 0xF4 ∷ 0x00 ∷ 0x0A
    ∷ 0x02 ∷ 0x00 ∷ 0x00 ∷ 0x00 ∷ 0x64 ∷ 0x00 ∷ 0x00 ∷ 0x00 ∷ 0xC8 ∷ 0x00 ∷ 0x00 ∷ 0x01 ∷ 0x2C ∷ 0x00 ∷ 0x00 ∷ 0x01 ∷ 0x90
    ∷ 0x0F ∷ 0x00 ∷ 0x11 ∷ 0x00 ∷ 0x00 ∷ 0x01 ∷ 0xF4 ∷ 0x00 ∷ 0x00 ∷ 0x03 ∷ 0xE8
    ∷ 0x03 ∷ 0x00 ∷ 0x00 ∷ 0x00 ∷ 0x01 ∷ 0x00 ∷ 0x00 ∷ 0x01 ∷ 0x90 ∷ 0x00 ∷ 0x96
    ∷ 0x00 ∷ 0x00 ∷ 0x00 ∷ 0x06 ∷ 0x00 ∷ 0x00 ∷ 0x03 ∷ 0xE8 ∷ 0x00 ∷ 0x00
    ∷ 0x00 ∷ 0x00 ∷ 0x00 ∷ 0x07 ∷ 0x00 ∷ 0x00 ∷ 0x01 ∷ 0x2C ∷ 0x00 ∷ 0x00
    ∷ []

-- ---- journeys

abbrev pub a : Name
a = record { nidc = 17; nidsp = 500 }

abbrev pub b : Name
b = record { nidc = 18; nidsp = 500 }

abbrev pub c : Name
c = record { nidc = 17; nidsp = 501 }

abbrev pub d : Name
d = record { nidc = 17; nidsp = 502 }

abbrev pub head : Head
head = record { operational = 1234; date = 258; seconds = 3; counter = 4; atots = 5 }

-- a point of NID_TP t on the segment of index i, and the End of Journey
abbrev pub point : ℕ → ℕ → JourneyPoint
point t i = record { nidtp = t; index = i; alignment = 0; stopping = 0; stop = false; trackside = false; end = false; held = false }

abbrev pub last : ℕ → ℕ → JourneyPoint
last t i = record { nidtp = t; index = i; alignment = 0; stopping = 0; stop = false; trackside = false; end = true; held = false }

-- the number that refuses a journey of these segments and points, 0 where none does
abbrev pub number : {A : Type 0} → Judged A → ℕ
number (refuse n) = n
number (accept x) = 0

abbrev pub judged : List Name × List JourneyPoint → ℕ
judged (ns, ps) = number (checked book (record { head = head; names = ns; points = ps }))

-- the same of the bytes of a journey and of a book
abbrev pub loading : List ℕ × List ℕ → ℕ
loading (j, l) = number (load_of j l)

-- start and length of a segment; place, R and NID_C of a point
abbrev pub stretch : Segment → ℕ × ℕ
stretch g = (g.start, g.length)

abbrev pub spot : Point → ℕ × ℕ × ℕ
spot p = (p.place, p.reach, p.nidc)

-- all four segments: a middle stop with stopping data, held; a rear stop with trackside skip and End of Journey; a passing point; a stop with
-- trackside skip, held
abbrev pub journey_bytes : List ℕ
journey_bytes =
    0x1F ∷ 0x00 ∷ 0x00 ∷ 0x04 ∷ 0xD2 ∷ 0x01 ∷ 0x02 ∷ 0x00 ∷ 0x00 ∷ 0x00 ∷ 0x03 ∷ 0x04 ∷ 0x00 ∷ 0x05
    ∷ 0x04 ∷ 0x00 ∷ 0x11 ∷ 0x00 ∷ 0x00 ∷ 0x01 ∷ 0xF4 ∷ 0x00 ∷ 0x12 ∷ 0x00 ∷ 0x00 ∷ 0x01 ∷ 0xF4
    ∷ 0x00 ∷ 0x11 ∷ 0x00 ∷ 0x00 ∷ 0x01 ∷ 0xF5 ∷ 0x00 ∷ 0x11 ∷ 0x00 ∷ 0x00 ∷ 0x01 ∷ 0xF6
    ∷ 0x04 ∷ 0x9F ∷ 0x00 ∷ 0x00 ∷ 0x00 ∷ 0x01 ∷ 0x00 ∷ 0x01 ∷ 0x05
    ∷ 0x77 ∷ 0x00 ∷ 0x00 ∷ 0x00 ∷ 0x02 ∷ 0x01 ∷ 0x02
    ∷ 0x03 ∷ 0x00 ∷ 0x00 ∷ 0x00 ∷ 0x03 ∷ 0x02
    ∷ 0xB3 ∷ 0x00 ∷ 0x00 ∷ 0x00 ∷ 0x04 ∷ 0x03
    ∷ []

-- what it gives
abbrev pub placed : List Point
placed =
    record { nidtp = 1; place = 400; reach = 150; nidc = 17; alignment = 1; stopping = 5; stop = true; trackside = false; held = true; placed = true }
    ∷ record { nidtp = 2; place = 1500; reach = 10; nidc = 18; alignment = 2; stopping = 0; stop = true; trackside = true; held = false; placed = true }
    ∷ record { nidtp = 3; place = 0; reach = 0; nidc = 17; alignment = 0; stopping = 0; stop = false; trackside = false; held = false; placed = false }
    ∷ record { nidtp = 4; place = 0; reach = 0; nidc = 17; alignment = 0; stopping = 0; stop = true; trackside = true; held = true; placed = false }
    ∷ []

-- the array of a segment's zones
abbrev pub zones : List Zone → List Zone
zones zs = zs ++ replicate (4 - length zs) blank_zone

abbrev pub segments : List Segment
segments =
    record { nidsp = 500; start = 0; length = 1000; zone_count = 0; zones = zones []; nidc = 17; booked = true; placed = true }
    ∷ record { nidsp = 500; start = 1000; length = 2000; zone_count = 2; zones = zones (zone 100 200 ∷ zone 300 400 ∷ []); nidc = 18; booked = true; placed = true }
    ∷ record { nidsp = 501; start = 0; length = 0; zone_count = 0; zones = zones []; nidc = 17; booked = false; placed = false }
    ∷ record { nidsp = 502; start = 0; length = 4000; zone_count = 1; zones = zones (zone 0 50 ∷ []); nidc = 17; booked = true; placed = false }
    ∷ []

-- a journey of no optional field with twice the segment A, and one byte more
abbrev pub twice_a : List ℕ → List ℕ
twice_a l =
    (0x1A ∷ replicate 7 0x00)
    ++ (0x02 ∷ 0x00 ∷ 0x11 ∷ 0x00 ∷ 0x00 ∷ 0x01 ∷ 0xF4 ∷ 0x00 ∷ 0x11 ∷ 0x00 ∷ 0x00 ∷ 0x01 ∷ 0xF4 ∷ 0x01 ∷ 0x43 ∷ 0x00 ∷ 0x00 ∷ 0x00 ∷ 0x01 ∷ 0x00 ∷ l)

pub record Anchors : Type 0 where
  -- "A segment is placed if it and all before it in the journey are in the book; its start is the sum of the lengths before it."
  pub placed_in_turn : map (placed_at book (a ∷ b ∷ c ∷ d ∷ [])) (0 ∷ 1 ∷ 2 ∷ 3 ∷ []) ≡ true ∷ true ∷ false ∷ false ∷ []
  pub none_placed : map (placed_at book (c ∷ a ∷ [])) (0 ∷ 1 ∷ []) ≡ false ∷ false ∷ []
  pub starts : map (start_at book (a ∷ b ∷ d ∷ c ∷ [])) (0 ∷ 1 ∷ 2 ∷ 3 ∷ []) ≡ 0 ∷ 1000 ∷ 3000 ∷ 7000 ∷ []
  pub starts_kept : map stretch (segments_of book (b ∷ d ∷ a ∷ [])) ≡ (0, 2000) ∷ (2000, 4000) ∷ (6000, 1000) ∷ []
  -- "A point is placed if its segment is": by its own index, from the journey's start; R is that of the record's point
  pub point_places : map spot (
      points_of book (record { head = head; names = b ∷ d ∷ a ∷ []; points = point 9 0 ∷ point 4 1 ∷ last 1 2 ∷ [] })
      ) ≡ (0, 1, 18) ∷ (2100, 20, 17) ∷ (6400, 150, 17) ∷ []
  -- what a load takes, from the bytes of a journey and of a book; "nothing is drawn on past the last placed segment"; 02, Q-5: "The engine's point
  -- record gains the mark"
  pub load : load_of journey_bytes book_bytes ≡ accept (record {
    route = record {
      load = record { operational = 1234; valid = true; ending = 1; point_count = 4; segment_count = 4 };
      points = placed ++ replicate 60 blank_point;
      segments = segments ++ replicate 36 blank_segment;
    };
    head = head;
  })
  -- its numbers: three points over two segments, the third of them the End of Journey
  pub group : load_group (record { head = head; names = a ∷ b ∷ []; points = point 1 0 ∷ point 6 0 ∷ last 2 1 ∷ [] })
      ≡ record { operational = 1234; valid = true; ending = 2; point_count = 3; segment_count = 2 }
  -- no row refuses: all placed, a point on a segment that is not in the book, two points on one segment, and places counted from the journey's start
  pub fine : map judged (
      (a ∷ b ∷ d ∷ [], point 1 0 ∷ point 2 1 ∷ last 4 2 ∷ []) ∷ (a ∷ b ∷ c ∷ d ∷ [], point 1 0 ∷ last 2 1 ∷ point 3 2 ∷ point 4 3 ∷ [])
      ∷ (a ∷ [], point 1 0 ∷ last 6 0 ∷ []) ∷ (a ∷ b ∷ [], point 1 0 ∷ last 9 1 ∷ []) ∷ []
      ) ≡ 0 ∷ 0 ∷ 0 ∷ 0 ∷ []
  -- "10 segment twice"
  pub row_10 : judged (a ∷ b ∷ a ∷ [], last 1 0 ∷ []) ≡ 10
  -- "11 index beyond, NID_TP twice, not just one End of Journey" (none, two)
  pub row_11 : map judged (
      (a ∷ b ∷ [], last 1 0 ∷ point 2 2 ∷ []) ∷ (c ∷ a ∷ [], last 1 0 ∷ point 1 1 ∷ [])
      ∷ (a ∷ [], point 1 0 ∷ []) ∷ (a ∷ [], last 1 0 ∷ last 6 0 ∷ []) ∷ []
      ) ≡ 11 ∷ 11 ∷ 11 ∷ 11 ∷ []
  -- "11 .. or a booked segment without the point": also where another has it, and where the segment is not placed
  pub row_11_book : map judged ((a ∷ [], last 3 0 ∷ []) ∷ (a ∷ b ∷ [], last 2 0 ∷ []) ∷ (c ∷ d ∷ [], last 3 0 ∷ point 1 1 ∷ []) ∷ [])
      ≡ 11 ∷ 11 ∷ 11 ∷ []
  -- "12 index falls": of points that are not placed
  pub row_12_index : judged (c ∷ d ∷ [], point 4 1 ∷ last 3 0 ∷ []) ≡ 12
  -- "12 .. or placed points do not strictly rise": within a segment; the end of one is the start of the next
  pub row_12_places : map judged ((a ∷ [], point 1 0 ∷ last 7 0 ∷ []) ∷ (a ∷ b ∷ [], point 6 0 ∷ last 9 1 ∷ []) ∷ []) ≡ 12 ∷ 12 ∷ []
  -- "checked whole in row order"
  pub ten_first : map judged ((a ∷ a ∷ [], point 1 5 ∷ []) ∷ (a ∷ a ∷ [], point 1 1 ∷ last 6 0 ∷ []) ∷ []) ≡ 10 ∷ 10 ∷ []
  pub eleven_first : map judged (
      (a ∷ b ∷ [], last 2 1 ∷ last 1 0 ∷ []) ∷ (a ∷ [], point 1 0 ∷ point 7 0 ∷ []) ∷ (a ∷ b ∷ [], last 2 1 ∷ point 3 0 ∷ []) ∷ []
      ) ≡ 11 ∷ 11 ∷ 11 ∷ []
  pub nine_first : map (λ l. number (journey_of book l)) (twice_a [] ∷ twice_a (0x00 ∷ []) ∷ []) ≡ 10 ∷ 9 ∷ []
  -- the places "book" and "journey", "in order"
  pub book_first : map loading (
      ([], 0x00 ∷ []) ∷ (twice_a [], book_bytes ++ book_bytes) ∷ (twice_a [], book_bytes) ∷ (twice_a [], []) ∷ ([], []) ∷ (journey_bytes, []) ∷ []
      ) ≡ 7 ∷ 8 ∷ 10 ∷ 10 ∷ 9 ∷ 0 ∷ []
