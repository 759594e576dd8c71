-- Values from documents 01 and 02 that the definitions must give.
use Rattle.std.specs.Prelude.{ℕ, ◌≡◌, List, [], ◌∷◌, ◌++◌, map, Bool, true, false, Some, None, Ok, Err}
use Rattle.wire.specs.declared.Refusal.{Refusal}
use Rattle.engine_value.specs.Engine.{Route, no_route, blank_point, blank_segment, fresh_position}
use Rattle.engine_value.specs.declared.Segment.{Segment}
use Rattle.engine_value.specs.declared.Point.{Point}
use Rattle.engine_value.specs.declared.Position.{Position}
use Rattle.status_word.specs.Anchors.{numbered}
use Rattle.packets.specs.declared.Header.{Header}
use Rattle.packets.specs.declared.Requested.{Requested}
use Rattle.adhesion.specs.Anchors.{north}
use Rattle.adhesion.specs.declared.TemporaryConstraint.{TemporaryConstraint}
use Rattle.packets.specs.Packet.{Packet}
use Rattle.journey.specs.declared.Head.{Head}
use Rattle.position.specs.Position.{segment_named}
use Rattle.call_values.specs.Rows.{offset_beyond, same_bool}
use Rattle.call_values.specs.Packets.{header, point_change, hold_revoked, timing_point, jp_received, Status, status_due, received, traction_brakes, adhesion_systems, packets_of, jp_turned_down, packets_refused}
use Rattle.call_values.specs.Call.{refused, accepted, bytes_written}
use Rattle.call_values.specs.View.{answer_view as view}

-- ---- a journey with NID_OPERATIONAL 12345678 hexadecimal: segment 17/500 of 1,000 m, in the book and placed; 18/600, in the book but behind
-- 19/700, which is not; point 7001 with NID_C 21, by the train's rear, with stopping data 55; point 7002 with NID_C 22, by its middle, with 66

abbrev pub segment : ℕ → ℕ → Bool → Bool → Segment
segment c sp booked placed =
    record { nidsp = sp; start = 0; length = 100000; zone_count = 0; zones = blank_segment.zones; nidc = c; booked = booked; placed = placed }

abbrev pub stop_point : ℕ → ℕ → ℕ → ℕ → Point
stop_point t c alignment stopping =
    record { nidtp = t; place = 40000; reach = 150; nidc = c; alignment = alignment; stopping = stopping; stop = true; trackside = false; held = false; placed = true }

abbrev pub stop_7001 : Point
stop_7001 = stop_point 7001 21 2 55

abbrev pub stop_7002 : Point
stop_7002 = stop_point 7002 22 1 66

abbrev pub route : Route
route = record {
  load = record { operational = 0x12345678; valid = true; ending = 1; point_count = 2; segment_count = 3 };
  points = stop_7001 ∷ stop_7002 ∷ blank_point ∷ [];
  segments = segment 17 500 true true ∷ segment 19 700 false false ∷ segment 18 600 true false ∷ segment 20 800 true true ∷ [];
}

abbrev pub at : ℕ → ℕ → ℕ → Position
at c sp offset = record { nidsp = sp; offset = offset; nidc = c; speed = 7 }

abbrev pub header_at : ℕ → ℕ → ℕ → Header
header_at c sp offset = record { nidc = c; nidsp = sp; offset = offset; speed = 7; operational = 0x12345678 }

abbrev pub packet62 : ℕ → ℕ → ℕ → ℕ → ℕ → ℕ → Packet
packet62 c t eoj alignment status stopping =
    Packet.TimingPoint (record { header = header_at 17 500 39900; nidc = c; nidtp = t; q_eoj_reached = eoj; alignment = alignment; status = status; stopping = stopping })

-- NID_ATOTS 5, date 1, seconds 2, counter 3
abbrev pub head : Head
head = record { operational = 0x12345678; seconds = 2; date = 1; atots = 5; counter = 3 }

abbrev pub packet65 : Header → ℕ → Packet
packet65 h c = Packet.JpReceived (record { header = h; nidc = c; atots = 5; date = 1; seconds = 2; counter = 3; status = 0 })

-- of profiles turned down
abbrev pub packet65_refused : Header → ℕ → Packet
packet65_refused h c = Packet.JpReceived (record { header = h; nidc = c; atots = 16384; date = 0; seconds = 0; counter = 0; status = 1 })

abbrev pub packet68 : ℕ → ℕ → Packet
packet68 s n = Packet.AtoStatus (record { header = header_at 17 500 39900; state = s; conditions = numbered n })

abbrev pub requested : Requested
requested = record { m_ato_trabrrq = 1; m_ato_locobrrq = 2; q_ato_suptb = 3; m_ato_rtbrq = 4 }

abbrev pub packet61 : Packet
packet61 = Packet.TractionBrake (record { header = header_at 17 500 39900; requested = requested })

abbrev pub packet64 : List TemporaryConstraint → Packet
packet64 rows = Packet.AdhesionSystem (header_at 17 500 39900) rows

abbrev pub shown : ℕ → ℕ → ℕ → Status
shown state conditions speed = record { state = state; conditions = numbered conditions; speed = speed }

pub record Anchors : Type 0 where
  -- "header: NID_C (2), NID_SP (4), offset (4), speed (2), NID_OPERATIONAL (4; FFFFFFFF hexadecimal with no journey)"
  pub header_with : header route (at 17 500 39900) ≡ record { nidc = 17; nidsp = 500; offset = 39900; speed = 7; operational = 0x12345678 }
  pub header_without : header no_route fresh_position ≡ record { nidc = 0; nidsp = 0; offset = 16777215; speed = 0; operational = 0xFFFFFFFF }
  -- "62: point's NID_C (2), NID_TP (4), info: Q_EOJ_REACHED (.. 0 once the End of Journey is reached or passed, else 1) + 2 × alignment + 8 × status,
  -- stopping data (1; 0 unless status 1)"
  pub points : map (timing_point route (at 17 500 39900)) (point_change stop_7001 1 true ∷ point_change stop_7002 1 false ∷ point_change stop_7001 2 true ∷ point_change stop_7002 0 false ∷ point_change stop_7001 5 true ∷ point_change stop_7001 6 true ∷ [])
      ≡ packet62 21 7001 1 2 1 55 ∷ packet62 22 7002 0 1 1 66 ∷ packet62 21 7001 1 2 2 0 ∷ packet62 22 7002 0 1 0 0 ∷ packet62 21 7001 1 2 5 0 ∷ packet62 21 7001 1 2 6 0 ∷ []
  -- 02, Q-5: status 3 has the fields of status 1, but "stopping data 0 unless status 1"; status 4 those of the old point, which the journey need not have
  pub held : map (timing_point route (at 17 500 39900)) (point_change stop_7002 1 true ∷ point_change stop_7002 3 true ∷ [])
      ≡ packet62 22 7002 1 1 1 66 ∷ packet62 22 7002 1 1 3 0 ∷ []
  -- Q-6: 7 and 8, with stopping data 0
  pub trackside : map (timing_point route (at 17 500 39900)) (point_change stop_7001 7 true ∷ point_change stop_7002 8 false ∷ [])
      ≡ packet62 21 7001 1 2 7 0 ∷ packet62 22 7002 0 1 8 0 ∷ []
  pub hold_revoked_lem : map (timing_point route (at 17 500 39900)) (hold_revoked (Some (stop_point 7009 99 2 77)) true ++ hold_revoked (Some stop_7001) false ++ hold_revoked None true)
      ≡ packet62 99 7009 1 2 4 0 ∷ packet62 21 7001 0 2 4 0 ∷ []
  -- "65 on an accepted load: NID_C (1,024 unless the position is known), NID_ATOTS, date, seconds, counter, status 0": within the length and beyond it;
  -- undefined; a segment that is not placed; one that is not the journey's
  pub received_at : map (λ (x : Position). jp_received route x head) (at 17 500 100000 ∷ at 17 500 100001 ∷ at 17 500 16777215 ∷ at 18 600 10 ∷ at 20 800 10 ∷ [])
      ≡ packet65 (header_at 17 500 100000) 17 ∷ packet65 (header_at 17 500 100001) 1024 ∷ packet65 (header_at 17 500 16777215) 1024
      ∷ packet65 (header_at 18 600 10) 1024 ∷ packet65 (header_at 20 800 10) 1024 ∷ []
  pub received_none : received route (at 17 500 39900) None ≡ []
  -- "Written when state or conditions changed, or speed rose from 0 while not EG afterwards"
  pub unchanged : status_due (shown 3 511 0) (shown 3 511 0) ≡ false
  pub other_state : map (λ (s : ℕ). status_due (shown 3 511 7) (shown s 511 7)) (2 ∷ 3 ∷ 5 ∷ []) ≡ true ∷ false ∷ true ∷ []
  pub other_conditions : map (λ (n : ℕ). status_due (shown 5 510 7) (shown 5 n 7)) (509 ∷ 510 ∷ 511 ∷ []) ≡ true ∷ false ∷ true ∷ []
  pub speed_after : map (λ (s : ℕ). status_due (shown s 511 0) (shown s 511 1)) (0 ∷ 1 ∷ 2 ∷ 3 ∷ 4 ∷ 5 ∷ 6 ∷ 7 ∷ [])
      ≡ true ∷ true ∷ true ∷ true ∷ true ∷ false ∷ true ∷ true ∷ []
  pub speed_rose : map (λ (n : ℕ). status_due (shown 3 511 n) (shown 3 511 2)) (0 ∷ 1 ∷ 2 ∷ 3 ∷ []) ≡ true ∷ false ∷ false ∷ false ∷ []
  pub speed_fell : status_due (shown 3 511 2) (shown 3 511 0) ≡ false
  -- "Order: 65, the 62s as they arise, 68." "68: state + 16 × conditions", those after the event
  pub order : packets_of route (at 17 500 39900) (Some head) (point_change stop_7001 2 true ∷ point_change stop_7002 0 false ∷ []) [] (shown 3 511 7) (shown 5 507 7)
      ≡ packet65 (header_at 17 500 39900) 17 ∷ packet62 21 7001 1 2 2 0 ∷ packet62 22 7002 0 1 0 0 ∷ packet68 5 507 ∷ []
  pub revoked_order : packets_of route (at 17 500 39900) (Some head) (hold_revoked (Some stop_7001) true) [] (shown 3 511 7) (shown 5 507 7)
      ≡ packet65 (header_at 17 500 39900) 17 ∷ packet62 21 7001 1 2 4 0 ∷ packet68 5 507 ∷ []
  pub nothing_due : packets_of route (at 17 500 39900) None (point_change stop_7001 1 true ∷ []) [] (shown 3 511 7) (shown 3 511 0) ≡ packet62 21 7001 1 2 1 55 ∷ []
  -- 61 with the header's values after the event and the event's content; "Order: 65, the 62s as they arise, 68", 61 before the 68
  pub traction : map (traction_brakes route (at 17 500 39900)) (None ∷ Some requested ∷ []) ≡ [] ∷ (packet61 ∷ []) ∷ []
  pub traction_order : packets_of route (at 17 500 39900) None (point_change stop_7001 2 true ∷ []) (traction_brakes route (at 17 500 39900) (Some requested)) (shown 3 511 7) (shown 5 507 7)
      ≡ packet62 21 7001 1 2 2 0 ∷ packet61 ∷ packet68 5 507 ∷ []
  -- 02, Q-7: 64 with the rows of the event, none included, before the 68
  pub slippery : map (adhesion_systems route (at 17 500 39900)) (None ∷ Some [] ∷ Some (north ∷ north ∷ []) ∷ []) ≡ [] ∷ (packet64 [] ∷ []) ∷ (packet64 (north ∷ north ∷ []) ∷ []) ∷ []
  pub slippery_order : packets_of route (at 17 500 39900) None (point_change stop_7001 2 true ∷ []) (adhesion_systems route (at 17 500 39900) (Some (north ∷ []))) (shown 3 511 7) (shown 5 507 7)
      ≡ packet62 21 7001 1 2 2 0 ∷ packet64 (north ∷ []) ∷ packet68 5 507 ∷ []
  -- 02, Q-4: "status 1, the header of the engine as it stands, the content's NID_C by 01's rule against the journey in force, stamp fields 0 and NID_ATOTS
  -- 16,384": at the same positions, and with no journey
  pub turned_down_at : map (jp_turned_down route) (at 17 500 100000 ∷ at 17 500 100001 ∷ at 17 500 16777215 ∷ at 18 600 10 ∷ at 20 800 10 ∷ [])
      ≡ packet65_refused (header_at 17 500 100000) 17 ∷ packet65_refused (header_at 17 500 100001) 1024 ∷ packet65_refused (header_at 17 500 16777215) 1024
      ∷ packet65_refused (header_at 18 600 10) 1024 ∷ packet65_refused (header_at 20 800 10) 1024 ∷ []
  pub turned_down_first : jp_turned_down no_route (at 17 500 39900)
      ≡ packet65_refused (record { nidc = 17; nidsp = 500; offset = 39900; speed = 7; operational = 0xFFFFFFFF }) 1024
  -- "A load refused by 7 to 12 writes" it; "If even that does not fit, nothing is written": with a memory of 29 bytes, and of 0, 28, 30
  pub refused_by : map (λ (n : ℕ). packets_refused route (at 17 500 39900) n 29) (1 ∷ 6 ∷ 7 ∷ 12 ∷ 13 ∷ 16 ∷ [])
      ≡ [] ∷ [] ∷ (packet65_refused (header_at 17 500 39900) 17 ∷ []) ∷ (packet65_refused (header_at 17 500 39900) 17 ∷ []) ∷ [] ∷ [] ∷ []
  pub refused_room : map (packets_refused route (at 17 500 39900) 9) (0 ∷ 28 ∷ 30 ∷ []) ≡ [] ∷ [] ∷ (packet65_refused (header_at 17 500 39900) 17 ∷ []) ∷ []
  -- "An accepted event returns state, request and bytes written"; "The result of a refusal gains the byte count"
  pub answers : map view (Ok (record { state = 4; request = true; bytes = 19 }) ∷ Err (record { row = Refusal.Beyond; bytes = 0 }) ∷ Err (record { row = Refusal.Order; bytes = 29 }) ∷ [])
      ≡ accepted (record { state = 4; request = true; bytes = 19 }) ∷ refused 13 0 ∷ refused 12 29 ∷ []
  pub written : map bytes_written (accepted (record { state = 4; request = true; bytes = 19 }) ∷ refused 13 0 ∷ refused 12 29 ∷ []) ≡ 19 ∷ 0 ∷ 29 ∷ []
  -- "13 journey segment that is in the book, offset defined and beyond its length": it need not be placed
  pub row_13 : map (λ (x : Position). offset_beyond (segment_named route x) x)
      (at 17 500 100000 ∷ at 17 500 100001 ∷ at 17 500 16777214 ∷ at 17 500 16777215 ∷ at 18 600 100001 ∷ at 19 700 100001 ∷ at 20 800 100001 ∷ at 17 600 100001 ∷ [])
      ≡ false ∷ true ∷ true ∷ false ∷ true ∷ false ∷ false ∷ false ∷ []
  -- "15 .. driver skip already given, or no driver skip to revoke"
  pub row_15 : map (λ (given : Bool). same_bool given true) (false ∷ true ∷ []) ≡ false ∷ true ∷ []
  pub row_15_revoked : map (λ (given : Bool). same_bool given false) (false ∷ true ∷ []) ≡ true ∷ false ∷ []
