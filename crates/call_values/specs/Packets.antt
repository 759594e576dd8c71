-- Documents 01, "Packets", and 02, Q-1, Q-4, Q-5 and Q-7: which packets a call writes, and with what values. Header values are those after the event.
use Rattle.std.specs.Prelude.{ℕ, List, [], ◌∷◌, ◌++◌, map, Bool, not, ◌&&◌, ◌||◌, eqb, leb, if◌then◌else◌, Option, Some, None}
use Rattle.wire.specs.Numbers.{flag}
use Rattle.wire.specs.Refusals.{turns_down}
use Rattle.engine_value.specs.Engine.{Route}
use Rattle.engine_value.specs.declared.Load.{Load}
use Rattle.engine_value.specs.declared.Point.{Point}
use Rattle.engine_value.specs.declared.Position.{Position}
use Rattle.adhesion.specs.declared.TemporaryConstraint.{TemporaryConstraint}
use Rattle.packets.specs.Layouts.{unknown_nidc, kind65, kind_size}
use Rattle.status_word.specs.View.{same_conditions}
use Rattle.packets.specs.declared.Header.{Header}
use Rattle.status_word.specs.declared.OperationalConditions.{OperationalConditions}
use Rattle.packets.specs.declared.Requested.{Requested}
use Rattle.packets.specs.Packet.{Packet}
use Rattle.journey.specs.Journey.{no_atots}
use Rattle.journey.specs.declared.Head.{Head}
use Rattle.position.specs.Position.{known}
use Rattle.timing.specs.Changes.{status_stopped, status_hold_revoked, when}
use Rattle.state_codes.specs.Codes.{code}
use Rattle.state_codes.specs.declared.State.TheVariants.{EG}

-- "header: NID_C (2), NID_SP (4), offset (4), speed (2), NID_OPERATIONAL (4; FFFFFFFF hexadecimal with no journey)"
abbrev pub header_of : Load → Position → Header
header_of l x = record { nidc = x.nidc; nidsp = x.nidsp; offset = x.offset; speed = x.speed; operational = l.operational }

abbrev pub header : Route → Position → Header
header j x = header_of j.load x

-- a point that an event changed, its status, and whether after that change the End of Journey is ahead, neither reached nor passed
pub record PointChange : Type 0 where
  pub point : Point
  pub status : ℕ
  pub end_ahead : Bool

abbrev pub point_change : Point → ℕ → Bool → PointChange
point_change p s b = record { point = p; status = s; end_ahead = b }

-- 02, Q-5: "status 4 is written after packet 65, using the old point's fields but the new journey's Q_EOJ_REACHED": of the stop whose hold a load ended
abbrev pub hold_revoked : Option Point → Bool → List PointChange
hold_revoked None ahead = []
hold_revoked (Some p) ahead = point_change p status_hold_revoked ahead ∷ []

-- "62: point's NID_C, NID_TP, info: Q_EOJ_REACHED (after that change; 0 once the End of Journey is reached or passed, else 1) + 2 × alignment
-- + 8 × status (..), stopping data (1; 0 unless status 1)"
abbrev pub timing_point_of : Header → Point → ℕ → Bool → Packet
timing_point_of h p status end_ahead =
    Packet.TimingPoint (record {
      header = h;
      nidc = p.nidc;
      nidtp = p.nidtp;
      q_eoj_reached = flag end_ahead;
      alignment = p.alignment;
      status = status;
      stopping = if eqb status status_stopped then p.stopping else 0;
    })

unfoldable pub timing_point : Route → Position → PointChange → Packet
timing_point j x c = timing_point_of (header j x) c.point c.status c.end_ahead

-- "65 on an accepted load: NID_C (1,024 unless the position is known), NID_ATOTS, date, seconds, counter, status 0."
abbrev pub country : Route → Position → ℕ
country j x = if known j x then x.nidc else unknown_nidc

abbrev pub jp_received_of : Header → ℕ → Head → Packet
jp_received_of h nidc head =
    Packet.JpReceived (record {
      header = h;
      nidc = nidc;
      atots = head.atots;
      date = head.date;
      seconds = head.seconds;
      counter = head.counter;
      status = 0;
    })

unfoldable pub jp_received : Route → Position → Head → Packet
jp_received j x head = jp_received_of (header j x) (country j x) head

-- "68: state + 16 × conditions (2)."
abbrev pub ato_status_of : Header → ℕ → OperationalConditions → Packet
ato_status_of h state conditions = Packet.AtoStatus (record { header = h; state = state; conditions = conditions })

unfoldable pub ato_status : Route → Position → ℕ → OperationalConditions → Packet
ato_status j x state conditions = ato_status_of (header j x) state conditions

-- what a packet 68 is written for: state, conditions and speed
pub record Status : Type 0 where
  pub state : ℕ
  pub conditions : OperationalConditions
  pub speed : ℕ

-- "Written when state or conditions changed, or speed rose from 0 while not EG afterwards; once an event."
unfoldable pub status_due : Status → Status → Bool
status_due before after =
    not (eqb after.state before.state)
    || (not (same_conditions after.conditions before.conditions)
    || (eqb before.speed 0 && (not (eqb after.speed 0) && not (eqb after.state (code EG)))))

abbrev pub received : Route → Position → Option Head → List Packet
received j x None = []
received j x (Some h) = jp_received j x h ∷ []

-- 61, of a traction request: its content is "the five bytes of packet 61" that the event carries
abbrev pub traction_brake_of : Header → Requested → Packet
traction_brake_of h r = Packet.TractionBrake (record { header = h; requested = r })

unfoldable pub traction_brake : Route → Position → Requested → Packet
traction_brake j x r = traction_brake_of (header j x) r

-- where one is written, with that content
abbrev pub traction_brakes : Route → Position → Option Requested → List Packet
traction_brakes j x None = []
traction_brakes j x (Some r) = traction_brake j x r ∷ []

-- 64, of slippery rail, with the rows that the event brings
abbrev pub adhesion_system_of : Header → List TemporaryConstraint → Packet
adhesion_system_of h rows = Packet.AdhesionSystem h rows

unfoldable pub adhesion_system : Route → Position → List TemporaryConstraint → Packet
adhesion_system j x rows = adhesion_system_of (header j x) rows

-- 02, Q-7: "Each accepted such event, and nothing else, writes packet 64 with its rows"
abbrev pub adhesion_systems : Route → Position → Option (List TemporaryConstraint) → List Packet
adhesion_systems j x None = []
adhesion_systems j x (Some rows) = adhesion_system j x rows ∷ []

-- "Order: 65, the 62s as they arise, 68." The packets that one kind of event alone writes, here 61 and 64, stand before the 68
abbrev pub in_order : List Packet → List Packet → List Packet → List Packet → List Packet
in_order packet65 packets62 own packet68 = packet65 ++ (packets62 ++ (own ++ packet68))

unfoldable pub packets_of : Route → Position → Option Head → List PointChange → List Packet → Status → Status → List Packet
packets_of j x loaded changes own before after =
    in_order (received j x loaded) (map (timing_point j x) changes) own (when (status_due before after) (ato_status j x after.state after.conditions))

-- ---- profiles turned down

-- 02, Q-4: "packet 65 with status 1, the header of the engine as it stands, the content's NID_C by 01's rule against the journey in force, stamp fields 0 and
-- NID_ATOTS 16,384"
unfoldable pub jp_turned_down : Route → Position → Packet
jp_turned_down j x =
    Packet.JpReceived (record {
      header = header j x;
      nidc = country j x;
      atots = no_atots;
      date = 0;
      seconds = 0;
      counter = 0;
      status = 1;
    })

-- "A load refused by 7 to 12 writes" it. "If even that does not fit, nothing is written." Of a call that is refused by number n, with `room` bytes of memory; no event
-- but a load is refused by these numbers
unfoldable pub packets_refused : Route → Position → ℕ → ℕ → List Packet
packets_refused j x n room = when (turns_down n && leb (kind_size kind65) room) (jp_turned_down j x)
