-- The values that a packet's struct stands for.
use Rattle.std.specs.Prelude.{ℕ}
use Rattle.layout.specs.Layout.{Values, in_parts}
use Rattle.layout.specs.Body.{BodyValues}
use Rattle.status_word.specs.Word.{condition_parts}
use Rattle.adhesion.specs.View.{constraints_view, constraints_values}
use Rattle.status_word.specs.View.{conditions_view}
use Rattle.packets.specs.Layouts.{PacketKind, header_layout, content62, content65, content68, content61, kind62, kind65, kind68, kind61, kind64}
use Rattle.packets.specs.declared.PacketKind as kind
use Rattle.packets.specs.declared.Header.{Header}
use Rattle.packets.specs.declared.TimingPoint.{TimingPoint}
use Rattle.packets.specs.declared.PointStatus.{PointStatus}
use Rattle.packets.specs.declared.PointStatus.TheVariants.{Passed, Stopped, Departed, Held, HoldRevoked, Skipped, Revoked, TracksideSkip, TracksideRevoked}
use Rattle.packets.specs.declared.JpStatus.{JpStatus}
use Rattle.packets.specs.declared.JpStatus.TheVariants.{Accepted, TurnedDown}
use Rattle.packets.specs.declared.JpReceived.{JpReceived}
use Rattle.packets.specs.declared.AtoStatus.{AtoStatus}
use Rattle.packets.specs.declared.Requested.{Requested}
use Rattle.packets.specs.Packet.{Packet}
use Rattle.packets.specs.declared.Packet as code

abbrev pub header_view : Header → Values header_layout
header_view h = (h.nidc, (h.nidsp, (h.offset, (h.speed, (h.operational, tt)))))

abbrev pub timing_point_view : TimingPoint → Values content62
timing_point_view p = (p.nidc, (p.nidtp, ((p.q_eoj_reached, (p.alignment, (p.status, tt))), (p.stopping, tt))))

-- "status (0 passed, 1 stopped, 2 departed, 5 driver skip, 6 skip revoked)"; 02, Q-5: 3 held, 4 the hold is revoked; Q-6: 7 a trackside skip
-- is gained, 8 lost
abbrev pub status_number : PointStatus → ℕ
status_number Passed = 0
status_number Stopped = 1
status_number Departed = 2
status_number Held = 3
status_number HoldRevoked = 4
status_number Skipped = 5
status_number Revoked = 6
status_number TracksideSkip = 7
status_number TracksideRevoked = 8

-- "65 ..: .. status 0"; 02, Q-4: "packet 65 with status 1"
abbrev pub jp_status_number : JpStatus → ℕ
jp_status_number Accepted = 0
jp_status_number TurnedDown = 1

abbrev pub jp_received_view : JpReceived → Values content65
jp_received_view p = (p.nidc, (p.atots, (p.date, (p.seconds, (p.counter, (p.status, tt))))))

abbrev pub ato_status_view : AtoStatus → Values content68
ato_status_view p = ((p.state, in_parts condition_parts (conditions_view p.conditions)), tt)

abbrev pub requested_view : Requested → Values content61
requested_view r = (r.m_ato_trabrrq, (r.m_ato_locobrrq, (r.q_ato_suptb, (r.m_ato_rtbrq, tt))))

-- a packet of the code
abbrev pub packet_view : code.Packet → Packet
packet_view (code.Packet.TimingPoint p) = Packet.TimingPoint p
packet_view (code.Packet.JpReceived p) = Packet.JpReceived p
packet_view (code.Packet.AtoStatus p) = Packet.AtoStatus p
packet_view (code.Packet.TractionBrake p) = Packet.TractionBrake p
packet_view (code.Packet.AdhesionSystem p) = Packet.AdhesionSystem p.header (constraints_view p.constraints)

-- the values of one packet, by its kind
pub record PacketValues : Type 0 where
  pub kind : PacketKind
  pub header : Values header_layout
  pub content : BodyValues kind.content

abbrev pub packet_values : Packet → PacketValues
packet_values (Packet.TimingPoint p) = record { kind = kind62; header = header_view p.header; content = timing_point_view p }
packet_values (Packet.JpReceived p) = record { kind = kind65; header = header_view p.header; content = jp_received_view p }
packet_values (Packet.AtoStatus p) = record { kind = kind68; header = header_view p.header; content = ato_status_view p }
packet_values (Packet.TractionBrake p) = record { kind = kind61; header = header_view p.header; content = requested_view p.requested }
packet_values (Packet.AdhesionSystem h rows) = record { kind = kind64; header = header_view h; content = constraints_values rows }

-- the kind of a packet
abbrev pub kind_view : kind.PacketKind → PacketKind
kind_view kind.PacketKind.TimingPoint = kind62
kind_view kind.PacketKind.JpReceived = kind65
kind_view kind.PacketKind.AtoStatus = kind68
kind_view kind.PacketKind.TractionBrake = kind61
kind_view kind.PacketKind.AdhesionSystem = kind64
