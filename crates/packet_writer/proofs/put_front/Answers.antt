use Rattle.packets.specs.View.{packet_values}
use Rattle.adhesion.specs.View.{constraints_view}
use Rattle.packets.specs.Packet.{Packet}
use Rattle.packet_writer.proofs.WriterLaws.{behind-header}
use Rattle.packet_writer.proofs.put_front.Goals as goal

pub returns-in-TimingPoint : goal.returns-in-TimingPoint
returns-in-TimingPoint c =
    rw (c.put_timing_point.ensures, c.put_header.ensures, c.kind.ensures, c.header.ensures, c.in-TimingPoint.is) (behind-header (packet_values (Packet.TimingPoint c.in-TimingPoint.x)) c.args.out.now)

pub returns-in-JpReceived : goal.returns-in-JpReceived
returns-in-JpReceived c =
    rw (c.put_jp_received.ensures, c.put_header.ensures, c.kind.ensures, c.header.ensures, c.in-JpReceived.is) (behind-header (packet_values (Packet.JpReceived c.in-JpReceived.x)) c.args.out.now)

pub returns-in-AtoStatus : goal.returns-in-AtoStatus
returns-in-AtoStatus c =
    rw (c.put_ato_status.ensures, c.put_header.ensures, c.kind.ensures, c.header.ensures, c.in-AtoStatus.is) (behind-header (packet_values (Packet.AtoStatus c.in-AtoStatus.x)) c.args.out.now)

pub returns-in-AdhesionSystem : goal.returns-in-AdhesionSystem
returns-in-AdhesionSystem c =
    let x = c.in-AdhesionSystem.x in
    rw (c.put.ensures, c.put_header.ensures, c.kind.ensures, c.header.ensures, c.in-AdhesionSystem.is) (behind-header (packet_values (Packet.AdhesionSystem x.header (constraints_view x.constraints))) c.args.out.now)

pub returns-in-TractionBrake : goal.returns-in-TractionBrake
returns-in-TractionBrake c =
    rw (c.put_requested.ensures, c.put_header.ensures, c.kind.ensures, c.header.ensures, c.in-TractionBrake.is) (behind-header (packet_values (Packet.TractionBrake c.in-TractionBrake.x)) c.args.out.now)
