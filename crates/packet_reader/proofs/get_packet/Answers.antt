use Rattle.packet_reader.proofs.get_packet.Goals as goal

pub returns-in-TimingPoint : goal.returns-in-TimingPoint
returns-in-TimingPoint c = rw c.in-TimingPoint.is c.get_timing_point.ensures

pub returns-in-JpReceived : goal.returns-in-JpReceived
returns-in-JpReceived c = rw c.in-JpReceived.is c.get_jp_received.ensures

pub returns-in-AtoStatus : goal.returns-in-AtoStatus
returns-in-AtoStatus c = rw c.in-AtoStatus.is c.get_ato_status.ensures

pub returns-in-TractionBrake : goal.returns-in-TractionBrake
returns-in-TractionBrake c = rw c.in-TractionBrake.is c.get_traction_brake.ensures

pub returns-in-AdhesionSystem : goal.returns-in-AdhesionSystem
returns-in-AdhesionSystem c = rw c.in-AdhesionSystem.is c.get_adhesion_system.ensures
