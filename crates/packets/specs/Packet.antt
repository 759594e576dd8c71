-- Documents 01, "Packets", and 02: the packets, each a header and what its kind has behind it.
use Rattle.std.specs.Prelude.{List}
use Rattle.adhesion.specs.declared.TemporaryConstraint.{TemporaryConstraint}
use Rattle.packets.specs.declared.Header.{Header}
use Rattle.packets.specs.declared.TimingPoint as timing_point
use Rattle.packets.specs.declared.JpReceived as jp_received
use Rattle.packets.specs.declared.AtoStatus as ato_status
use Rattle.packets.specs.declared.TractionBrake as traction_brake

pub data Packet : Type 0 where
  TimingPoint : timing_point.TimingPoint → Packet
  JpReceived : jp_received.JpReceived → Packet
  AtoStatus : ato_status.AtoStatus → Packet
  TractionBrake : traction_brake.TractionBrake → Packet
  AdhesionSystem : Header → List TemporaryConstraint → Packet
