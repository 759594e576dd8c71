-- Documents 01, "Events", and 02: what an event says.
use Rattle.std.specs.Prelude.{ℕ, List}
use Rattle.adhesion.specs.declared.TemporaryConstraint.{TemporaryConstraint}
use Rattle.engine_value.specs.declared.Position.{Position}
use Rattle.event.specs.declared.TractionRequest.{TractionRequest}

pub data Event : Type 0 where
  PowerOn Configured PowerOff Fault : Event
  Reports Mode Lever : ℕ → Event
  Press : Event
  PositionReport : Position → Event
  Length : ℕ → Event
  Load : Event
  Skip Revoke : ℕ → Event
  Traction : TractionRequest → Event
  Adhesion : List TemporaryConstraint → Event
