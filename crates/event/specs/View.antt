-- What the values of the code say.
use Rattle.std.specs.Prelude.{ℕ, not, eqb}
use Rattle.wire.specs.Lists.{any}
use Rattle.wire.specs.Judged.{Judged, row, ◌>>◌}
use Rattle.wire.specs.Judged.Judged.{accept}
use Rattle.event.specs.Kinds as model
use Rattle.event.specs.Kinds.{kinds, kind_of}
use Rattle.event.specs.declared.EventKind.{EventKind}
use Rattle.event.specs.declared.EventKind.TheVariants.{PowerOn, Configured, PowerOff, Fault, Reports, Mode, Lever, Press, PositionReport, Length, Load, Skip, Revoke, Traction, Adhesion}
use Rattle.event.specs.declared.Role as code
use Rattle.event.specs.declared.Event as code_event
use Rattle.adhesion.specs.View.{constraints_view}
use Rattle.event.specs.Event.{Event}

-- an event of the code
abbrev pub event_view : code_event.Event → Event
event_view code_event.Event.PowerOn = Event.PowerOn
event_view code_event.Event.Configured = Event.Configured
event_view code_event.Event.PowerOff = Event.PowerOff
event_view code_event.Event.Fault = Event.Fault
event_view (code_event.Event.Reports n) = Event.Reports n
event_view (code_event.Event.Mode n) = Event.Mode n
event_view (code_event.Event.Lever n) = Event.Lever n
event_view code_event.Event.Press = Event.Press
event_view (code_event.Event.PositionReport x) = Event.PositionReport x
event_view (code_event.Event.Length n) = Event.Length n
event_view code_event.Event.Load = Event.Load
event_view (code_event.Event.Skip t) = Event.Skip t
event_view (code_event.Event.Revoke t) = Event.Revoke t
event_view (code_event.Event.Traction x) = Event.Traction x
event_view (code_event.Event.Adhesion c) = Event.Adhesion (constraints_view c)

-- the number of a kind
abbrev pub kind_number : EventKind → ℕ
kind_number PowerOn = 1
kind_number Configured = 2
kind_number PowerOff = 3
kind_number Fault = 4
kind_number Reports = 5
kind_number Mode = 6
kind_number Lever = 7
kind_number Press = 8
kind_number PositionReport = 9
kind_number Length = 10
kind_number Load = 11
kind_number Skip = 12
kind_number Revoke = 13
kind_number Traction = 14
kind_number Adhesion = 15

-- "1 .. unknown kind": a number, where it is that of a kind of the table
abbrev pub known_kind : ℕ → Judged ℕ
known_kind n = do
  row 1 (not (any (λ e. eqb n (kind_of e)) kinds))
  accept n

-- to the journey and its points
abbrev pub role_view : code.Role → model.Role
role_view code.Role.Off = model.Role.off
role_view code.Role.Load = model.Role.load
role_view code.Role.Report = model.Role.report
role_view (code.Role.Skip t on) = model.Role.skip t on
role_view code.Role.Other = model.Role.other
