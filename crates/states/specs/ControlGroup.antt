-- The control group of the engine after an event, from the inputs with those of the event already in them, and from the group before.
use Rattle.std.specs.Prelude.{Bool}
use Rattle.engine_value.specs.declared.Control.{Control}
use Rattle.engine_value.specs.declared.Inputs.{Inputs}
use Rattle.status_word.specs.View.{all_nine}
use Rattle.status_word.specs.declared.OperationalConditions.{OperationalConditions}
use Rattle.event.specs.Event.{Event}
use Rattle.state_codes.specs.Codes.{code, state_at, mode_at, lever_at}
use Rattle.states.specs.States.{machine, T, machine_after, given}
use Rattle.states.specs.declared.Values.{Values}
use Rattle.states.specs.declared.Machine.{Machine}

-- what the rows look at; `conditions`: those after the event
abbrev pub values_in : Inputs → OperationalConditions → Values
values_in i conditions = record { O = all_nine conditions; T = T i.reports; lever = lever_at i.lever; mode = mode_at i.mode }

abbrev pub machine_in : Control → Machine
machine_in c = machine (state_at c.state) c.press

-- `m` is what the rows give
abbrev pub control_of : Control → Values → Machine → Control
control_of c v m = record { state = code m.state; press = m.press; request = given m.state v c.request }

unfoldable pub control_after : Inputs → Control → Event → Bool → OperationalConditions → Control
control_after i c event reached conditions = control_of c (values_in i conditions) (machine_after (machine_in c) event reached (values_in i conditions))
