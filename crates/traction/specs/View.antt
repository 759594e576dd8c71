-- What the engine's group stands for.
use Rattle.std.specs.Prelude.{true, Option, Some, None, if◌then◌else◌}
use Rattle.engine_value.specs.Engine.{no_traction}
use Rattle.engine_value.specs.declared.Traction.{Traction}
use Rattle.traction.specs.Requests.{remembered}
use Rattle.traction.specs.declared.Remembered.{Remembered}

abbrev pub remembered_in : Traction → Option Remembered
remembered_in t = if t.remembered then Some (remembered t.range t.suptb) else None

-- the group that holds it
abbrev pub traction_of : Option Remembered → Traction
traction_of None = no_traction
traction_of (Some r) = record { remembered = true; range = r.range; suptb = r.suptb; spare = 0 }
