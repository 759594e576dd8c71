-- What the code's judgement stands for.
use Rattle.std.specs.Prelude.{option_map}
use Rattle.adhesion.specs.View.{constraints_view}
use Rattle.engine_value.specs.Engine.{adhesion_of, with_control}
use Rattle.event.specs.Kinds.{newer}
use Rattle.engine_value.specs.declared.Train.{Train}
use Rattle.engine_value.specs.declared.Control.{Control}
use Rattle.engine_value.specs.declared.Engine.{Engine}
use Rattle.status_word.specs.declared.OperationalConditions.{OperationalConditions}
use Rattle.call.specs.Call.{Step}
use Rattle.call.specs.Effect.{stored}
use Rattle.event_packets.specs.View.{packets_view}
use Rattle.event_packets.specs.declared.Status.{Status}
use Rattle.effects.specs.View.{effect_view}
use Rattle.judge.specs.declared.Judgement.{Judgement}

abbrev pub status_of : Control → Train → OperationalConditions → Status
status_of c t conditions = record { state = c.state; conditions = conditions; speed = t.position.speed }

-- the engine with a judgement's values
abbrev pub engine_after : Engine → Judgement → Engine
engine_after e t = with_control (stored e (effect_view t.effect)) t.control t.traction (newer (option_map adhesion_of (option_map constraints_view t.shown)) e.adhesion)

-- the step that it stands for
abbrev pub step_view : Engine → Judgement → Step
step_view e t = record { engine = engine_after e t; packets = packets_view (engine_after e t) t.writes }
