-- What the code's answers stand for.
use Rattle.std.specs.Prelude.{ℕ, ◌≡◌, false, List}
use Rattle.wire.specs.Judged.{Judged}
use Rattle.wire.specs.Judged.Judged.{refuse, accept}
use Rattle.engine_value.specs.Engine.{Route, no_skips}
use Rattle.engine_value.specs.declared.Engine.{Engine}
use Rattle.event.specs.Event.{Event}
use Rattle.event.specs.Kinds.{is_off, is_load, role_of}
use Rattle.call_values.specs.Call.{Call}
use Rattle.call_values.specs.declared.Accepted.{Accepted}
use Rattle.call.specs.Call.{Step, returned, with_packets, judged}
use Rattle.judge.specs.declared.Judgement.{Judgement}

-- the engine with another journey and no driver skip
abbrev pub with_route : Engine → Route → Engine
with_route e j =
    record {
      points = j.points;
      skips = no_skips;
      segments = j.segments;
      load = j.load;
      train = e.train;
      progress = e.progress;
      inputs = e.inputs;
      control = e.control;
      traction = e.traction;
      adhesion = e.adhesion;
    }

-- "An accepted event returns state, request and bytes written"
abbrev pub answer_of : Judgement → Accepted
answer_of t = record { state = t.control.state; request = t.control.request; bytes = t.size }

abbrev pub call : List ℕ → List ℕ → List ℕ → List ℕ → Call
call event journey book memory = record { event = event; journey = journey; book = book; memory = memory }

-- what is stored and written by a call's rows: nothing, where one of them refuses
pub record Taken : Type 0 where
  pub engine : Engine
  pub answer : Judged Accepted
  pub memory : List ℕ

abbrev pub taken_of : Engine → List ℕ → Judged Step → Taken
taken_of e memory (refuse n) = record { engine = e; answer = refuse n; memory = memory }
taken_of e memory (accept s) = record { engine = s.engine; answer = accept (returned s); memory = with_packets s.packets memory }

-- engine, answer and output memory are those
pub record Takes (t : Taken) (m : Engine) (a : Judged Accepted) (memory : List ℕ) : Type 0 where
  pub engine : m ≡ t.engine
  pub answer : a ≡ t.answer
  pub output : memory ≡ t.memory

-- a call's rows, on an engine
abbrev pub take_of : Engine → Call → Taken
take_of e c = taken_of e c.memory (judged e c)

-- the same points and segments
abbrev pub SameJourney : Engine → Engine → Type 0
SameJourney e m = (m.points ≡ e.points) × (m.segments ≡ e.segments)

-- an event other than power off and a load leaves both, and so does one that is not read
abbrev pub KeepsJourney : Judged Event → Engine → Engine → Type 0
KeepsJourney (refuse n) e m = SameJourney e m
KeepsJourney (accept event) e m = is_off (role_of event) ≡ false → is_load (role_of event) ≡ false → SameJourney e m
