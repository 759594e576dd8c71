-- The recording since the load in force, and what its packets 62 of status 0, 1 and 2 tell.
use Rattle.std.specs.Prelude.{Bool, ◌||◌, List, [], ◌∷◌, ◌++◌, map, ℕ, eqb}
use Rattle.wire.specs.Lists.{those}
use Rattle.engine_value.specs.Engine.{fresh}
use Rattle.event.specs.Kinds.{Role, off, load, report, other, skip}
use Rattle.packets.specs.declared.TimingPoint.{TimingPoint}
use Rattle.timing.specs.Changes.{status_passed, status_stopped, status_departed}
use Rattle.call_values.specs.Call.{Call, Answer, refused, accepted}
use Rattle.whole_list.specs.Values.{role_of_call}
use Rattle.whole_list.specs.Calls.{Done, trace}
use Rattle.whole_list.specs.Recorded.{recorded_by, timing_points}

-- ---- the recording: the packets in the calls' memories

-- an accepted load starts it anew, with its own packets; with power off there is no load in force
abbrev pub goes_on : Role → List (List ℕ) → List (List ℕ) → List (List ℕ)
goes_on off recording written = []
goes_on load recording written = written
goes_on report recording written = recording ++ written
goes_on other recording written = recording ++ written
goes_on (skip t on) recording written = recording ++ written

-- a refused call begins nothing anew: what it writes, a packet 65 of status 1, joins the recording
abbrev pub goes_on_if : Answer → Role → List (List ℕ) → List (List ℕ) → List (List ℕ)
goes_on_if (refused n bytes) role recording written = recording ++ written
goes_on_if (accepted a) role recording written = goes_on role recording written

unfoldable pub recording_from : List (List ℕ) → List Done → List (List ℕ)
recording_from recording [] = recording
recording_from recording (d ∷ l) = recording_from (goes_on_if d.answer (role_of_call d.call) recording (recorded_by d)) l

abbrev pub recording_of : List Call → List (List ℕ)
recording_of calls = recording_from [] (trace fresh calls)

-- ---- what it tells

-- a point by the name that a packet 62 gives it
pub record Name : Type 0 where
  pub nidc : ℕ
  pub nidtp : ℕ

pub record Told : Type 0 where
  pub name : Name
  pub status : ℕ

abbrev pub point_passes : Told → Bool
point_passes t = eqb t.status status_passed

abbrev pub stops : Told → Bool
stops t = eqb t.status status_stopped

abbrev pub departs : Told → Bool
departs t = eqb t.status status_departed

-- a packet 62 of status 0 or 2: the point is passed
abbrev pub passes : Told → Bool
passes t = point_passes t || departs t

abbrev pub told_of : TimingPoint → Told
told_of p = record { name = record { nidc = p.nidc; nidtp = p.nidtp }; status = p.status }

-- the packets 62 that are looked at: of status 0, 1 and 2
abbrev pub counts : Told → Bool
counts t = passes t || stops t

unfoldable pub told_in : List (List ℕ) → List Told
told_in packets = those counts (map told_of (timing_points packets))
