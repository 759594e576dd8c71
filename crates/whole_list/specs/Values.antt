-- The values that the rules read. A history is the list of the accepted calls, the latest first; only their event, journey and book are looked at,
-- decoded by the layouts' own definitions. Nothing here is of crate `call`, the engine's meaning of a call.
use Rattle.std.specs.Prelude.{Bool, false, List, [], ◌∷◌, ◌++◌, ℕ, eqb, if◌then◌else◌, Option, Some, None}
use Rattle.wire.specs.Judged.Judged.{refuse, accept}
use Rattle.engine_value.specs.Engine.{Value, mode, lever, reports, train_length, Route, no_route, fresh_position}
use Rattle.engine_value.specs.declared.Position.{Position}
use Rattle.adhesion.specs.declared.TemporaryConstraint.{TemporaryConstraint}
use Rattle.event.specs.Events.{event_of}
use Rattle.event.specs.Event.{Event}
use Rattle.event.specs.Event.Event.{PowerOn}
use Rattle.event.specs.Kinds.{Role, off, load, report, other, skip, is_off, Carried, newer, role_of, carried}
use Rattle.route.specs.Route.{LoadValue, load_of}
use Rattle.timing.specs.Distance as distance
use Rattle.timing.specs.Load.{target}
use Rattle.position.specs.Skips.{stop_named}
use Rattle.call_values.specs.Call.{Call}

abbrev pub History : Type 0
History = List Call

-- the event of an accepted call
unfoldable pub event_of_call : Call → Event
event_of_call c = elim (event_of c.event) [ refuse n ↦ PowerOn | accept e ↦ e ]

-- the journey and its book, for a load
unfoldable pub load_of_call : Call → Option LoadValue
load_of_call c = elim (load_of c.journey c.book) [ refuse n ↦ None | accept l ↦ Some l ]

abbrev pub role_of_call : Call → Role
role_of_call c = role_of (event_of_call c)

-- ---- "Mode, lever, reports, position and train length come from the latest accepted event since power off that carries them, else are fresh"

unfoldable pub latest : {A : Type 0} → (Carried → Option A) → A → History → A
latest f fresh [] = fresh
latest f fresh (c ∷ h) = if is_off (role_of_call c) then fresh else newer (f (carried (event_of_call c))) (latest f fresh h)

abbrev pub number_by : Value → History → ℕ
number_by v = latest (λ c. c.number v) 0

abbrev pub mode_by : History → ℕ
mode_by = number_by mode

abbrev pub lever_by : History → ℕ
lever_by = number_by lever

abbrev pub reports_by : History → ℕ
reports_by = number_by reports

abbrev pub position_by : History → Position
position_by = latest (λ c. c.position) fresh_position

abbrev pub length_by : History → ℕ
length_by = number_by train_length

-- 02, Q-7: "the rows of the latest one since power off, else none"
abbrev pub constraints_by : History → List TemporaryConstraint
constraints_by = latest (λ c. c.constraints) []

-- "so does the load in force"
abbrev pub route_loaded : Option LoadValue → Route → Route
route_loaded None j = j
route_loaded (Some l) j = l.route

unfoldable pub route_by : History → Route
route_by [] = no_route
route_by (c ∷ h) = elim (role_of_call c) [
  | off ↦ no_route
  | load ↦ route_loaded (load_of_call c) (route_by h)
  | report ↦ route_by h
  | other ↦ route_by h
  | skip t on ↦ route_by h
]

abbrev pub is_point : Option ℕ → ℕ → Bool
is_point None k = false
is_point (Some i) k = eqb i k

-- "A driver skip lasts until revoked, a load or power off." Of point k
unfoldable pub skipped_by : History → ℕ → Bool
skipped_by [] k = false
skipped_by (c ∷ h) k = elim (role_of_call c) [
  | off ↦ false
  | load ↦ false
  | report ↦ skipped_by h k
  | other ↦ skipped_by h k
  | skip t on ↦ if is_point (stop_named (route_by h) t) k then on else skipped_by h k
]

-- a position report that ends a history: "Skips and train length count as they stood at that report."
abbrev pub report_at : History → distance.Report
report_at h = record { position = position_by h; length = length_by h; skips = skipped_by h }

-- the accepted position reports since the load in force, the first first
unfoldable pub reports_since : History → List distance.Report
reports_since [] = []
reports_since (c ∷ h) = elim (role_of_call c) [
  | off ↦ []
  | load ↦ []
  | report ↦ reports_since h ++ (report_at (c ∷ h) ∷ [])
  | other ↦ reports_since h
  | skip t on ↦ reports_since h
]

-- how many points the load in force put behind
unfoldable pub behind_at_load : History → ℕ
behind_at_load [] = 0
behind_at_load (c ∷ h) = elim (role_of_call c) [
  | off ↦ 0
  | load ↦ target (route_by (c ∷ h)) (position_by (c ∷ h)) (length_by (c ∷ h))
  | report ↦ behind_at_load h
  | other ↦ behind_at_load h
  | skip t on ↦ behind_at_load h
]
