-- TOLD ONCE, IN ORDER: a corollary over every list of calls, refused ones included, on one fresh engine. It assumes nothing.
use Rattle.std.specs.Prelude.{◌≡◌, ◌↔◌, Bool, false, ◌&&◌, List, [], ◌∷◌, ◌++◌, map, ℕ, ◌+◌, ◌<◌, length, eqb, ltb, leb, if◌then◌else◌}
use Rattle.wire.specs.Lists.{any, those}
use Rattle.engine_value.specs.Engine.{Route}
use Rattle.position.specs.Position.{point, point_count, indices}
use Rattle.position.specs.Standing.{is_passed}
use Rattle.position.specs.declared.Standing.{Standing}
use Rattle.position.specs.declared.Standing.TheVariants.{Unused, Targeted, Reached, Passed}
use Rattle.timing.specs.Changes.{status_stopped, status_departed}
use Rattle.call_values.specs.Call.{Call}
use Rattle.whole_list.specs.Values.{History, route_by, behind_at_load}
use Rattle.whole_list.specs.Rules.{StandsBy, standing_by}
use Rattle.whole_list.specs.Calls.{history_of}
use Rattle.told_once.specs.Recording.{Name, Told, stops, departs, passes, told_in, recording_of}

abbrev pub name_of : Route → ℕ → Name
name_of j k = record { nidc = (point j k).nidc; nidtp = (point j k).nidtp }

abbrev pub names_in : List Told → List Name
names_in l = map (λ (t : Told). t.name) l

-- passed now, and not put behind by the load
abbrev pub passed_since : History → ℕ → Bool
passed_since h k = leb (behind_at_load h) k && is_passed (standing_by h k)

-- directly before it the 1 of that point is told
pub record StoppedBefore (before : List Told) (name : Name) : Type 0 where
  pub earlier : List Told
  pub stop : Told
  pub last : before ≡ earlier ++ (stop ∷ [])
  pub is_stop : stop.status ≡ status_stopped
  pub same_point : stop.name ≡ name

-- the last 1 is of that point, and has no 2 behind it
pub record StoppedLast (told : List Told) (name : Name) : Type 0 where
  pub before : List Told
  pub stop : Told
  pub behind : List Told
  pub among : told ≡ before ++ (stop ∷ behind)
  pub is_stop : stop.status ≡ status_stopped
  pub last_stop : any stops behind ≡ false
  pub no_departure : any departs behind ≡ false
  pub same_point : stop.name ≡ name

-- whether the last of a list is a 1
unfoldable pub last_stops : Bool → List Told → Bool
last_stops b [] = b
last_stops b (t ∷ l) = last_stops (stops t) l

-- where point k stands, for whoever knows how many points the load put behind and what was told since
abbrev pub standing_told : ℕ → List Told → ℕ → Standing
standing_told behind told k =
    let first = behind + length (those passes told) in
    if ltb k first then Passed else
    if eqb k first then (if last_stops false told then Reached else Targeted) else
    Unused

-- h is the history, `told` what was told since the load in force
pub record ToldOnce (h : History) (told : List Told) : Type 0 where
  -- the packets 62 of status 0 and 2 name exactly the points that are passed now and that the load did not put behind, each once, in the
  -- journey's order
  pub passed : names_in (those passes told) ≡ map (name_of (route_by h)) (those (passed_since h) (indices (route_by h)))
  -- a name is that of one point only
  pub one_point : (i k : ℕ) → i < point_count (route_by h) → k < point_count (route_by h) → name_of (route_by h) i ≡ name_of (route_by h) k → i ≡ k
  -- a 2 stands directly behind the 1 of the same point
  pub departed : (before : List Told) (t : Told) (after : List Told) → told ≡ before ++ (t ∷ after) → t.status ≡ status_departed
      → StoppedBefore before t.name
  -- a point is reached now exactly where the last 1 is its own and has no 2 behind it
  pub reached : (k : ℕ) → k < point_count (route_by h) → StandsBy h k Reached ↔ StoppedLast told (name_of (route_by h) k)
  -- so whoever holds the recording since the load, the journey, and how many points that load put behind, knows where each point stands
  pub known : (k : ℕ) → k < point_count (route_by h) → StandsBy h k (standing_told (behind_at_load h) told k)

abbrev pub told_since : List Call → List Told
told_since calls = told_in (recording_of calls)

abbrev pub InOrder : List Call → Type 0
InOrder calls = ToldOnce (history_of calls) (told_since calls)
