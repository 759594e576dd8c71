-- What the code's answers stand for.
use Rattle.std.specs.Prelude.{ℕ, List, Bool, not, ◌&&◌, eqb, ltb, take, if◌then◌else◌, Option, None, option_map}
use Rattle.std.specs.Bool.{then_some}
use Rattle.std.specs.List.{filter_map, enumerate_from}
use Rattle.wire.specs.Lists.{any}
use Rattle.engine_value.specs.Engine.{Route}
use Rattle.engine_value.specs.declared.Point.{Point}
use Rattle.engine_value.specs.declared.Progress.{Progress}
use Rattle.packets.specs.View.{status_number}
use Rattle.packets.specs.declared.PointStatus.{PointStatus}
use Rattle.packets.specs.declared.PointStatus.TheVariants.{TracksideSkip, TracksideRevoked}
use Rattle.position.specs.Position.{point, point_count}
use Rattle.timing.specs.Changes.{Change, change}

-- a point of the journey is of that NID_TP, and its trackside skip stands so
abbrev pub has : Route → ℕ → Bool → Bool
has j t b = any (λ (q : Point). eqb q.nidtp t && (if q.trackside then b else not b)) (take (point_count j) j.points)

-- the status by its case
abbrev pub status_of : Route → Point → Option PointStatus
status_of old p = then_some (has old p.nidtp (not p.trackside)) (if p.trackside then TracksideSkip else TracksideRevoked)

-- of point k of the new journey; none behind its count
abbrev pub status_at : Route → Route → ℕ → Option PointStatus
status_at old new k = if ltb k (point_count new) then status_of old (point new k) else None

-- a point's index and status as a change, where there is a status; p is the progress after it
abbrev pub change_of : Progress → ℕ × Option PointStatus → Option Change
change_of p (k, o) = option_map (λ s. change k (status_number s) p) o

-- the points' statuses as changes
abbrev pub changes_from : Progress → ℕ → List (Option PointStatus) → List Change
changes_from p k l = filter_map (change_of p) (enumerate_from k l)
