-- Document 02, Q-6, in its own words beside the function that computes it.
use Rattle.std.specs.Prelude.{ℕ, ◌≤◌, ◌<◌, ◌≡◌, ◌↔◌, ◌⊎◌, List, [], Bool, true, false, length, Some, None}
use Rattle.engine_value.specs.Engine.{Route, max_points}
use Rattle.journey.specs.Journey.{JourneyValue}
use Rattle.segment_record.specs.Record.{BookSegment}
use Rattle.route.specs.Route.{route_of}
use Rattle.position.specs.Position.{point, point_count}
use Rattle.timing.specs.Changes.{status_trackside_skip, status_trackside_revoked}
use Rattle.trackside.specs.Trackside.{Mark, mark_of, marks, status_told, each_told, foretell, foretold}

-- the old journey has a point of that NID_TP, and its trackside skip stood so
pub record Had (old : Route) (t : ℕ) (skipped : Bool) : Type 0 where
  pub index : ℕ
  pub one_of_them : index < point_count old
  pub same_name : (point old index).nidtp ≡ t
  pub was : (point old index).trackside ≡ skipped

-- "each point whose NID_TP is in both journeys and that gained the trackside skip": point k of the new journey
pub record Gained (old new : Route) (k : ℕ) : Type 0 where
  pub skipped : (point new k).trackside ≡ true
  pub before : Had old (point new k).nidtp false

-- "and each that lost it"
pub record Lost (old new : Route) (k : ℕ) : Type 0 where
  pub unskipped : (point new k).trackside ≡ false
  pub before : Had old (point new k).nidtp true

pub record Sentences : Type 0 where
  -- "status 7"; of the old journey as the engine keeps it, in an array of 64 points
  pub gains : (old new : Route) (k : ℕ) → length old.points ≡ max_points → (status_told (marks old) (mark_of (point new k)) ≡ Some status_trackside_skip) ↔ Gained old new k
  -- "status 8"
  pub loses : (old new : Route) (k : ℕ) → length old.points ≡ max_points → (status_told (marks old) (mark_of (point new k)) ≡ Some status_trackside_revoked) ↔ Lost old new k
  pub no_other : (old : List Mark) (m : Mark) (s : ℕ) → status_told old m ≡ Some s → (s ≡ status_trackside_skip) ⊎ (s ≡ status_trackside_revoked)
  -- "A first journey writes neither."
  pub first : (m : Mark) → status_told [] m ≡ None
  -- "Someone holding both journeys can foretell which points the list names, in what order and with which status": whatever the books
  pub foretells : (a b : List BookSegment) (old new : JourneyValue) → length old.points ≤ max_points → length new.points ≤ max_points
      → each_told (route_of a old) (route_of b new) (λ k s. foretell (point (route_of b new) k).nidtp s) ≡ foretold old new
