-- Document 02, Q-6: skips by the trackside.
use Rattle.std.specs.Prelude.{ℕ, List, map, Bool, not, ◌&&◌, eqb, take, if◌then◌else◌, Option, Some, None, option_map}
use Rattle.std.specs.List.{filter_map}
use Rattle.wire.specs.Lists.{any}
use Rattle.engine_value.specs.Engine.{Route}
use Rattle.engine_value.specs.declared.Point.{Point}
use Rattle.engine_value.specs.declared.Progress.{Progress}
use Rattle.journey.specs.Journey.{JourneyValue}
use Rattle.journey.specs.declared.JourneyPoint.{JourneyPoint}
use Rattle.position.specs.Position.{point, point_count, indices}
use Rattle.timing.specs.Changes.{Change, change, status_trackside_skip, status_trackside_revoked}

-- what is compared of a timing point: its NID_TP, and whether trackside skips it (bit 5)
pub record Mark : Type 0 where
  pub nidtp : ℕ
  pub skipped : Bool

abbrev pub mark : ℕ → Bool → Mark
mark t b = record { nidtp = t; skipped = b }

-- "each point whose NID_TP is in both journeys and that gained the trackside skip": m is of the new journey
abbrev pub gained : List Mark → Mark → Bool
gained old m = m.skipped && any (λ (q : Mark). eqb q.nidtp m.nidtp && not q.skipped) old

-- "and each that lost it"
abbrev pub lost : List Mark → Mark → Bool
lost old m = not m.skipped && any (λ (q : Mark). eqb q.nidtp m.nidtp && q.skipped) old

-- the former "writes packet 62 with status 7", the latter "status 8"
unfoldable pub status_told : List Mark → Mark → Option ℕ
status_told old m =
    if gained old m then Some status_trackside_skip else
    if lost old m then Some status_trackside_revoked else
    None

-- ---- of the engine's journeys

abbrev pub mark_of : Point → Mark
mark_of p = mark p.nidtp p.trackside

abbrev pub marks : Route → List Mark
marks j = map mark_of (take (point_count j) j.points)

-- "in the new journey's order": of each of its points that is told, by its index and the status
unfoldable pub each_told : {A : Type 0} → Route → Route → (ℕ → ℕ → A) → List A
each_told old new f = filter_map (λ k. option_map (f k) (status_told (marks old) (mark_of (point new k)))) (indices new)

-- what a load changes, from the progress that it leaves
abbrev pub trackside_changes : Route → Route → Progress → List Change
trackside_changes old new p = each_told old new (λ k s. change k s p)

-- ---- "Someone holding both journeys can foretell which points the list names, in what order and with which status."

pub record Foretold : Type 0 where
  pub nidtp : ℕ
  pub status : ℕ

abbrev pub foretell : ℕ → ℕ → Foretold
foretell t s = record { nidtp = t; status = s }

abbrev pub marks_in : JourneyValue → List Mark
marks_in j = map (λ (p : JourneyPoint). mark p.nidtp p.trackside) j.points

abbrev pub told_by : List Mark → List Mark → List Foretold
told_by old new = filter_map (λ (m : Mark). option_map (foretell m.nidtp) (status_told old m)) new

-- by the values of two journeys alone
unfoldable pub foretold : JourneyValue → JourneyValue → List Foretold
foretold old new = told_by (marks_in old) (marks_in new)
