-- "Load, judged on the new journey and book with no driver skip"
use Rattle.std.specs.Prelude.{ℕ, zero, suc, ◌+◌, Bool, false, ◌&&◌, if◌then◌else◌}
use Rattle.engine_value.specs.Engine.{Route}
use Rattle.engine_value.specs.declared.Position.{Position}
use Rattle.position.specs.Position.{point_count, placed, known}
use Rattle.timing.specs.Distance.{Report, beyond}

abbrev pub unskipped_report : Position → ℕ → Report
unskipped_report x length = record { position = x; length = length; skips = λ k. false }

-- neither "unplaced" nor "d ≤ margin"; "with no known position the first is targeted", so none is behind
abbrev pub put_behind : Route → Report → ℕ → Bool
put_behind j r k = known j r.position && (placed j k && beyond j r k)

-- of the n points from k on the first that is not so, and else the number of all
unfoldable pub target_from : Route → Report → ℕ → ℕ → ℕ
target_from j r zero k = k
target_from j r (suc n) k = if put_behind j r k then target_from j r n (k + 1) else k

-- "the first point that is unplaced or has d ≤ margin is targeted, earlier ones passed, later ones not used; where there is none such, all are passed"
unfoldable pub target : Route → Position → ℕ → ℕ
target j x length = target_from j (unskipped_report x length) (point_count j) 0
