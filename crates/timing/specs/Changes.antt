-- What an event changes of the points: the point, its status in a packet 62, and the progress "after that change".
use Rattle.std.specs.Prelude.{ℕ, zero, suc, ◌+◌, ◌-◌, List, [], ◌∷◌, ◌++◌, Bool, false, if◌then◌else◌}
use Rattle.engine_value.specs.Engine.{Route, progress}
use Rattle.engine_value.specs.declared.Progress.{Progress}
use Rattle.position.specs.Position.{point}
use Rattle.timing.specs.Distance.{Report}
use Rattle.timing.specs.declared.Reported.{Reported}
use Rattle.timing.specs.Report.{report_of}

-- "status (0 passed, 1 stopped, 2 departed, 5 driver skip, 6 skip revoked)"; 02, Q-5: 3 held, 4 the hold is revoked; Q-6: 7 a trackside skip is
-- gained, 8 lost
abbrev pub status_passed : ℕ
status_passed = 0

abbrev pub status_stopped : ℕ
status_stopped = 1

abbrev pub status_departed : ℕ
status_departed = 2

abbrev pub status_held : ℕ
status_held = 3

abbrev pub status_hold_revoked : ℕ
status_hold_revoked = 4

abbrev pub status_skipped : ℕ
status_skipped = 5

abbrev pub status_revoked : ℕ
status_revoked = 6

abbrev pub status_trackside_skip : ℕ
status_trackside_skip = 7

abbrev pub status_trackside_revoked : ℕ
status_trackside_revoked = 8

pub record Change : Type 0 where
  pub index : ℕ
  pub status : ℕ
  pub after : Progress

abbrev pub change : ℕ → ℕ → Progress → Change
change k s p = record { index = k; status = s; after = p }

-- the n points from k on pass, one after the other
unfoldable pub passings : ℕ → ℕ → List Change
passings zero k = []
passings (suc n) k = change k status_passed (progress (k + 1) false) ∷ passings n (k + 1)

abbrev pub when : {A : Type 0} → Bool → A → List A
when b a = if b then a ∷ [] else []

-- a stop that becomes reached, with the progress p. 02, Q-5: "When a held stop becomes reached, packet 62 with status 3 follows the one with status 1."
abbrev pub stopped_at : Route → Progress → List Change
stopped_at j p = change p.next status_stopped p ∷ when (point j p.next).held (change p.next status_held p)

-- "the 62s as they arise". "A departure writes status 2 and no 0." Of a report, from the progress before it
abbrev pub changes_of : Route → Progress → Reported → List Change
changes_of j p t =
    when t.departed (change p.next status_departed (progress t.from false))
    ++ (passings (t.progress.next - t.from) t.from
    ++ (if t.reached then stopped_at j t.progress else []))

unfoldable pub report_changes : Route → Report → Progress → List Change
report_changes j r p = changes_of j p (report_of j r p)
