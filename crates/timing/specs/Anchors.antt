-- Values that the definitions must give for the journey of position/Sample, worked out by hand from document 01, "Timing points", and from
-- document 02, Q-3 and Q-5: points at 40,000 (front, R 150), 90,000 (middle, passing), 110,000 (rear, skipped by trackside, held), 140,000 (middle,
-- R 100, held), and one that is not placed; the train is 301 long, and its half 150.
use Rattle.std.specs.Prelude.{ℕ, ◌≡◌, List, [], ◌∷◌, ◌++◌, map, replicate, Bool, true, false, pos, neg_ℤ, eqb}
use Rattle.engine_value.specs.Engine.{Route, undefined, progress, blank_point}
use Rattle.engine_value.specs.declared.Point.{Point}
use Rattle.engine_value.specs.declared.Progress.{Progress}
use Rattle.engine_value.specs.declared.Position.{Position}
use Rattle.position.specs.Position.{point}
use Rattle.position.specs.Sample.{journey_to, journey, at, engine_at}
use Rattle.position.specs.declared.Standing.{Standing}
use Rattle.position.specs.declared.Standing.TheVariants.{Unused, Targeted, Reached, Passed}
use Rattle.timing.specs.Distance.{Report, report_from, back, distance, unskipped, margin, exceeds, exceeds_reach, stops_at, beyond, at_stop, moving, leaves}
use Rattle.timing.specs.Load.{put_behind, target}
use Rattle.timing.specs.Report.{following, reported, became_reached, report_of, no_report, run}
use Rattle.timing.specs.Changes.{change, status_passed, status_stopped, status_departed, status_held, status_hold_revoked, status_skipped, status_revoked, status_trackside_skip, status_trackside_revoked, report_changes}
use Rattle.timing.specs.History.{report_number, first_of, settles}
use Rattle.timing.specs.Rule.{point_outcome, standing_by_reports}
use Rattle.timing.specs.Rule.PointOutcome.{passes, reaches, not_looked_at}
use Rattle.timing.specs.declared.Reported.{Reported}

-- ---- reports

-- one of that position, of train length 301, with no driver skip
abbrev reported_at : Position → Report
reported_at x = record { position = x; length = 301; skips = λ k. false }

-- by offset and speed: the front is at the offset, in the second segment 100,000 further; unknown
abbrev one : ℕ → ℕ → Report
one offset speed = reported_at (at 17 500 offset speed)

abbrev two : ℕ → ℕ → Report
two offset speed = reported_at (at 33 500 offset speed)

abbrev nowhere : ℕ → Report
nowhere speed = reported_at (at 17 500 undefined speed)

-- the same report of another train length, or where the driver skips the first point
abbrev longer : ℕ → Report → Report
longer n r = record { position = r.position; length = n; skips = r.skips }

abbrev skipping : Report → Report
skipping r = record { position = r.position; length = r.length; skips = λ k. eqb k 0 }

-- ---- two stops, at 40,000 with R 500 and at 40,100 with R 0: the second may have d > margin where the first has not

abbrev near : ℕ → ℕ → Point
near place reach = record {
  nidtp = place;
  place = place;
  reach = reach;
  nidc = 17;
  alignment = 0;
  stopping = 0;
  stop = true;
  trackside = false;
  held = false;
  placed = true;
}

abbrev crowded : Route
crowded = record { load = (journey_to 2).load; points = near 40000 500 ∷ near 40100 0 ∷ []; segments = journey.segments }

-- the most points that there are, of which the last is a stop at 40,000 with R 500
abbrev longest : Route
longest = record { load = (journey_to 64).load; points = replicate 63 blank_point ++ (near 40000 500 ∷ []); segments = journey.segments }

-- ---- progress: n points are passed, and the next is targeted or reached

abbrev targeted : ℕ → Progress
targeted n = progress n false

abbrev stopped : ℕ → Progress
stopped n = progress n true

-- what a report brings: the progress after it, the first point looked at, departed, reached
abbrev brings : Progress → ℕ → Bool → Bool → Reported
brings p from departed reached = record { progress = p; from = from; departed = departed; reached = reached }

-- where each point stands by the rule, from the number of points that the load put behind and the reports since
abbrev stand : ℕ → List Report → List Standing
stand start reports = map (standing_by_reports journey start reports) (0 ∷ 1 ∷ 2 ∷ 3 ∷ 4 ∷ [])

pub record Anchors : Type 0 where
  -- "train length × (0 front, half rounded down for middle, 1 rear)"
  pub behind_front : map (back 301) (0 ∷ 1 ∷ 2 ∷ []) ≡ 0 ∷ 150 ∷ 301 ∷ []
  -- "Let d, signed, be front position minus train length × (..) minus the point's place"
  pub d_front : map (λ f. distance f 301 (point journey 0)) (39850 ∷ 40000 ∷ 40151 ∷ []) ≡ neg_ℤ (pos 150) ∷ pos 0 ∷ pos 151 ∷ []
  pub d_middle : map (λ f. distance f 301 (point journey 1)) (0 ∷ 90149 ∷ 90151 ∷ []) ≡ neg_ℤ (pos 90150) ∷ neg_ℤ (pos 1) ∷ pos 1 ∷ []
  pub d_rear : map (λ f. distance f 301 (point journey 2)) (110000 ∷ 110301 ∷ 110302 ∷ []) ≡ neg_ℤ (pos 301) ∷ pos 0 ∷ pos 1 ∷ []
  -- "a stop that is not skipped (by trackside or driver)"
  pub stops_unskipped : map (λ k. unskipped (point journey k) false) (0 ∷ 1 ∷ 2 ∷ 3 ∷ []) ≡ true ∷ false ∷ false ∷ true ∷ []
  pub stops_skipped : map (λ k. unskipped (point journey k) true) (0 ∷ 1 ∷ 2 ∷ 3 ∷ []) ≡ false ∷ false ∷ false ∷ false ∷ []
  -- "Its margin is R for a stop that is not skipped (by trackside or driver), else 0."
  pub margins : map (λ k. margin (point journey k) false) (0 ∷ 1 ∷ 2 ∷ 3 ∷ []) ≡ 150 ∷ 0 ∷ 0 ∷ 100 ∷ []
  pub margins_skipped : map (λ k. margin (point journey k) true) (0 ∷ 1 ∷ 2 ∷ 3 ∷ []) ≡ 0 ∷ 0 ∷ 0 ∷ 0 ∷ []
  -- "d > margin"
  pub exceeds_R : map (λ f. exceeds f 301 (point journey 0) false) (0 ∷ 40150 ∷ 40151 ∷ []) ≡ false ∷ false ∷ true ∷ []
  pub exceeds_0 : map (λ f. exceeds f 301 (point journey 0) true) (40000 ∷ 40001 ∷ []) ≡ false ∷ true ∷ []
  -- 02, Q-3: "d greater than R": the point's own, not its margin: point 2 is skipped by trackside; R 200 from 110,301 on, R 100 from 140,150
  pub exceeds_reach_front : map (λ f. exceeds_reach f 301 (point journey 0)) (0 ∷ 40150 ∷ 40151 ∷ []) ≡ false ∷ false ∷ true ∷ []
  pub exceeds_reach_rear : map (λ f. exceeds_reach f 301 (point journey 2)) (110501 ∷ 110502 ∷ []) ≡ false ∷ true ∷ []
  pub exceeds_reach_middle : map (λ f. exceeds_reach f 301 (point journey 3)) (140250 ∷ 140251 ∷ []) ≡ false ∷ true ∷ []
  -- "speed 0 and d ≥ −R", and "an unskipped stop"
  pub stops_R : map (λ f. stops_at f 301 0 (point journey 0) false) (39849 ∷ 39850 ∷ 40150 ∷ []) ≡ false ∷ true ∷ true ∷ []
  pub stops_still : map (λ s. stops_at 40000 301 s (point journey 0) false) (0 ∷ 1 ∷ []) ≡ true ∷ false ∷ []
  pub stops_skipping : stops_at 40000 301 0 (point journey 0) true ≡ false
  pub stops_not : map (λ k. stops_at 200000 301 0 (point journey k) false) (1 ∷ 2 ∷ 3 ∷ []) ≡ false ∷ false ∷ true ∷ []
  -- the same at a report: "Skips and train length count as they stood at that report"
  pub beyond_R : map (λ o. beyond journey (one o 0) 0) (40150 ∷ 40151 ∷ []) ≡ false ∷ true ∷ []
  pub beyond_rear : map (λ o. beyond journey (two o 9) 2) (10301 ∷ 10302 ∷ []) ≡ false ∷ true ∷ []
  pub beyond_skipped : beyond journey (skipping (one 40001 9)) 0 ∷ beyond journey (skipping (two 40151 9)) 3 ∷ beyond journey (nowhere 9) 0 ∷ []
      ≡ true ∷ false ∷ false ∷ []
  pub at_stop_lem : at_stop journey (one 39850 0) 0 ∷ at_stop journey (one 39850 1) 0 ∷ at_stop journey (one 39849 0) 0 ∷ at_stop journey (two 40050 0) 3 ∷ []
      ≡ true ∷ false ∷ false ∷ true ∷ []
  pub at_stop_not : at_stop journey (skipping (one 40000 0)) 0 ∷ at_stop journey (nowhere 0) 0 ∷ [] ≡ false ∷ false ∷ []
  pub at_stop_length : map (λ r. at_stop journey r 3) (two 40050 0 ∷ skipping (two 40050 0) ∷ longer 303 (two 40050 0) ∷ []) ≡ true ∷ true ∷ false ∷ []
  -- "speed above 0"
  pub moves : map (λ s. moving (one 0 s)) (0 ∷ 1 ∷ []) ≡ false ∷ true ∷ []
  -- 02, Q-3: "a report with speed above 0, a known position and d greater than R"; no skip counts, the train length as it stands at that report does
  pub leaving : map (λ r. leaves journey r 0) (one 40150 1 ∷ one 40151 1 ∷ one 39849 1 ∷ two 0 65535 ∷ []) ≡ false ∷ true ∷ false ∷ true ∷ []
  pub leaving_not : map (λ r. leaves journey r 0) (one 40151 0 ∷ two 50000 0 ∷ nowhere 1 ∷ reported_at (at 33 503 5 1) ∷ [])
      ≡ false ∷ false ∷ false ∷ false ∷ []
  pub leaving_skipped : map (λ r. leaves journey r 0) (skipping (one 40001 1) ∷ skipping (one 40151 1) ∷ []) ≡ false ∷ true ∷ []
  pub leaving_length : map (λ r. leaves journey r 3) (two 40250 1 ∷ two 40251 1 ∷ longer 302 (two 40251 1) ∷ longer 299 (two 40250 1) ∷ [])
      ≡ false ∷ true ∷ false ∷ true ∷ []
  -- of an engine: its train length and its driver skips
  pub of_engine : let r = report_from (engine_at (at 17 500 0 0) 0 false) (at 33 500 7 8) in
      r.position.offset ∷ r.position.speed ∷ r.length ∷ [] ≡ 7 ∷ 8 ∷ 301 ∷ []
  pub skips_of_engine : map (report_from (engine_at (at 17 500 0 0) 0 false) (at 33 500 7 8)).skips (0 ∷ 3 ∷ 64 ∷ []) ≡ false ∷ true ∷ false ∷ []
  -- "the first point that is unplaced or has d ≤ margin is targeted, earlier ones passed"
  pub load_R : map (λ o. target journey (at 17 500 o 0) 301) (40000 ∷ 40150 ∷ 40151 ∷ []) ≡ 0 ∷ 0 ∷ 1 ∷ []
  pub load_first : map (λ o. target crowded (at 17 500 o 0) 301) (40500 ∷ 40501 ∷ []) ≡ 0 ∷ 2 ∷ []
  pub load_middle : map (λ o. target journey (at 17 500 o 9) 301) (90150 ∷ 90151 ∷ []) ≡ 1 ∷ 2 ∷ []
  pub load_rear : map (λ o. target journey (at 33 500 o 9) 301) (10301 ∷ 10302 ∷ 40250 ∷ 40251 ∷ []) ≡ 2 ∷ 3 ∷ 3 ∷ 4 ∷ []
  pub load_length : map (target journey (at 17 500 90100 0)) (0 ∷ 199 ∷ 200 ∷ []) ≡ 2 ∷ 2 ∷ 1 ∷ []
  -- "where there is none such, all are passed"
  pub load_all : target (journey_to 4) (at 33 500 50000 0) 301 ∷ target (journey_to 3) (at 33 500 50000 0) 301 ∷ [] ≡ 4 ∷ 3 ∷ []
  -- "with no known position the first is targeted": undefined, beyond the segment, in one that is not placed, in none
  pub load_unknown : map (λ x. target journey x 301) (at 33 500 undefined 0 ∷ at 33 500 50001 0 ∷ at 33 502 5 0 ∷ at 33 503 5 0 ∷ [])
      ≡ 0 ∷ 0 ∷ 0 ∷ 0 ∷ []
  pub load_behind : map (put_behind journey (two 50000 0)) (0 ∷ 1 ∷ 2 ∷ 3 ∷ 4 ∷ []) ≡ true ∷ true ∷ true ∷ true ∷ false ∷ []
  -- (b) "d > margin, it is passed and the next looked at", as many as there are; "the targeted point placed"
  pub passes_R : map (λ o. reported journey (one o 9) (targeted 0)) (40150 ∷ 40151 ∷ []) ≡ targeted 0 ∷ targeted 1 ∷ []
  pub passes_first : map (λ o. reported crowded (one o 9) (targeted 0)) (40500 ∷ 40501 ∷ []) ≡ targeted 0 ∷ targeted 2 ∷ []
  pub passes_many : map (λ o. reported journey (two o 9) (targeted 0)) (10301 ∷ 10302 ∷ 50000 ∷ []) ≡ targeted 2 ∷ targeted 3 ∷ targeted 4 ∷ []
  pub passes_all : map (λ n. reported (journey_to n) (two 50000 9) (targeted 1)) (4 ∷ 3 ∷ 1 ∷ []) ≡ targeted 4 ∷ targeted 3 ∷ targeted 1 ∷ []
  pub passes_last : reported (journey_to 3) (two 40150 0) (targeted 1) ≡ targeted 3
  pub passes_passing : reported journey (one 90150 0) (targeted 1) ∷ reported journey (one 90151 0) (targeted 1) ∷ [] ≡ targeted 1 ∷ targeted 2 ∷ []
  -- "While the position is known and the targeted point placed"
  pub unplaced_stays : reported journey (two 50000 0) (targeted 4) ∷ reported journey (nowhere 0) (targeted 1) ∷ [] ≡ targeted 4 ∷ targeted 1 ∷ []
  -- "else, an unskipped stop with speed 0 and d ≥ −R is reached"
  pub reaches_R : map (λ o. reported journey (one o 0) (targeted 0)) (39849 ∷ 39850 ∷ 40150 ∷ 40151 ∷ [])
      ≡ targeted 0 ∷ stopped 0 ∷ stopped 0 ∷ targeted 1 ∷ []
  pub reaches_not : map (λ r. reported journey r (targeted 0)) (one 40000 1 ∷ skipping (one 40000 0) ∷ []) ≡ targeted 0 ∷ targeted 0 ∷ []
  pub reaches_later : reported journey (two 40150 0) (targeted 0) ∷ reported journey (two 40049 0) (targeted 0) ∷ [] ≡ stopped 3 ∷ targeted 3 ∷ []
  -- (a) "a reached point ..: departed, it is passed, the next is targeted", where 02, Q-3, has it; then (b) in the same report
  pub departing : map (λ r. reported journey r (stopped 0)) (one 40150 1 ∷ one 40151 1 ∷ two 10302 1 ∷ []) ≡ stopped 0 ∷ targeted 1 ∷ targeted 3 ∷ []
  -- "Until then .. it stays reached, also behind −R or with an undefined position"; at speed 0 wherever the train is
  pub staying : map (λ r. reported journey r (stopped 0)) (one 39849 1 ∷ nowhere 1 ∷ one 39900 0 ∷ nowhere 0 ∷ two 50000 0 ∷ [])
      ≡ stopped 0 ∷ stopped 0 ∷ stopped 0 ∷ stopped 0 ∷ stopped 0 ∷ []
  -- and while it does, no later point passes, though the second has d > margin
  pub staying_first : map (λ o. reported crowded (one o 9) (stopped 0)) (40500 ∷ 40501 ∷ []) ≡ stopped 0 ∷ targeted 2 ∷ []
  pub staying_next : reported crowded (one 40100 0) (stopped 0) ≡ stopped 0
  -- the last point departs like any other, also with R 0, and the 64th
  pub departing_last : map (λ o. reported crowded (one o 1) (stopped 1)) (40100 ∷ 40101 ∷ []) ≡ stopped 1 ∷ targeted 2 ∷ []
  pub departing_64th : map (λ o. reported longest (one o 1) (stopped 63)) (40500 ∷ 40501 ∷ []) ≡ stopped 63 ∷ targeted 64 ∷ []
  pub rule_last : map (λ o. standing_by_reports crowded 1 (one 40100 0 ∷ one o 1 ∷ []) 1) (40100 ∷ 40101 ∷ []) ≡ Reached ∷ Passed ∷ []
  pub rule_64th : map (λ o. standing_by_reports longest 63 (one 40000 0 ∷ one o 1 ∷ []) 63) (40500 ∷ 40501 ∷ []) ≡ Reached ∷ Passed ∷ []
  -- "points: count (1, 1-64)"
  pub next_point : map following (0 ∷ 62 ∷ 63 ∷ []) ≡ 1 ∷ 63 ∷ 64 ∷ []
  -- "a point reached in this event"
  pub became : map (λ r. became_reached journey r (targeted 0)) (one 39850 0 ∷ one 39850 1 ∷ two 40150 0 ∷ []) ≡ true ∷ false ∷ true ∷ []
  pub became_stays : map (λ r. became_reached journey r (stopped 0)) (one 39850 0 ∷ one 40000 1 ∷ two 40150 0 ∷ []) ≡ false ∷ false ∷ false ∷ []
  pub report_departs : report_of journey (two 10302 1) (stopped 0) ≡ brings (targeted 3) 1 true false
  pub report_stays : map (λ r. report_of journey r (stopped 0)) (two 10302 0 ∷ one 40150 1 ∷ [])
      ≡ brings (stopped 0) 0 false false ∷ brings (stopped 0) 0 false false ∷ []
  pub report_passes : report_of journey (two 50000 9) (targeted 3) ≡ brings (targeted 4) 3 false false
  pub report_reaches : report_of journey (two 40150 0) (targeted 1) ≡ brings (stopped 3) 1 false true
  pub no_report_lem : no_report (targeted 4) ∷ no_report (stopped 0) ∷ [] ≡ brings (targeted 4) 4 false false ∷ brings (stopped 0) 0 false false ∷ []
  pub reports_in_turn : run journey (targeted 0) (two 10302 1 ∷ two 40150 0 ∷ []) ≡ stopped 3
  -- "status (0 passed, 1 stopped, 2 departed, 5 driver skip, 6 skip revoked)", 02, Q-5, 3 and 4, and Q-6, 7 and 8
  pub statuses : status_passed ∷ status_stopped ∷ status_departed ∷ status_held ∷ status_hold_revoked ∷ status_skipped ∷ status_revoked
      ∷ status_trackside_skip ∷ status_trackside_revoked ∷ [] ≡ 0 ∷ 1 ∷ 2 ∷ 3 ∷ 4 ∷ 5 ∷ 6 ∷ 7 ∷ 8 ∷ []
  pub change_of : change 3 1 (stopped 2) ≡ record { index = 3; status = 1; after = stopped 2 }
  -- "the 62s as they arise", with the progress "after that change". "A departure writes status 2 and no 0"
  pub changes_departing : report_changes journey (two 40150 1) (stopped 0)
      ≡ change 0 2 (targeted 1) ∷ change 1 0 (targeted 2) ∷ change 2 0 (targeted 3) ∷ []
  pub changes_reaching : report_changes journey (one 39850 0) (targeted 0) ∷ report_changes crowded (one 40000 0) (targeted 0) ∷ []
      ≡ (change 0 1 (stopped 0) ∷ []) ∷ (change 0 1 (stopped 0) ∷ []) ∷ []
  -- 02, Q-5: "When a held stop becomes reached, packet 62 with status 3 follows the one with status 1."
  pub changes_held : report_changes journey (two 40150 0) (targeted 1)
      ≡ change 1 0 (targeted 2) ∷ change 2 0 (targeted 3) ∷ change 3 1 (stopped 3) ∷ change 3 3 (stopped 3) ∷ []
  pub changes_none : report_changes journey (two 40150 0) (stopped 3) ∷ report_changes journey (two 40250 1) (stopped 3)
      ∷ report_changes journey (two 40049 0) (targeted 3) ∷ [] ≡ [] ∷ [] ∷ [] ∷ []
  -- moments: report t of a list, from 1
  pub numbered : map (λ t. (report_number (one 7 1 ∷ one 8 1 ∷ []) t).position.offset) (0 ∷ 1 ∷ 2 ∷ 3 ∷ []) ≡ 16777215 ∷ 7 ∷ 8 ∷ 16777215 ∷ []
  -- "that very report included (for the first point, from the load)"
  pub from_moment : map first_of (0 ∷ 1 ∷ 2 ∷ 3 ∷ []) ≡ 1 ∷ 1 ∷ 2 ∷ 3 ∷ []
  -- "with known position, the point placed, and either d > margin or, for an unskipped stop, speed 0 and d ≥ −R settles it"
  pub settling : map (λ r. settles journey r 0) (one 39849 0 ∷ one 39850 0 ∷ one 39850 1 ∷ one 40150 1 ∷ one 40151 1 ∷ [])
      ≡ false ∷ true ∷ false ∷ false ∷ true ∷ []
  pub settling_not : map (λ r. settles journey r 0) (nowhere 0 ∷ skipping (one 40000 0) ∷ []) ≡ false ∷ false ∷ []
  pub settling_placed : map (settles journey (two 50000 0)) (1 ∷ 3 ∷ 4 ∷ []) ≡ true ∷ true ∷ false ∷ []
  -- "Of the points with no passing moment the first is reached if so settled, else targeted; the rest are not used."
  pub rule_none : stand 0 [] ≡ Targeted ∷ Unused ∷ Unused ∷ Unused ∷ Unused ∷ []
  pub rule_unsettled : stand 0 (one 39849 0 ∷ one 40150 5 ∷ []) ≡ Targeted ∷ Unused ∷ Unused ∷ Unused ∷ Unused ∷ []
  pub rule_reached : stand 0 (one 39849 0 ∷ one 39850 0 ∷ []) ≡ Reached ∷ Unused ∷ Unused ∷ Unused ∷ Unused ∷ []
  pub rule_first : map (standing_by_reports crowded 0 (one 40500 9 ∷ [])) (0 ∷ 1 ∷ []) ≡ Targeted ∷ Unused ∷ []
  -- "departs, thus passes, at the first later position report", 02, Q-3, "with speed above 0, a known position and d greater than R": not before
  pub rule_stays : stand 0 (one 39850 0 ∷ two 50000 0 ∷ []) ≡ Reached ∷ Unused ∷ Unused ∷ Unused ∷ Unused ∷ []
  pub rule_creeps : stand 0 (one 39850 0 ∷ one 40150 9 ∷ one 39849 9 ∷ nowhere 9 ∷ two 50000 0 ∷ []) ≡ Reached ∷ Unused ∷ Unused ∷ Unused ∷ Unused ∷ []
  pub rule_departs : stand 0 (one 39850 0 ∷ nowhere 1 ∷ one 40151 1 ∷ []) ≡ Passed ∷ Targeted ∷ Unused ∷ Unused ∷ Unused ∷ []
  pub rule_departs_length : map (λ n. standing_by_reports journey 3 (two 40150 0 ∷ longer n (two 40251 1) ∷ []) 3) (301 ∷ 302 ∷ []) ≡ Passed ∷ Reached ∷ []
  -- "from the passing moment of the point before, that very report included": not from one before it, though 7002 had d > margin there
  pub rule_from : stand 0 (one 39850 0 ∷ two 50000 0 ∷ one 40151 1 ∷ []) ≡ Passed ∷ Targeted ∷ Unused ∷ Unused ∷ Unused ∷ []
  pub rule_restarts : stand 0 (one 39850 0 ∷ two 10302 1 ∷ []) ≡ Passed ∷ Passed ∷ Passed ∷ Targeted ∷ Unused ∷ []
  pub rule_passes_on : stand 0 (two 40150 0 ∷ []) ≡ Passed ∷ Passed ∷ Passed ∷ Reached ∷ Unused ∷ []
  pub rule_later : stand 0 (two 10302 1 ∷ one 40000 0 ∷ []) ≡ Passed ∷ Passed ∷ Passed ∷ Targeted ∷ Unused ∷ []
  -- "the point placed"
  pub rule_unplaced : stand 0 (two 50000 0 ∷ []) ≡ Passed ∷ Passed ∷ Passed ∷ Passed ∷ Targeted ∷ []
  -- "Skips and train length count as they stood at that report."
  pub rule_length : stand 0 (one 90100 1 ∷ longer 199 (one 90100 1) ∷ []) ≡ Passed ∷ Passed ∷ Targeted ∷ Unused ∷ Unused ∷ []
  pub rule_skip : stand 0 (skipping (one 40000 0) ∷ []) ∷ stand 0 (skipping (one 40001 0) ∷ []) ∷ []
      ≡ (Targeted ∷ Unused ∷ Unused ∷ Unused ∷ Unused ∷ []) ∷ (Passed ∷ Targeted ∷ Unused ∷ Unused ∷ Unused ∷ []) ∷ []
  -- "Where the load put it behind, that is the load."
  pub rule_load_1 : stand 1 [] ≡ Passed ∷ Targeted ∷ Unused ∷ Unused ∷ Unused ∷ []
  pub rule_load_2 : stand 2 [] ≡ Passed ∷ Passed ∷ Targeted ∷ Unused ∷ Unused ∷ []
  pub rule_load_all : stand 5 [] ≡ Passed ∷ Passed ∷ Passed ∷ Passed ∷ Passed ∷ []
  pub rule_load_then : stand 2 (one 39850 0 ∷ two 10302 1 ∷ []) ≡ Passed ∷ Passed ∷ Passed ∷ Targeted ∷ Unused ∷ []
  -- what came of a point, with the reports from its passing moment on
  pub outcome_departs : point_outcome journey 0 (one 39850 0 ∷ one 39900 0 ∷ one 39950 1 ∷ two 10302 1 ∷ []) 0
      ≡ passes (two 10302 1 ∷ [])
  pub outcomes : map (point_outcome journey 1 (one 40000 0 ∷ two 10302 1 ∷ two 40150 0 ∷ [])) (0 ∷ 1 ∷ 2 ∷ 3 ∷ 4 ∷ [])
      ≡ passes (one 40000 0 ∷ two 10302 1 ∷ two 40150 0 ∷ []) ∷ passes (two 10302 1 ∷ two 40150 0 ∷ []) ∷ passes (two 10302 1 ∷ two 40150 0 ∷ [])
      ∷ reaches ∷ not_looked_at ∷ []
