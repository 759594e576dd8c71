-- What an event does to the engine of a history, and the table's rows "book" to "skip", are by the rules.
use Rattle.std.specs.Prelude.{Option, Some, None, if◌then◌else◌}
use mathlib.Core.Path.{◌≡◌, refl, sym, ◌∙◌, ap, ap₂}
use mathlib.Core.Bool.{Bool, true, false}
use mathlib.Core.List.{List, [], ◌∷◌, ◌++◌, map}
use Prim.Native.Nat.{ℕ, ◌<◌}
use native.Mathlib.Omega.{arith}
use lib.Dec.{leb}
use Rattle.wire.specs.Judged.Judged.{accept}
use Rattle.engine_value.specs.Engine.{Route, progress}
use Rattle.engine_value.specs.declared.Point.{Point}
use Rattle.engine_value.specs.declared.Position.{Position}
use Rattle.engine_value.specs.declared.Progress.{Progress}
use Rattle.event.specs.Event.{Event}
use Rattle.event.specs.Event.Event.{PositionReport, Load}
use Rattle.event.specs.Kinds.{Role, off, load, report, other, skip, role_of}
use Rattle.event.proofs.Known.{OfRole, known}
use Rattle.route.specs.Route.{LoadValue, load_of}
use Rattle.position.specs.Position.{point, point_count}
use Rattle.timing.specs.Distance as distance
use Rattle.position.specs.Standing.{standing}
use Rattle.position.specs.Skips.{stop_named}
use Rattle.timing.specs.Load.{target}
use Rattle.timing.specs.Report.{reported, became_reached, run}
use Rattle.timing.specs.Changes.{Change, change, status_skipped, status_revoked, report_changes}
use Rattle.timing.proofs.Steps.{run_snoc}
use Rattle.timing.proofs.Rule.{became_reached_lem}
use Rattle.conditions.specs.Conditions.{end_ahead}
use Rattle.hold.specs.Hold.{held_stop, hold_ended}
use Rattle.hold.proofs.Laws.{held_same}
use Rattle.trackside.specs.Trackside.{each_told, trackside_changes}
use Rattle.trackside.proofs.Laws.{each_map}
use Rattle.call_values.specs.Packets.{point_change, hold_revoked}
use Rattle.call.specs.Packets.{change_in, changes_in}
use Rattle.call_values.specs.Call.{Call}
use Rattle.whole_list.specs.Values.{History, event_of_call, load_of_call, role_of_call, latest, position_by, length_by, route_by, skipped_by, report_at, reports_since, behind_at_load}
use Rattle.whole_list.specs.Rules.{standing_by, newly_reached}
use Rattle.whole_list.specs.Table.{standing_then, changes_from, skip_change, held_stop_by, hold_change, trackside_by, load_changes, changes_by}
use Rattle.whole_list.proofs.Decoded.{route-in}
use Rattle.whole_list.proofs.FieldsReached.{same_bool_lem, newly}
use Rattle.whole_list.proofs.Fields.{progress_run, engine_of, skips-at, in-range, stands_at, end_ext}
use Rattle.whole_list.proofs.TableChanges.{changes_ext, changes_same}

-- ---- what moves no point

pub run_kept : (h : History) (c : Call) → route_by (c ∷ h) ≡ route_by h → behind_at_load (c ∷ h) ≡ behind_at_load h → reports_since (c ∷ h) ≡ reports_since h
    → progress_run (c ∷ h) ≡ progress_run h
unfolding progress_run
run_kept h c a b d =
    ap (λ j. run j (progress (behind_at_load (c ∷ h)) false) (reports_since (c ∷ h))) a
    ∙ ap (λ n. run (route_by h) (progress n false) (reports_since (c ∷ h))) b
    ∙ ap (λ l. run (route_by h) (progress (behind_at_load h) false) l) d

-- ---- a position report

role_is : (c : Call) (e : Event) → event_of_call c ≡ e → role_of_call c ≡ role_of e
role_is c e q = ap role_of q

module _ (c : Call) (h : History) (x : Position) (q : event_of_call c ≡ PositionReport x) where
  pub route_kept : route_by (c ∷ h) ≡ route_by h
  unfolding route_by
  route_kept = rw (role_is c (PositionReport x) q, route_by)

  start_kept : behind_at_load (c ∷ h) ≡ behind_at_load h
  unfolding behind_at_load
  start_kept = rw (role_is c (PositionReport x) q, behind_at_load)

  reports_more : reports_since (c ∷ h) ≡ reports_since h ++ (report_at (c ∷ h) ∷ [])
  unfolding reports_since
  reports_more = rw (role_is c (PositionReport x) q, reports_since)

  skipped_kept : (k : ℕ) → skipped_by (c ∷ h) k ≡ skipped_by h k
  unfolding skipped_by
  skipped_kept k = rw (role_is c (PositionReport x) q, skipped_by)

  pub position_new : position_by (c ∷ h) ≡ x
  unfolding latest
  position_new = rw (q, latest)

  length_kept : length_by (c ∷ h) ≡ length_by h
  unfolding latest
  length_kept = rw (q, latest)

  pub report_is : report_at (c ∷ h) ≡ distance.report_from (engine_of h) x
  report_is = λ i. record { position = position_new i; length = length_kept i; skips = λ k. (skipped_kept k ∙ sym (skips-at h k)) i }

  pub progress_new : progress_run (c ∷ h) ≡ reported (route_by h) (report_at (c ∷ h)) (progress_run h)
  unfolding progress_run
  progress_new =
      ap (λ j. run j (progress (behind_at_load (c ∷ h)) false) (reports_since (c ∷ h))) route_kept
      ∙ ap (λ n. run (route_by h) (progress n false) (reports_since (c ∷ h))) start_kept
      ∙ ap (λ l. run (route_by h) (progress (behind_at_load h) false) l) reports_more
      ∙ run_snoc (route_by h) (reports_since h) (report_at (c ∷ h)) (progress (behind_at_load h) false)

  after_is : (k : ℕ) → k < point_count (route_by h) → standing (reported (route_by h) (report_at (c ∷ h)) (progress_run h)) k ≡ standing_by (c ∷ h) k
  after_is k l = ap (λ p. standing p k) (sym progress_new) ∙ stands_at (c ∷ h) k (rw route_kept l)

  then_is : (i k : ℕ) → k < point_count (route_by h)
      → standing_then (standing_by h) (standing_by (c ∷ h)) i k ≡ standing_then (standing (progress_run h)) (standing (reported (route_by h) (report_at (c ∷ h)) (progress_run h))) i k
  then_is i k l = go (leb k i)
    where
      go : (b : Bool) → (if b then standing_by (c ∷ h) k else standing_by h k)
          ≡ (if b then standing (reported (route_by h) (report_at (c ∷ h)) (progress_run h)) k else standing (progress_run h) k)
      go true = sym (after_is k l)
      go false = sym (stands_at h k l)

  pub changes_is : changes_from (route_by h) (standing_by h) (standing_by (c ∷ h)) (point_count (route_by h)) 0
      ≡ map (change_in (route_by h)) (report_changes (route_by h) (report_at (c ∷ h)) (progress_run h))
  changes_is =
      let before = standing (progress_run h) in
      let after = standing (reported (route_by h) (report_at (c ∷ h)) (progress_run h)) in
      changes_ext (route_by h) (standing_by h) (standing_by (c ∷ h)) before after (point_count (route_by h)) 0
      (λ i l m. sym (stands_at h i (omega arith))) (λ i l m. sym (after_is i (omega arith)))
      (λ i. end_ext (route_by h) (standing_then (standing_by h) (standing_by (c ∷ h)) i) (standing_then before after i) (route-in h) (then_is i))
      ∙ changes_same (route_by h) (report_at (c ∷ h)) (progress_run h) (in-range h)

  pub became_is : newly_reached c h ≡ became_reached (route_by h) (distance.report_from (engine_of h) x) (progress_run h)
  became_is = same_bool_lem _ _ there back ∙ ap (λ r. became_reached (route_by h) r (progress_run h)) report_is
    where
      there : newly_reached c h ≡ true → became_reached (route_by h) (report_at (c ∷ h)) (progress_run h) ≡ true
      there e =
          let (k, l, a, b) = (newly (point_count (route_by h)) (standing_by (c ∷ h)) (standing_by h)).0 e in
          (became_reached_lem (route_by h) (report_at (c ∷ h)) (progress_run h) (in-range h)).1 (k, l, (after_is k l ∙ a, λ z. b (sym (stands_at h k l) ∙ z)))

      back : became_reached (route_by h) (report_at (c ∷ h)) (progress_run h) ≡ true → newly_reached c h ≡ true
      back e =
          let (k, l, (a, b)) = (became_reached_lem (route_by h) (report_at (c ∷ h)) (progress_run h) (in-range h)).0 e in
          (newly (point_count (route_by h)) (standing_by (c ∷ h)) (standing_by h)).1 (k, l, sym (after_is k l) ∙ a, λ z. b (stands_at h k l ∙ z))

-- ---- a load

module _ (c : Call) (h : History) (q : event_of_call c ≡ Load) (l : LoadValue) (p : load_of c.journey c.book ≡ accept l) where
  route_new : route_by (c ∷ h) ≡ l.route
  unfolding route_by load_of_call
  route_new = rw (role_is c Load q, p, route_by, load_of_call)

  pub target_is : target (route_by (c ∷ h)) (position_by (c ∷ h)) (length_by (c ∷ h)) ≡ target l.route (position_by h) (length_by h)
  unfolding latest
  target_is =
      let x : position_by (c ∷ h) ≡ position_by h = rw (q, latest) in
      let n : length_by (c ∷ h) ≡ length_by h = rw (q, latest) in
      ap (λ j. target j (position_by (c ∷ h)) (length_by (c ∷ h))) route_new
      ∙ ap (λ y. target l.route y (length_by (c ∷ h))) x
      ∙ ap (λ m. target l.route (position_by h) m) n

-- ---- the points that an event changes

-- the stop whose hold ends with the journey j
abbrev pub ended_run : History → Role → Route → Option Point
ended_run h r j =
    elim r [ off ↦ None | load ↦ hold_ended (held_stop (route_by h) (standing (progress_run h))) j | report ↦ None | other ↦ None | skip t on ↦ None ]

abbrev pub skip_run : Option ℕ → Bool → Progress → List Change
skip_run None on p = []
skip_run (Some k) on p = change k (if on then status_skipped else status_revoked) p ∷ []

-- by the steps
abbrev pub changes_run : History → Call → List Change
changes_run h c = elim (role_of_call c) [
  | off ↦ []
  | load ↦ trackside_changes (route_by h) (route_by (c ∷ h)) (progress_run (c ∷ h))
  | report ↦ report_changes (route_by h) (report_at (c ∷ h)) (progress_run h)
  | other ↦ []
  | skip t on ↦ skip_run (stop_named (route_by h) t) on (progress_run h)
]

-- the held stop by the steps is that of the rules
pub held_is_by : (h : History) → held_stop (route_by h) (standing (progress_run h)) ≡ held_stop_by h
held_is_by h = held_same (route_by h) (standing (progress_run h)) (standing_by h) (stands_at h)

-- they are those of the rules
pub changes_by_lem : (h : History) (c : Call) → changes_in (engine_of (c ∷ h)) (ended_run h (role_of_call c) (route_by (c ∷ h))) (changes_run h c) ≡ changes_by h c
unfolding changes_by route_by
changes_by_lem h c = go (role_of_call c) refl (known (event_of_call c)).role
  where
    skipped : (f : Option ℕ) (on : Bool) → map (change_in (route_by h)) (skip_run f on (progress_run h)) ≡ skip_change (route_by h) f on (end_ahead (route_by h).load (standing_by h))
    skipped None on = refl
    skipped (Some k) on =
        ap (λ b. point_change (point (route_by h) k) (if on then status_skipped else status_revoked) b ∷ [])
        (end_ext (route_by h) (standing (progress_run h)) (standing_by h) (route-in h) (stands_at h))

    new : Route
    new = route_by (c ∷ h)

    ahead : end_ahead new.load (standing (progress_run (c ∷ h))) ≡ end_ahead new.load (standing_by (c ∷ h))
    ahead = end_ext new (standing (progress_run (c ∷ h))) (standing_by (c ∷ h)) (route-in (c ∷ h)) (stands_at (c ∷ h))

    ended : hold_revoked (hold_ended (held_stop (route_by h) (standing (progress_run h))) new) (end_ahead new.load (standing (progress_run (c ∷ h)))) ≡ hold_change h c
    ended =
        ap (λ o. hold_revoked (hold_ended o new) (end_ahead new.load (standing (progress_run (c ∷ h))))) (held_is_by h)
        ∙ ap (hold_revoked (hold_ended (held_stop_by h) new)) ahead

    told : map (change_in new) (trackside_changes (route_by h) new (progress_run (c ∷ h))) ≡ trackside_by h c
    told =
        each_map (route_by h) new (change_in new) (λ k s. change k s (progress_run (c ∷ h)))
        ∙ ap (λ b. each_told (route_by h) new (λ k s. point_change (point new k) s b)) ahead

    loaded : changes_in (engine_of (c ∷ h)) (hold_ended (held_stop (route_by h) (standing (progress_run h))) new) (trackside_changes (route_by h) new (progress_run (c ∷ h))) ≡ load_changes h c
    loaded = ap₂ (λ x y. x ++ y) ended told

    go : (q : Role) → role_of_call c ≡ q → OfRole q (event_of_call c) → changes_in (engine_of (c ∷ h)) (ended_run h (role_of_call c) (route_by (c ∷ h))) (changes_run h c) ≡ changes_by h c
    go off z k = rw (z, changes_run, changes_by)
    go load z k = rw (z, changes_run, changes_by) loaded
    go report z k = rw (z, changes_run, changes_by, route_by) (sym (changes_is c h k.0 k.1))
    go other z k = rw (z, changes_run, changes_by)
    go (skip t on) z k = rw (z, changes_run, changes_by, route_by) (skipped (stop_named (route_by h) t) on)
