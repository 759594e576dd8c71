-- What the packets of one call tell: a position report the points that it changes, each by its index and status; any other event nothing.
use mathlib.Core.Path.{◌≡◌, refl, sym, ◌∙◌, ap, subst}
use mathlib.Core.Logic.{inl, inr}
use mathlib.Core.Bool.{Bool, true, false, cond, ◌||◌}
use mathlib.Core.List.{List, [], ◌∷◌, ◌++◌, map, map-append}
use Prim.Native.Nat.{ℕ, ◌≤◌}
use native.Mathlib.Omega.{arith}
use lib.Dec.{eqb}
use borrow.Author.Tests.{eqb-true}
use Rattle.std.proofs.lemmas.List.Elements.{filter-append}
use Rattle.wire.specs.Lists.{those}
use Rattle.engine_value.specs.Engine.{Route}
use Rattle.engine_value.specs.declared.Position.{Position}
use Rattle.event.specs.Event.Event.{PositionReport}
use Rattle.event.specs.Kinds.{Role, off, load, report, other, skip, role_of}
use Rattle.packets.specs.declared.TimingPoint.{TimingPoint}
use Rattle.timing.specs.Changes.{Change, report_changes}
use Rattle.call_values.specs.Call.{Call}
use Rattle.call_values.specs.Packets.{PointChange}
use Rattle.call.specs.Packets.{change_in}
use Rattle.whole_list.specs.Values.{History, event_of_call, role_of_call, position_by, route_by, report_at}
use Rattle.whole_list.specs.Table.{changes_by, packets_by, packets_refused_by}
use Rattle.whole_list.specs.Recorded.{timing_points, In}
use Rattle.whole_list.specs.WholeList.{bytes_of_each}
use Rattle.whole_list.proofs.Fields.{progress_run}
use Rattle.whole_list.proofs.FieldsStep.{changes_is}
use Rattle.whole_list.proofs.ChangeKinds.{Kind, of_report, of_hold, of_trackside, of_driver, which, tells_late, driver_late}
use Rattle.whole_list.proofs.Points.{points_append, point_values, call_points, refused_points}
use Rattle.told_once.specs.Recording.{Told, told_of, counts, told_in}
use Rattle.told_once.proofs.Reports.{told_changes, marked, all_count}

pub told-append : (a b : List (List ℕ)) → told_in (a ++ b) ≡ told_in a ++ told_in b
unfolding told_in
told-append a b =
    ap (λ (l : List TimingPoint). those counts (map told_of l)) (points_append a b)
    ∙ ap (those counts) (map-append told_of (timing_points a) (timing_points b))
    ∙ filter-append counts (map told_of (timing_points a)) (map told_of (timing_points b))

-- ---- the packets of an event

-- what a change of the rules tells in a packet 62
abbrev changed : PointChange → Told
changed c = record { name = record { nidc = c.point.nidc; nidtp = c.point.nidtp }; status = c.status }

changed-in : (j : Route) (changes : List Change) → map changed (map (change_in j) changes) ≡ map (marked j) changes
changed-in j [] = refl
changed-in j (c ∷ changes) = ap (λ (m : List Told). marked j c ∷ m) (changed-in j changes)

of_changes : (j : Route) (x : Position) (l : List PointChange) → map told_of (map (point_values j x) l) ≡ map changed l
of_changes j x [] = refl
of_changes j x (c ∷ l) = ap (λ (m : List Told). changed c ∷ m) (of_changes j x l)

-- what a refused call writes tells nothing
pub refused-tells : (h : History) (c : Call) (n : ℕ) → told_in (bytes_of_each (packets_refused_by h c n)) ≡ []
unfolding told_in
refused-tells h c n = ap (λ (l : List TimingPoint). those counts (map told_of l)) (refused_points h c n)

-- the packets 62 that a call writes, by name and status of the points that it changes
call-tells : (h : History) (c : Call) → told_in (bytes_of_each (packets_by h c)) ≡ those counts (map changed (changes_by h c))
unfolding told_in
call-tells h c =
    ap (λ (l : List TimingPoint). those counts (map told_of l)) (call_points h c) ∙ ap (those counts) (of_changes (route_by (c ∷ h)) (position_by (c ∷ h)) (changes_by h c))

-- ---- by kind

-- a position report: what its steps change
pub report-tells : (h : History) (c : Call) (x : Position) → event_of_call c ≡ PositionReport x
    → told_in (bytes_of_each (packets_by h c)) ≡ map (marked (route_by h)) (told_changes (route_by h) (report_at (c ∷ h)) (progress_run h))
unfolding changes_by
report-tells h c x e =
    let j = route_by h in
    let r = report_at (c ∷ h) in
    let p = progress_run h in
    let by-steps : changes_by h c ≡ map (change_in j) (report_changes j r p) = rw (e, changes_by) (changes_is c h x e) in
    call-tells h c
    ∙ ap (λ l. those counts (map changed l)) by-steps
    ∙ ap (those counts) (changed-in j (report_changes j r p))
    ∙ all_count j r p

abbrev pub Quiet : Role → Type 0
Quiet off = Unit {0}
Quiet load = Unit {0}
Quiet report = ⊥
Quiet other = Unit {0}
Quiet (skip t on) = Unit {0}

-- any other event: a driver skip writes 5 or 6, a load a 4, 7 and 8
pub quiet : (h : History) (c : Call) (r : Role) → role_of_call c ≡ r → Quiet r → told_in (bytes_of_each (packets_by h c)) ≡ []
unfolding changes_by
quiet h c r q n = call-tells h c ∙ none_count (changes_by h c) (λ d i. late d (which h c d i))
  where
    no_report : (x : Position) → event_of_call c ≡ PositionReport x → ⊥
    no_report x e = subst Quiet (sym q ∙ ap role_of e) n

    late : (d : PointChange) → Kind h c d → 4 ≤ d.status
    late d (of_report k) = absurd (no_report k.position k.is_report_lem)
    late d (of_hold e) = let four : d.status ≡ 4 = ap (λ (d : PointChange). d.status) e.is in omega arith
    late d (of_trackside t) = omega (arith, tells_late h c d t)
    late d (of_driver b) = omega (arith, driver_late d.status b)

    counts_not : (d : PointChange) → 4 ≤ d.status → counts (changed d) ≡ false
    counts_not d l = go (eqb d.status 0) refl (eqb d.status 2) refl (eqb d.status 1) refl
      where
        go : (a : Bool) → eqb d.status 0 ≡ a → (b : Bool) → eqb d.status 2 ≡ b → (s : Bool) → eqb d.status 1 ≡ s → ((a || b) || s) ≡ false
        go true p b q s r = absurd (omega (arith, eqb-true d.status 0 p))
        go false p true q s r = absurd (omega (arith, eqb-true d.status 2 q))
        go false p false q true r = absurd (omega (arith, eqb-true d.status 1 r))
        go false p false q false r = refl

    none_count : (l : List PointChange) → ((d : PointChange) → In d l → 4 ≤ d.status) → those counts (map changed l) ≡ []
    none_count [] h = refl
    none_count (d ∷ l) h =
        ap (λ b. cond b (changed d ∷ those counts (map changed l)) (those counts (map changed l))) (counts_not d (h d (inl refl)))
        ∙ none_count l (λ x i. h x (inr i))
