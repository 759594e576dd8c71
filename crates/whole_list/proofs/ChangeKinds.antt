-- The kinds of a change of a point: which event it is of, and what status it then has.
use Rattle.std.specs.Prelude.{Option, Some, None}
use mathlib.Core.Path.{◌≡◌, refl, sym, ap, subst}
use mathlib.Core.Logic.{◌⊎◌, inl, inr}
use mathlib.Core.Bool.{Bool, true, false}
use mathlib.Core.List.{List, [], ◌∷◌, map, Memᴰ}
use Prim.Native.Nat.{ℕ, ◌≤◌, ◌<◌}
use native.Mathlib.Omega.{arith}
use Rattle.wire.specs.Lists.{All}
use Rattle.engine_value.specs.declared.Point.{Point}
use Rattle.engine_value.specs.declared.Position.{Position}
use Rattle.event.specs.Kinds.{Role, off, load, report, other, skip}
use Rattle.event.proofs.Known.{OfRole, known}
use Rattle.event.specs.Event.Event.{PositionReport}
use Rattle.position.specs.Position.{point, point_count}
use Rattle.position.specs.Skips.{stop_named}
use Rattle.timing.specs.Changes.{Change, status_hold_revoked, report_changes}
use Rattle.timing.proofs.Changes.{status_most}
use Rattle.conditions.specs.Conditions.{end_ahead}
use Rattle.hold.specs.Hold.{hold_ended}
use Rattle.trackside.specs.Trackside.{mark_of, marks, status_told}
use Rattle.trackside.proofs.Laws.{each_all}
use Rattle.trackside.proofs.Sentences.{sentences}
use Rattle.call_values.specs.Packets.{PointChange, point_change, hold_revoked}
use Rattle.call_values.specs.Call.{Call}
use Rattle.call.specs.Packets.{change_in}
use Rattle.whole_list.specs.Values.{History, event_of_call, role_of_call, route_by, report_at}
use Rattle.whole_list.specs.Rules.{standing_by}
use Rattle.whole_list.specs.Table.{held_stop_by, hold_change, trackside_by, load_changes, changes_by, skip_change}
use Rattle.whole_list.specs.Recorded.{In}
use Rattle.whole_list.proofs.Requests.{in-append}
use Rattle.whole_list.proofs.Fields.{progress_run}
use Rattle.whole_list.proofs.FieldsStep.{changes_is}

pub member : {A : Type 0} (x : A) (l : List A) → In x l → Memᴰ x l
member x [] i = absurd i
member x (y ∷ l) (inl e) = Memᴰ.head e
member x (y ∷ l) (inr i) = Memᴰ.tail (member x l i)

-- what holds of each holds of one of them
pub all_in : {A : Type 0} (P : A → Type 0) (x : A) (l : List A) → All P l → In x l → P x
all_in P x [] a i = absurd i
all_in P x (y ∷ l) a (inl e) = subst P (sym e) a.0
all_in P x (y ∷ l) a (inr i) = all_in P x l a.1 i

pub in_map : {A B : Type 0} (f : A → B) (y : B) (l : List A) → In y (map f l) → (x : A) × In x l × (y ≡ f x)
in_map f y [] i = absurd i
in_map f y (x ∷ l) (inl e) = (x, inl refl, e)
in_map f y (x ∷ l) (inr i) = let r = in_map f y l i in (r.0, inr r.1, r.2)

-- ---- a history that ends with a position report

module _ (c : Call) (h : History) (x : Position) (e : event_of_call c ≡ PositionReport x) where
  -- the changes by the rules are those of the steps
  pub by_steps : changes_by h c ≡ map (change_in (route_by h)) (report_changes (route_by h) (report_at (c ∷ h)) (progress_run h))
  unfolding changes_by
  by_steps = rw (e, changes_by) (changes_is c h x e)

-- ---- the kinds of a change, by the role of the event

module _ (h : History) (c : Call) where
  -- of a report it is one of the steps'
  pub record Reports (d : PointChange) : Type 0 where
    pub position : Position
    pub is_report_lem : event_of_call c ≡ PositionReport position
    pub change : Change
    pub one_of_them : In change (report_changes (route_by h) (report_at (c ∷ h)) (progress_run h))
    pub is : d ≡ change_in (route_by h) change

  -- of a load it is the hold that ends
  pub record Ends (d : PointChange) : Type 0 where
    pub is_load_lem : role_of_call c ≡ load
    pub stop : Point
    pub ended : hold_ended (held_stop_by h) (route_by (c ∷ h)) ≡ Some stop
    pub is : d ≡ point_change stop status_hold_revoked (end_ahead (route_by (c ∷ h)).load (standing_by (c ∷ h)))

  -- or a trackside skip that it gives or takes
  pub record Tells (d : PointChange) : Type 0 where
    pub is_load_lem : role_of_call c ≡ load
    pub index : ℕ
    pub one_of_them : index < point_count (route_by (c ∷ h))
    pub status : ℕ
    pub told : status_told (marks (route_by h)) (mark_of (point (route_by (c ∷ h)) index)) ≡ Some status
    pub is : d ≡ point_change (point (route_by (c ∷ h)) index) status (end_ahead (route_by (c ∷ h)).load (standing_by (c ∷ h)))

  pub data Kind (d : PointChange) : Type 0 where
    of_report : Reports d → Kind d
    of_hold : Ends d → Kind d
    of_trackside : Tells d → Kind d
    of_driver : (d.status ≡ 5) ⊎ (d.status ≡ 6) → Kind d

  skip_status : (f : Option ℕ) (on x : Bool) (d : PointChange) → In d (skip_change (route_by h) f on x) → (d.status ≡ 5) ⊎ (d.status ≡ 6)
  skip_status None on x d i = absurd i
  skip_status (Some k) true x d (inl e) = inl (ap (λ (y : PointChange). y.status) e)
  skip_status (Some k) true x d (inr i) = absurd i
  skip_status (Some k) false x d (inl e) = inr (ap (λ (y : PointChange). y.status) e)
  skip_status (Some k) false x d (inr i) = absurd i

  ends_in : (o : Option Point) (x : Bool) (d : PointChange) → In d (hold_revoked o x) → (p : Point) × (o ≡ Some p) × (d ≡ point_change p status_hold_revoked x)
  ends_in None x d i = absurd i
  ends_in (Some p) x d (inl e) = (p, refl, e)
  ends_in (Some p) x d (inr i) = absurd i

  tells_each : role_of_call c ≡ load → All Tells (trackside_by h c)
  tells_each q =
      each_all (route_by h) (route_by (c ∷ h)) Tells
      (λ k s. point_change (point (route_by (c ∷ h)) k) s (end_ahead (route_by (c ∷ h)).load (standing_by (c ∷ h))))
      (λ k s l e. record { is_load_lem = q; index = k; one_of_them = l; status = s; told = e; is = refl })

  pub which : (d : PointChange) → In d (changes_by h c) → Kind d
  unfolding changes_by
  which d i = go (role_of_call c) refl (known (event_of_call c)).role
    where
      none_there : {A : Type 0} → changes_by h c ≡ [] → A
      none_there z = absurd (subst (In d) z i)

      of_load : role_of_call c ≡ load → In d (hold_change h c) ⊎ In d (trackside_by h c) → Kind d
      of_load q (inl j) = let (p, o, e) = ends_in _ _ d j in of_hold (record { is_load_lem = q; stop = p; ended = o; is = e })
      of_load q (inr j) = of_trackside (all_in Tells d (trackside_by h c) (tells_each q) j)

      go : (r : Role) → role_of_call c ≡ r → OfRole r (event_of_call c) → Kind d
      go off q k = none_there (rw (q, changes_by))
      go load q k =
          let z : changes_by h c ≡ load_changes h c = rw (q, changes_by) in
          of_load q (in-append d (hold_change h c) (trackside_by h c) (subst (In d) z i))
      go report q k =
          let (a, m, e) = in_map (change_in (route_by h)) d (report_changes (route_by h) (report_at (c ∷ h)) (progress_run h)) (subst (In d) (by_steps c h k.0 k.1) i) in
          of_report (record { position = k.0; is_report_lem = k.1; change = a; one_of_them = m; is = e })
      go other q k = none_there (rw (q, changes_by))
      go (skip t on) q k =
          let z : changes_by h c ≡ skip_change (route_by h) (stop_named (route_by h) t) on (end_ahead (route_by h).load (standing_by h)) = rw (q, changes_by) in
          of_driver (skip_status (stop_named (route_by h) t) on _ d (subst (In d) z i))

  -- ---- their statuses

  pub report_early : (d : PointChange) → Reports d → d.status ≤ 3
  report_early d r =
      let s : d.status ≡ r.change.status = ap (λ (d : PointChange). d.status) r.is in
      omega (arith, s, status_most (route_by h) (report_at (c ∷ h)) (progress_run h) r.change (member r.change _ r.one_of_them))

  pub tells_late : (d : PointChange) → Tells d → 7 ≤ d.status
  tells_late d t = go (sentences.no_other _ _ _ t.told)
    where
      s : d.status ≡ t.status
      s = ap (λ (d : PointChange). d.status) t.is

      go : (t.status ≡ 7) ⊎ (t.status ≡ 8) → 7 ≤ d.status
      go (inl e) = omega (arith, s)
      go (inr e) = omega (arith, s)

-- a driver skip, or its revocation
pub driver_late : (n : ℕ) → (n ≡ 5) ⊎ (n ≡ 6) → (5 ≤ n) × (n ≤ 6)
driver_late n (inl e) = (omega arith, omega arith)
driver_late n (inr e) = (omega arith, omega arith)
