-- The effect of an event at the engine of a history, with the rows "book" to "skip" of the table, is by the rules.
use Rattle.std.specs.Prelude.{if◌then◌else◌, Option, Some, None, IfSome}
use mathlib.Core.Path.{◌≡◌, refl, sym, ◌∙◌, ap, subst}
use mathlib.Core.Bool.{Bool, true, false, ◌||◌}
use mathlib.Core.List.{List, [], ◌∷◌, ◌++◌}
use Prim.Native.Nat.{ℕ, ◌<◌}
use lib.ListN.{get_or}
use Rattle.wire.specs.Judged.{Judged, then_judge, row}
use Rattle.wire.specs.Judged.Judged.{refuse, accept}
use Rattle.engine_value.specs.Engine.{Value, train_of, inputs_of, Route, no_route, progress, fresh_position, with_control}
use Rattle.engine_value.specs.declared.Position.{Position}
use Rattle.engine_value.specs.declared.Progress.{Progress}
use Rattle.engine_value.specs.declared.Control.{Control}
use Rattle.event.specs.Event.{Event}
use Rattle.event.specs.Event.Event.{PowerOff, PositionReport, Load, Skip, Revoke}
use Rattle.event.specs.Kinds.{Carried, carried, Role, off, load, report, other, skip, role_of, newer, is_off}
use Rattle.event.proofs.Known.{OfRole, known}
use Rattle.route.specs.Route.{LoadValue, load_of}
use Rattle.position.specs.Position.{point_count, segment_named}
use Rattle.timing.specs.Distance as distance
use Rattle.position.specs.Standing.{standing, behind}
use Rattle.timing.specs.Load.{target}
use Rattle.timing.specs.Report.{reported, became_reached, report_of, run}
use Rattle.timing.specs.Changes.{Change, report_changes}
use Rattle.position.specs.Skips.{stop_named, stop_at}
use Rattle.timing.proofs.Steps.{run_snoc}
use Rattle.state_codes.specs.Codes.{code}
use Rattle.hold.specs.Hold.{held_stop_in, hold_ended}
use Rattle.trackside.specs.Trackside.{trackside_changes}
use Rattle.look_up.specs.LookUp.{look_up}
use Rattle.look_up.specs.declared.LookedUp.{LookedUp}
use Rattle.call_values.specs.Rows.{offset_beyond, same_bool}
use Rattle.call.specs.Effect.{JourneyAfter, kept, cleared, replaced, skip_set, Effect, train_with, inputs_with, reported_in, position_effect, loaded_in, load_effect, skipped_in, skip_effect, effect_as, effect, route_after, skips_after, stored}
use Rattle.call_values.specs.Call.{Call}
use Rattle.whole_list.specs.Values.{History, event_of_call, load_of_call, role_of_call, latest, number_by, position_by, length_by, route_loaded, route_by, skipped_by, report_at, reports_since, behind_at_load}
use Rattle.whole_list.specs.Rules.{standing_by, state_by, machine_by, request_by, newly_reached, became_reached_by}
use Rattle.whole_list.specs.Table.{head_of, head_of_call, skip_rows, kind_rows}
use Rattle.whole_list.proofs.Fields.{skip_by, skips_then, skips_of, progress_run, train_by, inputs_by, control_by, engine_of, stop-in, skips-at, stands_at}
use Rattle.whole_list.proofs.FieldsStep.{ended_run, skip_run, changes_run, report_is, became_is, target_is}

-- ---- what is by the role of an event

-- as before the event, and fresh at power off
abbrev pub until_off : {A : Type 0} → Role → A → A → A
until_off r fresh a = if is_off r then fresh else a

abbrev value_then : {A : Type 0} → (Carried → Option A) → A → Role → Carried → A → A
value_then f fresh q c a = until_off q fresh (newer (f c) a)

abbrev load_then : Judged LoadValue → Option LoadValue
load_then m = elim m [ refuse n ↦ None | accept l ↦ Some l ]

abbrev route_then : Role → Option LoadValue → Route → Route
route_then r o j = elim r [ off ↦ no_route | load ↦ route_loaded o j | report ↦ j | other ↦ j | skip t on ↦ j ]

abbrev skip_after : Option ℕ → Bool → JourneyAfter
skip_after None on = kept
skip_after (Some k) on = skip_set k on

abbrev journey_then : Role → Option LoadValue → Route → JourneyAfter
journey_then r o j = elim r [ off ↦ cleared | load ↦ replaced (route_loaded o j) | report ↦ kept | other ↦ kept | skip t on ↦ skip_after (stop_named j t) on ]

abbrev control_then : History → Role → Control
control_then h r = record { state = until_off r 0 (code (state_by h)); press = until_off r false (machine_by h).press; request = until_off r false (request_by h) }

-- what an event does before the rows of the states
abbrev pub effect_of : History → Call → Effect
effect_of h c = record {
  journey = journey_then (role_of_call c) (load_of_call c) (route_by h);
  train = train_by (c ∷ h);
  progress = progress_run (c ∷ h);
  inputs = inputs_by (c ∷ h);
  control = control_then h (role_of_call c);
  loaded = head_of_call c;
  hold_ended = ended_run h (role_of_call c) (route_by (c ∷ h));
  changes = changes_run h c;
  reached = became_reached_by (c ∷ h);
}

-- the same for any event: o is the load, t the number of points that it puts behind, r the report, with its changes
module _ (h : History) (o : Option LoadValue) (t : ℕ) (r : distance.Report) (changes : List Change) (became : Bool) where
  abbrev route_with : Role → Route
  route_with q = route_then q o (route_by h)

  abbrev progress_then : Role → Progress
  progress_then q =
      run (route_with q) (progress (elim q [ off ↦ 0 | load ↦ t | report ↦ behind_at_load h | other ↦ behind_at_load h | skip t on ↦ behind_at_load h ]) false)
      (elim q [ off ↦ [] | load ↦ [] | report ↦ reports_since h ++ (r ∷ []) | other ↦ reports_since h | skip t on ↦ reports_since h ])

  abbrev numbers_then : Role → Carried → Value → ℕ
  numbers_then q c v = value_then (λ c. c.number v) 0 q c (number_by v h)

  -- j and p are the journey and the progress after it
  abbrev changes_then : Role → Route → Progress → List Change
  changes_then q j p = elim q [
    | off ↦ []
    | load ↦ trackside_changes (route_by h) j p
    | report ↦ changes
    | other ↦ []
    | skip t on ↦ skip_run (stop_named (route_by h) t) on (progress_run h)
  ]

  abbrev effect_by : Role → Carried → Effect
  effect_by q c = record {
    journey = journey_then q o (route_by h);
    train = train_of (value_then (λ c. c.position) fresh_position q c (position_by h)) (numbers_then q c);
    progress = progress_then q;
    inputs = inputs_of (numbers_then q c);
    control = control_then h q;
    loaded = elim q [ off ↦ None | load ↦ head_of o | report ↦ None | other ↦ None | skip t on ↦ None ];
    hold_ended = ended_run h q (route_with q);
    changes = changes_then q (route_with q) (progress_then q);
    reached = elim q [ off ↦ false | load ↦ false | report ↦ became | other ↦ false | skip t on ↦ false ];
  }

-- the rows from "book" to "skip"; x is the position after the event
abbrev rows_with : History → Role → Position → Judged LoadValue → Judged (Unit {0})
rows_with h q x m = elim q [
  | off ↦ accept tt
  | load ↦ then_judge m (λ l. accept tt)
  | report ↦ row 13 (offset_beyond (segment_named (route_by h) x) x)
  | other ↦ accept tt
  | skip t on ↦ skip_rows h (stop_named (route_by h) t) on
]

abbrev rows_by : History → Role → Carried → Judged LoadValue → Judged (Unit {0})
rows_by h q c m = rows_with h q (value_then (λ c. c.position) fresh_position q c (position_by h)) m

abbrev start_in : History → Call → ℕ
start_in h c = target (route_by (c ∷ h)) (position_by (c ∷ h)) (length_by (c ∷ h))

abbrev changed_in : History → Call → List Change
changed_in h c = report_changes (route_by h) (report_at (c ∷ h)) (progress_run h)

-- it is the same
same_effect : (h : History) (c : Call) → effect_of h c ≡ effect_by h (load_of_call c) (start_in h c) (report_at (c ∷ h)) (changed_in h c) (newly_reached c h) (role_of_call c) (carried (event_of_call c))
unfolding latest route_by reports_since behind_at_load progress_run became_reached_by
same_effect h c = refl

same_rows : (h : History) (c : Call) → kind_rows h c ≡ rows_by h (role_of_call c) (carried (event_of_call c)) (load_of c.journey c.book)
unfolding kind_rows latest
same_rows h c = refl

-- ---- stored, it is the engine of the history with the event, but for the groups of control and traction

module _ (h : History) where
  route_after_lem : (q : Role) (o : Option LoadValue) → route_after (engine_of h) (journey_then q o (route_by h)) ≡ route_then q o (route_by h)
  route_after_lem off o = refl
  route_after_lem load o = refl
  route_after_lem report o = refl
  route_after_lem other o = refl
  route_after_lem (skip t on) o = go (stop_named (route_by h) t)
    where
      go : (f : Option ℕ) → route_after (engine_of h) (skip_after f on) ≡ route_by h
      go None = refl
      go (Some k) = refl

  skips_after_lem : (q : Role) (o : Option LoadValue) → skips_after (engine_of h) (journey_then q o (route_by h)) ≡ skips_then q (route_by h) (skips_of h)
  skips_after_lem off o = refl
  skips_after_lem load o = refl
  skips_after_lem report o = refl
  skips_after_lem other o = refl
  skips_after_lem (skip t on) o = go (stop_named (route_by h) t)
    where
      go : (f : Option ℕ) → skips_after (engine_of h) (skip_after f on) ≡ skip_by (skips_of h) f on
      go None = refl
      go (Some k) = refl

pub stored_is : (h : History) (c : Call) → stored (engine_of h) (effect_of h c) ≡ with_control (engine_of (c ∷ h)) (effect_of h c).control (engine_of h).traction (engine_of h).adhesion
unfolding route_by skips_of
stored_is h c =
    let j : route_after (engine_of h) (effect_of h c).journey ≡ route_by (c ∷ h) = route_after_lem h (role_of_call c) (load_of_call c) in
    λ i. record {
      points = (j i).points;
      skips = skips_after_lem h (role_of_call c) (load_of_call c) i;
      segments = (j i).segments;
      load = (j i).load;
      train = train_by (c ∷ h);
      progress = progress_run (c ∷ h);
      inputs = inputs_by (c ∷ h);
      control = (effect_of h c).control;
      traction = (engine_of h).traction;
      adhesion = (engine_of h).adhesion;
    }

-- ---- kind by kind

-- of a driver skip or its revocation, where the rows accept it
abbrev skip_effect_by : History → Carried → Option ℕ → Bool → Effect
skip_effect_by h c f on =
    record { journey = skip_after f on; train = train_with (engine_of h) c; progress = progress_run h; inputs = inputs_with (engine_of h) c; control = control_by h; loaded = None; hold_ended = None; changes = skip_run f on (progress_run h); reached = false }

by_skip : (h : History) (c : Carried) (f : Option ℕ) (on : Bool) → IfSome f (λ k. k < point_count (route_by h))
    → skip_effect (engine_of h) c on (stop_at (skips_of h) f) ≡ then_judge (skip_rows h f on) (λ u. accept (skip_effect_by h c f on))
unfolding skip_effect
by_skip h c None on l = refl
by_skip h c (Some k) on l = ap (λ b. then_judge (row 15 b) (λ u. accept (skipped_in (engine_of h) c k on))) same
  where
    same : (behind (standing (progress_run h) k) || same_bool (get_or (skips_of h) k false) on) ≡ (behind (standing_by h k) || same_bool (skipped_by h k) on)
    same = ap (λ s. behind s || same_bool (get_or (skips_of h) k false) on) (stands_at h k l) ∙ ap (λ b. behind (standing_by h k) || same_bool b on) (skips-at h k)

module _ (h : History) (t : ℕ) (r : distance.Report) (changes : List Change) (became : Bool) (journey book : List ℕ) where
  abbrev ByWith : Judged LoadValue → Role → Carried → Judged Effect
  ByWith m q c = then_judge (rows_by h q c m) (λ u. accept (effect_by h (load_then m) t r changes became q c))

  abbrev ByRole : Role → Carried → LookedUp → Type 0
  ByRole q c l = effect_as q (engine_of h) c l journey book ≡ ByWith (load_of journey book) q c

  abbrev By : Event → Type 0
  By e = ByRole (role_of e) (carried e) (look_up (engine_of h) e)

  by_report : (x : Position) → r ≡ distance.report_from (engine_of h) x
      → changes ≡ report_changes (route_by h) (distance.report_from (engine_of h) x) (progress_run h)
      → became ≡ became_reached (route_by h) (distance.report_from (engine_of h) x) (progress_run h) → By (PositionReport x)
  unfolding position_effect report_changes progress_run
  by_report x e f g =
      let c = carried (PositionReport x) in
      let start = progress (behind_at_load h) false in
      let p : reported (route_by h) (distance.report_from (engine_of h) x) (progress_run h) ≡ run (route_by h) start (reports_since h ++ (r ∷ [])) =
      ap (λ y. reported (route_by h) y (progress_run h)) (sym e) ∙ sym (run_snoc (route_by h) (reports_since h) r start) in
      let same : reported_in (engine_of h) c (report_of (route_by h) (distance.report_from (engine_of h) x) (progress_run h)) ≡ effect_by h (load_then (load_of journey book)) t r changes became report c =
      λ i. record { journey = kept; train = train_with (engine_of h) c; progress = p i; inputs = inputs_with (engine_of h) c; control = control_by h; loaded = None; hold_ended = None; changes = sym f i; reached = sym g i } in
      ap (λ y. then_judge (row 13 (offset_beyond (segment_named (route_by h) x) x)) (λ u. accept y)) same

  by_load : ((l : LoadValue) → load_of journey book ≡ accept l → t ≡ target l.route (position_by h) (length_by h)) → By Load
  unfolding load_effect run
  by_load e = go (load_of journey book) e
    where
      go : (m : Judged LoadValue) → ((l : LoadValue) → m ≡ accept l → t ≡ target l.route (position_by h) (length_by h))
          → then_judge m (λ l. accept (loaded_in (engine_of h) (carried Load) l)) ≡ ByWith m (role_of Load) (carried Load)
      go (refuse n) e = refl
      go (accept l) e =
          let p = e l refl in
          ap accept (λ i. record { journey = replaced l.route; train = train_by h; progress = progress (sym p i) false; inputs = inputs_by h; control = control_by h; loaded = Some l.head; hold_ended = hold_ended (held_stop_in (engine_of h)) l.route; changes = trackside_changes (route_by h) l.route (progress (sym p i) false); reached = false })

  -- an event that only brings a value
  brought : (c : Carried) (l : LookedUp) → ByRole other c l
  unfolding progress_run
  brought c l = refl

  by_off : By PowerOff
  unfolding progress_run run
  by_off = refl

  effect_by_lem : (e : Event)
      → ((x : Position) → e ≡ PositionReport x → By (PositionReport x))
      → (e ≡ Load → By Load) → By e
  unfolding progress_run
  effect_by_lem e f g = go (role_of e) refl (known e).role
    where
      go : (q : Role) → role_of e ≡ q → OfRole q e → By e
      go off z k = subst By (sym k) by_off
      go load z k = subst By (sym k) (g k)
      go report z k = subst By (sym k.1) (f k.0 k.1)
      go other z k = subst (λ q. ByRole q (carried e) (look_up (engine_of h) e)) (sym z) (brought (carried e) (look_up (engine_of h) e))
      go (skip t true) z k = subst By (sym k) (by_skip h (carried (Skip t)) (stop_named (route_by h) t) true (stop-in (route_by h) t))
      go (skip t false) z k = subst By (sym k) (by_skip h (carried (Revoke t)) (stop_named (route_by h) t) false (stop-in (route_by h) t))

pub effect_is : (h : History) (c : Call) → effect (engine_of h) c.journey c.book (event_of_call c) ≡ then_judge (kind_rows h c) (λ u. accept (effect_of h c))
unfolding load_of_call effect
effect_is h c =
    effect_by_lem h (start_in h c) (report_at (c ∷ h)) (changed_in h c) (newly_reached c h) c.journey c.book (event_of_call c)
    (λ x q. by_report h (start_in h c) (report_at (c ∷ h)) (changed_in h c) (newly_reached c h) c.journey c.book x (report_is c h x q) (ap (λ r. report_changes (route_by h) r (progress_run h)) (report_is c h x q)) (became_is c h x q))
    (λ q. by_load h (start_in h c) (report_at (c ∷ h)) (changed_in h c) (newly_reached c h) c.journey c.book (λ l p. target_is c h q l p))
    ∙ sym
    (ap (λ m. then_judge m (λ u. accept (effect_of h c))) (same_rows h c)
    ∙ ap (λ f. then_judge (rows_by h (role_of_call c) (carried (event_of_call c)) (load_of c.journey c.book)) (λ u. accept f)) (same_effect h c))
