-- The history of accepted calls as a run of the states: engagement and AD request by their sentences.
use Rattle.std.specs.Prelude.{if◌then◌else◌, Option, Some, None, is_some}
use mathlib.Core.Path.{◌≡◌, refl, sym, ◌∙◌, ap}
use mathlib.Core.Logic.{◌↔◌}
use mathlib.Core.Bool.{Bool, true, false, ◌&&◌, false≢true}
use mathlib.Core.List.{[], ◌∷◌}
use Prim.Native.Nat.{ℕ, zero, suc, ◌-◌, ◌<◌}
use native.Mathlib.Omega.{arith}
use lib.ListN.{length, drop}
use lib.Seq.{drop-cons, drop-length}
use Rattle.wire.specs.Judged.{Judged, then_judge, row}
use Rattle.wire.specs.Judged.Judged.{refuse, accept}
use Rattle.engine_value.specs.Engine.{mode}
use Rattle.event.specs.Events.{event_of}
use Rattle.event.specs.Kinds.{kind_of, carried, Role, off, load, report, other, skip, role_of, newer, is_off}
use Rattle.event.specs.Event.{Event}
use Rattle.event.specs.Event.Event.{PowerOff, Press, Mode, PositionReport}
use Rattle.event.proofs.Known.{OfRole, OfMode, known, mode_of}
use Rattle.engine_value.specs.declared.Point.{Point}
use Rattle.engine_value.specs.declared.Position.{Position}
use Rattle.position.specs.Position.{point_count}
use Rattle.position.specs.declared.Standing.{Standing}
use Rattle.position.specs.declared.Standing.TheVariants.{Reached}
use Rattle.timing.proofs.Moments.{as_function}
use Rattle.state_codes.specs.Codes.{mode_at}
use Rattle.conditions.specs.Conditions.{route_conditions, nine, all_of, O}
use Rattle.state_codes.proofs.CodeLaws.{mode_AD}
use Rattle.state_codes.specs.Numbers.{power_rows, state_row}
use Rattle.hold.specs.Hold.{hold_row}
use Rattle.hold.proofs.Laws.{held_is, held_some}
use Rattle.states.specs.States.{machine_after, given}
use Rattle.states.specs.declared.Values.{Values}
use Rattle.states.specs.declared.Machine.{Machine}
use Rattle.engagement.proofs.Run as run
use Rattle.state_codes.specs.declared.State.TheVariants.{EG}
use Rattle.state_codes.specs.declared.EtcsMode.TheVariants.{Other, AD}
use Rattle.engagement.proofs.Requests.{run_holds}
use Rattle.call_values.specs.Call.{Call}
use Rattle.whole_list.specs.Values.{History, event_of_call, latest, mode_by, reports_by, position_by, route_by}
use Rattle.whole_list.specs.Rules.{StandsBy, standing_by, values_by, BecameReached, JustReached, newly_reached, became_reached_by, AtHeldStop, machine_by, state_by, request_by, no_call, call_at, upto, Moments, Engaged}
use Rattle.whole_list.specs.Table.{held_stop_by, table_by}
use Rattle.whole_list.specs.WholeList.{Requested}
use Rattle.whole_list.proofs.FieldsReached.{newly}
use Rattle.whole_list.proofs.TableRows.{event-is}

pub then_accepts : {A B : Type 0} (m : Judged A) (f : A → Judged B) (b : B) → then_judge m f ≡ accept b → (a : A) × (m ≡ accept a) × (f a ≡ accept b)
then_accepts (refuse n) f b e = cc
then_accepts (accept a) f b e = (a, refl, e)

-- ---- histories of accepted calls: no row of the table refuses a call after those before it

abbrev pub Good : History → Type 0
Good [] = Unit {0}
Good (c ∷ h) = (table_by h c ≡ accept tt) × Good h

pub power_accepts : (h : History) (c : Call) → table_by h c ≡ accept tt → power_rows (state_by h) (kind_of (event_of_call c)) ≡ accept tt
unfolding table_by
power_accepts h c e =
    let (event, e₁, f₁) = then_accepts (event_of c.event) _ tt e in
    let (u, e₂, f₂) = then_accepts (power_rows (state_by h) (kind_of event)) _ tt f₁ in
    rw (event-is c event e₁) e₂

state_accepts : (h : History) (c : Call) → table_by h c ≡ accept tt → state_row (state_by h) (kind_of (event_of_call c)) ≡ accept tt
unfolding table_by
state_accepts h c e =
    let (event, e₁, f₁) = then_accepts (event_of c.event) _ tt e in
    let (u, e₂, f₂) = then_accepts (power_rows (state_by h) (kind_of event)) _ tt f₁ in
    let (v, e₃, f₃) = then_accepts (state_row (state_by h) (kind_of event)) _ tt f₂ in
    rw (event-is c event e₁) e₃

held_accepts : (h : History) (c : Call) → table_by h c ≡ accept tt → hold_row (held_stop_by h) (kind_of (event_of_call c)) ≡ accept tt
unfolding table_by
held_accepts h c e =
    let (event, e₁, f₁) = then_accepts (event_of c.event) _ tt e in
    let (u, e₂, f₂) = then_accepts (power_rows (state_by h) (kind_of event)) _ tt f₁ in
    let (v, e₃, f₃) = then_accepts (state_row (state_by h) (kind_of event)) _ tt f₂ in
    let (w, e₄, f₄) = then_accepts (hold_row (held_stop_by h) (kind_of event)) _ tt f₃ in
    rw (event-is c event e₁) e₄

-- ---- "became reached" as a test and as the rule says it

pub stands_exactly : (h : History) (k : ℕ) (s : Standing) → (standing_by h k ≡ s) ↔ StandsBy h k s
unfolding standing_by
stands_exactly h k s = as_function _ _ _ k s

reached-at : (e : Event) (b : Bool) → (elim (role_of e) [ off ↦ false | load ↦ false | report ↦ b | other ↦ false | skip t on ↦ false ]) ≡ true
    → (x : Position) × (e ≡ PositionReport x) × (b ≡ true)
reached-at e b z = go (role_of e) (known e).role z
  where
    go : (r : Role) → OfRole r e → (elim r [ off ↦ false | load ↦ false | report ↦ b | other ↦ false | skip t on ↦ false ]) ≡ true → (x : Position) × (e ≡ PositionReport x) × (b ≡ true)
    go off k z = absurd (false≢true z)
    go load k z = absurd (false≢true z)
    go report k z = (k.0, k.1, z)
    go other k z = absurd (false≢true z)
    go (skip t on) k z = absurd (false≢true z)

just_so : (c : Call) (h : History) → became_reached_by (c ∷ h) ≡ true → BecameReached c h
unfolding became_reached_by
just_so c h e =
    let (x, q, b) = reached-at (event_of_call c) (newly_reached c h) e in
    let (k, l, a, n) = (newly (point_count (route_by h)) (standing_by (c ∷ h)) (standing_by h)).0 b in
    record { position = x; is_report_lem = q; point = k; one_of_them = l; after = (stands_exactly (c ∷ h) k Reached).0 a; before = λ s. n ((stands_exactly h k Reached).1 s) }

so_just : (c : Call) (h : History) → BecameReached c h → became_reached_by (c ∷ h) ≡ true
unfolding became_reached_by
so_just c h r =
    rw (ap role_of r.is_report_lem, became_reached_by)
    ((newly (point_count (route_by h)) (standing_by (c ∷ h)) (standing_by h)).1
    (r.point, r.one_of_them, (stands_exactly (c ∷ h) r.point Reached).1 r.after, λ s. r.before ((stands_exactly h r.point Reached).0 s)))

pub saw : (h : History) → (became_reached_by h ≡ true) ↔ JustReached h
unfolding became_reached_by
saw [] = ((λ e. false≢true e), (λ x. absurd x))
saw (c ∷ h) = (just_so c h, so_just c h)

-- ---- "a held stop is reached" as a test and as the rule says it

pub held_there : (h : History) → is_some (held_stop_by h) ≡ true → AtHeldStop h
held_there h e = go (held_stop_by h) refl e
  where
    go : (o : Option Point) → held_stop_by h ≡ o → is_some o ≡ true → AtHeldStop h
    go None q e = absurd (false≢true e)
    go (Some p) q e =
        let (k, l, s, r, m) = held_is (route_by h) (standing_by h) p q in
        (k, record { reached = record { one_of_them = l; reached = (stands_exactly h k Reached).0 r }; marked = m })

pub there_held : (h : History) → AtHeldStop h → is_some (held_stop_by h) ≡ true
there_held h (k, a) = held_some (route_by h) (standing_by h) k a.reached.one_of_them ((stands_exactly h k Reached).1 a.reached.reached) a.marked

pub held_exactly : (h : History) → (is_some (held_stop_by h) ≡ true) ↔ AtHeldStop h
held_exactly h = (held_there h, there_held h)

-- row 20: an accepted press is none of these
not_held : (h : History) (c : Call) → table_by h c ≡ accept tt → event_of_call c ≡ Press → ¬ AtHeldStop h
unfolding hold_row
not_held h c e q a = absurd (no_row (is_some (held_stop_by h)) (there_held h a) (rw q at (held_accepts h c e)))
  where
    no_row : (b : Bool) → b ≡ true → row 20 (true && b) ≡ accept tt → ⊥
    no_row true q e = cc
    no_row false q e = false≢true q

-- ---- values after an event

off_reports : (c : Call) (h : History) → event_of_call c ≡ PowerOff → reports_by (c ∷ h) ≡ 0
unfolding latest
off_reports c h e = rw (e, latest)

off_unfit : (c : Call) (h : History) → event_of_call c ≡ PowerOff → (values_by (c ∷ h)).O ≡ false
unfolding values_by O
off_unfit c h e = ap (λ n. all_of (nine (route_by (c ∷ h)).load n (route_conditions (route_by (c ∷ h)) (position_by (c ∷ h)) (standing_by (c ∷ h))) (standing_by (c ∷ h)))) (off_reports c h e)

abbrev new_mode : Event → ℕ → ℕ
new_mode e n = if is_off (role_of e) then 0 else newer ((carried e).number mode) n

never : {A : Type 0} → Other ≡ AD → A
never e = cc

mode-by : (e : Event) (n : ℕ) → mode_at n ≡ Other → mode_at (new_mode e n) ≡ AD → e ≡ Mode 1
mode-by e n a b = go (is_off (role_of e)) ((carried e).number mode) (mode_of e) b
  where
    go : (f : Bool) (o : Option ℕ) → OfMode o e → mode_at (if f then 0 else newer o n) ≡ AD → e ≡ Mode 1
    go true o k b = never b
    go false None k b = never (sym a ∙ b)
    go false (Some m) k b = k ∙ ap Mode (mode_AD m b)

mode-report : (c : Call) (h : History) → (values_by h).mode ≡ Other → (values_by (c ∷ h)).mode ≡ AD → event_of_call c ≡ Mode 1
unfolding values_by latest
mode-report c h a b = mode-by (event_of_call c) (mode_by h) a b

-- ---- event k and moment v of a history

upto_next : (h : History) (k : ℕ) → k < length h → upto h (suc k) ≡ call_at h k ∷ upto h k
upto_next h k l =
    let e : suc (length h - suc k) ≡ length h - k = omega arith in
    rw (← e) (drop-cons h (length h - suc k) no_call (omega arith))

upto_all : (h : History) → upto h (length h) ≡ h
upto_all h = let e : length h - length h ≡ 0 = omega arith in rw e refl

upto-none : (h : History) → upto h 0 ≡ []
upto-none h = let e : length h - 0 ≡ length h = omega arith in rw e (drop-length h)

pub moments : (h : History) → Moments h
moments h = record { after_all = upto_all h; after_none = upto-none h; after_one_more = upto_next h }

good-drop : (n : ℕ) (h : History) → Good h → Good (drop n h)
good-drop zero h g = g
good-drop (suc n) [] g = g
good-drop (suc n) (c ∷ h) g = good-drop n h g.1

good-at : (h : History) → Good h → (k : ℕ) → k < length h → table_by (upto h k) (call_at h k) ≡ accept tt
good-at h g k l = let z : Good (call_at h k ∷ upto h k) = rw (upto_next h k l) at (good-drop (length h - suc k) h g) in z.0

machine-next : (c : Call) (h : History) → machine_by (c ∷ h) ≡ machine_after (machine_by h) (event_of_call c) (became_reached_by (c ∷ h)) (values_by (c ∷ h))
unfolding machine_by
machine-next c h = refl

request-next : (c : Call) (h : History) → request_by (c ∷ h) ≡ given (state_by (c ∷ h)) (values_by (c ∷ h)) (request_by h)
unfolding request_by
request-next c h = refl

module _ (h : History) (g : Good h) where
  abbrev event : ℕ → Event
  event k = event_of_call (call_at h k)

  abbrev value : ℕ → Values
  value v = values_by (upto h v)

  abbrev reached : ℕ → Bool
  reached k = became_reached_by (upto h (suc k))

  abbrev HasReached : ℕ → Type 0
  HasReached k = JustReached (upto h (suc k))

  abbrev AtHeld : ℕ → Type 0
  AtHeld v = AtHeldStop (upto h v)

  abbrev after : ℕ → Machine
  after v = machine_by (upto h v)

  abbrev request : ℕ → Bool
  request v = request_by (upto h v)

  is_run : run.Run event value reached HasReached AtHeld after request (length h)
  unfolding machine_by request_by
  is_run = record {
    start = rw (upto-none h) refl;
    no_request_lem = rw (upto-none h) refl;
    power = λ k l. power_accepts (upto h k) (call_at h k) (good-at h g k l);
    state = λ k l. state_accepts (upto h k) (call_at h k) (good-at h g k l);
    next = λ k l. rw (upto_next h k l) (machine-next (call_at h k) (upto h k));
    next_request = λ k l. rw (upto_next h k l) (request-next (call_at h k) (upto h k));
    saw = λ k l. saw (upto h (suc k));
    not_held = λ k l e. not_held (upto h k) (call_at h k) (good-at h g k l) e;
    off = λ k l e. rw (upto_next h k l) (off_unfit (call_at h k) (upto h k) e);
    AD_report = λ k l a b. mode-report (call_at h k) (upto h k) a (rw (upto_next h k l) at b);
  }

  pub engaged_exactly : (state_by h ≡ EG) ↔ Engaged h
  engaged_exactly = rw (upto_all h) at (run_holds event value reached HasReached AtHeld after request (length h) is_run).engaged

  -- "given if wanted and (given before or mode other)", over the history
  pub requested_exactly : (request_by h ≡ true) ↔ Requested h
  requested_exactly = ((λ e. there (both.0 e)), (λ r. both.1 (back r)))
    where
      both : (request_by h ≡ true) ↔ run.Requested value after (length h)
      both = rw (upto_all h) at (run_holds event value reached HasReached AtHeld after request (length h) is_run).requested

      there : run.Requested value after (length h) → Requested h
      there r = record { from = r.from; within = r.within; mode_other = r.mode_other; wanted_since = r.wanted_since }

      back : Requested h → run.Requested value after (length h)
      back r = record { from = r.from; within = r.within; mode_other = r.mode_other; wanted_since = r.wanted_since }
