-- What is recorded as departed has left, and what has left is recorded; creeping at a platform leaves no trace.
use Rattle.std.specs.Prelude.{Some}
use mathlib.Core.Path.{◌≡◌, refl, sym, ◌∙◌, ap, subst}
use mathlib.Core.Logic.{◌↔◌, inl}
use mathlib.Core.Bool.{Bool, true, false}
use mathlib.Core.List.{List, [], ◌∷◌, ◌++◌, map, append_assoc, append-nil}
use Prim.Native.Nat.{ℕ, ◌<◌}
use native.Mathlib.Omega.{arith}
use Rattle.wire.specs.Judged.{Judged}
use Rattle.wire.specs.Judged.Judged.{refuse, accept}
use Rattle.engine_value.specs.Engine.{fresh}
use Rattle.engine_value.specs.declared.Engine.{Engine}
use Rattle.engine_value.specs.declared.Point.{Point}
use Rattle.engine_value.specs.declared.Position.{Position}
use Rattle.engine_value.specs.declared.Progress.{Progress}
use Rattle.event.specs.Event.Event.{PositionReport}
use Rattle.event.specs.Kinds.{Role, off, load, report, other, skip}
use Rattle.event.proofs.Known.{OfRole, known}
use Rattle.packets.specs.Packets.{packet_bytes}
use Rattle.packets.specs.declared.TimingPoint.{TimingPoint}
use Rattle.packets.specs.Packet.{Packet}
use Rattle.position.specs.Position.{point, point_count, front_at}
use Rattle.position.specs.Standing.{standing}
use Rattle.position.specs.declared.Standing.{Standing}
use Rattle.position.specs.declared.Standing.TheVariants.{Reached, Passed}
use Rattle.position.proofs.Laws.{reached-only, standing_passed, standing-at}
use Rattle.timing.specs.Distance.{exceeds_reach, leaves}
use Rattle.timing.specs.Changes.{status_departed, report_changes}
use Rattle.timing.proofs.Steps.{reported_stays}
use Rattle.timing.proofs.Laws.{leaves_when, leaves_so}
use Rattle.timing.proofs.Rule.{gone_on}
use Rattle.timing.proofs.Changes.{recorded_left, changes_leave, changes_stay}
use Rattle.call_values.specs.Packets.{PointChange}
use Rattle.call_values.specs.Call.{Call}
use Rattle.call.specs.Packets.{change_in}
use Rattle.call.specs.Call.{step_of}
use Rattle.whole_list.specs.Values.{History, event_of_call, role_of_call, route_by, report_at, reports_since, behind_at_load, position_by, length_by}
use Rattle.whole_list.specs.Rules.{StandsBy}
use Rattle.whole_list.specs.Table.{changes_by, packets_by, table_by, packets_if, answer_if}
use Rattle.whole_list.specs.Calls.{play, trace, with_accepted, accepted_in, engine_after, history_of}
use Rattle.whole_list.specs.Recorded.{In}
use Rattle.whole_list.specs.WholeList.{bytes_of_each, Each62}
use Rattle.whole_list.specs.Creeping.{Leaves, TrulyDeparted, EachTrulyDeparted, Leaving, SurelyDeparted, Keeps, Creeping, NoTraceOfCreeping}
use Rattle.whole_list.proofs.Fields.{progress_run, in-range, stands_at}
use Rattle.whole_list.proofs.FieldsStep.{run_kept, route_kept, position_new, progress_new}
use Rattle.whole_list.proofs.Engaged.{stands_exactly}
use Rattle.whole_list.proofs.Readable.{packets_fit, written_as}
use Rattle.whole_list.proofs.ChangeKinds.{by_steps}
use Rattle.whole_list.proofs.Passed.{timing_among, told_by, Told, where_written, one_of_written, each-told}
use Rattle.whole_list.proofs.WholeList.{judged_next}

-- where the steps leave a point, and where the history rule has it
pub stands-by : (h : History) (k : ℕ) → k < point_count (route_by h) → (s : Standing) → (standing (progress_run h) k ≡ s) ↔ StandsBy h k s
stands-by h k l s = ((λ e. (stands_exactly h k s).0 (sym (stands_at h k l) ∙ e)), (λ x. stands_at h k l ∙ (stands_exactly h k s).1 x))

-- ---- a report that leaves a point, by its three tests and by the one definition of them

module _ (h : History) (c : Call) (x : Position) (e : event_of_call c ≡ PositionReport x) (k : ℕ) where
  leaves_by : leaves (route_by h) (report_at (c ∷ h)) k ≡ true → Leaves (c ∷ h) x k
  leaves_by l = go (leaves_when (route_by h) (report_at (c ∷ h)) k l)
    where
      go : (0 < (position_by (c ∷ h)).speed)
          × ((f : ℕ) × (front_at (route_by h) (position_by (c ∷ h)) ≡ Some f) × (exceeds_reach f (length_by (c ∷ h)) (point (route_by h) k) ≡ true)) → Leaves (c ∷ h) x k
      go (m, (f, q, b)) = record {
        moves = subst (λ (y : Position). 0 < y.speed) (position_new c h x e) m;
        front = f;
        is_known = rw (route_kept c h x e) (subst (λ y. front_at (route_by h) y ≡ Some f) (position_new c h x e) q);
        is_beyond = rw (route_kept c h x e) b;
      }

  pub by_leaves : Leaves (c ∷ h) x k → leaves (route_by h) (report_at (c ∷ h)) k ≡ true
  by_leaves l =
      leaves_so (route_by h) (report_at (c ∷ h)) k l.front
      (subst (λ (y : Position). 0 < y.speed) (sym (position_new c h x e)) l.moves)
      (subst (λ y. front_at (route_by h) y ≡ Some l.front) (sym (position_new c h x e)) (subst (λ j. front_at j x ≡ Some l.front) (route_kept c h x e) l.is_known))
      (subst (λ j. exceeds_reach l.front (length_by (c ∷ h)) (point j k) ≡ true) (route_kept c h x e) l.is_beyond)

-- ---- truly departed, and surely

-- the point that the steps have as reached is passed after a report that leaves it
goes_on : (h : History) (c : Call) (x : Position) → event_of_call c ≡ PositionReport x → (k : ℕ) → k ≡ (progress_run h).next → (progress_run h).reached ≡ true
    → leaves (route_by h) (report_at (c ∷ h)) k ≡ true → (k < point_count (route_by h)) × StandsBy (c ∷ h) k Passed
goes_on h c x e k at reached left =
    let l : k < point_count (route_by h) = rw at ((in-range h).reached_one reached) in
    let on : (progress_run h).next < (progress_run (c ∷ h)).next =
    rw (progress_new c h x e) (gone_on (route_by h) (report_at (c ∷ h)) (progress_run h) (in-range h) reached (rw (reached, ← at, left) refl)) in
    (l, (stands-by (c ∷ h) k (rw (route_kept c h x e) l) Passed).0 (standing_passed (progress_run (c ∷ h)) k (rw at on)))

departed_so : (h : History) (c : Call) (packet : List ℕ) (p : TimingPoint) → Told h c packet p → p.status ≡ status_departed → TrulyDeparted (c ∷ h) packet
departed_so h c packet p t s =
    let (reached, at, left) = recorded_left (route_by h) (report_at (c ∷ h)) (progress_run h) t.change t.one_of_them (t.status_is ∙ s) in
    let (l, passed) = goes_on h c t.position t.is_report_lem t.change.index at reached left in
    record {
      written = where_written h c packet p t;
      was_reached = (stands-by h t.change.index l Reached).0 (ap (standing (progress_run h)) at ∙ standing-at (progress_run h) reached);
      is_passed = passed;
      left = leaves_by h c t.position t.is_report_lem t.change.index left;
    }

pub truly-departed : (earlier : List Call) (c : Call) → EachTrulyDeparted earlier c
truly-departed earlier c packet i p e s =
    departed_so (history_of earlier) c packet p (each-told earlier c (judged_next earlier c) packet i p e (omega (arith, s))) s

-- its change is the first of the report
first_change : (h : History) (c : Call) (x : Position) → event_of_call c ≡ PositionReport x → (progress_run h).reached ≡ true
    → leaves (route_by h) (report_at (c ∷ h)) (progress_run h).next ≡ true
    → (d : PointChange) × In d (changes_by h c) × (d.point ≡ point (route_by h) (progress_run h).next) × (d.status ≡ status_departed)
first_change h c x e reached left =
    let (l, q) = changes_leave (route_by h) (report_at (c ∷ h)) (progress_run h) reached left in
    (_, subst (In _) (sym (by_steps c h x e ∙ ap (map (change_in (route_by h))) q)) (inl refl), refl, refl)

pub surely-departed : (earlier : List Call) (c : Call) (k : ℕ) → Leaving earlier c k → SurelyDeparted earlier c k
surely-departed earlier c k v =
    let h = history_of earlier in
    let (at, reached) = reached-only (progress_run h) k ((stands-by h k v.before.one_of_them Reached).1 v.before.reached) in
    let left : leaves (route_by h) (report_at (c ∷ h)) k ≡ true = by_leaves h c v.position v.is_report_lem k v.left in
    let (l, passed) = goes_on h c v.position v.is_report_lem k at reached left in
    let (d, i, point_is, status) = first_change h c v.position v.is_report_lem reached (rw (← at) left) in
    let (p, among, s, n) = told_by h c d i in
    let (w, r) = written_as (Packet.TimingPoint p) (packets_by h c) (packets_fit h c) among in
    record {
      is_passed = passed;
      packet = packet_bytes (Packet.TimingPoint p);
      among = subst (In (packet_bytes (Packet.TimingPoint p))) (sym ((judged_next earlier c).packets ∙ ap (λ t. bytes_of_each (packets_if h c t)) v.accepted)) w;
      told = p;
      read = r;
      status_is = s ∙ status;
      its_name =
          n ∙ ap (λ (o : Point). o.nidtp) point_is ∙ ap (λ m. (point (route_by h) m).nidtp) (sym at);
    }

-- ---- one more call at a reached point

abbrev Rests : History → ℕ → Type 0
Rests h k = (k < point_count (route_by h)) × (standing (progress_run h) k ≡ Reached)

module _ (h : History) (c : Call) (k : ℕ) (rests : Rests h k) (keeps : Keeps h k c) where
  abbrev p : Progress
  p = progress_run h

  not_left : (x : Position) → event_of_call c ≡ PositionReport x → leaves (route_by h) (report_at (c ∷ h)) p.next ≡ false
  not_left x e = rw (← (reached-only p k rests.1).0) (go _ refl)
    where
      go : (b : Bool) → leaves (route_by h) (report_at (c ∷ h)) k ≡ b → leaves (route_by h) (report_at (c ∷ h)) k ≡ false
      go true l = absurd (keeps.no_departure x e (leaves_by h c x e k l))
      go false l = l

  still : Rests (c ∷ h) k
  unfolding route_by behind_at_load reports_since
  still = go (role_of_call c) refl (known (event_of_call c)).role
    where
      as_before : route_by (c ∷ h) ≡ route_by h → progress_run (c ∷ h) ≡ p → Rests (c ∷ h) k
      as_before a b = (rw a rests.0, rw b rests.1)

      go : (r : Role) → role_of_call c ≡ r → OfRole r (event_of_call c) → Rests (c ∷ h) k
      go off q w = absurd (keeps.no_power_off q)
      go load q w = absurd (keeps.no_load q)
      go report q (x, e) =
          as_before (route_kept c h x e)
          (progress_new c h x e ∙ reported_stays (route_by h) (report_at (c ∷ h)) p (reached-only p k rests.1).1 (not_left x e))
      go other q w = as_before (rw (q, route_by)) (run_kept h c (rw (q, route_by)) (rw (q, behind_at_load)) (rw (q, reports_since)))
      go (skip t on) q w = as_before (rw (q, route_by)) (run_kept h c (rw (q, route_by)) (rw (q, behind_at_load)) (rw (q, reports_since)))

  no_change : (x : Position) → event_of_call c ≡ PositionReport x → report_changes (route_by h) (report_at (c ∷ h)) p ≡ []
  no_change x e = changes_stay (route_by h) (report_at (c ∷ h)) p (reached-only p k rests.1).1 (not_left x e)

  none_there : (x : Position) → event_of_call c ≡ PositionReport x → (q : TimingPoint) → In (Packet.TimingPoint q) (packets_by h c) → ⊥
  none_there x e q i =
      let (d, w, z) = timing_among h c q i in
      subst (In d) (by_steps c h x e ∙ ap (map (change_in (route_by h))) (no_change x e)) w

-- ---- a list of calls

-- the calls `earlier`, and one more
one_more : (l : List Call) (e : Engine) (h : History) (c : Call)
    → accepted_in h (trace e (l ++ (c ∷ []))) ≡ with_accepted (step_of (play e l) c).answer c (accepted_in h (trace e l))
unfolding play trace accepted_in
one_more [] e h c = refl
one_more (x ∷ l) e h c = one_more l (step_of e x).engine (with_accepted (step_of e x).answer x h) c

module _ (k : ℕ) where
  -- what is asked of each call
  abbrev Asked : List Call → Call → Type 0
  Asked earlier c = table_by (history_of earlier) c ≡ accept tt → Keeps (history_of earlier) k c

  next-rests : (earlier : List Call) (c : Call) → Rests (history_of earlier) k → Asked earlier c → Rests (history_of (earlier ++ (c ∷ []))) k
  next-rests earlier c rests keeps = go (table_by (history_of earlier) c) refl
    where
      h : History
      h = history_of earlier

      next : (t : Judged (Unit {0})) → table_by h c ≡ t → Rests (with_accepted (answer_if h c t) c h) k → Rests (history_of (earlier ++ (c ∷ []))) k
      next t e r =
          let answer : (step_of (engine_after earlier) c).answer ≡ answer_if h c t = (judged_next earlier c).answer ∙ ap (answer_if h c) e in
          subst (λ l. Rests l k) (sym (one_more earlier fresh [] c ∙ ap (λ b. with_accepted b c h) answer)) r

      go : (t : Judged (Unit {0})) → table_by h c ≡ t → Rests (history_of (earlier ++ (c ∷ []))) k
      go (refuse n) e = next (refuse n) e rests
      go (accept u) e = next (accept u) e (still h c k rests (keeps e))

  abbrev EachAsked : List Call → List Call → Type 0
  EachAsked earlier more = (some : List Call) (c : Call) (others : List Call) → more ≡ some ++ (c ∷ others) → Asked (earlier ++ some) c

  all_rest : (more earlier : List Call) → Rests (history_of earlier) k → EachAsked earlier more → Rests (history_of (earlier ++ more)) k
  all_rest [] earlier rests keeps = subst (λ l. Rests (history_of l) k) (sym (append-nil earlier)) rests
  all_rest (c ∷ more) earlier rests keeps =
      let first : Asked earlier c = subst (λ l. Asked l c) (append-nil earlier) (keeps [] c more refl) in
      let others : EachAsked (earlier ++ (c ∷ [])) more =
      λ some x after q. subst (λ l. Asked l x) (sym (append_assoc earlier (c ∷ []) some)) (keeps (c ∷ some) x after (ap (λ (l : List Call). c ∷ l) q)) in
      subst (λ l. Rests (history_of l) k) (append_assoc earlier (c ∷ []) more) (all_rest more (earlier ++ (c ∷ [])) (next-rests earlier c rests first) others)

  none-told : (earlier : List Call) (c : Call) → Rests (history_of earlier) k → Asked earlier c
      → (x : Position) → event_of_call c ≡ PositionReport x → Each62 earlier c (λ packet p. ⊥)
  none-told earlier c rests keeps x e packet i p r =
      let h = history_of earlier in
      let (q, there) = one_of_written h c packet p r (subst (In packet) (judged_next earlier c).packets i) in
      none_there h c k rests (keeps q) x e p there

-- creeping leaves no trace
pub no_trace_of_creeping : (earlier more : List Call) (k : ℕ) → Creeping earlier more k → NoTraceOfCreeping earlier more k
no_trace_of_creeping earlier more k v =
    let start : Rests (history_of earlier) k = (v.before.one_of_them, (stands-by (history_of earlier) k v.before.one_of_them Reached).1 v.before.reached) in
    let (m, end) = all_rest k more earlier start v.each in
    record {
      still_reached = (stands-by (history_of (earlier ++ more)) k m Reached).0 end;
      no_62 = λ some c others q. none-told k (earlier ++ some) c (all_rest k some earlier start (so_far some c others q)) (v.each some c others q);
    }
  where
    -- asked of all of them, it is asked of the first of them
    so_far : (some : List Call) (c : Call) (others : List Call) → more ≡ some ++ (c ∷ others) → EachAsked k earlier some
    so_far some c others q b x a z =
        v.each b x (a ++ (c ∷ others)) (q ∙ ap (λ (y : List Call). y ++ (c ∷ others)) z ∙ append_assoc b (x ∷ a) (c ∷ others))
