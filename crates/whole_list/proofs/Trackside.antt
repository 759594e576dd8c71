-- Skips by the trackside, over every list of calls.
use Rattle.std.specs.Prelude.{Option, Some, None, option_map}
use mathlib.Core.Path.{◌≡◌, refl, sym, ◌∙◌, ap, ap₂, subst}
use mathlib.Core.Logic.{◌⊎◌, inl, inr}
use mathlib.Core.Bool.{Bool, true, false, cond, ◌||◌}
use mathlib.Core.List.{List, [], ◌∷◌, ◌++◌, map}
use Prim.Native.Nat.{ℕ, zero, suc, ◌≤◌, ◌<◌}
use native.Mathlib.Omega.{arith}
use lib.Dec.{eqb}
use borrow.Author.Tests.{eqb-true}
use Rattle.std.specs.List.{filter_map, cons_option}
use Rattle.std.proofs.lemmas.List.Elements.{filter-append}
use Rattle.wire.specs.Lists.{All, those, tabulate}
use Rattle.wire.specs.Judged.{Judged}
use Rattle.wire.specs.Judged.Judged.{refuse, accept}
use Rattle.engine_value.specs.Engine.{Route}
use Rattle.engine_value.specs.declared.Point.{Point}
use Rattle.engine_value.specs.declared.Position.{Position}
use Rattle.event.specs.Kinds.{Role, off, load, report, other, skip}
use Rattle.packets.specs.Packets.{packet_bytes}
use Rattle.packets.specs.declared.TimingPoint.{TimingPoint}
use Rattle.journey.specs.Journey.{JourneyValue, journey_value}
use Rattle.route.specs.Route.{LoadValue, route_of}
use Rattle.route.proofs.Ranges.{load_values}
use Rattle.position.specs.Position.{point, point_count, indices}
use Rattle.timing.specs.Changes.{status_trackside_skip, status_trackside_revoked}
use Rattle.conditions.specs.Conditions.{end_ahead}
use Rattle.hold.specs.Hold.{hold_ended}
use Rattle.trackside.specs.Trackside.{Mark, mark_of, marks, status_told, each_told, Foretold, foretell, marks_in, told_by, foretold}
use Rattle.trackside.proofs.Laws.{each_map, each_all}
use Rattle.trackside.proofs.Sentences.{sentences, marks_of_values, by_marks}
use Rattle.call_values.specs.Packets.{PointChange, point_change, hold_revoked, timing_point}
use Rattle.call_values.specs.Call.{Call}
use Rattle.whole_list.specs.Values.{History, load_of_call, role_of_call, position_by, route_by}
use Rattle.whole_list.specs.Rules.{standing_by}
use Rattle.whole_list.specs.Table.{held_stop_by, hold_change, trackside_by, load_changes, changes_by, packets_by, table_by, packets_if, written_by}
use Rattle.whole_list.specs.Calls.{history_of}
use Rattle.whole_list.specs.Recorded.{In}
use Rattle.whole_list.specs.WholeList.{bytes_of_each}
use Rattle.whole_list.specs.Held.{Is62}
use Rattle.whole_list.specs.Trackside.{journey_of_call, journey_by, foretold_from, tells_skip, skips_told, Loads, Gives, Takes, bytes_new, EachSkip}
use Rattle.whole_list.proofs.Requests.{in_right}
use Rattle.whole_list.proofs.Decoded.{route-in}
use Rattle.whole_list.proofs.Engaged.{Good}
use Rattle.whole_list.proofs.ChangeKinds.{Kind, of_report, of_hold, of_trackside, of_driver, which, report_early, driver_late}
use Rattle.whole_list.proofs.Passed.{in_mapped, in_packets}
use Rattle.whole_list.proofs.Points.{point_values, call_points, refused_points, Change62, change_of}
use Rattle.whole_list.proofs.TurnedDown.{loaded_as}
use Rattle.whole_list.proofs.WholeList.{kept, judged_next}

-- ---- the journey in force, by its values

marks_from : Option JourneyValue → List Mark
marks_from None = []
marks_from (Some v) = marks_in v

module _ (h : History) (c : Call) (g : table_by h c ≡ accept tt) (q : role_of_call c ≡ load) where
  -- that of a load, and what the engine keeps of it
  loaded_values : (v : JourneyValue) × (journey_value c.journey ≡ accept v) × (marks (route_by (c ∷ h)) ≡ marks_in v)
  unfolding route_by load_of_call
  loaded_values =
      let (l, z) = loaded_as h c g q in
      let (book, v, read, few, same) = load_values c.journey c.book l z in
      let route : route_by (c ∷ h) ≡ route_of book v = rw (q, z, route_by, load_of_call) (ap (λ (x : LoadValue). x.route) same) in
      (v, read, ap marks route ∙ marks_of_values book v few)

marks_by : (h : History) → Good h → marks (route_by h) ≡ marks_from (journey_by h)
unfolding route_by journey_by journey_of_call marks_from
marks_by [] g = refl
marks_by (c ∷ h) (a, g) = go (role_of_call c) refl (marks_by h g)
  where
    go : (r : Role) → role_of_call c ≡ r → marks (route_by h) ≡ marks_from (journey_by h) → marks (route_by (c ∷ h)) ≡ marks_from (journey_by (c ∷ h))
    go off q e = rw (q, route_by, journey_by)
    go load q e =
        let (v, read, same) = loaded_values h c a q in
        let journey : journey_by (c ∷ h) ≡ Some v = rw (q, read, journey_by, journey_of_call) refl in
        same ∙ ap marks_from (sym journey)
    go report q e = rw (q, route_by, journey_by) e
    go other q e = rw (q, route_by, journey_by) e
    go (skip t on) q e = rw (q, route_by, journey_by) e

-- ---- the changes that tell of a trackside skip

told_status : ℕ → Bool
told_status s = eqb s 7 || eqb s 8

not_told : (s : ℕ) → s < 7 → told_status s ≡ false
unfolding told_status
not_told s l = go (eqb s 7) refl (eqb s 8) refl
  where
    go : (a : Bool) → eqb s 7 ≡ a → (b : Bool) → eqb s 8 ≡ b → (a || b) ≡ false
    go true q b r = absurd (omega (arith, eqb-true s 7 q))
    go false q true r = absurd (omega (arith, eqb-true s 8 r))
    go false q false r = refl

is_told : (s : ℕ) → (s ≡ 7) ⊎ (s ≡ 8) → told_status s ≡ true
unfolding told_status
is_told s (inl e) = rw e refl
is_told s (inr e) = rw e refl

-- of each change its point and status, where it tells of one
abbrev telling : PointChange → Bool
telling d = told_status d.status

abbrev pair : PointChange → Foretold
pair d = foretell d.point.nidtp d.status

module _ (j : Route) (x : Position) where
  as_changes : (l : List PointChange) → map (λ (p : TimingPoint). foretell p.nidtp p.status) (those tells_skip (map (point_values j x) l)) ≡ map pair (those telling l)
  unfolding told_status
  as_changes [] = refl
  as_changes (d ∷ l) = go (telling d) (as_changes l)
    where
      go : (b : Bool) → map (λ (p : TimingPoint). foretell p.nidtp p.status) (those tells_skip (map (point_values j x) l)) ≡ map pair (those telling l)
          → map (λ (p : TimingPoint). foretell p.nidtp p.status) (cond b (point_values j x d ∷ those tells_skip (map (point_values j x) l)) (those tells_skip (map (point_values j x) l)))
          ≡ map pair (cond b (d ∷ those telling l) (those telling l))
      go true e = ap (λ (r : List Foretold). pair d ∷ r) e
      go false e = e

none_of : {A : Type 0} (f : A → Bool) (l : List A) → ((a : A) → In a l → f a ≡ false) → those f l ≡ []
none_of f [] h = refl
none_of {A} f (a ∷ l) h = ap (λ b. cond b (a ∷ those f l) (those f l)) (h a (inl refl)) ∙ none_of f l (λ x i. h x (inr i))

all_of : {A : Type 0} (f : A → Bool) (l : List A) → All (λ a. f a ≡ true) l → those f l ≡ l
all_of f [] h = refl
all_of {A} f (a ∷ l) h = ap (λ b. cond b (a ∷ those f l) (those f l)) h.0 ∙ ap (λ (r : List A). a ∷ r) (all_of f l h.1)

module _ (h : History) (c : Call) where
  abbrev old : Route
  old = route_by h

  abbrev new : Route
  new = route_by (c ∷ h)

  call_tells : skips_told (bytes_of_each (packets_by h c)) ≡ map pair (those telling (changes_by h c))
  call_tells = ap (λ (l : List TimingPoint). map (λ (p : TimingPoint). foretell p.nidtp p.status) (those tells_skip l)) (call_points h c) ∙ as_changes new (position_by (c ∷ h)) (changes_by h c)

  -- no event but a load changes one so
  other_tells : (role_of_call c ≡ load → ⊥) → those telling (changes_by h c) ≡ []
  other_tells n = none_of telling (changes_by h c) (λ d i. go d (which h c d i))
    where
      go : (d : PointChange) → Kind h c d → telling d ≡ false
      go d (of_report r) = not_told d.status (omega (arith, report_early h c d r))
      go d (of_hold e) = let four : d.status ≡ 4 = ap (λ (d : PointChange). d.status) e.is in not_told d.status (omega arith)
      go d (of_trackside t) = absurd (n t.is_load_lem)
      go d (of_driver b) = not_told d.status (omega (arith, driver_late d.status b))

  -- the hold that a load ends is told by status 4
  hold_tells : (o : Option Point) (x : Bool) → those telling (hold_revoked o x) ≡ []
  unfolding told_status
  hold_tells None x = refl
  hold_tells (Some p) x = refl

  load_tells : role_of_call c ≡ load → map pair (those telling (changes_by h c)) ≡ told_by (marks old) (marks new)
  unfolding changes_by
  load_tells q =
      let x = end_ahead new.load (standing_by (c ∷ h)) in
      let f : ℕ → ℕ → PointChange = λ k s. point_change (point new k) s x in
      let changes : changes_by h c ≡ load_changes h c = rw (q, changes_by) in
      ap (λ l. map pair (those telling l)) changes
      ∙ ap (map pair) (filter-append telling (hold_change h c) (trackside_by h c))
      ∙ ap (λ (l : List PointChange). map pair (l ++ those telling (trackside_by h c))) (hold_tells (hold_ended (held_stop_by h) new) x)
      ∙ ap (map pair) (all_of telling (trackside_by h c) (each_all old new (λ d. telling d ≡ true) f (λ k s l e. is_told s (sentences.no_other _ _ s e))))
      ∙ each_map old new pair f
      ∙ by_marks old new (route-in (c ∷ h)).full

-- with no old journey nothing is told
none_told : (l : List Mark) → told_by [] l ≡ []
none_told [] = refl
none_told (m ∷ l) = ap (λ o. cons_option (option_map (foretell m.nidtp) o) (told_by [] l)) (sentences.first m) ∙ none_told l

foretold_is : (o : Option JourneyValue) (v : JourneyValue) → told_by (marks_from o) (marks_in v) ≡ foretold_from o v
unfolding foretold marks_from
foretold_is None v = none_told (marks_in v)
foretold_is (Some u) v = refl

-- ---- each point

numbers_in : {A : Type 0} (f : ℕ → A) (n k : ℕ) → k < n → In (f k) (tabulate n f)
numbers_in f zero k l = absurd (omega arith)
numbers_in f (suc n) zero l = inl refl
numbers_in f (suc n) (suc k) l = inr (numbers_in (λ i. f (suc i)) n k (omega arith))

found_in : {A : Type 0} (f : ℕ → Option A) (l : List ℕ) (k : ℕ) (a : A) → In k l → f k ≡ Some a → In a (filter_map f l)
found_in f [] k a i e = absurd i
found_in f (y ∷ l) k a (inl q) e = subst (λ o. In a (cons_option o (filter_map f l))) (sym (ap f (sym q) ∙ e)) (inl refl)
found_in {A} f (y ∷ l) k a (inr i) e = go (f y) (found_in f l k a i e)
  where
    go : (o : Option A) → In a (filter_map f l) → In a (cons_option o (filter_map f l))
    go None j = j
    go (Some z) j = inr j

module _ (h : History) (c : Call) where
  -- point k as it is told
  told_there : (k s : ℕ) → Loads h c → k < point_count (route_by (c ∷ h)) → status_told (marks (route_by h)) (mark_of (point (route_by (c ∷ h)) k)) ≡ Some s
      → In (bytes_new h c k s) (bytes_of_each (written_by h c))
  unfolding changes_by each_told timing_point
  told_there k s loads l e =
      let j = route_by (c ∷ h) in
      let d = point_change (point j k) s (end_ahead j.load (standing_by (c ∷ h))) in
      let here : In d (trackside_by h c) = found_in _ (indices j) k d (numbers_in (λ i. i) (point_count j) k l) (ap (option_map (λ s. point_change (point j k) s (end_ahead j.load (standing_by (c ∷ h))))) e) in
      let changes : changes_by h c ≡ load_changes h c = rw (loads.is_load_lem, changes_by) in
      let change : In d (changes_by h c) = subst (In d) (sym changes) (in_right d (hold_change h c) (trackside_by h c) here) in
      subst (In (bytes_new h c k s)) (sym (ap (λ t. bytes_of_each (packets_if h c t)) loads.accepted))
      (in_mapped packet_bytes (timing_point j (position_by (c ∷ h)) d) (packets_by h c) (in_packets h c d change))

  -- a packet 62 of status 7 or 8 is one of these
  record TellsOf (packet : List ℕ) (s : ℕ) : Type 0 where
    index : ℕ
    loads : Loads h c
    one_of_them : index < point_count (route_by (c ∷ h))
    told : status_told (marks (route_by h)) (mark_of (point (route_by (c ∷ h)) index)) ≡ Some s
    bytes : packet ≡ bytes_new h c index s

  tells_of : (packet : List ℕ) (s : ℕ) → 7 ≤ s → In packet (bytes_of_each (written_by h c)) → Is62 packet s → TellsOf packet s
  unfolding timing_point
  tells_of packet s n i t = go (which h c w.change w.one_of_them)
    where
      w : Change62 h c packet s
      w = change_of h c packet s i t

      go : Kind h c w.change → TellsOf packet s
      go (of_report r) = absurd (omega (arith, n, w.status_is, report_early h c w.change r))
      go (of_hold e) = let four : w.change.status ≡ 4 = ap (λ (d : PointChange). d.status) e.is in absurd (omega (arith, n, w.status_is))
      go (of_driver b) = absurd (omega (arith, n, w.status_is, driver_late w.change.status b))
      go (of_trackside d) =
          let same : d.status ≡ s = sym (ap (λ (x : PointChange). x.status) d.is) ∙ w.status_is in
          record {
            index = d.index;
            loads = record { accepted = w.accepted; is_load_lem = d.is_load_lem };
            one_of_them = d.one_of_them;
            told = d.told ∙ ap Some same;
            bytes = w.bytes ∙ ap (λ x. packet_bytes (timing_point (route_by (c ∷ h)) (position_by (c ∷ h)) x)) d.is ∙ ap (bytes_new h c d.index) same;
          }

  gained_there : (k : ℕ) → Gives h c k → In (bytes_new h c k status_trackside_skip) (bytes_of_each (written_by h c))
  gained_there k g = told_there k status_trackside_skip g.loads g.one_of_them ((sentences.gains (route_by h) (route_by (c ∷ h)) k (route-in h).full).1 g.gained)

  gained_alone : (packet : List ℕ) → In packet (bytes_of_each (written_by h c)) → Is62 packet status_trackside_skip → (k : ℕ) × Gives h c k × (packet ≡ bytes_new h c k status_trackside_skip)
  gained_alone packet i t =
      let w = tells_of packet status_trackside_skip (omega arith) i t in (
        w.index,
        record { loads = w.loads; one_of_them = w.one_of_them; gained = (sentences.gains (route_by h) (route_by (c ∷ h)) w.index (route-in h).full).0 w.told },
        w.bytes,
      )

  lost_there : (k : ℕ) → Takes h c k → In (bytes_new h c k status_trackside_revoked) (bytes_of_each (written_by h c))
  lost_there k g = told_there k status_trackside_revoked g.loads g.one_of_them ((sentences.loses (route_by h) (route_by (c ∷ h)) k (route-in h).full).1 g.lost)

  lost_alone : (packet : List ℕ) → In packet (bytes_of_each (written_by h c)) → Is62 packet status_trackside_revoked → (k : ℕ) × Takes h c k × (packet ≡ bytes_new h c k status_trackside_revoked)
  lost_alone packet i t =
      let w = tells_of packet status_trackside_revoked (omega arith) i t in (
        w.index,
        record { loads = w.loads; one_of_them = w.one_of_them; lost = (sentences.loses (route_by h) (route_by (c ∷ h)) w.index (route-in h).full).0 w.told },
        w.bytes,
      )

-- ---- the claim

module _ (h : History) (c : Call) where
  as_foretold : Good h → Loads h c → (new : JourneyValue) × (journey_value c.journey ≡ accept new) × (skips_told (bytes_of_each (written_by h c)) ≡ foretold_from (journey_by h) new)
  as_foretold g w =
      let (v, read, same) = loaded_values h c w.accepted w.is_load_lem in (
        v,
        read,
        ap (λ t. skips_told (bytes_of_each (packets_if h c t))) w.accepted ∙ call_tells h c ∙ load_tells h c w.is_load_lem
            ∙ ap₂ told_by (marks_by h g) same ∙ foretold_is (journey_by h) v,
      )

  nothing_else : (Loads h c → ⊥) → skips_told (bytes_of_each (written_by h c)) ≡ []
  nothing_else n = go (table_by h c) refl
    where
      go : (t : Judged (Unit {0})) → table_by h c ≡ t → skips_told (bytes_of_each (packets_if h c t)) ≡ []
      go (refuse k) e = ap (λ (l : List TimingPoint). map (λ (p : TimingPoint). foretell p.nidtp p.status) (those tells_skip l)) (refused_points h c k)
      go (accept u) e = call_tells h c ∙ ap (map pair) (other_tells h c (λ q. n (record { accepted = e; is_load_lem = q })))

pub each-skip : (earlier : List Call) (c : Call) → EachSkip earlier c
each-skip earlier c =
    let h = history_of earlier in
    let w = (judged_next earlier c).packets in
    record {
      as_foretold = λ loads. let (v, read, e) = as_foretold h c (kept earlier).good loads in (v, read, ap skips_told w ∙ e);
      nothing_else = λ n. ap skips_told w ∙ nothing_else h c n;
      gained = λ k g. subst (In _) (sym w) (gained_there h c k g);
      gained_alone = λ packet i t. gained_alone h c packet (subst (In packet) w i) t;
      lost = λ k g. subst (In _) (sym w) (lost_there h c k g);
      lost_alone = λ packet i t. lost_alone h c packet (subst (In packet) w i) t;
    }
