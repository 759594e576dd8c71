-- What a packet 62 of status 0 to 3 stands for. Nothing ahead is recorded as passed.
use Rattle.std.specs.Prelude.{Option, Some, None}
use mathlib.Core.Path.{◌≡◌, refl, sym, ◌∙◌, ap, subst}
use mathlib.Core.Logic.{◌⊎◌, inl, inr}
use mathlib.Core.Bool.{Bool, true, false, ◌&&◌}
use mathlib.Core.List.{List, [], ◌∷◌, ◌++◌, map, Memᴰ}
use Prim.Native.Nat.{ℕ, ◌≤◌}
use native.Mathlib.Omega.{arith}
use lib.Dec.{leb}
use lib.ListN.{length}
use Rattle.wire.specs.Judged.{Judged}
use Rattle.wire.specs.Judged.Judged.{refuse, accept}
use Rattle.wire.specs.Refusals.{turns_down}
use Rattle.engine_value.specs.Engine.{Route}
use Rattle.engine_value.specs.declared.Position.{Position}
use Rattle.event.specs.Event as kind
use Rattle.packets.specs.Layouts.{kind65, kind_size}
use Rattle.packets.specs.Packets.{packet_of}
use Rattle.packets.specs.declared.TimingPoint.{TimingPoint}
use Rattle.status_word.specs.declared.OperationalConditions.{OperationalConditions}
use Rattle.packets.specs.Packet.{Packet}
use Rattle.position.specs.Position.{point}
use Rattle.timing.specs.Changes.{Change, status_passed, status_held, when, report_changes}
use Rattle.timing.proofs.Changes.{Behind, recorded_behind, index_below}
use Rattle.journey.specs.declared.Head.{Head}
use Rattle.call_values.specs.Packets.{PointChange, timing_point, jp_received, ato_status, status_due, received, packets_of, jp_turned_down, packets_refused}
use Rattle.call_values.specs.Call.{Call}
use Rattle.call.specs.Call.{step_of}
use Rattle.whole_list.specs.Values.{History, event_of_call, position_by, route_by, report_at}
use Rattle.whole_list.specs.Table.{changes_by, head_of_call, own_by, status_by, packets_by, table_by, packets_if, written_by}
use Rattle.whole_list.specs.Calls.{engine_after, history_of}
use Rattle.whole_list.specs.Recorded.{In}
use Rattle.whole_list.specs.WholeList.{bytes_of_each, JudgedByTable, WrittenAt, Each62, TrulyPassed, NothingAhead}
use Rattle.whole_list.proofs.Requests.{in_left, in_right, in-append}
use Rattle.whole_list.proofs.Fields.{progress_run, in-range}
use Rattle.whole_list.proofs.FieldsStep.{route_kept, position_new}
use Rattle.whole_list.proofs.Readable.{written_fit, read_as}
use Rattle.whole_list.proofs.Recorded.{own-in, own-are}
use Rattle.whole_list.proofs.ChangeKinds.{member, in_map, Reports, Kind, of_report, of_hold, of_trackside, of_driver, which, tells_late, driver_late}

-- a change of status 0 to 3 is of a position report
reported : (h : History) (c : Call) (d : PointChange) → In d (changes_by h c) → d.status ≤ status_held → Reports h c d
reported h c d i s = go (which h c d i)
  where
    go : Kind h c d → Reports h c d
    go (of_report r) = r
    go (of_hold e) = let four : d.status ≡ 4 = ap (λ (d : PointChange). d.status) e.is in absurd (omega arith)
    go (of_trackside t) = absurd (omega (arith, s, tells_late h c d t))
    go (of_driver b) = absurd (omega (arith, s, driver_late d.status b))

-- ---- the packets

module _ (j : Route) (x : Position) (p : TimingPoint) where
  not_65 : (o : Option Head) → In (Packet.TimingPoint p) (received j x o) → ⊥
  unfolding jp_received
  not_65 None q = q
  not_65 (Some d) (inl e) = cc
  not_65 (Some d) (inr q) = q

  not_68 : (due : Bool) (s : ℕ) (n : OperationalConditions) → In (Packet.TimingPoint p) (when due (ato_status j x s n)) → ⊥
  unfolding ato_status
  not_68 true s n (inl e) = cc
  not_68 true s n (inr q) = q
  not_68 false s n q = q

  -- the values of a packet 62
  values_62 : (d : PointChange) → Packet.TimingPoint p ≡ timing_point j x d → (p.status ≡ d.status) × (p.nidtp ≡ d.point.nidtp)
  unfolding timing_point
  values_62 d e = (cc, cc)

-- only the 62s are of timing points
pub timing_among : (h : History) (c : Call) (p : TimingPoint) → In (Packet.TimingPoint p) (packets_by h c)
    → (d : PointChange) × In d (changes_by h c) × (Packet.TimingPoint p ≡ timing_point (route_by (c ∷ h)) (position_by (c ∷ h)) d)
unfolding packets_by packets_of
timing_among h c p i = first (in-append (Packet.TimingPoint p) (received (route_by (c ∷ h)) (position_by (c ∷ h)) (head_of_call c)) _ i)
  where
    last : List Packet
    last = when (status_due (status_by h) (status_by (c ∷ h))) (ato_status (route_by (c ∷ h)) (position_by (c ∷ h)) (status_by (c ∷ h)).state (status_by (c ∷ h)).conditions)

    third : In (Packet.TimingPoint p) (own_by h c) ⊎ In (Packet.TimingPoint p) last → ⊥
    third (inl q) = own-in (Packet.TimingPoint p) (own_by h c) (own-are h c) q
    third (inr q) = not_68 (route_by (c ∷ h)) (position_by (c ∷ h)) p (status_due (status_by h) (status_by (c ∷ h))) _ _ q

    second : In (Packet.TimingPoint p) (map (timing_point (route_by (c ∷ h)) (position_by (c ∷ h))) (changes_by h c)) ⊎ In (Packet.TimingPoint p) (own_by h c ++ last)
        → (d : PointChange) × In d (changes_by h c) × (Packet.TimingPoint p ≡ timing_point (route_by (c ∷ h)) (position_by (c ∷ h)) d)
    second (inl q) = in_map (timing_point (route_by (c ∷ h)) (position_by (c ∷ h))) (Packet.TimingPoint p) (changes_by h c) q
    second (inr q) = absurd (third (in-append (Packet.TimingPoint p) (own_by h c) last q))

    first : In (Packet.TimingPoint p) (received (route_by (c ∷ h)) (position_by (c ∷ h)) (head_of_call c))
        ⊎ In (Packet.TimingPoint p) (map (timing_point (route_by (c ∷ h)) (position_by (c ∷ h))) (changes_by h c)
        ++ (own_by h c ++ last))
        → (d : PointChange) × In d (changes_by h c) × (Packet.TimingPoint p ≡ timing_point (route_by (c ∷ h)) (position_by (c ∷ h)) d)
    first (inl q) = absurd (not_65 (route_by (c ∷ h)) (position_by (c ∷ h)) p (head_of_call c) q)
    first (inr q) = second (in-append (Packet.TimingPoint p) (map (timing_point (route_by (c ∷ h)) (position_by (c ∷ h))) (changes_by h c)) _ q)

-- and each change is told by one
pub in_mapped : {A B : Type 0} (f : A → B) (x : A) (l : List A) → In x l → In (f x) (map f l)
in_mapped f x [] i = absurd i
in_mapped f x (y ∷ l) (inl e) = inl (ap f e)
in_mapped f x (y ∷ l) (inr i) = inr (in_mapped f x l i)

pub in_packets : (h : History) (c : Call) (d : PointChange) → In d (changes_by h c) → In (timing_point (route_by (c ∷ h)) (position_by (c ∷ h)) d) (packets_by h c)
unfolding packets_by packets_of
in_packets h c d i =
    let packet = timing_point (route_by (c ∷ h)) (position_by (c ∷ h)) in
    in_right _ (received (route_by (c ∷ h)) (position_by (c ∷ h)) (head_of_call c)) _ (in_left _ (map packet (changes_by h c)) _ (in_mapped packet d (changes_by h c) i))

pub told_by : (h : History) (c : Call) (d : PointChange) → In d (changes_by h c)
    → (p : TimingPoint) × In (Packet.TimingPoint p) (packets_by h c) × (p.status ≡ d.status) × (p.nidtp ≡ d.point.nidtp)
unfolding timing_point
told_by h c d i = (_, in_packets h c d i, refl, refl)

-- what a packet 62 of status 0 to 3 stands for: a change of the steps, at a position report
pub record Told (h : History) (c : Call) (packet : List ℕ) (p : TimingPoint) : Type 0 where
  pub position : Position
  pub is_report_lem : event_of_call c ≡ kind.Event.PositionReport position
  pub change : Change
  pub one_of_them : Memᴰ change (report_changes (route_by h) (report_at (c ∷ h)) (progress_run h))
  pub status_is : change.status ≡ p.status
  pub its_name : (q : TimingPoint) → packet_of packet ≡ accept (Packet.TimingPoint q) → q.nidtp ≡ (point (route_by (c ∷ h)) change.index).nidtp

module _ (h : History) (c : Call) (packet : List ℕ) (p : TimingPoint) (e : packet_of packet ≡ accept (Packet.TimingPoint p)) (s : p.status ≤ status_held) where
  -- of the change d, by its values
  told_of : (d : PointChange) → In d (changes_by h c) → p.status ≡ d.status → p.nidtp ≡ d.point.nidtp → Told h c packet p
  told_of d i status name =
      let r = reported h c d i (omega (arith, status, s)) in
      record {
        position = r.position;
        is_report_lem = r.is_report_lem;
        change = r.change;
        one_of_them = member r.change _ r.one_of_them;
        status_is = sym (status ∙ ap (λ (y : PointChange). y.status) r.is);
        its_name = λ q f.
            let y : q ≡ p = cc (e, f) in
            ap (λ (t : TimingPoint). t.nidtp) y ∙ name ∙ ap (λ (y : PointChange). y.point.nidtp) r.is
            ∙ ap (λ j. (point j r.change.index).nidtp) (sym (route_kept c h r.position r.is_report_lem));
      }

  told : In (Packet.TimingPoint p) (packets_by h c) → Told h c packet p
  told i =
      let (d, k, z) = timing_among h c p i in
      let v = values_62 (route_by (c ∷ h)) (position_by (c ∷ h)) p d z in
      told_of d k v.0 v.1

-- it is of a point of the journey
abbrev pub where_written : (h : History) (c : Call) (packet : List ℕ) (p : TimingPoint) → Told h c packet p → WrittenAt (c ∷ h) packet
where_written h c packet p t =
    record {
      position = t.position;
      c = c;
      earlier = h;
      at_report = refl;
      is_report_lem = t.is_report_lem;
      index = t.change.index;
      one_of_them =
          rw (route_kept c h t.position t.is_report_lem)
          (index_below (route_by h) (report_at (c ∷ h)) (progress_run h) t.change t.one_of_them (in-range h));
      its_name = t.its_name;
    }

-- a packet 62 is none of a refused call
not_refused : (j : Route) (x : Position) (n room : ℕ) (p : TimingPoint) → In (Packet.TimingPoint p) (packets_refused j x n room) → ⊥
unfolding packets_refused jp_turned_down
not_refused j x n room p i = go (turns_down n && leb (kind_size kind65) room) i
  where
    go : (b : Bool) → In (Packet.TimingPoint p) (when b (jp_turned_down j x)) → ⊥
    go true (inl e) = cc
    go true (inr q) = q
    go false q = q

-- so it is of an accepted one, and among its packets
pub told_accepted : (h : History) (c : Call) (p : TimingPoint) → In (Packet.TimingPoint p) (written_by h c)
    → (table_by h c ≡ accept tt) × In (Packet.TimingPoint p) (packets_by h c)
told_accepted h c p i = go (table_by h c) refl i
  where
    go : (t : Judged (Unit {0})) → table_by h c ≡ t → In (Packet.TimingPoint p) (packets_if h c t) → (table_by h c ≡ accept tt) × In (Packet.TimingPoint p) (packets_by h c)
    go (refuse n) q i = absurd (not_refused (route_by h) (position_by h) n (length c.memory) p i)
    go (accept u) q i = (q, i)

-- a packet 62 that a call writes is one of those by the rules
pub one_of_written : (h : History) (c : Call) (packet : List ℕ) (p : TimingPoint) → packet_of packet ≡ accept (Packet.TimingPoint p)
    → In packet (bytes_of_each (written_by h c)) → (table_by h c ≡ accept tt) × In (Packet.TimingPoint p) (packets_by h c)
one_of_written h c packet p e i =
    let a = read_as packet (written_by h c) (written_fit h c) i in
    let same : a.packet ≡ Packet.TimingPoint p = cc (a.read, e) in
    told_accepted h c p (subst (λ (q : Packet). In q (written_by h c)) same a.one_of_them)

pub each-told : (earlier : List Call) (c : Call) → JudgedByTable (engine_after earlier) (history_of earlier) c (step_of (engine_after earlier) c)
    → Each62 earlier c (λ packet p. p.status ≤ status_held → Told (history_of earlier) c packet p)
each-told earlier c w packet i p e s =
    told (history_of earlier) c packet p e s (one_of_written (history_of earlier) c packet p e (subst (In packet) w.packets i)).1

-- ---- nothing ahead is recorded as passed

truly : (h : History) (c : Call) (packet : List ℕ) (p : TimingPoint) → Told h c packet p → p.status ≡ status_passed → TrulyPassed (c ∷ h) packet
truly h c packet p t s =
    let b : Behind (route_by h) (report_at (c ∷ h)) t.change.index =
    recorded_behind (route_by h) (report_at (c ∷ h)) (progress_run h) t.change t.one_of_them (t.status_is ∙ s) in
    record {
      written = where_written h c packet p t;
      is_known = rw (route_kept c h t.position t.is_report_lem) (rw (position_new c h t.position t.is_report_lem) at b.position_known);
      is_placed = rw (route_kept c h t.position t.is_report_lem) b.point_placed;
      is_beyond = rw (route_kept c h t.position t.is_report_lem) b.is_beyond;
    }

pub nothing-ahead : (earlier : List Call) (c : Call) → JudgedByTable (engine_after earlier) (history_of earlier) c (step_of (engine_after earlier) c) → NothingAhead earlier c
nothing-ahead earlier c w packet i p e s = truly (history_of earlier) c packet p (each-told earlier c w packet i p e (omega (arith, s))) s
