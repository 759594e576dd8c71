-- Every packet of a call is within its ranges: the reader takes its bytes and gives it back.
use Rattle.std.specs.Prelude.{if◌then◌else◌, Option, Some, None}
use mathlib.Core.Path.{◌≡◌, refl, sym, ◌∙◌, ap, subst}
use mathlib.Core.Logic.{◌⊎◌, inl, inr}
use mathlib.Core.Bool.{Bool, true, false, ◌&&◌, ◌||◌}
use mathlib.Core.List.{List, [], ◌∷◌, ◌++◌, map}
use Prim.Native.Nat.{ℕ, zero, suc, ◌+◌, ◌≤◌}
use native.Mathlib.Omega.{arith}
use lib.Dec.{eqb, leb}
use lib.ListN.{length, take, drop}
use lib.Seq.{take-append_seam}
use borrow.Author.Tests.{le-leb}
use Rattle.wire.specs.Numbers.{flag}
use Rattle.wire.specs.Judged.{Judged}
use Rattle.wire.specs.Judged.Judged.{refuse, accept}
use Rattle.wire.specs.Refusals.{turns_down}
use Rattle.engine_value.specs.Engine.{Route}
use Rattle.engine_value.specs.declared.Point.{Point}
use Rattle.engine_value.specs.declared.Position.{Position}
use Rattle.wire.specs.Lists.{All}
use Rattle.journey.proofs.Accepted.{HeadFits}
use Rattle.journey.specs.declared.Head.{Head}
use Rattle.event.specs.Kinds.{carried, Role, off, load, report, other, skip}
use Rattle.event.specs.declared.TractionRequest.{TractionRequest}
use Rattle.event.specs.Event.{Event}
use Rattle.event.proofs.Known.{OfTraction, traction-of, OfConstraints, constraints-of}
use Rattle.event.proofs.Accepted.{ContentFits, content-fits, Fits as EventFits, Straight}
use Rattle.event.proofs.Adhesion.{rows-fit}
use Rattle.adhesion.specs.declared.TemporaryConstraint.{TemporaryConstraint}
use Rattle.adhesion.proofs.Laws.{remade}
use Rattle.route.specs.Route.{LoadValue}
use Rattle.route.proofs.Ranges.{PointFits}
use Rattle.layout.specs.Layout.{fits}
use Rattle.layout.proofs.LayoutLaws.{Typed}
use Rattle.packets.specs.Layouts.{header_layout, unknown_nidc, kind65, kind_size}
use Rattle.packets.specs.View.{header_view}
use Rattle.status_word.specs.View.{conditions_view}
use Rattle.status_word.specs.Sentences.{ZerosAndOnes}
use Rattle.packets.specs.Packets.{packet_bytes, joined, packet_fits, packet_of, cut_packets}
use Rattle.packets.proofs.Cutting.{cut-joined}
use Rattle.packets.proofs.ConditionLaws.{status_fits}
use Rattle.packets.proofs.RoundTrips.{TypedPacket, read-written}
use Rattle.status_word.specs.declared.OperationalConditions.{OperationalConditions}
use Rattle.packets.specs.declared.Requested.{Requested}
use Rattle.packets.specs.Packet.{Packet}
use Rattle.traction.specs.Requests.{written_content}
use Rattle.traction.proofs.Laws.{written_inv, written_is}
use Rattle.position.specs.Position.{point, point_count, known}
use Rattle.timing.specs.Changes.{status_stopped, status_held, when}
use Rattle.position.specs.Skips.{stop_named}
use Rattle.position.specs.declared.Standing.{Standing}
use Rattle.position.specs.declared.Standing.TheVariants.{Unused, Targeted, Reached, Passed}
use Rattle.conditions.specs.Conditions.{end_ahead}
use Rattle.conditions.proofs.NineLaws.{conditions_zeros}
use Rattle.state_codes.proofs.CodeLaws.{code-most}
use Rattle.hold.specs.Hold.{keeps_hold, hold_ended}
use Rattle.hold.proofs.Laws.{held_is}
use Rattle.trackside.specs.Trackside.{mark_of, marks, each_told}
use Rattle.trackside.proofs.Laws.{each_all}
use Rattle.trackside.proofs.Sentences.{sentences}
use Rattle.call_values.specs.Packets.{PointChange, point_change, hold_revoked, header, timing_point, jp_received, traction_brake, traction_brakes, adhesion_system, adhesion_systems, ato_status, status_due, received, packets_of, jp_turned_down, packets_refused}
use Rattle.call_values.specs.Call.{Call}
use Rattle.whole_list.specs.Values.{History, event_of_call, load_of_call, role_of_call, position_by, route_by}
use Rattle.whole_list.specs.Rules.{standing_by, conditions_by, state_by}
use Rattle.whole_list.specs.Requests.{traction_by}
use Rattle.whole_list.specs.Table.{own_by, becomes_reached, held_stop_by, hold_change, trackside_by, load_changes, change_at, standing_then, changes_from, skip_change, changes_by, head_of, head_of_call, status_by, packets_by, table_by, packets_refused_by, packets_if, written_by}
use Rattle.whole_list.specs.Recorded.{In}
use Rattle.whole_list.specs.WholeList.{bytes_of_each}
use Rattle.whole_list.proofs.Recorded.{Ranged}
use Rattle.whole_list.proofs.Decoded.{event-in, event-straight_in, load-in, RouteIn, route-in, ranged}

all_append : {A : Type 0} (P : A → Type 0) (a b : List A) → All P a → All P b → All P (a ++ b)
all_append P [] b x y = y
all_append P (z ∷ a) b x y = (x.0, all_append P a b x.1 y)

-- in its ranges, and within its types
abbrev pub Fits : Packet → Type 0
Fits p = (packet_fits p ≡ true) × TypedPacket p

-- a point's change: its point is one of a journey that was read
abbrev ChangeFits : PointChange → Type 0
ChangeFits c = PointFits c.point × (c.status ≤ 8)

-- ---- one packet

module _ (j : Route) (x : Position) (r : Ranged j x) where
  header_fits : fits header_layout (header_view (header j x)) ≡ true
  header_fits = rw (le-leb x.nidc 1023 r.nidc, le-leb x.offset 16777215 r.offset)

  header_typed : Typed header_layout (header_view (header j x))
  header_typed = (tt, (omega (arith, r.nidsp), (tt, (omega (arith, r.speed), (omega (arith, r.operational), tt)))))

  flag_most : (b : Bool) → flag b ≤ 1
  flag_most true = omega arith
  flag_most false = omega arith

  -- "stopping data to 127, 0 unless status 1"
  stopping_fits : (s n : ℕ) → n ≤ 127
      → (leb (if eqb s status_stopped then n else 0) 127 && true && (eqb s 1 || eqb (if eqb s status_stopped then n else 0) 0)) ≡ true
  stopping_fits s n h = go (eqb s 1)
    where
      go : (b : Bool) → (leb (if b then n else 0) 127 && true && (b || eqb (if b then n else 0) 0)) ≡ true
      go true = rw (le-leb n 127 h)
      go false = refl

  fits_62 : (c : PointChange) → ChangeFits c → Fits (timing_point j x c)
  unfolding timing_point
  fits_62 c (p, s) =
      let q = c.point in (
        rw (header_fits, le-leb q.nidc 1023 p.nidc, le-leb _ 1 (flag_most c.end_ahead), le-leb q.alignment 2 p.alignment, le-leb c.status 8 s)
            (stopping_fits c.status q.stopping p.stopping),
        (header_typed, (tt, (omega (arith, p.nidtp), (tt, (tt, tt))))),
      )

  country_most : (b : Bool) → (if b then x.nidc else unknown_nidc) ≤ unknown_nidc
  country_most true = omega (arith, r.nidc)
  country_most false = omega arith

  fits_65 : (h : Head) → HeadFits h → Fits (jp_received j x h)
  unfolding jp_received
  fits_65 h p = (
    rw (header_fits, le-leb _ unknown_nidc (country_most (known j x)), le-leb h.atots 16384 p.atots, le-leb h.date 32767 p.date),
    (header_typed, (tt, (tt, (tt, (omega (arith, p.seconds), (omega (arith, p.counter), (tt, tt))))))),
  )

  fits_turned_down : Fits (jp_turned_down j x)
  unfolding jp_turned_down
  fits_turned_down = (
    rw (header_fits, le-leb _ unknown_nidc (country_most (known j x))),
    (header_typed, (tt, (tt, (tt, (omega arith, (omega arith, (tt, tt))))))),
  )

  fits_61 : (q : Requested) → ContentFits q → Fits (traction_brake j x q)
  unfolding traction_brake
  fits_61 q f = (rw header_fits, (header_typed, (omega (arith, f.trabrrq), (omega (arith, f.locobrrq), (omega (arith, f.suptb), (omega (arith, f.rtbrq), tt))))))

  fits_64 : (rows : List TemporaryConstraint) → EventFits (Event.Adhesion rows) → Straight (Event.Adhesion rows) → Fits (adhesion_system j x rows)
  unfolding adhesion_system
  fits_64 rows f s =
      let r = rows-fit rows f in
      (rw (header_fits, r.fit, remade rows, s), (header_typed, r.typed))

  fits_68 : (s : ℕ) (c : OperationalConditions) → s ≤ 7 → ZerosAndOnes (conditions_view c) → Fits (ato_status j x s c)
  unfolding ato_status
  fits_68 s c h k = (status_fits (record { header = header j x; state = s; conditions = c }) header_fits h k, (header_typed, (tt, tt)))

  -- ---- all of an event

  all_62 : (l : List PointChange) → All ChangeFits l → All Fits (map (timing_point j x) l)
  all_62 [] a = tt
  all_62 (c ∷ l) a = (fits_62 c a.0, all_62 l a.1)

  all_65 : (o : Option Head) → ((h : Head) → o ≡ Some h → HeadFits h) → All Fits (received j x o)
  all_65 None k = tt
  all_65 (Some h) k = (fits_65 h (k h refl), tt)

  all_refused : (n room : ℕ) → All Fits (packets_refused j x n room)
  unfolding packets_refused
  all_refused n room = go (turns_down n && leb (kind_size kind65) room)
    where
      go : (b : Bool) → All Fits (when b (jp_turned_down j x))
      go true = (fits_turned_down, tt)
      go false = tt

  all_61 : (o : Option Requested) → ((q : Requested) → o ≡ Some q → ContentFits q) → All Fits (traction_brakes j x o)
  all_61 None k = tt
  all_61 (Some q) k = (fits_61 q (k q refl), tt)

  all_64 : (o : Option (List TemporaryConstraint)) → ((rows : List TemporaryConstraint) → o ≡ Some rows → EventFits (Event.Adhesion rows) × Straight (Event.Adhesion rows)) → All Fits (adhesion_systems j x o)
  all_64 None k = tt
  all_64 (Some rows) k = let f = k rows refl in (fits_64 rows f.0 f.1, tt)

  all_68 : (due : Bool) (s : ℕ) (c : OperationalConditions) → s ≤ 7 → ZerosAndOnes (conditions_view c) → All Fits (when due (ato_status j x s c))
  all_68 true s c h k = (fits_68 s c h k, tt)
  all_68 false s c h k = tt

-- ---- the points that an event changes

module _ (p : Point) (f : PointFits p) where
  reached_fits : (x : Bool) → All ChangeFits (becomes_reached p x)
  reached_fits x = go p.held
    where
      go : (b : Bool) → All ChangeFits (point_change p status_stopped x ∷ when b (point_change p status_held x))
      go true = ((f, omega arith), ((f, omega arith), tt))
      go false = ((f, omega arith), tt)

  change_fits : (b a : Standing) (x : Bool) → All ChangeFits (change_at b a p x)
  change_fits Passed a x = tt
  change_fits Reached Passed x = ((f, omega arith), tt)
  change_fits Reached Reached x = tt
  change_fits Reached Targeted x = tt
  change_fits Reached Unused x = tt
  change_fits Targeted Passed x = ((f, omega arith), tt)
  change_fits Targeted Reached x = reached_fits x
  change_fits Targeted Targeted x = tt
  change_fits Targeted Unused x = tt
  change_fits Unused Passed x = ((f, omega arith), tt)
  change_fits Unused Reached x = reached_fits x
  change_fits Unused Targeted x = tt
  change_fits Unused Unused x = tt

module _ (j : Route) (r : RouteIn j) where
  changes_fit : (b a : ℕ → Standing) (n k : ℕ) → All ChangeFits (changes_from j b a n k)
  unfolding changes_from
  changes_fit b a zero k = tt
  changes_fit b a (suc n) k =
      let x = end_ahead j.load (standing_then b a k) in
      all_append ChangeFits (change_at (b k) (a k) (point j k) x) _ (change_fits (point j k) (r.points k) (b k) (a k) x) (changes_fit b a n (k + 1))

  skip_fits : (f : Option ℕ) (on x : Bool) → All ChangeFits (skip_change j f on x)
  skip_fits None on x = tt
  skip_fits (Some k) true x = ((r.points k, omega arith), tt)
  skip_fits (Some k) false x = ((r.points k, omega arith), tt)

-- the stop whose hold a load ends is one of the journey before
ended_fits : (h : History) (j : Route) (x : Bool) → All ChangeFits (hold_revoked (hold_ended (held_stop_by h) j) x)
unfolding hold_ended
ended_fits h j x = go (held_stop_by h) refl
  where
    by : (p : Point) → PointFits p → (b : Bool) → All ChangeFits (hold_revoked (if b then None else Some p) x)
    by p f true = tt
    by p f false = ((f, omega arith), tt)

    go : (o : Option Point) → held_stop_by h ≡ o → All ChangeFits (hold_revoked (hold_ended o j) x)
    go None q = tt
    go (Some p) q =
        let (k, l, s, e, m) = held_is (route_by h) (standing_by h) p q in
        by p (rw s ((route-in h).points k)) (keeps_hold j p.nidtp)

-- the points that a load tells of are the new journey's
told_fits : (h : History) (j : Route) → RouteIn j → (x : Bool) → All ChangeFits (each_told (route_by h) j (λ k s. point_change (point j k) s x))
told_fits h j r x =
    each_all (route_by h) j ChangeFits (λ k s. point_change (point j k) s x)
    (λ k s l e. (r.points k, status_fits_8 (sentences.no_other (marks (route_by h)) (mark_of (point j k)) s e)))
  where
    status_fits_8 : {s : ℕ} → (s ≡ 7) ⊎ (s ≡ 8) → s ≤ 8
    status_fits_8 (inl e) = omega arith
    status_fits_8 (inr e) = omega arith

changes_in_lem : (h : History) (c : Call) → All ChangeFits (changes_by h c)
unfolding changes_by
changes_in_lem h c = go (role_of_call c)
  where
    go : (r : Role) → All ChangeFits (elim r [
      | off ↦ []
      | load ↦ load_changes h c
      | report ↦ changes_from (route_by h) (standing_by h) (standing_by (c ∷ h)) (point_count (route_by h)) 0
      | other ↦ []
      | skip t on ↦ skip_change (route_by h) (stop_named (route_by h) t) on (end_ahead (route_by h).load (standing_by h))
    ])
    go off = tt
    go load = all_append ChangeFits (hold_change h c) (trackside_by h c) (ended_fits h (route_by (c ∷ h)) _) (told_fits h (route_by (c ∷ h)) (route-in (c ∷ h)) _)
    go report = changes_fit (route_by h) (route-in h) (standing_by h) (standing_by (c ∷ h)) (point_count (route_by h)) 0
    go other = tt
    go (skip t on) = skip_fits (route_by h) (route-in h) (stop_named (route_by h) t) on _

head_in : (c : Call) (d : Head) → head_of_call c ≡ Some d → HeadFits d
head_in c d = go (role_of_call c)
  where
    no : {A : Type 0} → None ≡ Some d → A
    no e = cc

    by : (o : Option LoadValue) → load_of_call c ≡ o → head_of o ≡ Some d → HeadFits d
    by None q e = no e
    by (Some l) q e = let z : l.head ≡ d = cc in rw (← z) (load-in c l q).head

    go : (r : Role) → elim r [ off ↦ None | load ↦ head_of (load_of_call c) | report ↦ None | other ↦ None | skip t on ↦ None ] ≡ Some d → HeadFits d
    go off e = no e
    go load e = by (load_of_call c) refl e
    go report e = no e
    go other e = no e
    go (skip t on) e = no e

-- ---- for every history

module _ (h : History) (c : Call) where
  -- the content of a packet 61 is that of the event
  content_in : (q : Requested) → written_content (state_by h) (event_of_call c) (traction_by h) (traction_by (c ∷ h)) ≡ Some q → ContentFits q
  content_in q e =
      let w = written_inv (state_by h) (event_of_call c) (traction_by h) (traction_by (c ∷ h)) q e in
      let x = w.2.0 in
      let same : Some x.content ≡ Some q = sym (written_is (state_by h) (event_of_call c) (traction_by h) (traction_by (c ∷ h)) x w.0 w.1 w.2.1) ∙ e in
      let z : x.content ≡ q = cc in
      let k : event_of_call c ≡ Event.Traction x = subst (λ (o : Option TractionRequest). OfTraction o (event_of_call c)) w.2.1 (traction-of (event_of_call c)) in
      subst ContentFits z (content-fits x (subst EventFits k (event-in c)))

  -- the rows of a packet 64 are those of the event
  rows_in_event : (rows : List TemporaryConstraint) → (carried (event_of_call c)).constraints ≡ Some rows → EventFits (Event.Adhesion rows) × Straight (Event.Adhesion rows)
  rows_in_event rows e =
      let k : event_of_call c ≡ Event.Adhesion rows = subst (λ (o : Option (List TemporaryConstraint)). OfConstraints o (event_of_call c)) e (constraints-of (event_of_call c)) in
      (subst EventFits k (event-in c), subst Straight k (event-straight_in c))

  pub packets_fit : All Fits (packets_by h c)
  unfolding packets_by packets_of conditions_by
  packets_fit =
      let r = ranged (c ∷ h) in
      all_append Fits (received (route_by (c ∷ h)) (position_by (c ∷ h)) (head_of_call c)) _ (all_65 _ _ r (head_of_call c) (head_in c))
      (all_append Fits (map (timing_point (route_by (c ∷ h)) (position_by (c ∷ h))) (changes_by h c)) _
      (all_62 _ _ r (changes_by h c) (changes_in_lem h c))
      (all_append Fits (own_by h c) _ (all_append Fits _ _ (all_61 _ _ r _ content_in) (all_64 _ _ r _ rows_in_event))
      (all_68 _ _ r (status_due (status_by h) (status_by (c ∷ h))) _ _ (code-most (state_by (c ∷ h))) (conditions_zeros _ _ _ _))))

  pub refused_fit : (n : ℕ) → All Fits (packets_refused_by h c n)
  refused_fit n = all_refused (route_by h) (position_by h) (ranged h) n (length c.memory)

  -- accepted or refused
  pub written_fit : All Fits (written_by h c)
  written_fit = go (table_by h c)
    where
      go : (t : Judged (Unit {0})) → All Fits (packets_if h c t)
      go (refuse n) = refused_fit n
      go (accept u) = packets_fit

in_ranges : (ps : List Packet) → All Fits ps → All (λ (p : Packet). packet_fits p ≡ true) ps
in_ranges [] a = tt
in_ranges (p ∷ ps) a = (a.0.0, in_ranges ps a.1)

-- the packets in the memory of a call
pub memory_read : (ps : List Packet) → All Fits ps → (memory : List ℕ) → cut_packets (take (length (joined ps)) (joined ps ++ drop (length (joined ps)) memory)) ≡ bytes_of_each ps
memory_read ps a memory = rw take-append_seam (cut-joined ps (in_ranges ps a))

-- each is read back as it was
pub read_back : (ps : List Packet) → All Fits ps → map packet_of (bytes_of_each ps) ≡ map accept ps
read_back [] a = refl
read_back (p ∷ ps) a = ap (λ x. x ∷ map packet_of (bytes_of_each ps)) (read-written p a.0.0 a.0.1) ∙ ap (λ l. accept p ∷ l) (read_back ps a.1)

-- the bytes of one of them are among theirs, and read as it
pub written_as : (p : Packet) (ps : List Packet) → All Fits ps → In p ps → In (packet_bytes p) (bytes_of_each ps) × (packet_of (packet_bytes p) ≡ accept p)
written_as p [] a i = absurd i
written_as p (x ∷ ps) a (inl e) = (inl (ap packet_bytes e), ap (λ y. packet_of (packet_bytes y)) e ∙ read-written x a.0.0 a.0.1 ∙ ap accept (sym e))
written_as p (x ∷ ps) a (inr i) = let r = written_as p ps a.1 i in (inr r.0, r.1)

-- bytes among those of packets are the bytes of one of them, and read so
pub record ReadAs (bytes : List ℕ) (ps : List Packet) : Type 0 where
  pub packet : Packet
  pub one_of_them : In packet ps
  pub is_it : bytes ≡ packet_bytes packet
  pub read : packet_of bytes ≡ accept packet

pub read_as : (bytes : List ℕ) (ps : List Packet) → All Fits ps → In bytes (bytes_of_each ps) → ReadAs bytes ps
read_as bytes [] a i = absurd i
read_as bytes (p ∷ ps) a (inl e) =
    record { packet = p; one_of_them = inl refl; is_it = e; read = ap packet_of e ∙ read-written p a.0.0 a.0.1 }
read_as bytes (p ∷ ps) a (inr i) =
    let r = read_as bytes ps a.1 i in
    record { packet = r.packet; one_of_them = inr r.one_of_them; is_it = r.is_it; read = r.read }
