-- Profiles turned down, over every list of calls.
use Rattle.std.specs.Prelude.{Option, Some, None}
use mathlib.Core.Path.{◌≡◌, refl, sym, ◌∙◌, ap, subst}
use mathlib.Core.Logic.{◌⊎◌, ◌↔◌, inl, inr}
use mathlib.Core.Bool.{Bool, true, false, ◌&&◌, false≢true}
use mathlib.Core.List.{List, [], ◌∷◌, ◌++◌, map}
use Prim.Native.Nat.{ℕ, ◌≤◌, ◌<◌}
use native.Mathlib.Omega.{arith}
use lib.Dec.{leb}
use lib.ListN.{length, drop}
use borrow.Author.Tests.{leb-true, le-leb, lt-leb}
use Rattle.wire.specs.Judged.{Judged}
use Rattle.wire.specs.Judged.Judged.{refuse, accept}
use Rattle.wire.specs.Refusals.{turns_down}
use Rattle.wire.proofs.ListLaws.{and_left, and_right}
use Rattle.engine_value.specs.Engine.{Route}
use Rattle.engine_value.specs.declared.Position.{Position}
use Rattle.event.specs.Kinds.{kind_of, Role, off, load, report, other, skip}
use Rattle.event.specs.Events.{event_of}
use Rattle.status_word.specs.declared.OperationalConditions.{OperationalConditions}
use Rattle.packets.specs.Packets.{packet_bytes, joined}
use Rattle.packets.specs.declared.JpReceived.{JpReceived}
use Rattle.packets.specs.Packet.{Packet}
use Rattle.journey.specs.declared.Head.{Head}
use Rattle.timing.specs.Changes.{when}
use Rattle.state_codes.specs.Numbers.{power_rows, state_row}
use Rattle.hold.specs.Hold.{hold_row}
use Rattle.route.specs.Route.{LoadValue, load_of}
use Rattle.call_values.specs.Packets.{PointChange, timing_point, jp_received, ato_status, status_due, received, packets_of, jp_turned_down, packets_refused}
use Rattle.call_values.specs.Call.{Call}
use Rattle.call.specs.Call.{Outcome, step_of}
use Rattle.whole_list.specs.Values.{History, load_of_call, role_of_call, position_by, route_by}
use Rattle.whole_list.specs.Rules.{state_by}
use Rattle.whole_list.specs.Table.{held_stop_by, changes_by, head_of, head_of_call, status_by, own_by, packets_by, kind_rows, table_by, packets_refused_by, packets_if, written_by}
use Rattle.whole_list.specs.Calls.{engine_after, history_of}
use Rattle.whole_list.specs.Recorded.{packets_after, newest, In}
use Rattle.whole_list.specs.WholeList.{bytes_of_each}
use Rattle.whole_list.specs.TurnedDown.{TurnedDown, Has65, EachReceived}
use Rattle.whole_list.proofs.Requests.{in_left, in-append}
use Rattle.whole_list.proofs.Recorded.{own-in, own-are, newest_refused}
use Rattle.whole_list.proofs.Readable.{written_fit, written_as, read_as}
use Rattle.whole_list.proofs.Engaged.{then_accepts}
use Rattle.whole_list.proofs.RowNumbers.{none_of, load_rows, rows_as, table_refuses}
use Rattle.whole_list.proofs.WholeList.{judged_next}

module _ (h : History) (c : Call) where
  -- an event that is no load is refused by no number from 7 to 12
  otherwise : (role_of_call c ≡ load → ⊥) → (n : ℕ) → table_by h c ≡ refuse n → turns_down n ≡ false
  otherwise no_load n e = none_of turns_down (1 ∷ 1 ∷ 1 ∷ 2 ∷ 21 ∷ 3 ∷ 4 ∷ 5 ∷ 6 ∷ 20 ∷ 13 ∷ 14 ∷ 15 ∷ 16 ∷ []) refl n (table_refuses h c no_load n e)

  -- ---- profiles are turned down

  down : (t : TurnedDown h c) → turns_down t.number ≡ true
  down t = rw (le-leb 7 t.number t.from_7, le-leb t.number 12 t.to_12)

  made_down : (n : ℕ) → table_by h c ≡ refuse n → turns_down n ≡ true → TurnedDown h c
  made_down n e q =
      record { number = n; is_refused = e; from_7 = leb-true 7 n (and_left (leb 7 n) _ q); to_12 = leb-true n 12 (and_right (leb 7 n) _ q) }

  is_load_lem : TurnedDown h c → role_of_call c ≡ load
  is_load_lem t = go (role_of_call c) refl
    where
      no_other : (role_of_call c ≡ load → ⊥) → ⊥
      no_other other_role = false≢true (sym (otherwise other_role t.number t.is_refused) ∙ down t)

      go : (r : Role) → role_of_call c ≡ r → role_of_call c ≡ load
      go off q = absurd (no_other (λ e. cc))
      go load q = q
      go report q = absurd (no_other (λ e. cc))
      go other q = absurd (no_other (λ e. cc))
      go (skip t on) q = absurd (no_other (λ e. cc))

  abbrev packet : Packet
  packet = jp_turned_down (route_by h) (position_by h)

  when_down : (n : ℕ) (b : Bool) → (turns_down n && leb 29 (length c.memory)) ≡ b → packets_refused_by h c n ≡ when b packet
  unfolding packets_refused
  when_down n b q = ap (λ b. when b packet) q

  written_down : TurnedDown h c → 29 ≤ length c.memory → written_by h c ≡ packet ∷ []
  written_down t room = ap (packets_if h c) t.is_refused ∙ when_down t.number true (rw (down t, le-leb 29 (length c.memory) room))

  written_short : TurnedDown h c → length c.memory < 29 → written_by h c ≡ []
  written_short t short = ap (packets_if h c) t.is_refused ∙ when_down t.number false (rw (down t, lt-leb 29 (length c.memory) short))

  written_none : (n : ℕ) → table_by h c ≡ refuse n → ¬ TurnedDown h c → written_by h c ≡ []
  written_none n e none = ap (packets_if h c) e ∙ when_down n false (go (turns_down n) refl)
    where
      go : (b : Bool) → turns_down n ≡ b → (turns_down n && leb 29 (length c.memory)) ≡ false
      go true q = absurd (none (made_down n e q))
      go false q = ap (λ b. b && leb 29 (length c.memory)) q

-- ---- packets 65 among those of a call

module _ (j : Route) (x : Position) (p : JpReceived) where
  not_62 : (l : List PointChange) → In (Packet.JpReceived p) (map (timing_point j x) l) → ⊥
  unfolding timing_point
  not_62 [] i = i
  not_62 (c ∷ l) (inl e) = cc
  not_62 (c ∷ l) (inr i) = not_62 l i

  not_68 : (due : Bool) (s : ℕ) (n : OperationalConditions) → In (Packet.JpReceived p) (when due (ato_status j x s n)) → ⊥
  unfolding ato_status
  not_68 true s n (inl e) = cc
  not_68 true s n (inr i) = i
  not_68 false s n i = i

  -- the one of an accepted load has status 0
  of_head : (o : Option Head) → In (Packet.JpReceived p) (received j x o) → ((d : Head) × (o ≡ Some d)) × (p.status ≡ 0)
  unfolding jp_received
  of_head None i = absurd i
  of_head (Some d) (inl e) = ((d, refl), cc)
  of_head (Some d) (inr i) = absurd i

  -- that of profiles turned down has status 1
  of_refused : (b : Bool) → In (Packet.JpReceived p) (when b (jp_turned_down j x)) → (b ≡ true) × (p.status ≡ 1)
  unfolding jp_turned_down
  of_refused true (inl e) = (refl, cc)
  of_refused true (inr i) = absurd i
  of_refused false i = absurd i

module _ (h : History) (c : Call) (p : JpReceived) where
  among : In (Packet.JpReceived p) (packets_by h c) → ((d : Head) × (head_of_call c ≡ Some d)) × (p.status ≡ 0)
  unfolding packets_by packets_of
  among i = first (in-append q (received j x (head_of_call c)) _ i)
    where
      j : Route
      j = route_by (c ∷ h)

      x : Position
      x = position_by (c ∷ h)

      q : Packet
      q = Packet.JpReceived p

      points : List Packet
      points = map (timing_point j x) (changes_by h c)

      last : List Packet
      last = when (status_due (status_by h) (status_by (c ∷ h))) (ato_status j x (status_by (c ∷ h)).state (status_by (c ∷ h)).conditions)

      third : In q (own_by h c) ⊎ In q last → ⊥
      third (inl i) = own-in q (own_by h c) (own-are h c) i
      third (inr i) = not_68 j x p (status_due (status_by h) (status_by (c ∷ h))) _ _ i

      second : In q points ⊎ In q (own_by h c ++ last) → ⊥
      second (inl i) = not_62 j x p (changes_by h c) i
      second (inr i) = third (in-append q (own_by h c) last i)

      first : In q (received j x (head_of_call c)) ⊎ In q (points ++ (own_by h c ++ last)) → ((d : Head) × (head_of_call c ≡ Some d)) × (p.status ≡ 0)
      first (inl i) = of_head j x p (head_of_call c) i
      first (inr i) = absurd (second (in-append q points (own_by h c ++ last) i))

  -- of which call it is
  data Way : Type 0 where
    of_one_refused : TurnedDown h c → 29 ≤ length c.memory → p.status ≡ 1 → Way
    of_one_accepted : table_by h c ≡ accept tt → (d : Head) → head_of_call c ≡ Some d → p.status ≡ 0 → Way

  way : In (Packet.JpReceived p) (written_by h c) → Way
  unfolding packets_refused
  way i = go (table_by h c) refl i
    where
      go : (t : Judged (Unit {0})) → table_by h c ≡ t → In (Packet.JpReceived p) (packets_if h c t) → Way
      go (refuse n) e i =
          let (down, status) = of_refused (route_by h) (position_by h) p (turns_down n && leb 29 (length c.memory)) i in
          of_one_refused (made_down h c n e (and_left (turns_down n) _ down)) (leb-true 29 (length c.memory) (and_right (turns_down n) _ down)) status
      go (accept u) e i = let ((d, head), status) = among i in of_one_accepted e d head status

-- ---- an accepted load

module _ (h : History) (c : Call) where
  -- is read
  pub loaded_as : table_by h c ≡ accept tt → role_of_call c ≡ load → (l : LoadValue) × (load_of c.journey c.book ≡ accept l)
  unfolding table_by kind_rows
  loaded_as e q =
      let (event, _, f₁) = then_accepts (event_of c.event) _ tt e in
      let (_, _, f₂) = then_accepts (power_rows (state_by h) (kind_of event)) _ tt f₁ in
      let (_, _, f₃) = then_accepts (state_row (state_by h) (kind_of event)) _ tt f₂ in
      let (_, _, f₄) = then_accepts (hold_row (held_stop_by h) (kind_of event)) _ tt f₃ in
      let (_, e₅, _) = then_accepts (kind_rows h c) _ tt f₄ in
      read (load_of c.journey c.book) refl (sym (kind_is (role_of_call c) q) ∙ e₅)
    where
      kind_is : (r : Role) → r ≡ load → rows_as h c r ≡ load_rows h c (load_of c.journey c.book)
      kind_is r q = rw q refl

      read : (v : Judged LoadValue) → load_of c.journey c.book ≡ v → load_rows h c v ≡ accept tt → (l : LoadValue) × (load_of c.journey c.book ≡ accept l)
      read (refuse n) z k = cc
      read (accept l) z k = (l, z)

  -- has a head
  pub loaded-has : table_by h c ≡ accept tt → role_of_call c ≡ load → (d : Head) × (head_of_call c ≡ Some d)
  unfolding load_of_call
  loaded-has e q =
      let (l, z) = loaded_as e q in
      (l.head, head_is (role_of_call c) q ∙ ap (λ v. head_of (elim v [ refuse n ↦ None | accept l ↦ Some l ])) z)
    where
      head_is : (r : Role) → r ≡ load → elim r [ off ↦ None | load ↦ head_of (load_of_call c) | report ↦ None | other ↦ None | skip t on ↦ None ] ≡ head_of (load_of_call c)
      head_is r q = rw q refl

  -- and only a load has
  of_load : (d : Head) → head_of_call c ≡ Some d → role_of_call c ≡ load
  of_load d = go (role_of_call c) refl
    where
      none_has : {A : Type 0} → None ≡ Some d → A
      none_has e = cc

      go : (r : Role) → role_of_call c ≡ r → elim r [ off ↦ None | load ↦ head_of (load_of_call c) | report ↦ None | other ↦ None | skip t on ↦ None ] ≡ Some d → role_of_call c ≡ load
      go off q e = none_has e
      go load q e = q
      go report q e = none_has e
      go other q e = none_has e
      go (skip t on) q e = none_has e

  first_of_load : (d : Head) → head_of_call c ≡ Some d → In (jp_received (route_by (c ∷ h)) (position_by (c ∷ h)) d) (packets_by h c)
  unfolding packets_by packets_of
  first_of_load d e = in_left _ (received (route_by (c ∷ h)) (position_by (c ∷ h)) (head_of_call c)) _ (rw e (inl refl))

-- ---- the packets in memory

module _ (h : History) (c : Call) (r : Outcome) (w : packets_after r.answer r.memory ≡ bytes_of_each (written_by h c)) where
  -- read, a packet 65 is one of them
  one_of : (status : ℕ) → Has65 status (packets_after r.answer r.memory) → (p : JpReceived) × Way h c p × (p.status ≡ status)
  one_of status (packet, i, (p, e, s)) =
      let a = read_as packet (written_by h c) (written_fit h c) (subst (In packet) w i) in
      let same : a.packet ≡ Packet.JpReceived p = cc (a.read, e) in
      (p, way h c p (subst (λ (q : Packet). In q (written_by h c)) same a.one_of_them), s)

  has : (p : JpReceived) → In (Packet.JpReceived p) (written_by h c) → Has65 p.status (packets_after r.answer r.memory)
  has p i =
      let (there, read) = written_as (Packet.JpReceived p) (written_by h c) (written_fit h c) i in
      (packet_bytes (Packet.JpReceived p), subst (In (packet_bytes (Packet.JpReceived p))) (sym w) there, (p, read, refl))

  down_exactly : Has65 1 (packets_after r.answer r.memory) ↔ (TurnedDown h c × (29 ≤ length c.memory))
  unfolding jp_turned_down
  down_exactly = (λ a. there (one_of 1 a), λ t. has _ (subst (In _) (sym (written_down h c t.0 t.1)) (inl refl)))
    where
      there : (p : JpReceived) × Way h c p × (p.status ≡ 1) → TurnedDown h c × (29 ≤ length c.memory)
      there (p, of_one_refused t room s, k) = (t, room)
      there (p, of_one_accepted e d q s, k) = absurd (omega (arith, s, k))

  loaded_exactly : Has65 0 (packets_after r.answer r.memory) ↔ ((table_by h c ≡ accept tt) × (role_of_call c ≡ load))
  unfolding jp_received
  loaded_exactly = (
    (λ a. there (one_of 0 a)),
    (λ t. let (d, q) = loaded-has h c t.0 t.1 in has _ (subst (In _) (sym (ap (packets_if h c) t.0)) (first_of_load h c d q))),
  )
    where
      there : (p : JpReceived) × Way h c p × (p.status ≡ 0) → (table_by h c ≡ accept tt) × (role_of_call c ≡ load)
      there (p, of_one_refused t room s, k) = absurd (omega (arith, s, k))
      there (p, of_one_accepted e d q s, k) = (e, of_load h c d q)

pub each-received : (earlier : List Call) (c : Call) → EachReceived earlier c
each-received earlier c =
    let h = history_of earlier in
    let r = step_of (engine_after earlier) c in
    let judged = judged_next earlier c in
    let w = judged.packets in
    let same : written_by h c ≡ [] → r.memory ≡ c.memory = λ e. judged.memory ∙ ap (λ l. joined l ++ drop (length (joined l)) c.memory) e in
    record {
      of_load_lem = is_load_lem h c;
      turned_down = down_exactly h c r w;
      alone = λ t room. w ∙ ap bytes_of_each (written_down h c t room);
      not_fitting = λ t short. same (written_short h c t short);
      nothing_else = λ n e none. same (written_none h c n e none);
      accepted_load = loaded_exactly h c r w;
      status_kept = λ n e o.
          ap (newest o) (w ∙ ap (λ t. bytes_of_each (packets_if h c t)) e) ∙ newest_refused (route_by h) (position_by h) o n (length c.memory);
    }
