-- Held stops, over every list of calls.
use Rattle.std.specs.Prelude.{if◌then◌else◌, Option, Some, None, is_some}
use mathlib.Core.Path.{◌≡◌, refl, sym, ◌∙◌, ap, subst}
use mathlib.Core.Bool.{Bool, true, false, ◌&&◌}
use mathlib.Core.List.{List, [], ◌∷◌, ◌++◌, map, append_assoc, map-append}
use Prim.Native.Nat.{ℕ, ◌<◌}
use native.Mathlib.Omega.{arith}
use lib.Dec.{eqb}
use Rattle.wire.specs.Judged.{row}
use Rattle.wire.specs.Judged.Judged.{refuse, accept}
use Rattle.wire.proofs.ListLaws.{and_left, and_right}
use Rattle.engine_value.specs.Engine.{Route}
use Rattle.engine_value.specs.declared.Point.{Point}
use Rattle.engine_value.specs.declared.Position.{Position}
use Rattle.engine_value.specs.declared.Progress.{Progress}
use Rattle.event.specs.Kinds.{kind_of}
use Rattle.event.specs.Event.Event.{Press, PositionReport}
use Rattle.event.proofs.Known.{press_of}
use Rattle.packets.specs.Packets.{value_bytes, packet_bytes}
use Rattle.packets.specs.Packet.{Packet}
use Rattle.position.specs.Position.{point, point_count}
use Rattle.position.specs.Standing.{standing}
use Rattle.position.specs.declared.Standing.TheVariants.{Reached}
use Rattle.position.proofs.Laws.{reached-only}
use Rattle.timing.specs.Report.{reported, became_reached}
use Rattle.timing.specs.Changes.{change, when, status_stopped, status_held, status_hold_revoked}
use Rattle.timing.proofs.Rule.{became_reached_lem}
use Rattle.timing.proofs.Changes.{recorded_held, changes_held}
use Rattle.conditions.specs.Conditions.{end_ahead}
use Rattle.state_codes.specs.Numbers.{power_rows, state_row}
use Rattle.hold.specs.Hold.{hold_row, keeps_hold, hold_ended}
use Rattle.hold.proofs.Laws.{held_there, held_is, not_kept, kept_not}
use Rattle.engagement.proofs.Engaged.{press-in}
use Rattle.call_values.specs.Packets.{PointChange, hold_revoked, header, timing_point_of, timing_point, received, jp_received, ato_status, status_due, packets_of}
use Rattle.call_values.specs.Call.{Call}
use Rattle.call.specs.Packets.{change_in}
use Rattle.whole_list.specs.Values.{History, event_of_call, position_by, route_by, report_at}
use Rattle.whole_list.specs.Rules.{HeldBy, standing_by}
use Rattle.whole_list.specs.Table.{held_stop_by, trackside_by, changes_by, head_of_call, status_by, own_by, packets_by, table_by, packets_if, written_by}
use Rattle.whole_list.specs.Calls.{history_of}
use Rattle.whole_list.specs.Recorded.{number_in, In}
use Rattle.whole_list.specs.WholeList.{bytes_of_each}
use Rattle.whole_list.specs.Held.{PressHeld, BecomesHeld, HoldEnds, bytes62, Is62, EachHeld}
use Rattle.whole_list.proofs.Decoded.{route-in}
use Rattle.whole_list.proofs.Fields.{progress_run, in-range, stands_at, end_ext}
use Rattle.whole_list.proofs.FieldsStep.{route_kept, progress_new, held_is_by}
use Rattle.whole_list.proofs.Recorded.{bytes-append}
use Rattle.whole_list.proofs.Engaged.{held_there as at_held, there_held}
use Rattle.whole_list.proofs.ChangeKinds.{member, by_steps, Kind, of_report, of_hold, of_trackside, of_driver, which, report_early, tells_late, driver_late}
use Rattle.whole_list.proofs.Points.{Change62, change_of}
use Rattle.whole_list.proofs.WholeList.{judged_next}
use Rattle.whole_list.proofs.Creeping.{stands-by}
use Rattle.whole_list.proofs.TurnedDown.{loaded-has}
use Rattle.whole_list.proofs.RowNumbers.{Twenty, twenty}

-- ---- 20

module _ (h : History) (c : Call) where
  -- the packets behind those of the points
  abbrev behind : List Packet
  behind =
      own_by h c
      ++ when (status_due (status_by h) (status_by (c ∷ h))) (ato_status (route_by (c ∷ h)) (position_by (c ∷ h)) (status_by (c ∷ h)).state (status_by (c ∷ h)).conditions)

  press_held : table_by h c ≡ refuse 20 → PressHeld h c
  unfolding hold_row
  press_held e = made (twenty h c e)
    where
      said : (b : Bool) → row 20 b ≡ refuse 20 → b ≡ true
      said true q = refl
      said false q = cc

      made : Twenty h c → PressHeld h c
      made t =
          let both : (eqb (kind_of t.event) 8 && is_some (held_stop_by h)) ≡ true = said _ t.row_20 in
          let press : t.event ≡ Press = press_of t.event (and_left (eqb (kind_of t.event) 8) _ both) in
          record {
            is_press = t.is_event ∙ ap accept press;
            in_RE = press-in _ (rw press at t.allowed);
            at_stop = at_held h (and_right (eqb (kind_of t.event) 8) _ both);
          }

  held_press : PressHeld h c → table_by h c ≡ refuse 20
  unfolding table_by power_rows state_row hold_row
  held_press p = rw (p.is_press, p.in_RE, there_held h p.at_stop)

-- ---- status 3

module _ (h : History) (c : Call) (x : Position) (e : event_of_call c ≡ PositionReport x) where
  abbrev j : Route
  j = route_by h

  abbrev q : Progress
  q = reported j (report_at (c ∷ h)) (progress_run h)

  -- the packet 62 of the first point not passed after the report
  abbrev told : ℕ → Packet
  told s = timing_point (route_by (c ∷ h)) (position_by (c ∷ h)) (change_in j (change q.next s q))

  told_as : (s : ℕ) → packet_bytes (told s) ≡ bytes62 (c ∷ h) (point j q.next) s
  unfolding timing_point
  told_as s = ap (λ b. packet_bytes (timing_point_of (header (route_by (c ∷ h)) (position_by (c ∷ h))) (point j q.next) s b)) same
    where
      same : end_ahead j.load (standing q) ≡ end_ahead (route_by (c ∷ h)).load (standing_by (c ∷ h))
      same =
          ap (λ (i : Route). end_ahead i.load (standing q)) (sym (route_kept c h x e))
          ∙ ap (λ p. end_ahead (route_by (c ∷ h)).load (standing p)) (sym (progress_new c h x e))
          ∙ end_ext (route_by (c ∷ h)) (standing (progress_run (c ∷ h))) (standing_by (c ∷ h)) (route-in (c ∷ h)) (stands_at (c ∷ h))

  -- both stand behind all other changes
  in_packets : became_reached j (report_at (c ∷ h)) (progress_run h) ≡ true → (point j q.next).held ≡ true
      → (before after : List Packet) × (packets_by h c ≡ before ++ (told status_stopped ∷ told status_held ∷ after))
  unfolding packets_by packets_of
  in_packets b m =
      let (l, s) = changes_held j (report_at (c ∷ h)) (progress_run h) b m in
      let packet : PointChange → Packet = timing_point (route_by (c ∷ h)) (position_by (c ∷ h)) in
      let five : List Packet = received (route_by (c ∷ h)) (position_by (c ∷ h)) (head_of_call c) in
      let both : List Packet = told status_stopped ∷ told status_held ∷ [] in
      let changes : map packet (changes_by h c) ≡ map packet (map (change_in j) l) ++ both =
      ap (map packet) (by_steps c h x e ∙ ap (map (change_in j)) s ∙ map-append (change_in j) l _) ∙ map-append packet (map (change_in j) l) _ in (
        five ++ map packet (map (change_in j) l),
        behind h c,
        ap (λ z. five ++ (z ++ behind h c)) changes
            ∙ ap (λ z. five ++ z) (append_assoc (map packet (map (change_in j) l)) both (behind h c))
            ∙ sym (append_assoc five (map packet (map (change_in j) l)) (both ++ behind h c)),
      )

module _ (h : History) (c : Call) (k : ℕ) (v : BecomesHeld h c k) where
  became : (k ≡ (reported (route_by h) (report_at (c ∷ h)) (progress_run h)).next) × (became_reached (route_by h) (report_at (c ∷ h)) (progress_run h) ≡ true)
  became =
      let l : k < point_count (route_by h) = rw (route_kept c h v.position v.is_report_lem) at v.after.reached.one_of_them in
      let there = (stands-by (c ∷ h) k v.after.reached.one_of_them Reached).1 v.after.reached.reached in
      let now = rw (progress_new c h v.position v.is_report_lem) at there in
      let not_before : ¬ (standing (progress_run h) k ≡ Reached) = λ s. v.before ((stands-by h k l Reached).0 s) in
      ((reached-only _ k now).0, (became_reached_lem (route_by h) (report_at (c ∷ h)) (progress_run h) (in-range h)).1 (k, l, (now, not_before)))

  held_written : (before after : List (List ℕ))
      × (bytes_of_each (written_by h c) ≡ before ++ (bytes62 (c ∷ h) (point (route_by h) k) status_stopped ∷ bytes62 (c ∷ h) (point (route_by h) k) status_held ∷ after))
  held_written =
      let (at, b) = became in
      let marked = rw (route_kept c h v.position v.is_report_lem, at) at v.after.marked in
      let (before, after, s) = in_packets h c v.position v.is_report_lem b marked in
      let told_so : (s : ℕ) → packet_bytes (told h c v.position v.is_report_lem s) ≡ bytes62 (c ∷ h) (point (route_by h) k) s =
      λ s. told_as h c v.position v.is_report_lem s ∙ ap (λ n. bytes62 (c ∷ h) (point (route_by h) n) s) (sym at) in (
        bytes_of_each before,
        bytes_of_each after,
        ap (λ t. bytes_of_each (packets_if h c t)) v.accepted ∙ ap bytes_of_each s ∙ bytes-append before _
            ∙ ap (λ y. bytes_of_each before ++ (y ∷ packet_bytes (told h c v.position v.is_report_lem status_held) ∷ bytes_of_each after)) (told_so status_stopped)
            ∙ ap (λ y. bytes_of_each before ++ (bytes62 (c ∷ h) (point (route_by h) k) status_stopped ∷ y ∷ bytes_of_each after)) (told_so status_held),
      )

-- ---- status 4, the hold that a load ends

module _ (h : History) (c : Call) where
  -- a stop whose hold ends is held, reached, and not kept
  ended_is : (p : Point) → hold_ended (held_stop_by h) (route_by (c ∷ h)) ≡ Some p
      → (k : ℕ) × HeldBy h k × (p ≡ point (route_by h) k) × (keeps_hold (route_by (c ∷ h)) p.nidtp ≡ false)
  unfolding hold_ended
  ended_is p e = go (held_stop_by h) refl e
    where
      by : (y : Point) (b : Bool) → keeps_hold (route_by (c ∷ h)) y.nidtp ≡ b → (if b then None else Some y) ≡ Some p
          → (y ≡ p) × (keeps_hold (route_by (c ∷ h)) p.nidtp ≡ false)
      by y true q e = cc
      by y false q e = let z : y ≡ p = cc in (z, ap (λ (o : Point). keeps_hold (route_by (c ∷ h)) o.nidtp) (sym z) ∙ q)

      go : (o : Option Point) → held_stop_by h ≡ o → hold_ended o (route_by (c ∷ h)) ≡ Some p
          → (k : ℕ) × HeldBy h k × (p ≡ point (route_by h) k) × (keeps_hold (route_by (c ∷ h)) p.nidtp ≡ false)
      go None q e = cc
      go (Some y) q e =
          let (k, l, s, r, m) = held_is (route_by h) (standing_by h) y q in
          let (same, kept) = by y _ refl e in
          let stands = (stands-by h k l Reached).0 (stands_at h k l ∙ r) in
          (k, record { reached = record { one_of_them = l; reached = stands }; marked = m }, sym same ∙ s, kept)

-- ---- nothing else has status 3

held_alone : (h : History) (c : Call) (packet : List ℕ) → In packet (bytes_of_each (written_by h c)) → Is62 packet status_held
    → (k : ℕ) × BecomesHeld h c k × (packet ≡ bytes62 (c ∷ h) (point (route_by h) k) status_held)
held_alone h c packet i t = go (which h c w.change w.one_of_them)
  where
    w : Change62 h c packet status_held
    w = change_of h c packet status_held i t

    go : Kind h c w.change → (k : ℕ) × BecomesHeld h c k × (packet ≡ bytes62 (c ∷ h) (point (route_by h) k) status_held)
    go (of_hold e) = let s : w.change.status ≡ 4 = ap (λ (d : PointChange). d.status) e.is in absurd (omega (arith, w.status_is))
    go (of_trackside t) = absurd (omega (arith, w.status_is, tells_late h c w.change t))
    go (of_driver b) = absurd (omega (arith, w.status_is, driver_late w.change.status b))
    go (of_report r) =
        let j = route_by h in
        let at = report_at (c ∷ h) in
        let p = progress_run h in
        let q = reported j at p in
        let a = recorded_held j at p r.change (member r.change _ r.one_of_them) (sym (ap (λ (d : PointChange). d.status) r.is) ∙ w.status_is) in
        let (k, l, (now, not_before)) = (became_reached_lem j at p (in-range h)).0 a.became in
        let here : k ≡ q.next = (reached-only q k now).0 in
        let kept = route_kept c h r.position r.is_report_lem in
        let below : k < point_count (route_by (c ∷ h)) = rw kept l in
        let then_now = rw (← progress_new c h r.position r.is_report_lem) at now in (
          k,
          record {
            accepted = w.accepted;
            position = r.position;
            is_report_lem = r.is_report_lem;
            after = record {
              reached = record { one_of_them = below; reached = (stands-by (c ∷ h) k below Reached).0 then_now };
              marked = ap (λ (i : Route). (point i k).held) kept ∙ ap (λ n. (point j n).held) here ∙ a.marked;
            };
            before = λ s. not_before ((stands-by h k l Reached).1 s);
          },
          w.bytes
              ∙ ap (λ d. packet_bytes (timing_point (route_by (c ∷ h)) (position_by (c ∷ h)) d)) (r.is ∙ ap (change_in j) a.is)
              ∙ told_as h c r.position r.is_report_lem status_held
              ∙ ap (λ n. bytes62 (c ∷ h) (point j n) status_held) (sym here),
        )

-- ---- status 4

revoked_alone : (h : History) (c : Call) (packet : List ℕ) → In packet (bytes_of_each (written_by h c)) → Is62 packet status_hold_revoked
    → (k : ℕ) × HoldEnds h c k × (packet ≡ bytes62 (c ∷ h) (point (route_by h) k) status_hold_revoked)
unfolding timing_point
revoked_alone h c packet i t = go (which h c w.change w.one_of_them)
  where
    w : Change62 h c packet status_hold_revoked
    w = change_of h c packet status_hold_revoked i t

    go : Kind h c w.change → (k : ℕ) × HoldEnds h c k × (packet ≡ bytes62 (c ∷ h) (point (route_by h) k) status_hold_revoked)
    go (of_report r) = absurd (omega (arith, w.status_is, report_early h c w.change r))
    go (of_trackside t) = absurd (omega (arith, w.status_is, tells_late h c w.change t))
    go (of_driver b) = absurd (omega (arith, w.status_is, driver_late w.change.status b))
    go (of_hold e) =
        let (k, held, is_point, kept) = ended_is h c e.stop e.ended in (
          k,
          record {
            accepted = w.accepted;
            is_load_lem = e.is_load_lem;
            before = held;
            not_kept = rw is_point at (kept_not (route_by (c ∷ h)) e.stop.nidtp kept);
          },
          w.bytes
              ∙ ap (λ d. packet_bytes (timing_point (route_by (c ∷ h)) (position_by (c ∷ h)) d)) e.is
              ∙ ap (λ p. bytes62 (c ∷ h) p status_hold_revoked) is_point,
        )

module _ (h : History) (c : Call) (k : ℕ) (v : HoldEnds h c k) where
  -- the held stop is the one that stands reached
  stop_is : held_stop_by h ≡ Some (point (route_by h) k)
  stop_is =
      let l = v.before.reached.one_of_them in
      let (at, r) = reached-only (progress_run h) k ((stands-by h k l Reached).1 v.before.reached.reached) in
      sym (held_is_by h) ∙ held_there (route_by h) (progress_run h) r (rw at at l) (rw at at v.before.marked) ∙ ap (λ n. Some (point (route_by h) n)) (sym at)

  ends_it : hold_ended (held_stop_by h) (route_by (c ∷ h)) ≡ Some (point (route_by h) k)
  unfolding hold_ended
  ends_it = rw (stop_is, not_kept (route_by (c ∷ h)) (point (route_by h) k).nidtp v.not_kept) refl

  revoked_written : (packet65 : List ℕ) × (after : List (List ℕ))
      × (bytes_of_each (written_by h c) ≡ packet65 ∷ bytes62 (c ∷ h) (point (route_by h) k) status_hold_revoked ∷ after) × (number_in packet65 ≡ 65)
  unfolding packets_by packets_of changes_by jp_received timing_point value_bytes
  revoked_written =
      let (d, head) = loaded-has h c v.accepted v.is_load_lem in
      let changes : changes_by h c ≡ hold_revoked (Some (point (route_by h) k)) (end_ahead (route_by (c ∷ h)).load (standing_by (c ∷ h))) ++ trackside_by h c =
      rw (v.is_load_lem, changes_by) (ap (λ o. hold_revoked o (end_ahead (route_by (c ∷ h)).load (standing_by (c ∷ h))) ++ trackside_by h c) ends_it) in
      let told = map (timing_point (route_by (c ∷ h)) (position_by (c ∷ h))) (trackside_by h c) in
      let first = jp_received (route_by (c ∷ h)) (position_by (c ∷ h)) d in
      let second = timing_point_of (header (route_by (c ∷ h)) (position_by (c ∷ h))) (point (route_by h) k) status_hold_revoked (end_ahead (route_by (c ∷ h)).load (standing_by (c ∷ h))) in
      let packets : packets_by h c ≡ first ∷ second ∷ (told ++ behind h c) = rw (head, changes) in
      (packet_bytes first, bytes_of_each (told ++ behind h c), ap (λ t. bytes_of_each (packets_if h c t)) v.accepted ∙ ap bytes_of_each packets, refl)

pub each-held : (earlier : List Call) (c : Call) → EachHeld earlier c
each-held earlier c =
    let h = history_of earlier in
    let w = (judged_next earlier c).packets in
    record {
      twenty = (press_held h c, held_press h c);
      held = λ k v. let (before, after, e) = held_written h c k v in (before, after, w ∙ e);
      held_alone = λ packet i t. held_alone h c packet (subst (In packet) w i) t;
      revoked = λ k v. let (packet65, after, e, n) = revoked_written h c k v in (packet65, after, w ∙ e, n);
      revoked_alone = λ packet i t. revoked_alone h c packet (subst (In packet) w i) t;
    }
