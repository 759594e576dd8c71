-- Packets put one behind the other, and their sizes.
use Rattle.std.proofs.Common.{ℕ, zero, suc, ◌+◌, ◌-◌, ◌*◌, ◌≤◌, ◌<◌, ◌≡◌, refl, sym, ap, ◌∙◌, List, [], ◌∷◌, ◌++◌, map, length, arith, append_assoc, min, Option, Some, None, Bool, true, false, inl, inr}
use Rattle.std.specs.Prelude.{option_map}
use mathlib.Core.List.{map-append, append-nil}
use lib.ListN.{drop, get_or, length-append, length-map, drop_of_length-le}
use lib.Seq.{sets}
use mir.Val.{bool_byte}
use Rattle.std.specs.Option.{is_some}
use Rattle.std.specs.Bool.{then_some}
use Rattle.std.proofs.lemmas.Bool.{cases_lt}
use Rattle.std.proofs.lemmas.List.{drop_more}
use Rattle.std.proofs.Math.Nat.{min-eq_left, min-eq_right}
use Rattle.wire.proofs.NumberLaws.{sets_more, sets_past}
use Rattle.engine_value.specs.Engine.{Route, route_in, progress}
use Rattle.engine_value.specs.declared.Position.{Position}
use Rattle.engine_value.specs.declared.Point.{Point}
use Rattle.engine_value.specs.declared.Progress.{Progress}
use Rattle.engine_value.specs.declared.Engine.{Engine}
use Rattle.packets.specs.Packets.{packet_bytes, joined, size_of}
use Rattle.adhesion.specs.View.{constraints_view}
use Rattle.adhesion.specs.declared.TemporaryConstraint.{TemporaryConstraint}
use Rattle.packets.proofs.PacketLaws.{length-packet_bytes, length-one, joined-append, size_64 as size_of_rows}
use Rattle.packets.specs.Packet.{Packet}
use Rattle.packets.specs.declared.Packet as code_packet
use Rattle.packets.specs.View.{packet_view}
use Rattle.packets.specs.declared.Requested.{Requested}
use Rattle.packets.specs.declared.PointStatus.{PointStatus}
use Rattle.status_word.specs.declared.OperationalConditions.{OperationalConditions}
use Rattle.timing.specs.Changes.{Change, change, passings, status_passed, when}
use Rattle.position.specs.Standing.{standing}
use Rattle.conditions.specs.Conditions.{end_ahead}
use Rattle.call.specs.Packets.{change_in, changes_in}
use Rattle.call_values.specs.Packets.{Status, header, hold_revoked, timing_point, traction_brake, traction_brakes, adhesion_system, adhesion_systems, ato_status, status_due, country, received, in_order, packets_of, jp_received}
use Rattle.trackside.specs.View.{change_of, changes_from}
use Rattle.event_packets.specs.View.{listed, change_view, told_hold, told_view, changes_view, jp_received_view, revoked_packet, packets62, packets_view, Put}
use Rattle.event_packets.specs.declared.Received.{Received}
use Rattle.event_packets.specs.declared.Change as code
use Rattle.event_packets.specs.declared.Writes.{Writes}

-- ---- sizes

length-listed : {A : Type 0} (o : Option A) → length (listed o) ≡ bool_byte (is_some o)
length-listed None = refl
length-listed (Some a) = refl

length-passings : (n k : ℕ) → length (passings n k) ≡ n
unfolding passings
length-passings zero k = refl
length-passings (suc n) k = ap suc (length-passings n (k + 1))

module _ (e : Engine) where
  size_62 : (l : List Change) → length (joined (packets62 e l)) ≡ 25 * length l
  unfolding timing_point
  size_62 [] = refl
  size_62 (c ∷ l) = simp (length-append, length-packet_bytes, size_62 l) (omega arith)

  size_ended : (o : Option Point) → length (joined (map (timing_point (route_in e) e.train.position) (hold_revoked o (end_ahead e.load (standing e.progress))))) ≡ 25 * bool_byte (is_some o)
  unfolding timing_point
  size_ended None = refl
  size_ended (Some p) = simp (length-append, length-packet_bytes) (omega arith)

  size_65 : (o : Option Received) → length (joined (map (jp_received_view e) (listed o))) ≡ 29 * bool_byte (is_some o)
  size_65 None = refl
  size_65 (Some r) = simp (length-append, length-packet_bytes) (omega arith)

  size_61 : (o : Option Requested) → length (joined (traction_brakes (route_in e) e.train.position o)) ≡ 22 * bool_byte (is_some o)
  unfolding traction_brake
  size_61 None = refl
  size_61 (Some r) = simp (length-append, length-packet_bytes) (omega arith)

  size_68 : (o : Option OperationalConditions) → length (joined (map (ato_status (route_in e) e.train.position e.control.state) (listed o))) ≡ 19 * bool_byte (is_some o)
  unfolding ato_status
  size_68 None = refl
  size_68 (Some r) = simp (length-append, length-packet_bytes) (omega arith)

  -- "16 shorter than this event's packets": their size, with nothing written yet
  pub size_in : (w : Writes)
      → 29 * bool_byte (is_some w.received)
      + 25 * (bool_byte (is_some (told_hold w.told)) + length (told_view e.progress w.told) + (bool_byte (is_some w.changes.first) + (w.changes.to - w.changes.from) + (bool_byte (is_some w.changes.last) + bool_byte (is_some w.changes.held)))) + 22 * bool_byte (is_some w.requested)
      + length (joined (adhesion_systems (route_in e) e.train.position (option_map constraints_view w.constraints))) + 19 * bool_byte (is_some w.status)
      ≡ length (joined (packets_view e w))
  size_in w = sym (simp (joined-append, length-append, map-append, size_65, size_ended, size_62, size_61, size_68, length-map, length-listed, length-passings) (omega arith))

-- of a packet 64: 18, and 16 a row
pub size_64 : (j : Route) (x : Position) (rows : List TemporaryConstraint) → length (joined (adhesion_systems j x (Some rows))) ≡ 18 + 16 * length rows
unfolding adhesion_system
size_64 j x rows = length-one (adhesion_system j x rows) (18 + 16 * length rows) (omega (arith, size_of_rows (header j x) rows))

-- ---- packets put one behind the other

-- bytes put, and what is put behind them: the memory may end before
behind : (bs more l : List ℕ) (at : ℕ) → sets (sets l at bs) (min at (length l) + length bs) more ≡ sets l at (bs ++ more)
behind bs more l at =
    elim (cases_lt (length l) at) [
      | inl past ↦
          let here : length l ≤ at = omega arith in
          let there : length l ≤ length l + length bs = omega arith in
          rw (min-eq_right here, sets_past bs l at here, sets_past more l (length l + length bs) there, sets_past (bs ++ more) l at here)
      | inr within ↦ rw (min-eq_left within) (sets_more bs more l at)
    ]

pub put_one : (o : Option code_packet.Packet) (p : code_packet.Packet) (l m : List ℕ) (at a n : ℕ) → o ≡ Some p → m ≡ sets l at (packet_bytes (packet_view p)) → a ≡ min at (length l) → n ≡ size_of (packet_view p)
    → Put at (listed (option_map packet_view o)) l m (a + n)
put_one o p l m at a n q t k z = λ more.
    let b = packet_bytes (packet_view p) in
    let i : n ≡ length b = z ∙ sym (length-packet_bytes (packet_view p)) in
    rw (q, t, k, i, append-nil b) (behind b more l at)

-- one more behind what is put already
pub put_then : (a b : List Packet) (l m n : List ℕ) (i j k : ℕ) → Put i a l m j → Put j b m n k → Put i (a ++ b) l n k
put_then a b l m n i j k s t = λ more.
    let e : joined a ++ (joined b ++ more) ≡ joined (a ++ b) ++ more = simp (joined-append, append_assoc) in
    t more ∙ s (joined b ++ more) ∙ ap (sets l i) e

pub put_all : (a : List Packet) (l m : List ℕ) (i : ℕ) → Put 0 a l m i → m ≡ sets l 0 (joined a)
put_all a l m i t = t [] ∙ ap (sets l 0) (append-nil (joined a))

-- the packets of an event, kind by kind
module _ (e : Engine) where
  listed_map : {A B : Type 0} (f : A → B) (o : Option A) → listed (option_map f o) ≡ map f (listed o)
  listed_map f None = refl
  listed_map f (Some a) = refl

  abbrev pub changed : code.Change → Packet
  changed c = timing_point (route_in e) e.train.position (change_in (route_in e) (change_view c))

  listed_change : (o : Option code.Change) → listed (option_map changed o) ≡ packets62 e (map change_view (listed o))
  listed_change None = refl
  listed_change (Some c) = refl

  listed_ended : (o : Option Point) → listed (option_map (revoked_packet e) o) ≡ map (timing_point (route_in e) e.train.position) (hold_revoked o (end_ahead e.load (standing e.progress)))
  listed_ended None = refl
  listed_ended (Some p) = refl

  listed_brake : (o : Option Requested) → listed (option_map (traction_brake (route_in e) e.train.position) o) ≡ traction_brakes (route_in e) e.train.position o
  listed_brake None = refl
  listed_brake (Some r) = refl

  listed_rows : (o : Option (List TemporaryConstraint)) → listed (option_map (adhesion_system (route_in e) e.train.position) o) ≡ adhesion_systems (route_in e) e.train.position o
  listed_rows None = refl
  listed_rows (Some r) = refl

  pub in_kinds : (w : Writes)
      → ((((((((listed (option_map (jp_received_view e) w.received) ++ listed (option_map (revoked_packet e) (told_hold w.told)))
      ++ packets62 e (told_view e.progress w.told)) ++ listed (option_map changed w.changes.first)) ++ packets62 e (passings (w.changes.to - w.changes.from) w.changes.from))
      ++ listed (option_map changed w.changes.last)) ++ listed (option_map changed w.changes.held))
      ++ listed (option_map (traction_brake (route_in e) e.train.position) w.requested))
      ++ listed (option_map (adhesion_system (route_in e) e.train.position) (option_map constraints_view w.constraints)))
      ++ listed (option_map (ato_status (route_in e) e.train.position e.control.state) w.status)
      ≡ packets_view e w
  in_kinds w =
      rw (listed_map (jp_received_view e) w.received, listed_map (ato_status (route_in e) e.train.position e.control.state) w.status, listed_ended (told_hold w.told), listed_change w.changes.first, listed_change w.changes.last, listed_change w.changes.held, listed_brake w.requested, listed_rows (option_map constraints_view w.constraints))
      (simp (map-append, append_assoc))

-- ---- the passings: what is left to put, behind what is there, is the whole
module _ (e : Engine) (to k : ℕ) where
  pub passed_end : to ≤ k → (l more : List ℕ) (i : ℕ) → sets l i more ≡ sets l i (joined (packets62 e (passings (to - k) k)) ++ more)
  unfolding passings
  passed_end h l more i = let z : to - k ≡ 0 = omega arith in rw z

  pub passed_next : k < to → (p : code_packet.Packet) (s : ℕ) → s ≡ status_passed
      → packet_view p ≡ timing_point (route_in e) e.train.position (change_in (route_in e) (change k s (progress (k + 1) false)))
      → (l m : List ℕ) (i j : ℕ) → Put i (packet_view p ∷ []) l m j
      → (more : List ℕ) → sets m j (joined (packets62 e (passings (to - (k + 1)) (k + 1))) ++ more) ≡ sets l i (joined (packets62 e (passings (to - k) k)) ++ more)
  unfolding passings
  passed_next h p s r q l m i j t more =
      let z : to - k ≡ suc (to - (k + 1)) = omega arith in
      t (joined (packets62 e (passings (to - (k + 1)) (k + 1))) ++ more) ∙ rw (z, q, r) (simp (append-nil, append_assoc))

-- ---- the points that a load tells of, from point k on
module _ (e : Engine) (p : Progress) (l : List (Option PointStatus)) (k : ℕ) where
  abbrev from : ℕ → List Packet
  from i = packets62 e (changes_from p i (drop i l))

  pub told_end : length l ≤ k → (m more : List ℕ) (i : ℕ) → sets m i more ≡ sets m i (joined (from k) ++ more)
  told_end h m more i = rw (drop_of_length-le l {i = k} h)

  -- the one of point k, and the rest
  from_next : k < length l → from k ≡ listed (option_map (λ (c : Change). timing_point (route_in e) e.train.position (change_in (route_in e) c)) (change_of p (k, get_or l k None))) ++ from (k + 1)
  from_next h = ap (λ (r : List (Option PointStatus)). packets62 e (changes_from p k r)) (drop_more l k None h) ∙ go (get_or l k None)
    where
      go : (o : Option PointStatus) → packets62 e (changes_from p k (o ∷ drop (k + 1) l))
          ≡ listed (option_map (λ (c : Change). timing_point (route_in e) e.train.position (change_in (route_in e) c)) (change_of p (k, o))) ++ from (k + 1)
      go None = refl
      go (Some s) = refl

  pub told_next : k < length l → (o : Option code_packet.Packet)
      → option_map packet_view o ≡ option_map (λ (c : Change). timing_point (route_in e) e.train.position (change_in (route_in e) c)) (change_of p (k, get_or l k None))
      → (m n : List ℕ) (i j : ℕ) → Put i (listed (option_map packet_view o)) m n j
      → (more : List ℕ) → sets n j (joined (from (k + 1)) ++ more) ≡ sets m i (joined (from k) ++ more)
  told_next h o q m n i j t more =
      t (joined (from (k + 1)) ++ more)
      ∙ rw (q, from_next h) (simp (joined-append, append_assoc))

-- ---- the packets are those of an event

-- a packet 65, where there is one, has the country of the position
pub received_is : (m : Engine) (o : Option Received) → ((r : Received) → o ≡ Some r → r.nidc ≡ country (route_in m) m.train.position)
    → map (jp_received_view m) (listed o) ≡ received (route_in m) m.train.position (option_map (λ (r : Received). r.head) o)
unfolding jp_received
received_is m None n = refl
received_is m (Some r) n = rw (n r refl)

pub status_is : {A B : Type 0} (g : A → B) (b : Bool) (a : A) → map g (listed (then_some b a)) ≡ when b (g a)
status_is g true a = refl
status_is g false a = refl

pub packets_in : (m : Engine) (w : Writes) (own : Option Requested) (rows : Option (List TemporaryConstraint)) (before after : Status)
    → ((r : Received) → w.received ≡ Some r → r.nidc ≡ country (route_in m) m.train.position)
    → w.status ≡ then_some (status_due before after) after.conditions → m.control.state ≡ after.state → w.requested ≡ own → option_map constraints_view w.constraints ≡ rows
    → packets_view m w ≡ packets_of (route_in m) m.train.position (option_map (λ (r : Received). r.head) w.received) (changes_in m (told_hold w.told) (told_view m.progress w.told ++ changes_view w.changes)) (traction_brakes (route_in m) m.train.position own ++ adhesion_systems (route_in m) m.train.position rows) before after
unfolding packets_of
packets_in m w own rows before after n d s o r =
    let five = received_is m w.received n in
    let eight : map (ato_status (route_in m) m.train.position m.control.state) (listed w.status)
    ≡ when (status_due before after) (ato_status (route_in m) m.train.position after.state after.conditions)
    = ap (λ x. map (ato_status (route_in m) m.train.position m.control.state) (listed x)) d
    ∙ status_is (ato_status (route_in m) m.train.position m.control.state) (status_due before after) after.conditions
    ∙ ap (λ k. when (status_due before after) (ato_status (route_in m) m.train.position k after.conditions)) s in
    λ i. in_order (five i) (map (timing_point (route_in m) m.train.position) (changes_in m (told_hold w.told) (told_view m.progress w.told ++ changes_view w.changes))) (traction_brakes (route_in m) m.train.position (o i) ++ adhesion_systems (route_in m) m.train.position (r i)) (eight i)
