-- The requests of a history one after the other, and when a packet 61 or 64 stands among the packets of a call.
use Rattle.std.specs.Prelude.{if◌then◌else◌, Option, Some, None}
use mathlib.Core.Path.{◌≡◌, refl, sym, ◌∙◌, ap, subst}
use mathlib.Core.Logic.{◌↔◌, ◌⊎◌, inl, inr}
use mathlib.Core.Bool.{Bool, true, false, ◌&&◌}
use mathlib.Core.List.{List, [], ◌∷◌, ◌++◌, map}
use Prim.Native.Nat.{ℕ}
use native.Mathlib.Omega.{arith}
use lib.Dec.{leb}
use lib.ListN.{length}
use Rattle.wire.specs.Refusals.{turns_down}
use Rattle.packets.specs.Layouts.{kind65, kind_size}
use Rattle.engine_value.specs.Engine.{Route}
use Rattle.engine_value.specs.declared.Position.{Position}
use Rattle.event.specs.Kinds.{carried}
use Rattle.event.specs.declared.TractionRequest.{TractionRequest}
use Rattle.event.specs.Event.{Event}
use Rattle.adhesion.specs.declared.TemporaryConstraint.{TemporaryConstraint}
use Rattle.event.proofs.Known.{OfTraction, traction-of, OfConstraints, constraints-of}
use Rattle.journey.specs.declared.Head.{Head}
use Rattle.packets.specs.Packets.{value_bytes, packet_bytes}
use Rattle.status_word.specs.declared.OperationalConditions.{OperationalConditions}
use Rattle.packets.specs.declared.Requested.{Requested}
use Rattle.packets.specs.Packet.{Packet}
use Rattle.timing.specs.Changes.{when}
use Rattle.traction.specs.Requests.{made, forgets, with_request, remembered_after, written_content}
use Rattle.traction.specs.declared.Remembered.{Remembered}
use Rattle.traction.proofs.Laws.{changed_exactly, driving_exactly, written_inv, written_is}
use Rattle.call_values.specs.Packets.{PointChange, timing_point, jp_received, traction_brake, traction_brakes, adhesion_system, adhesion_systems, ato_status, Status, status_due, received, packets_of, jp_turned_down, packets_refused}
use Rattle.call_values.specs.Call.{Call}
use Rattle.whole_list.specs.Values.{History, event_of_call, position_by, route_by}
use Rattle.whole_list.specs.Rules.{state_by}
use Rattle.whole_list.specs.Requests.{listed, requests_since, after_requests, traction_by}
use Rattle.whole_list.specs.Table.{head_of_call, changes_by, status_by, own_by, packets_by, packets_refused_by}
use Rattle.whole_list.specs.Recorded.{number_in, In}
use Rattle.whole_list.specs.WholeList.{bytes_of_each, RequestWrites, Has, Slippery}
use Rattle.whole_list.proofs.Recorded.{bytes-append}

-- ---- one request more

after_more : (l : List TractionRequest) (m : Option Remembered) (o : Option TractionRequest) → after_requests m (l ++ listed o) ≡ with_request (after_requests m l) o
unfolding after_requests
after_more [] m None = refl
after_more [] m (Some x) = refl
after_more (y ∷ l) m o = after_more l _ o

pub remembered-is : (h : History) (c : Call) → remembered_after (state_by h) (event_of_call c) (state_by (c ∷ h)) (traction_by h) ≡ traction_by (c ∷ h)
unfolding traction_by requests_since after_requests
remembered-is h c = go (forgets (state_by h) (event_of_call c) (state_by (c ∷ h)))
  where
    o : Option TractionRequest
    o = made (state_by h) (event_of_call c)

    go : (b : Bool) → (if b then None else with_request (after_requests None (requests_since h)) o) ≡ after_requests None (if b then [] else requests_since h ++ listed o)
    go true = refl
    go false = sym (after_more (requests_since h) None o)

-- ---- packets among others

pub in_left : {A : Type 0} (x : A) (a b : List A) → In x a → In x (a ++ b)
in_left x [] b i = absurd i
in_left x (y ∷ a) b (inl e) = inl e
in_left x (y ∷ a) b (inr i) = inr (in_left x a b i)

pub in_right : {A : Type 0} (x : A) (a b : List A) → In x b → In x (a ++ b)
in_right x [] b i = i
in_right x (y ∷ a) b i = inr (in_right x a b i)

pub in-append : {A : Type 0} (x : A) (a b : List A) → In x (a ++ b) → In x a ⊎ In x b
in-append x [] b i = inr i
in-append x (y ∷ a) b (inl e) = inl (inl e)
in-append x (y ∷ a) b (inr i) = go (in-append x a b i)
  where
    go : In x a ⊎ In x b → ((x ≡ y) ⊎ In x a) ⊎ In x b
    go (inl j) = inl (inr j)
    go (inr j) = inr j

-- ---- packets of a number

module _ (n : ℕ) where
  has_append : (ps qs : List Packet) → Has n (bytes_of_each (ps ++ qs)) → Has n (bytes_of_each ps) ⊎ Has n (bytes_of_each qs)
  has_append ps qs (p, i, e) = go (in-append p (bytes_of_each ps) (bytes_of_each qs) (subst (In p) (bytes-append ps qs) i))
    where
      go : In p (bytes_of_each ps) ⊎ In p (bytes_of_each qs) → Has n (bytes_of_each ps) ⊎ Has n (bytes_of_each qs)
      go (inl j) = inl (p, j, e)
      go (inr j) = inr (p, j, e)

  has_left : (ps qs : List Packet) → Has n (bytes_of_each ps) → Has n (bytes_of_each (ps ++ qs))
  has_left ps qs (p, i, e) = (p, subst (In p) (sym (bytes-append ps qs)) (in_left p (bytes_of_each ps) (bytes_of_each qs) i), e)

  has_right : (ps qs : List Packet) → Has n (bytes_of_each qs) → Has n (bytes_of_each (ps ++ qs))
  has_right ps qs (p, i, e) = (p, subst (In p) (sym (bytes-append ps qs)) (in_right p (bytes_of_each ps) (bytes_of_each qs) i), e)

-- a packet has one number
one_number : (m n : ℕ) (p q : List ℕ) → p ≡ q → number_in q ≡ m → number_in p ≡ n → m ≡ n
one_number m n p q e i k = sym i ∙ ap number_in (sym e) ∙ k

module _ (n : ℕ) (not_65 : 65 ≡ n → ⊥) (not_62 : 62 ≡ n → ⊥) (not_68 : 68 ≡ n → ⊥) (j : Route) (x : Position) where
  none_65 : (o : Option Head) → Has n (bytes_of_each (received j x o)) → ⊥
  unfolding jp_received value_bytes
  none_65 None (p, i, k) = i
  none_65 (Some h) (p, inl e, k) = not_65 (one_number 65 n p _ e refl k)
  none_65 (Some h) (p, inr i, k) = i

  none_62 : (l : List PointChange) → Has n (bytes_of_each (map (timing_point j x) l)) → ⊥
  unfolding timing_point value_bytes
  none_62 [] (p, i, k) = i
  none_62 (c ∷ l) (p, inl e, k) = not_62 (one_number 62 n p _ e refl k)
  none_62 (c ∷ l) (p, inr i, k) = none_62 l (p, i, k)

  none_68 : (due : Bool) (s : ℕ) (c : OperationalConditions) → Has n (bytes_of_each (when due (ato_status j x s c))) → ⊥
  unfolding ato_status value_bytes
  none_68 false s c (p, i, k) = i
  none_68 true s c (p, inl e, k) = not_68 (one_number 68 n p _ e refl k)
  none_68 true s c (p, inr i, k) = i

  -- it is among those that one kind of event alone writes
  has_own : (loaded : Option Head) (changes : List PointChange) (own : List Packet) (before after : Status)
      → Has n (bytes_of_each (packets_of j x loaded changes own before after)) ↔ Has n (bytes_of_each own)
  unfolding packets_of
  has_own loaded changes own before after = (λ h. first (has_append n a (b ++ (own ++ d)) h), λ h. has_right n a (b ++ (own ++ d)) (has_right n b (own ++ d) (has_left n own d h)))
    where
      a : List Packet
      a = received j x loaded

      b : List Packet
      b = map (timing_point j x) changes

      d : List Packet
      d = when (status_due before after) (ato_status j x after.state after.conditions)

      third : Has n (bytes_of_each own) ⊎ Has n (bytes_of_each d) → Has n (bytes_of_each own)
      third (inl h) = h
      third (inr h) = absurd (none_68 (status_due before after) after.state after.conditions h)

      second : Has n (bytes_of_each b) ⊎ Has n (bytes_of_each (own ++ d)) → Has n (bytes_of_each own)
      second (inl h) = absurd (none_62 changes h)
      second (inr h) = third (has_append n own d h)

      first : Has n (bytes_of_each a) ⊎ Has n (bytes_of_each (b ++ (own ++ d))) → Has n (bytes_of_each own)
      first (inl h) = absurd (none_65 loaded h)
      first (inr h) = second (has_append n b (own ++ d) h)

-- ---- a 61 and a 64 among these

module _ (j : Route) (x : Position) (o : Option Requested) (r : Option (List TemporaryConstraint)) where
  brakes_has : (n : ℕ) → Has n (bytes_of_each (traction_brakes j x o)) → (n ≡ 61) × ((q : Requested) × (o ≡ Some q))
  unfolding traction_brake value_bytes
  brakes_has n = go o
    where
      go : (o : Option Requested) → Has n (bytes_of_each (traction_brakes j x o)) → (n ≡ 61) × ((q : Requested) × (o ≡ Some q))
      go None (p, i, k) = absurd i
      go (Some q) (p, inl e, k) = (sym (one_number 61 n p _ e refl k), (q, refl))
      go (Some q) (p, inr i, k) = absurd i

  slippery_has : (n : ℕ) → Has n (bytes_of_each (adhesion_systems j x r)) → (n ≡ 64) × ((rows : List TemporaryConstraint) × (r ≡ Some rows))
  unfolding adhesion_system value_bytes
  slippery_has n = go r
    where
      go : (r : Option (List TemporaryConstraint)) → Has n (bytes_of_each (adhesion_systems j x r)) → (n ≡ 64) × ((rows : List TemporaryConstraint) × (r ≡ Some rows))
      go None (p, i, k) = absurd i
      go (Some rows) (p, inl e, k) = (sym (one_number 64 n p _ e refl k), (rows, refl))
      go (Some rows) (p, inr i, k) = absurd i

  own_61 : Has 61 (bytes_of_each (traction_brakes j x o ++ adhesion_systems j x r)) ↔ ((q : Requested) × (o ≡ Some q))
  unfolding traction_brake value_bytes
  own_61 = (λ h. there (has_append 61 (traction_brakes j x o) (adhesion_systems j x r) h), λ w. has_left 61 (traction_brakes j x o) (adhesion_systems j x r) (back o w.0 w.1))
    where
      there : Has 61 (bytes_of_each (traction_brakes j x o)) ⊎ Has 61 (bytes_of_each (adhesion_systems j x r)) → (q : Requested) × (o ≡ Some q)
      there (inl h) = (brakes_has 61 h).1
      there (inr h) = let z : ◌≡◌ {A = ℕ} 61 64 = (slippery_has 61 h).0 in absurd (omega arith)

      back : (o : Option Requested) (q : Requested) → o ≡ Some q → Has 61 (bytes_of_each (traction_brakes j x o))
      back None q e = cc
      back (Some y) q e = (packet_bytes (traction_brake j x y), inl refl, refl)

  own_64 : Has 64 (bytes_of_each (traction_brakes j x o ++ adhesion_systems j x r)) ↔ ((rows : List TemporaryConstraint) × (r ≡ Some rows))
  unfolding adhesion_system value_bytes
  own_64 = (λ h. there (has_append 64 (traction_brakes j x o) (adhesion_systems j x r) h), λ w. has_right 64 (traction_brakes j x o) (adhesion_systems j x r) (back r w.0 w.1))
    where
      there : Has 64 (bytes_of_each (traction_brakes j x o)) ⊎ Has 64 (bytes_of_each (adhesion_systems j x r)) → (rows : List TemporaryConstraint) × (r ≡ Some rows)
      there (inl h) = let z : ◌≡◌ {A = ℕ} 64 61 = (brakes_has 64 h).0 in absurd (omega arith)
      there (inr h) = (slippery_has 64 h).1

      back : (r : Option (List TemporaryConstraint)) (rows : List TemporaryConstraint) → r ≡ Some rows → Has 64 (bytes_of_each (adhesion_systems j x r))
      back None rows e = cc
      back (Some y) rows e = (packet_bytes (adhesion_system j x y), inl refl, refl)

-- ---- a request that writes

module _ (h : History) (c : Call) where
  abbrev written : Option Requested
  written = written_content (state_by h) (event_of_call c) (traction_by h) (traction_by (c ∷ h))

  request_writes : ((r : Requested) × (written ≡ Some r)) ↔ RequestWrites h c
  request_writes = (λ w. there w.0 w.1, back)
    where
      event_of_lem : (x : TractionRequest) → (carried (event_of_call c)).traction ≡ Some x → event_of_call c ≡ Event.Traction x
      event_of_lem x q = subst (λ (o : Option TractionRequest). OfTraction o (event_of_call c)) q (traction-of (event_of_call c))

      there : (r : Requested) → written ≡ Some r → RequestWrites h c
      there r q =
          let w = written_inv (state_by h) (event_of_call c) (traction_by h) (traction_by (c ∷ h)) r q in
          record {
            request = w.2.0;
            is_request = event_of_lem w.2.0 w.2.1;
            in_state_lem = (driving_exactly (state_by h)).0 w.0;
            changed = (changed_exactly (traction_by h) (traction_by (c ∷ h))).0 w.1;
          }

      back : RequestWrites h c → (r : Requested) × (written ≡ Some r)
      back w = (
        w.request.content,
        written_is (state_by h) (event_of_call c) (traction_by h) (traction_by (c ∷ h)) w.request ((driving_exactly (state_by h)).1 w.in_state_lem)
            ((changed_exactly (traction_by h) (traction_by (c ∷ h))).1 w.changed) (ap (λ (e : Event). (carried e).traction) w.is_request),
      )

  among_own : (n : ℕ) → (65 ≡ n → ⊥) → (62 ≡ n → ⊥) → (68 ≡ n → ⊥) → Has n (bytes_of_each (packets_by h c)) ↔ Has n (bytes_of_each (own_by h c))
  unfolding packets_by
  among_own n a b d = has_own n a b d (route_by (c ∷ h)) (position_by (c ∷ h)) (head_of_call c) (changes_by h c) (own_by h c) (status_by h) (status_by (c ∷ h))

  pub traction_exactly : Has 61 (bytes_of_each (packets_by h c)) ↔ RequestWrites h c
  traction_exactly =
      let p = among_own 61 (λ e. omega arith) (λ e. omega arith) (λ e. omega arith) in
      let q = own_61 (route_by (c ∷ h)) (position_by (c ∷ h)) written (carried (event_of_call c)).constraints in
      (λ x. request_writes.0 (q.0 (p.0 x)), λ x. p.1 (q.1 (request_writes.1 x)))

  -- ---- slippery rail

  pub slippery_exactly : Has 64 (bytes_of_each (packets_by h c)) ↔ Slippery c
  slippery_exactly =
      let p = among_own 64 (λ e. omega arith) (λ e. omega arith) (λ e. omega arith) in
      let q = own_64 (route_by (c ∷ h)) (position_by (c ∷ h)) written (carried (event_of_call c)).constraints in
      (λ x. there (q.0 (p.0 x)), λ s. p.1 (q.1 (s.rows, ap (λ (e : Event). (carried e).constraints) s.is_adhesion)))
    where
      there : (rows : List TemporaryConstraint) × ((carried (event_of_call c)).constraints ≡ Some rows) → Slippery c
      there (rows, e) = record {
        rows = rows;
        is_adhesion = subst (λ (o : Option (List TemporaryConstraint)). OfConstraints o (event_of_call c)) e (constraints-of (event_of_call c));
      }

  -- a refused call writes none
  pub refused_none : (n : ℕ) → Has 64 (bytes_of_each (packets_refused_by h c n)) → ⊥
  unfolding packets_refused jp_turned_down value_bytes
  refused_none n = go (turns_down n && leb (kind_size kind65) (length c.memory))
    where
      go : (b : Bool) → Has 64 (bytes_of_each (when b (jp_turned_down (route_by h) (position_by h)))) → ⊥
      go true (p, inl e, k) = let z : ◌≡◌ {A = ℕ} 65 64 = one_number 65 64 p _ e refl k in omega arith
      go true (p, inr i, k) = i
      go false (p, i, k) = i
