-- The sentences, from what std's searches find.
use Rattle.std.specs.Prelude.{Option, Some, None, is_some, option_map}
use Rattle.std.specs.List.{find, position_or_len, slice_get}
use Prim.Native.Nat.{ℕ, ◌+◌, ◌<◌, ◌≤◌}
use mathlib.Core.Path.{◌≡◌, refl, sym, ap, ◌∙◌}
use mathlib.Core.Logic.{◌↔◌, ◌⊎◌, inl, inr}
use mathlib.Core.List.{List}
use mathlib.Core.Bool.{Bool, true, false, false≢true}
use native.Mathlib.Omega.{arith}
use lib.ListN.{length, get_or, take, get_or-eq_default}
use lib.Dec.{eqb, leb}
use borrow.Author.Tests.{eq-eqb, eqb-true, eqb-false, leb-true, le-leb, lt-ltb, le-ltb, ne_eqb}
use Rattle.std.proofs.lemmas.Bool.{cases_lt, false_from_ne_true}
use Rattle.std.proofs.lemmas.List.{get_or-take, length-take}
use Rattle.std.proofs.lemmas.List.Folds.{find_at}
use Rattle.std.proofs.lemmas.List.Sums.{position_or_len_is, passes_at_first, fails_before_first}
use Rattle.std.proofs.lemmas.List.Quantifiers.{position-Some}
use Rattle.std.proofs.lemmas.Option.{slice_get-get_or, slice_get_past}
use Rattle.wire.proofs.ListLaws.{and_left, and_right}
use Rattle.engine_value.specs.Engine.{Route, blank_segment, blank_point, undefined}
use Rattle.engine_value.specs.declared.Segment.{Segment}
use Rattle.engine_value.specs.declared.Point.{Point}
use Rattle.engine_value.specs.declared.Position.{Position}
use Rattle.position.specs.declared.Named.{Named}
use Rattle.position.specs.Position.{point_count, bears, named, segment_named, listed, front, front_at, known}
use Rattle.position.specs.Skips.{is_stop, stop_named}
use Rattle.position.specs.Sentences.{segment, Bears, IsNamed, KnownIn, IsStop, Sentences}

-- ---- the first element that passes a test

module _ {X : Type 0} (f : X → Bool) (d : X) (l : List X) where
  pub record Hit (k : ℕ) : Type 0 where
    pub there : k < length l
    pub holds : f (get_or l k d) ≡ true
    pub none_before : (i : ℕ) → i < k → f (get_or l i d) ≡ false

  hit_place : (k : ℕ) → Hit k → position_or_len f l ≡ k
  hit_place k h = position_or_len_is f l k d (omega (arith, h.there)) h.none_before (λ _. h.holds)

  place_hit : position_or_len f l < length l → Hit (position_or_len f l)
  place_hit h = record { there = h; holds = passes_at_first f l d h; none_before = λ i q. fails_before_first f l i d q }

  pub hit_found : (k : ℕ) → Hit k → find f l ≡ Some (get_or l k d)
  hit_found k h = find_at f l ∙ ap (slice_get l) (hit_place k h) ∙ slice_get-get_or l k d h.there

  pub found_hit : is_some (find f l) ≡ true → (k : ℕ) × Hit k
  found_hit e = go (cases_lt (position_or_len f l) (length l))
    where
      go : (position_or_len f l < length l) ⊎ (length l ≤ position_or_len f l) → (k : ℕ) × Hit k
      go (inl h) = (position_or_len f l, place_hit h)
      go (inr h) = absurd (false≢true (sym (ap is_some (find_at f l ∙ slice_get_past l _ h)) ∙ e))

  -- where any passes
  pub some_found : (k : ℕ) → k < length l → f (get_or l k d) ≡ true → is_some (find f l) ≡ true
  some_found k q t = go (cases_lt (position_or_len f l) (length l))
    where
      go : (position_or_len f l < length l) ⊎ (length l ≤ position_or_len f l) → is_some (find f l) ≡ true
      go (inl h) = ap is_some (hit_found (position_or_len f l) (place_hit h))
      go (inr h) = absurd (false≢true (sym (fails_before_first f l k d (omega arith)) ∙ t))

-- ---- the position

bears-true : (x : Position) (s : Segment) → bears x.nidc x.nidsp s ≡ true → Bears x s
bears-true x s e = (eqb-true _ _ (and_left (eqb s.nidc x.nidc) _ e), eqb-true _ _ (and_right (eqb s.nidc x.nidc) _ e))

true-bears : (x : Position) (s : Segment) → Bears x s → bears x.nidc x.nidsp s ≡ true
true-bears x s (c, n) = rw (eq-eqb _ _ c, eq-eqb _ _ n)

module _ (j : Route) (x : Position) where
  abbrev bearer : Segment → Bool
  bearer s = bears x.nidc x.nidsp s

  pub named_at : (k : ℕ) → IsNamed j x k → segment_named j x ≡ Some (named x.offset (segment j k))
  named_at k h =
      ap (option_map (named x.offset)) (hit_found bearer blank_segment (listed j) k (record {
        there = h.in_journey;
        holds = true-bears x (segment j k) h.bears_name;
        none_before = λ i q. false_from_ne_true (bearer (segment j i)) (λ e. h.none_before i q (bears-true x (segment j i) e));
      }))

  pub found_at : is_some (segment_named j x) ≡ true → (k : ℕ) × IsNamed j x k
  found_at e =
      let (k, h) = found_hit bearer blank_segment (listed j) (mapped (find bearer (listed j)) e) in
      let none : (i : ℕ) → i < k → ¬ Bears x (segment j i) = λ i q b. false≢true (sym (h.none_before i q) ∙ true-bears x (segment j i) b) in
      (k, record { in_journey = h.there; bears_name = bears-true x (segment j k) h.holds; none_before = none })
    where
      mapped : (r : Option Segment) → is_some (option_map (named x.offset) r) ≡ true → is_some r ≡ true
      mapped None e = e
      mapped (Some s) e = refl

  known_front : (k : ℕ) → KnownIn j x k → front_at j x ≡ Some ((segment j k).start + x.offset)
  unfolding front
  known_front k h = rw (named_at k h.its_segment, ne_eqb _ _ h.offset_defined_lem, h.segment_placed, le-leb _ _ h.within)

  -- what the test of `front` says
  tested : (r : Option Named) → is_some (front r x) ≡ true → (s : Named) × (r ≡ Some s) × (¬ (x.offset ≡ undefined)) × (s.placed ≡ true) × (x.offset ≤ s.length)
  unfolding front
  tested None e = absurd (false≢true e)
  tested (Some s) e = go _ refl _ refl _ refl
    where
      go : (a : Bool) → eqb x.offset undefined ≡ a → (c : Bool) → s.placed ≡ c → (d : Bool) → leb x.offset s.length ≡ d
          → (u : Named) × (Some s ≡ Some u) × (¬ (x.offset ≡ undefined)) × (u.placed ≡ true) × (x.offset ≤ u.length)
      go true p c r d t = absurd (false≢true (rw p at e))
      go false p false r d t = absurd (false≢true (rw (p, r) at e))
      go false p true r false t = absurd (false≢true (rw (p, r, t) at e))
      go false p true r true t = (s, refl, eqb-false _ _ p, r, leb-true _ _ t)

  front_known : known j x ≡ true → (k : ℕ) × KnownIn j x k
  front_known e =
      let (s, q, u, p, l) = tested (segment_named j x) e in
      let (k, h) = found_at (ap is_some q) in
      let n : named x.offset (segment j k) ≡ s = cc (named_at k h) in
      (k, record { offset_defined_lem = u; its_segment = h; segment_placed = ap (λ s. s.placed) n ∙ p; within = rw (← n) at l })

-- ---- the stop

module _ (j : Route) (t : ℕ) where
  abbrev stops : List Point
  stops = take (point_count j) j.points

  -- a point of that name that is a stop: then the array has it, since behind it there is none
  hit-is : (k : ℕ) → (k < length stops) × (is_stop t (get_or stops k blank_point) ≡ true) → IsStop j t k
  hit-is k (h, e) =
      let l : k < point_count j = omega (arith, length-take (point_count j) j.points) in
      let f = rw (get_or-take (point_count j) j.points k blank_point l) at e in
      (l, and_left _ _ f, eqb-true _ _ (and_right _ _ f))

  is-hit : (k : ℕ) → IsStop j t k → (k < length stops) × (is_stop t (get_or stops k blank_point) ≡ true)
  is-hit k (l, s, n) = (in_array (cases_lt k (length j.points)), rw (get_or-take (point_count j) j.points k blank_point l, s, eq-eqb _ _ n))
    where
      in_array : (k < length j.points) ⊎ (length j.points ≤ k) → k < length stops
      in_array (inl h) = omega (arith, length-take (point_count j) j.points)
      in_array (inr h) = absurd (false≢true (sym (ap (λ p. p.stop) (get_or-eq_default j.points blank_point h)) ∙ s))

  stop_at_lem : (k : ℕ) → (stop_named j t ≡ Some k) ↔ (IsStop j t k × ((i : ℕ) → i < k → ¬ IsStop j t i))
  unfolding stop_named
  stop_at_lem k = (there, back)
    where
      there : stop_named j t ≡ Some k → IsStop j t k × ((i : ℕ) → i < k → ¬ IsStop j t i)
      there e =
          let (h, y, n) = position-Some (is_stop t) stops k blank_point e in
          (hit-is k (h, y), λ i l s. false≢true (sym (n i l) ∙ (is-hit i s).1))

      back : IsStop j t k × ((i : ℕ) → i < k → ¬ IsStop j t i) → stop_named j t ≡ Some k
      back (s, n) =
          let (h, y) = is-hit k s in
          let e = position_or_len_is (is_stop t) stops k blank_point (omega arith)
          (λ i l. false_from_ne_true _ (λ q. n i l (hit-is i (omega arith, q)))) (λ _. y) in
          rw (e, lt-ltb _ _ h)

  stop_none : (stop_named j t ≡ None) ↔ ((k : ℕ) → ¬ IsStop j t k)
  unfolding stop_named
  stop_none = (there, back)
    where
      place : ℕ
      place = position_or_len (is_stop t) stops

      there : stop_named j t ≡ None → (k : ℕ) → ¬ IsStop j t k
      there e k s = go (cases_lt place (length stops))
        where
          go : (place < length stops) ⊎ (length stops ≤ place) → ⊥
          go (inl h) = false≢true (sym (ap is_some e) ∙ rw (lt-ltb _ _ h))
          go (inr h) =
              let (l, y) = is-hit k s in
              false≢true (sym (fails_before_first (is_stop t) stops k blank_point (omega arith)) ∙ y)

      back : ((k : ℕ) → ¬ IsStop j t k) → stop_named j t ≡ None
      back n = go (cases_lt place (length stops))
        where
          go : (place < length stops) ⊎ (length stops ≤ place) → stop_named j t ≡ None
          go (inl h) = absurd (n place (hit-is place (h, passes_at_first (is_stop t) stops blank_point h)))
          go (inr h) = rw (le-ltb _ _ h)

front-is : (j : Route) (x : Position) (f : ℕ) → (front_at j x ≡ Some f) ↔ ((k : ℕ) × KnownIn j x k × (f ≡ (segment j k).start + x.offset))
front-is j x f = (there, λ h. known_front j x h.0 h.1 ∙ ap Some (sym h.2))
  where
    there : front_at j x ≡ Some f → (k : ℕ) × KnownIn j x k × (f ≡ (segment j k).start + x.offset)
    there e =
        let (k, h) = front_known j x (ap is_some e) in
        let g = known_front j x k h in
        (k, h, cc)

pub sentences : Sentences
sentences = record {
  position_known = λ j x. (front_known j x, λ h. ap is_some (known_front j x h.0 h.1));
  front_there = front-is;
  stop_there = stop_at_lem;
  no_stop = stop_none;
}
