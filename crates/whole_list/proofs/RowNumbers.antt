-- The numbers with which the rows of each place of the table refuse.
use Rattle.std.specs.Prelude.{if◌then◌else◌, Option, Some, None}
use mathlib.Core.Path.{◌≡◌, refl, sym, ◌∙◌, ap}
use mathlib.Core.Logic.{inl, inr, ◌↔◌}
use mathlib.Core.Bool.{Bool, true, false, not, ◌&&◌, ◌||◌}
use mathlib.Core.List.{List, [], ◌∷◌, ◌++◌}
use Prim.Native.Nat.{ℕ, suc, ◌+◌}
use lib.Dec.{eqb, ltb}
use lib.ListN.{length, get_or}
use Rattle.wire.specs.Judged.{Judged, then_judge, row}
use Rattle.wire.specs.Judged.Judged.{refuse, accept}
use Rattle.wire.specs.Lists.{every, any, twice, falls, strictly_rises}
use Rattle.wire.proofs.ListLaws.{and_left, and_right}
use Rattle.layout.specs.Body.{body_size, body_at, body_fits}
use Rattle.engine_value.specs.Engine.{max_segments}
use Rattle.engine_value.specs.declared.Point.{Point}
use Rattle.event.specs.Event.{Event}
use Rattle.packets.specs.Packets.{joined}
use Rattle.adhesion.specs.Constraints.{reversed}
use Rattle.event.specs.Kinds.{Content, kind, kinds, kind_of, event_constraints, Role, off, load, report, other, skip}
use Rattle.event.specs.Events.{event_rows, event_with, content_among, event_of_kind, event_of}
use Rattle.fields.specs.Parse.{Parse, read, whole}
use Rattle.fields.specs.Parse.Parse.{bad, good}
use Rattle.segment_record.specs.Record.{BookSegment}
use Rattle.book.specs.Book.{records}
use Rattle.book.specs.Table.{same_segment, nidtp_twice, book_of}
use Rattle.journey.specs.Journey.{JourneyValue, journey_record, journey_value}
use Rattle.journey_rows.specs.Rows.{same_name, index_beyond, nidtps, ends, indices, places}
use Rattle.route.specs.Placing.{points_of}
use Rattle.route.specs.Table.{point_missing, checked, journey_of}
use Rattle.route.specs.Route.{LoadValue, load_value, load_of}
use Rattle.position.specs.Position.{segment_named}
use Rattle.position.specs.Skips.{stop_named}
use Rattle.state_codes.specs.Codes.{is}
use Rattle.state_codes.specs.Numbers.{power_rows, state_row}
use Rattle.state_codes.specs.declared.State.{State}
use Rattle.state_codes.specs.declared.State.TheVariants.{NP}
use Rattle.hold.specs.Hold.{hold_row}
use Rattle.call_values.specs.Rows.{offset_beyond}
use Rattle.call_values.specs.Call.{Call}
use Rattle.whole_list.specs.Values.{History, role_of_call, position_by, route_by}
use Rattle.whole_list.specs.Rules.{state_by}
use Rattle.whole_list.specs.Table.{held_stop_by, packets_by, skip_rows, kind_rows, table_by}
use Rattle.whole_list.specs.Recorded.{In}
use Rattle.whole_list.proofs.Requests.{in_left, in_right}

-- where it refuses, its number is one of these
abbrev pub Refuses : {A : Type 0} → List ℕ → Judged A → Type 0
Refuses l p = (n : ℕ) → p ≡ refuse n → In n l

-- of which f holds of none
pub none_of : (f : ℕ → Bool) (l : List ℕ) → every (λ m. not (f m)) l ≡ true → (n : ℕ) → In n l → f n ≡ false
none_of f [] e n i = absurd i
none_of f (m ∷ l) e n (inl q) = ap f q ∙ go (f m) (and_left (not (f m)) _ e)
  where
    go : (b : Bool) → not b ≡ true → b ≡ false
    go true e = sym e
    go false e = refl
none_of f (m ∷ l) e n (inr i) = none_of f l (and_right (not (f m)) _ e) n i

then-refuses : {A B : Type 0} (k l : List ℕ) (p : Judged A) (f : A → Judged B) → Refuses k p → ((a : A) → Refuses l (f a)) → Refuses (k ++ l) (then_judge p f)
then-refuses k l (refuse m) f h g n e = in_left n k l (h n (let z : m ≡ n = cc in ap refuse z))
then-refuses k l (accept a) f h g n e = in_right n k l (g a n e)

row_refuses : (m : ℕ) (b : Bool) → Refuses (m ∷ []) (row m b)
row_refuses m true n e = inl (let z : m ≡ n = cc in sym z)
row_refuses m false n e = cc

not_20 : (l : List ℕ) → every (λ m. not (eqb m 20)) l ≡ true → In 20 l → ⊥
not_20 l q i = let z : true ≡ false = none_of (λ m. eqb m 20) l q 20 i in cc

-- where a call gets 20 and no row of a place has that number, that place does not refuse
gone_on_lem : {A B : Type 0} (l : List ℕ) (p : Judged A) (f : A → Judged B) → Refuses l p → every (λ m. not (eqb m 20)) l ≡ true → then_judge p f ≡ refuse 20
    → (a : A) × (p ≡ accept a) × (f a ≡ refuse 20)
gone_on_lem l (refuse n) f h q e = absurd (not_20 l q (h 20 (let z : n ≡ 20 = cc in ap refuse z)))
gone_on_lem l (accept a) f h q e = (a, refl, e)

never : {A : Type 0} (a : A) → Refuses [] (accept a)
never a n e = cc

-- ---- event, power, state

content_refuses : (es : List Event) (n : ℕ) → Refuses (1 ∷ []) (content_among es n)
unfolding content_among
content_refuses [] n k e = inl (let z : 1 ≡ k = cc in sym z)
content_refuses (x ∷ es) n k e = go (eqb n (kind x).number) (content_refuses es n) e
  where
    go : (b : Bool) → Refuses (1 ∷ []) (content_among es n) → (if b then accept (kind x).content else content_among es n) ≡ refuse k → In k (1 ∷ [])
    go true h q = cc
    go false h q = h k q

event_refuses : (l : List ℕ) → Refuses (1 ∷ 1 ∷ 1 ∷ 2 ∷ 21 ∷ []) (event_of l)
unfolding event_of event_of_kind event_with event_rows
event_refuses l =
    then-refuses (1 ∷ []) (1 ∷ 1 ∷ 2 ∷ 21 ∷ []) (row 1 (eqb (length l) 0)) _ (row_refuses 1 (eqb (length l) 0))
    (λ u. then-refuses (1 ∷ []) (1 ∷ 2 ∷ 21 ∷ []) (content_among kinds (get_or l 0 0)) _ (content_refuses kinds (get_or l 0 0)) (λ c. fields c))
  where
    fields : (c : Content) → Refuses (1 ∷ 2 ∷ 21 ∷ []) (event_with c l)
    fields c =
        then-refuses (1 ∷ []) (2 ∷ 21 ∷ []) (row 1 (not (eqb (length l) (1 + body_size c.body (body_at c.body 1 l))))) _ (row_refuses 1 _)
        (λ u. then-refuses (2 ∷ []) (21 ∷ []) (row 2 (not (body_fits c.body (body_at c.body 1 l)))) _ (row_refuses 2 _)
        (λ v. then-refuses (21 ∷ []) [] (row 21 (any reversed (event_constraints (c.event (body_at c.body 1 l))))) _ (row_refuses 21 _) (λ w. never (c.event (body_at c.body 1 l)))))

power_refuses : (s : State) (k : ℕ) → Refuses (3 ∷ 4 ∷ 5 ∷ []) (power_rows s k)
unfolding power_rows
power_refuses s k =
    then-refuses (3 ∷ []) (4 ∷ 5 ∷ []) (row 3 (is s NP && not (eqb k 1))) _ (row_refuses 3 _)
    (λ u. then-refuses (4 ∷ []) (5 ∷ []) (row 4 (eqb k 1 && not (is s NP))) _ (row_refuses 4 _) (λ v. row_refuses 5 _))

state_refuses : (s : State) (k : ℕ) → Refuses (6 ∷ []) (state_row s k)
unfolding state_row
state_refuses s k = row_refuses 6 _

held_refuses : (o : Option Point) (k : ℕ) → Refuses (20 ∷ []) (hold_row o k)
unfolding hold_row
held_refuses o k = row_refuses 20 _

-- ---- book and journey

read_refuses : {A : Type 0} (m : ℕ) (q : Parse A) → Refuses (m ∷ []) (read m q)
read_refuses m bad n e = inl (let z : m ≡ n = cc in sym z)
read_refuses m (good a r) n e = cc

whole_refuses : {A : Type 0} (m : ℕ) (q : Parse A) → Refuses (m ∷ []) (whole m q)
whole_refuses m bad n e = inl (let z : m ≡ n = cc in sym z)
whole_refuses m (good a r) n e = go (eqb (length r) 0) e
  where
    go : (b : Bool) → (if b then accept a else refuse m) ≡ refuse n → In n (m ∷ [])
    go true e = cc
    go false e = inl (let z : m ≡ n = cc in sym z)

checked_refuses : (book : List BookSegment) (j : JourneyValue) → Refuses (10 ∷ 11 ∷ 12 ∷ []) (checked book j)
unfolding checked
checked_refuses book j =
    let ten = twice same_name j.names in
    let eleven = index_beyond j || (twice eqb (nidtps j.points) || (not (eqb (ends j.points) 1) || point_missing book j)) in
    let twelve = falls (indices j.points) || not (strictly_rises (places (points_of book j))) in
    then-refuses (10 ∷ []) (11 ∷ 12 ∷ []) (row 10 ten) _ (row_refuses 10 ten)
    (λ u. then-refuses (11 ∷ []) (12 ∷ []) (row 11 eleven) _ (row_refuses 11 eleven)
    (λ v. then-refuses (12 ∷ []) [] (row 12 twelve) _ (row_refuses 12 twelve) (λ w. never j)))

load_refuses : (journey bytes : List ℕ) → Refuses (7 ∷ 8 ∷ 9 ∷ 10 ∷ 11 ∷ 12 ∷ []) (load_of journey bytes)
unfolding load_of book_of journey_of
load_refuses journey bytes =
    then-refuses (7 ∷ 8 ∷ []) (9 ∷ 10 ∷ 11 ∷ 12 ∷ []) (book_of bytes) _
    (then-refuses (7 ∷ []) (8 ∷ []) (read 7 (records (suc (length bytes)) bytes)) _ (read_refuses 7 (records (suc (length bytes)) bytes)) (λ book. eight book))
    (λ book. then-refuses (9 ∷ 10 ∷ 11 ∷ 12 ∷ []) [] (journey_of book journey) _
    (then-refuses (9 ∷ []) (10 ∷ 11 ∷ 12 ∷ []) (journey_value journey) _ (whole_refuses 9 (journey_record journey)) (checked_refuses book))
    (λ j. never (load_value book j)))
  where
    eight : (book : List BookSegment) → Refuses (8 ∷ []) (then_judge (row 8 (twice same_segment book || (any nidtp_twice book || ltb max_segments (length book)))) (λ u. accept book))
    eight book =
        let test = twice same_segment book || (any nidtp_twice book || ltb max_segments (length book)) in
        then-refuses (8 ∷ []) [] (row 8 test) _ (row_refuses 8 test) (λ u. never book)

-- ---- position, skip, and all

skip_refuses : (h : History) (o : Option ℕ) (on : Bool) → Refuses (14 ∷ 15 ∷ []) (skip_rows h o on)
skip_refuses h None on n e = inl (let z : 14 ≡ n = cc in sym z)
skip_refuses h (Some k) on n e = inr (row_refuses 15 _ n e)

module _ (h : History) (c : Call) where
  -- the rows of a load
  abbrev pub load_rows : Judged LoadValue → Judged (Unit {0})
  load_rows v = then_judge v (λ l. accept tt)

  -- the rows of the kinds, by the role of the event
  abbrev pub rows_as : Role → Judged (Unit {0})
  rows_as r = elim r [
    | off ↦ accept tt
    | load ↦ load_rows (load_of c.journey c.book)
    | report ↦ let x = position_by (c ∷ h) in row 13 (offset_beyond (segment_named (route_by h) x) x)
    | other ↦ accept tt
    | skip t on ↦ skip_rows h (stop_named (route_by h) t) on
  ]

  not_load : (r : Role) → (r ≡ load → ⊥) → Refuses (13 ∷ 14 ∷ 15 ∷ []) (rows_as r)
  not_load off no_load n e = cc
  not_load load no_load n e = absurd (no_load refl)
  not_load report no_load n e = in_left n (13 ∷ []) (14 ∷ 15 ∷ []) (row_refuses 13 _ n e)
  not_load other no_load n e = cc
  not_load (skip t on) no_load n e = inr (skip_refuses h (stop_named (route_by h) t) on n e)

  kind_refuses : (r : Role) → Refuses (7 ∷ 8 ∷ 9 ∷ 10 ∷ 11 ∷ 12 ∷ 13 ∷ 14 ∷ 15 ∷ []) (rows_as r)
  kind_refuses off n e = cc
  kind_refuses load n e =
      in_left n (7 ∷ 8 ∷ 9 ∷ 10 ∷ 11 ∷ 12 ∷ []) (13 ∷ 14 ∷ 15 ∷ [])
      (then-refuses (7 ∷ 8 ∷ 9 ∷ 10 ∷ 11 ∷ 12 ∷ []) [] (load_of c.journey c.book) _ (load_refuses c.journey c.book) (λ l. never tt) n e)
  kind_refuses report n e =
      let x = position_by (c ∷ h) in
      in_right n (7 ∷ 8 ∷ 9 ∷ 10 ∷ 11 ∷ 12 ∷ []) (13 ∷ 14 ∷ 15 ∷ [])
      (in_left n (13 ∷ []) (14 ∷ 15 ∷ []) (row_refuses 13 (offset_beyond (segment_named (route_by h) x) x) n e))
  kind_refuses other n e = cc
  kind_refuses (skip t on) n e =
      in_right n (7 ∷ 8 ∷ 9 ∷ 10 ∷ 11 ∷ 12 ∷ 13 ∷ []) (14 ∷ 15 ∷ []) (skip_refuses h (stop_named (route_by h) t) on n e)

  -- the rows behind that of the event
  abbrev rows_behind : Event → Judged (Unit {0})
  rows_behind e =
      then_judge (power_rows (state_by h) (kind_of e)) (λ u.
      then_judge (state_row (state_by h) (kind_of e)) (λ v.
      then_judge (hold_row (held_stop_by h) (kind_of e)) (λ k.
      then_judge (kind_rows h c) (λ w. row 16 (ltb (length c.memory) (length (joined (packets_by h c))))))))

  behind_refuses : (e : Event) → Refuses (3 ∷ 4 ∷ 5 ∷ 6 ∷ 20 ∷ 7 ∷ 8 ∷ 9 ∷ 10 ∷ 11 ∷ 12 ∷ 13 ∷ 14 ∷ 15 ∷ 16 ∷ []) (rows_behind e)
  unfolding kind_rows
  behind_refuses e =
      then-refuses (3 ∷ 4 ∷ 5 ∷ []) (6 ∷ 20 ∷ 7 ∷ 8 ∷ 9 ∷ 10 ∷ 11 ∷ 12 ∷ 13 ∷ 14 ∷ 15 ∷ 16 ∷ []) (power_rows (state_by h) (kind_of e)) _ (power_refuses (state_by h) (kind_of e)) (λ u.
      then-refuses (6 ∷ []) (20 ∷ 7 ∷ 8 ∷ 9 ∷ 10 ∷ 11 ∷ 12 ∷ 13 ∷ 14 ∷ 15 ∷ 16 ∷ []) (state_row (state_by h) (kind_of e)) _ (state_refuses (state_by h) (kind_of e)) (λ v.
      then-refuses (20 ∷ []) (7 ∷ 8 ∷ 9 ∷ 10 ∷ 11 ∷ 12 ∷ 13 ∷ 14 ∷ 15 ∷ 16 ∷ []) (hold_row (held_stop_by h) (kind_of e)) _ (held_refuses (held_stop_by h) (kind_of e)) (λ k.
      then-refuses (7 ∷ 8 ∷ 9 ∷ 10 ∷ 11 ∷ 12 ∷ 13 ∷ 14 ∷ 15 ∷ []) (16 ∷ []) (kind_rows h c) _ (kind_refuses (role_of_call c)) (λ w.
      row_refuses 16 (ltb (length c.memory) (length (joined (packets_by h c))))))))

  -- the event's row alone refuses with 21
  pub refused_21 : (table_by h c ≡ refuse 21) ↔ (event_of c.event ≡ refuse 21)
  unfolding table_by
  refused_21 = (there (event_of c.event), λ q. rw (q) refl)
    where
      others : List ℕ
      others = 3 ∷ 4 ∷ 5 ∷ 6 ∷ 20 ∷ 7 ∷ 8 ∷ 9 ∷ 10 ∷ 11 ∷ 12 ∷ 13 ∷ 14 ∷ 15 ∷ 16 ∷ []

      not_21 : In 21 others → ⊥
      not_21 i = let z : true ≡ false = none_of (λ n. eqb n 21) others refl 21 i in cc

      there : (j : Judged Event) → then_judge j rows_behind ≡ refuse 21 → j ≡ refuse 21
      there (refuse n) q = let z : n ≡ 21 = cc in ap refuse z
      there (accept e) q = absurd (not_21 (behind_refuses e 21 q))

  -- of any event but a load
  pub table_refuses : (role_of_call c ≡ load → ⊥) → Refuses (1 ∷ 1 ∷ 1 ∷ 2 ∷ 21 ∷ 3 ∷ 4 ∷ 5 ∷ 6 ∷ 20 ∷ 13 ∷ 14 ∷ 15 ∷ 16 ∷ []) (table_by h c)
  unfolding table_by kind_rows
  table_refuses no_load =
      then-refuses (1 ∷ 1 ∷ 1 ∷ 2 ∷ 21 ∷ []) (3 ∷ 4 ∷ 5 ∷ 6 ∷ 20 ∷ 13 ∷ 14 ∷ 15 ∷ 16 ∷ []) (event_of c.event) _ (event_refuses c.event) (λ e.
      then-refuses (3 ∷ 4 ∷ 5 ∷ []) (6 ∷ 20 ∷ 13 ∷ 14 ∷ 15 ∷ 16 ∷ []) (power_rows (state_by h) (kind_of e)) _ (power_refuses (state_by h) (kind_of e)) (λ u.
      then-refuses (6 ∷ []) (20 ∷ 13 ∷ 14 ∷ 15 ∷ 16 ∷ []) (state_row (state_by h) (kind_of e)) _ (state_refuses (state_by h) (kind_of e)) (λ v.
      then-refuses (20 ∷ []) (13 ∷ 14 ∷ 15 ∷ 16 ∷ []) (hold_row (held_stop_by h) (kind_of e)) _ (held_refuses (held_stop_by h) (kind_of e)) (λ k.
      then-refuses (13 ∷ 14 ∷ 15 ∷ []) (16 ∷ []) (kind_rows h c) _ (not_load (role_of_call c) no_load) (λ w.
      row_refuses 16 (ltb (length c.memory) (length (joined (packets_by h c)))))))))

  -- the row that refuses with 20 is that of the held stop, and those before it do not refuse
  pub record Twenty : Type 0 where
    pub event : Event
    pub is_event : event_of c.event ≡ accept event
    pub allowed : state_row (state_by h) (kind_of event) ≡ accept tt
    pub row_20 : hold_row (held_stop_by h) (kind_of event) ≡ refuse 20

  pub twenty : table_by h c ≡ refuse 20 → Twenty
  unfolding table_by kind_rows
  twenty e =
      let (v, e₁, f₁) = gone_on_lem (1 ∷ 1 ∷ 1 ∷ 2 ∷ 21 ∷ []) (event_of c.event) _ (event_refuses c.event) refl e in
      let (u, e₂, f₂) = gone_on_lem (3 ∷ 4 ∷ 5 ∷ []) (power_rows (state_by h) (kind_of v)) _ (power_refuses (state_by h) (kind_of v)) refl f₁ in
      let (w, e₃, f₃) = gone_on_lem (6 ∷ []) (state_row (state_by h) (kind_of v)) _ (state_refuses (state_by h) (kind_of v)) refl f₂ in
      record { event = v; is_event = e₁; allowed = e₃; row_20 = at_hold (hold_row (held_stop_by h) (kind_of v)) f₃ }
    where
      shorter : Bool
      shorter = ltb (length c.memory) (length (joined (packets_by h c)))

      at_hold : (m : Judged (Unit {0})) → then_judge m (λ u. then_judge (kind_rows h c) (λ w. row 16 shorter)) ≡ refuse 20 → m ≡ refuse 20
      at_hold (refuse n) q = q
      at_hold (accept u) q =
          let (w, e₄, f₄) = gone_on_lem (7 ∷ 8 ∷ 9 ∷ 10 ∷ 11 ∷ 12 ∷ 13 ∷ 14 ∷ 15 ∷ []) (kind_rows h c) _ (kind_refuses (role_of_call c)) refl q in
          absurd (not_20 (16 ∷ []) refl (row_refuses 16 shorter 20 f₄))
