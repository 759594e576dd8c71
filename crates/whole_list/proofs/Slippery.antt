-- 02, Q-7: what the engine shows of slippery rail, and the packets 64 of a call.
use Rattle.std.specs.Prelude.{Option, Some, None, filter_map, if◌then◌else◌}
use Rattle.std.specs.List.{cons_option}
use Rattle.std.proofs.lemmas.List.Elements.{filter_map-append}
use mathlib.Core.Path.{◌≡◌, refl, sym, ◌∙◌, ap}
use mathlib.Core.Logic.{◌↔◌}
use mathlib.Core.Bool.{Bool, true, false, ◌&&◌}
use mathlib.Core.List.{List, [], ◌∷◌, ◌++◌, map, append-nil}
use Prim.Native.Nat.{ℕ, min}
use native.Mathlib.Omega.{arith}
use lib.Dec.{ltb, leb}
use lib.ListN.{length, get_or, get_or-eq_default}
use borrow.Author.Tests.{ltb-true, ltb-false}
use Rattle.std.proofs.Math.Nat.{min-eq_left}
use Rattle.wire.specs.Lists.{All}
use Rattle.wire.specs.Judged.{Judged}
use Rattle.wire.specs.Judged.Judged.{refuse, accept}
use Rattle.wire.specs.Refusals.{turns_down}
use Rattle.adhesion.specs.Constraints.{max_constraints, blank_constraint}
use Rattle.adhesion.specs.declared.TemporaryConstraint.{TemporaryConstraint}
use Rattle.engine_value.specs.Engine.{Route, filled}
use Rattle.engine_value.specs.declared.Position.{Position}
use Rattle.event.specs.Kinds.{carried}
use Rattle.journey.specs.declared.Head.{Head}
use Rattle.packets.specs.Layouts.{kind65, kind_size}
use Rattle.packets.specs.Packet.{Packet}
use Rattle.packets.specs.declared.Requested.{Requested}
use Rattle.packets.proofs.RoundTrips.{read-written}
use Rattle.status_word.specs.declared.OperationalConditions.{OperationalConditions}
use Rattle.route.proofs.Filling.{filled_within}
use Rattle.timing.specs.Changes.{when}
use Rattle.traction.specs.Requests.{written_content}
use Rattle.call_values.specs.Packets.{PointChange, timing_point, received, jp_received, traction_brake, traction_brakes, adhesion_system, adhesion_systems, ato_status, status_due, packets_of, jp_turned_down, packets_refused}
use Rattle.call_values.specs.Call.{Call}
use Rattle.whole_list.specs.Values.{History, event_of_call, constraints_by, position_by, route_by}
use Rattle.whole_list.specs.Rules.{state_by}
use Rattle.whole_list.specs.Requests.{listed, traction_by}
use Rattle.whole_list.specs.Table.{head_of_call, changes_by, own_by, status_by, packets_by, packets_refused_by, packets_if, table_by, written_by}
use Rattle.whole_list.specs.Recorded.{rows_in, rows_told}
use Rattle.whole_list.specs.WholeList.{bytes_of_each, Has, Slippery, ShowsRows}
use Rattle.whole_list.specs.Slippery.{slippery_if}
use Rattle.whole_list.proofs.Fields.{engine_of}
use Rattle.whole_list.proofs.Decoded.{few_rows}
use Rattle.whole_list.proofs.Requests.{slippery_exactly, refused_none}
use Rattle.whole_list.proofs.Readable.{Fits, written_fit}

-- ---- what is shown

pub shows-rows : (h : History) → ShowsRows (engine_of h) (constraints_by h)
shows-rows h = record { group = refl; count = min-eq_left (few_rows h); each = λ k. go k _ refl }
  where
    rows : List TemporaryConstraint
    rows = constraints_by h

    go : (k : ℕ) → (b : Bool) → ltb k (min (length rows) 31) ≡ b
        → (if b then get_or (filled max_constraints blank_constraint rows) k blank_constraint else blank_constraint) ≡ get_or rows k blank_constraint
    go k true q = filled_within blank_constraint max_constraints rows k (omega (arith, ltb-true k (min (length rows) 31) q, few_rows h))
    go k false q = sym (get_or-eq_default rows blank_constraint (omega (arith, ltb-false k (min (length rows) 31) q, few_rows h)))

-- ---- a packet 64 among those of a call

pub slippery_stands : (h : History) (c : Call) → Has 64 (bytes_of_each (written_by h c)) ↔ ((table_by h c ≡ accept tt) × Slippery c)
slippery_stands h c = go (table_by h c)
  where
    go : (t : Judged (Unit {0})) → Has 64 (bytes_of_each (packets_if h c t)) ↔ ((t ≡ accept tt) × Slippery c)
    go (refuse n) = ((λ x. absurd (refused_none h c n x)), (λ x. let e = x.0 in cc))
    go (accept u) = ((λ x. (refl, (slippery_exactly h c).0 x)), (λ x. (slippery_exactly h c).1 x.1))

-- ---- their rows

abbrev among : List Packet → List (List TemporaryConstraint)
among l = filter_map (λ p. rows_in (accept p)) l

among_append : (a b : List Packet) → among (a ++ b) ≡ among a ++ among b
among_append a b = filter_map-append _ a b

read_back : (l : List Packet) → All Fits l → rows_told (bytes_of_each l) ≡ among l
unfolding rows_told
read_back [] f = refl
read_back (p ∷ l) f =
    ap (λ q. cons_option (rows_in q) (rows_told (bytes_of_each l))) (read-written p f.0.0 f.0.1)
    ∙ ap (cons_option (rows_in (accept p))) (read_back l f.1)

module _ (j : Route) (x : Position) where
  of_65 : (o : Option Head) → among (received j x o) ≡ []
  unfolding jp_received
  of_65 None = refl
  of_65 (Some d) = refl

  of_62 : (l : List PointChange) → among (map (timing_point j x) l) ≡ []
  unfolding timing_point
  of_62 [] = refl
  of_62 (c ∷ l) = of_62 l

  of_68 : (due : Bool) (s : ℕ) (n : OperationalConditions) → among (when due (ato_status j x s n)) ≡ []
  unfolding ato_status
  of_68 true s n = refl
  of_68 false s n = refl

  of_own : (o : Option Requested) (r : Option (List TemporaryConstraint)) → among (traction_brakes j x o ++ adhesion_systems j x r) ≡ listed r
  unfolding traction_brake adhesion_system
  of_own None None = refl
  of_own None (Some rows) = refl
  of_own (Some q) None = refl
  of_own (Some q) (Some rows) = refl

module _ (h : History) (c : Call) where
  rows_by : among (packets_by h c) ≡ listed (carried (event_of_call c)).constraints
  unfolding packets_by packets_of
  rows_by =
      let j = route_by (c ∷ h) in
      let x = position_by (c ∷ h) in
      let points = map (timing_point j x) (changes_by h c) in
      let after = status_by (c ∷ h) in
      let last = when (status_due (status_by h) after) (ato_status j x after.state after.conditions) in
      among_append (received j x (head_of_call c)) (points ++ (own_by h c ++ last))
      ∙ ap (λ (l : List (List TemporaryConstraint)). l ++ among (points ++ (own_by h c ++ last))) (of_65 j x (head_of_call c))
      ∙ among_append points (own_by h c ++ last)
      ∙ ap (λ (l : List (List TemporaryConstraint)). l ++ among (own_by h c ++ last)) (of_62 j x (changes_by h c))
      ∙ among_append (own_by h c) last
      ∙ (λ i. of_own j x (written_content (state_by h) (event_of_call c) (traction_by h) (traction_by (c ∷ h))) (carried (event_of_call c)).constraints i
      ++ of_68 j x (status_due (status_by h) after) after.state after.conditions i)
      ∙ append-nil (listed (carried (event_of_call c)).constraints)

  refused_rows : (n : ℕ) → among (packets_refused_by h c n) ≡ []
  unfolding packets_refused jp_turned_down
  refused_rows n = go (turns_down n && leb (kind_size kind65) (length c.memory))
    where
      go : (b : Bool) → among (when b (jp_turned_down (route_by h) (position_by h))) ≡ []
      go true = refl
      go false = refl

  pub slippery_rows : rows_told (bytes_of_each (written_by h c)) ≡ slippery_if (table_by h c) c
  slippery_rows = read_back (written_by h c) (written_fit h c) ∙ go (table_by h c)
    where
      go : (t : Judged (Unit {0})) → among (packets_if h c t) ≡ slippery_if t c
      go (refuse n) = refused_rows n
      go (accept u) = rows_by
