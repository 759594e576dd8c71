-- TOLD ONCE, IN ORDER, for every list of calls.
use Rattle.std.specs.Prelude.{if◌then◌else◌}
use mathlib.Core.Path.{◌≡◌, refl, sym, ◌∙◌, ap}
use mathlib.Core.Logic.{◌⊎◌, inl, inr}
use mathlib.Core.Bool.{Bool, true, false, cond, ◌&&◌, false≢true}
use mathlib.Core.List.{List, [], ◌∷◌, ◌++◌, map, append-nil}
use Prim.Native.Nat.{ℕ, zero, suc, ◌+◌, ◌-◌, min, ◌≤◌, ◌<◌}
use native.Mathlib.Omega.{arith}
use lib.Dec.{eqb, ltb, leb}
use lib.ListN.{length, length-map}
use borrow.Author.Tests.{ltb-true, ltb-false, leb-true, leb-false}
use Rattle.wire.specs.Lists.{any, those, tabulate}
use Rattle.std.specs.List.{range_with_len}
use Rattle.std.proofs.lemmas.List.{map-id}
use Rattle.std.proofs.lemmas.List.Elements.{filter-append}
use Rattle.std.proofs.lemmas.List.FromFn.{length-range_with_len, map-range_with_len_more}
use Rattle.wire.proofs.ListLaws.{or-false, tabulate_more}
use Rattle.engine_value.specs.Engine.{Route}
use Rattle.engine_value.specs.declared.Progress.{Progress}
use Rattle.position.specs.Position.{point_count, indices}
use Rattle.position.specs.Standing.{standing, is_passed}
use Rattle.position.specs.declared.Standing.TheVariants.{Unused, Targeted, Reached, Passed}
use Rattle.position.proofs.Laws.{standing-at, reached-only}
use Rattle.timing.specs.Changes.{status_stopped, status_departed}
use Rattle.call_values.specs.Call.{Call}
use Rattle.whole_list.specs.Values.{History, route_by, behind_at_load}
use Rattle.whole_list.specs.Rules.{StandsBy}
use Rattle.whole_list.specs.Calls.{history_of}
use Rattle.whole_list.proofs.Fields.{progress_run, in-range, stands_at}
use Rattle.whole_list.proofs.Engaged.{stands_exactly}
use Rattle.told_once.specs.Recording.{Name, Told, departs, passes}
use Rattle.told_once.specs.ToldOnce.{name_of, passed_since, StoppedLast, last_stops, standing_told, ToldOnce, InOrder}
use Rattle.told_once.proofs.Story.{not_empty, Parted, parted, last_is, tell}
use Rattle.told_once.proofs.Calls.{StoryBy, story}
use Rattle.told_once.proofs.Names.{one_point}

-- ---- the numbers below n that are from s on and below m

range_more : (s n k : ℕ) → s + n ≡ k → range_with_len s (n + 1) ≡ range_with_len s n ++ (k ∷ [])
range_more s n k e =
    sym (map-id (range_with_len s (n + 1))) ∙ map-range_with_len_more (λ i. i) s n k e ∙ ap (λ l. l ++ (k ∷ [])) (map-id (range_with_len s n))

chosen : (f : ℕ → Bool) (s m n : ℕ) → ((k : ℕ) → k < n → f k ≡ (leb s k && ltb k m)) → those f (tabulate n (λ k. k)) ≡ range_with_len s (min m n - s)
chosen f s m zero e = let z : min m 0 - s ≡ 0 = omega arith in sym (ap (range_with_len s) z)
chosen f s m (suc n) e =
    ap (those f) (tabulate_more n (λ k. k)) ∙ filter-append f (tabulate n (λ k. k)) (n ∷ [])
    ∙ ap (λ (l : List ℕ). l ++ those f (n ∷ [])) (chosen f s m n (λ k l. e k (omega arith)))
    ∙ ap (λ b. range_with_len s (min m n - s) ++ cond b (n ∷ []) []) (e n (omega arith))
    ∙ go (leb s n) refl (ltb n m) refl
  where
    one_less : min m (suc n) - s ≡ min m n - s → range_with_len s (min m n - s) ++ [] ≡ range_with_len s (min m (suc n) - s)
    one_less z = append-nil (range_with_len s (min m n - s)) ∙ ap (range_with_len s) (sym z)

    go : (a : Bool) → leb s n ≡ a → (b : Bool) → ltb n m ≡ b → range_with_len s (min m n - s) ++ cond (a && b) (n ∷ []) [] ≡ range_with_len s (min m (suc n) - s)
    go true p true q =
        let l : s ≤ n = leb-true s n p in
        let h : n < m = ltb-true n m q in
        let z : min m (suc n) - s ≡ min m n - s + 1 = omega arith in
        sym (ap (range_with_len s) z ∙ range_more s (min m n - s) n (omega arith))
    go true p false q = let h : m ≤ n = ltb-false n m q in one_less (omega arith)
    go false p b q = let l : n < s = leb-false s n p in one_less (omega arith)

-- ---- where a point stands, by the progress

passed_below : (p : Progress) (k : ℕ) → is_passed (standing p k) ≡ ltb k p.next
passed_below p k = go (ltb k p.next) (eqb k p.next) p.reached
  where
    go : (a b c : Bool) → is_passed (if a then Passed else if b then (if c then Reached else Targeted) else Unused) ≡ a
    go true b c = refl
    go false true true = refl
    go false true false = refl
    go false false c = refl

-- ---- what the story says

module _ (h : History) (told : List Told) (s : StoryBy h told) where
  abbrev j : Route
  j = route_by h

  abbrev p : Progress
  p = progress_run h

  since_is : (k : ℕ) → k < point_count j → passed_since h k ≡ (leb (behind_at_load h) k && ltb k p.next)
  since_is k l = ap (λ b. leb (behind_at_load h) k && b) (ap is_passed (sym (stands_at h k l)) ∙ passed_below p k)

  those_passed : those (passed_since h) (indices j) ≡ range_with_len (behind_at_load h) (p.next - behind_at_load h)
  those_passed =
      let z : min p.next (point_count j) ≡ p.next = omega (arith, (in-range h).most) in
      chosen (passed_since h) (behind_at_load h) p.next (point_count j) since_is ∙ ap (λ n. range_with_len (behind_at_load h) (n - behind_at_load h)) z

  first_ahead_lem : behind_at_load h + length (those passes told) ≡ p.next
  first_ahead_lem =
      let z : length (those passes told) ≡ p.next - behind_at_load h =
      sym (length-map (those passes told) (λ (t : Told). t.name)) ∙ ap length s.names
      ∙ length-map (range_with_len (behind_at_load h) (p.next - behind_at_load h)) (name_of j) ∙ length-range_with_len (behind_at_load h) (p.next - behind_at_load h) in
      omega (arith, s.low)

  told_standing : (k : ℕ) → standing_told (behind_at_load h) told k ≡ standing p k
  told_standing k =
      ap (λ n. if ltb k n then Passed else if eqb k n then (if last_stops false told then Reached else Targeted) else Unused) first_ahead_lem
      ∙ ap (λ b. if ltb k p.next then Passed else if eqb k p.next then (if b then Reached else Targeted) else Unused) s.last

  one_name : (i k : ℕ) → i < point_count j → k < point_count j → name_of j i ≡ name_of j k → i ≡ k
  one_name i k a b e = one_point h i k a b (ap (λ (n : Name). n.nidtp) e)

  module _ (k : ℕ) (l : k < point_count j) where
    stopped_last : StandsBy h k Reached → StoppedLast told (name_of j k)
    stopped_last e =
        let r = reached-only p k (stands_at h k l ∙ (stands_exactly h k Reached).1 e) in
        let t = s.resting r.1 in
        record {
          before = t.0;
          stop = tell j p.next status_stopped;
          behind = [];
          among = t.1;
          is_stop = refl;
          last_stop = refl;
          no_departure = refl;
          same_point = ap (name_of j) (sym r.0);
        }

    -- nothing stands behind a 1 that has no 2 behind it
    nothing_behind : (t : StoppedLast told (name_of j k)) → t.behind ≡ []
    nothing_behind t = go (s.follows t.before t.stop t.behind t.among t.is_stop)
      where
        go : (t.behind ≡ []) ⊎ ((x : Told) × (rest : List Told) × (t.behind ≡ x ∷ rest) × (x.status ≡ status_departed)) → t.behind ≡ []
        go (inl e) = e
        go (inr (x, rest, e, d)) =
            let z : any departs (x ∷ rest) ≡ false = ap (any departs) (sym e) ∙ t.no_departure in
            absurd (false≢true (sym (or-false (departs x) (any departs rest) z).0 ∙ ap (λ n. eqb n status_departed) d))

    reached_now : StoppedLast told (name_of j k) → StandsBy h k Reached
    reached_now t =
        let ends : told ≡ t.before ++ (t.stop ∷ []) = t.among ∙ ap (λ (m : List Told). t.before ++ (t.stop ∷ m)) (nothing_behind t) in
        let rests : p.reached ≡ true =
        sym s.last ∙ ap (last_stops false) ends ∙ last_is false t.before t.stop ∙ ap (λ n. eqb n status_stopped) t.is_stop in
        let at = s.resting rests in
        let same : t.stop ≡ tell j p.next status_stopped = last_same t.before at.0 (sym ends ∙ at.1) in
        let here : k ≡ p.next = one_name k p.next l ((in-range h).reached_one rests) (sym t.same_point ∙ ap (λ (x : Told). x.name) same) in
        (stands_exactly h k Reached).0 (sym (stands_at h k l) ∙ ap (standing p) here ∙ standing-at p rests)
      where
        last_same : (a b : List Told) {x y : Told} → a ++ (x ∷ []) ≡ b ++ (y ∷ []) → x ≡ y
        last_same a b {x} {y} e = go (parted a b [] x y e)
          where
            go : Parted a b [] x y → x ≡ y
            go (inl (_, q, _)) = q
            go (inr (c, _, q)) = absurd (not_empty c [] x q)

  told_once : ToldOnce h told
  told_once = record {
    passed = s.names ∙ ap (map (name_of j)) (sym those_passed);
    one_point = one_name;
    departed = s.departures;
    reached = λ k l. (stopped_last k l, reached_now k l);
    known = λ k l. (stands_exactly h k _).0 (sym (stands_at h k l) ∙ sym (told_standing k));
  }

pub in_order : (calls : List Call) → InOrder calls
in_order calls = told_once (history_of calls) _ (story calls)
