-- A position report carries the story on: by what it changes, from the progress before it to the one after.
use Rattle.std.specs.Prelude.{if◌then◌else◌}
use mathlib.Core.Path.{◌≡◌, refl, sym, ◌∙◌, ap, subst}
use mathlib.Core.Bool.{Bool, true, false}
use mathlib.Core.List.{List, [], ◌∷◌, ◌++◌, map, append-nil, append_assoc}
use Prim.Native.Nat.{ℕ, zero, suc, ◌+◌, ◌-◌, ◌≤◌, ◌<◌}
use native.Mathlib.Omega.{arith}
use Rattle.wire.specs.Lists.{those}
use Rattle.std.proofs.lemmas.List.{map-append}
use Rattle.std.proofs.lemmas.List.Elements.{filter-append}
use Rattle.engine_value.specs.Engine.{Route, progress}
use Rattle.engine_value.specs.declared.Progress.{Progress}
use Rattle.position.specs.Position.{point, point_count}
use Rattle.timing.specs.Distance.{Report, leaves}
use Rattle.timing.specs.Report.{departs, first_looked, reported, became_reached}
use Rattle.timing.specs.Changes.{Change, change, status_passed, status_stopped, status_departed, status_held, passings, when, stopped_at, report_changes}
use Rattle.timing.proofs.Steps.{InRange, following-is, looked_range, reported_stays, reported_departs, reported_looks}
use Rattle.told_once.specs.Recording.{counts, Told}
use Rattle.told_once.proofs.Story.{tell, Story, passing, stopping, departing}

-- of what a report changes: all but that a held stop becomes reached
abbrev pub told_changes : Route → Report → Progress → List Change
told_changes j r p =
    when (departs j r p) (change p.next status_departed (progress (first_looked j r p) false))
    ++ (passings ((reported j r p).next - first_looked j r p) (first_looked j r p)
    ++ when (became_reached j r p) (change (reported j r p).next status_stopped (reported j r p)))

-- what a change tells in a packet 62
abbrev pub marked : Route → Change → Told
marked j c = tell j c.index c.status

module _ (j : Route) (start : ℕ) where
  pub story_of : {p q : Progress} {l m : List Told} → p ≡ q → l ≡ m → Story j start p l → Story j start q m
  story_of {q = q} {l = l} e f s = subst (Story j start q) f (subst (λ x. Story j start x l) e s)

  -- the n points from k on pass
  passing_all : (n k : ℕ) (told : List Told)
      → Story j start (progress k false) told → Story j start (progress (k + n) false) (told ++ map (marked j) (passings n k))
  unfolding passings
  passing_all zero k told s = let z : k ≡ k + 0 = omega arith in story_of (ap (λ n. progress n false) z) (sym (append-nil told)) s
  passing_all (suc n) k told s =
      let z : k + 1 + n ≡ k + suc n = omega arith in
      story_of (ap (λ n. progress n false) z) (append_assoc told _ _) (passing_all n (k + 1) _ (passing j start k told s))

  -- from point f on, to the progress q
  abbrev on : ℕ → Progress → List Change
  on f q = passings (q.next - f) f ++ when q.reached (change q.next status_stopped q)

  looking : (f : ℕ) (q : Progress) (told : List Told)
      → f ≤ q.next → Story j start (progress f false) told → Story j start q (told ++ map (marked j) (on f q))
  looking f q told l s =
      let z : f + (q.next - f) ≡ q.next = omega arith in
      go _ refl (story_of (ap (λ n. progress n false) z) refl (passing_all (q.next - f) f told s))
    where
      among : List Told
      among = map (marked j) (passings (q.next - f) f)

      parts : (l : List Change) → told ++ map (marked j) (passings (q.next - f) f ++ l) ≡ (told ++ among) ++ map (marked j) l
      parts l =
          ap (λ (m : List Told). told ++ m) (map-append (marked j) (passings (q.next - f) f) l) ∙ sym (append_assoc told among (map (marked j) l))

      go : (b : Bool) → q.reached ≡ b → Story j start (progress q.next false) (told ++ among) → Story j start q (told ++ map (marked j) (on f q))
      go false e t =
          story_of (λ i. record { next = q.next; reached = sym e i })
          (sym (ap (λ b. told ++ map (marked j) (passings (q.next - f) f ++ when b (change q.next status_stopped q))) e
          ∙ parts [] ∙ append-nil (told ++ among))) t
      go true e t =
          story_of (λ i. record { next = q.next; reached = sym e i })
          (sym (ap (λ b. told ++ map (marked j) (passings (q.next - f) f ++ when b (change q.next status_stopped q))) e ∙ parts _))
          (stopping j start q.next (told ++ among) t)

  module _ (r : Report) (p : Progress) (range : InRange j p) (told : List Told) where
    -- what a report changes, with what decides it
    abbrev by : Bool → ℕ → Bool → Progress → List Change
    by departed f reached q =
        when departed (change p.next status_departed (progress f false))
        ++ (passings (q.next - f) f ++ when reached (change q.next status_stopped q))

    changes_by_lem : (departed : Bool) (f : ℕ) (reached : Bool) (q : Progress)
        → departs j r p ≡ departed → first_looked j r p ≡ f → became_reached j r p ≡ reached → reported j r p ≡ q
        → told_changes j r p ≡ by departed f reached q
    changes_by_lem departed f reached q a b c d =
        ap (λ x. by x (first_looked j r p) (became_reached j r p) (reported j r p)) a
        ∙ ap (λ x. by departed x (became_reached j r p) (reported j r p)) b
        ∙ ap (λ x. by departed f x (reported j r p)) c
        ∙ ap (λ x. by departed f reached x) d

    none_there : told ++ map (marked j) (passings 0 p.next ++ []) ≡ told
    unfolding passings
    none_there = append-nil told

    pub reporting : Story j start p told → Story j start (reported j r p) (told ++ map (marked j) (told_changes j r p))
    reporting s = go _ refl _ refl
      where
        Goes : List Change → Type 0
        Goes l = Story j start (reported j r p) (told ++ map (marked j) l)

        go : (a : Bool) → p.reached ≡ a → (b : Bool) → leaves j r p.next ≡ b → Goes (told_changes j r p)
        go true e false m =
            let z : p.next - p.next ≡ 0 = omega arith in
            subst Goes (sym (changes_by_lem false p.next false p (rw (e, m)) (rw (e, m)) (rw (e, m)) (reported_stays j r p e m)))
            (story_of (sym (reported_stays j r p e m))
            (sym (ap (λ n. told ++ map (marked j) (passings n p.next ++ [])) z ∙ none_there))
            s)
        go true e true m =
            let l : p.next < point_count j = range.reached_one e in
            let f : first_looked j r p ≡ p.next + 1 = rw (e, m) (omega (arith, following-is j p.next l)) in
            let z : suc p.next ≡ p.next + 1 = omega arith in
            let q = reported j r p in
            let up : p.next + 1 ≤ q.next =
            rw (reported_departs j r p e m, following-is j p.next l) (omega (arith, (looked_range j r (suc p.next) l).0)) in
            subst Goes (sym (changes_by_lem true (p.next + 1) q.reached q (rw (e, m)) f (rw (e, m)) refl))
            (story_of refl (append_assoc told _ _)
            (looking (p.next + 1) q _ up (departing j start p.next told (story_of (λ i. record { next = p.next; reached = e i }) refl s))))
        go false e b m =
            let q = reported j r p in
            let up : p.next ≤ q.next = rw (reported_looks j r p e) (looked_range j r p.next range.most).0 in
            subst Goes (sym (changes_by_lem false p.next q.reached q (rw e) (rw e) (rw e) refl))
            (looking p.next q told up (story_of (λ i. record { next = p.next; reached = e i }) refl s))

-- of all that a report changes those are looked at
module _ (j : Route) where
  count_append : (a b c d : List Change) → those counts (map (marked j) a) ≡ map (marked j) c → those counts (map (marked j) b) ≡ map (marked j) d
      → those counts (map (marked j) (a ++ b)) ≡ map (marked j) (c ++ d)
  count_append a b c d e f =
      ap (those counts) (map-append (marked j) a b) ∙ filter-append counts (map (marked j) a) (map (marked j) b)
      ∙ ap (λ (l : List Told). l ++ those counts (map (marked j) b)) e ∙ ap (λ (l : List Told). map (marked j) c ++ l) f
      ∙ sym (map-append (marked j) c d)

  all_passings : (n k : ℕ) → those counts (map (marked j) (passings n k)) ≡ map (marked j) (passings n k)
  unfolding passings
  all_passings zero k = refl
  all_passings (suc n) k = ap (λ (l : List Told). tell j k status_passed ∷ l) (all_passings n (k + 1))

  departure : (b : Bool) (k : ℕ) (p : Progress)
      → those counts (map (marked j) (when b (change k status_departed p))) ≡ map (marked j) (when b (change k status_departed p))
  departure true k p = refl
  departure false k p = refl

  -- the 1, and no 3
  stop : (b : Bool) (p : Progress)
      → those counts (map (marked j) (if b then stopped_at j p else [])) ≡ map (marked j) (when b (change p.next status_stopped p))
  stop true p = go (point j p.next).held
    where
      go : (h : Bool) → those counts (map (marked j) (change p.next status_stopped p ∷ when h (change p.next status_held p)))
          ≡ map (marked j) (change p.next status_stopped p ∷ [])
      go true = refl
      go false = refl
  stop false p = refl

  pub all_count : (r : Report) (p : Progress) → those counts (map (marked j) (report_changes j r p)) ≡ map (marked j) (told_changes j r p)
  unfolding report_changes
  all_count r p =
      let f = first_looked j r p in
      let q = reported j r p in
      let first = when (departs j r p) (change p.next status_departed (progress f false)) in
      let end = if became_reached j r p then stopped_at j q else [] in
      let last = when (became_reached j r p) (change q.next status_stopped q) in
      count_append first (passings (q.next - f) f ++ end) first (passings (q.next - f) f ++ last) (departure (departs j r p) _ _)
      (count_append (passings (q.next - f) f) end (passings (q.next - f) f) last (all_passings (q.next - f) f) (stop (became_reached j r p) q))
