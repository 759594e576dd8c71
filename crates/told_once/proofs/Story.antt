-- What was told, and how far the journey's points are: each point passes, stops or departs where the one before left off.
use mathlib.Core.Path.{◌≡◌, refl, sym, ◌∙◌, ap, subst}
use mathlib.Core.Logic.{◌⊎◌, inl, inr}
use mathlib.Core.Bool.{Bool, true, false, cond, false≢true}
use mathlib.Core.List.{List, [], ◌∷◌, ◌++◌, map, append-nil}
use Prim.Native.Nat.{ℕ, ◌+◌, ◌-◌, ◌≤◌}
use native.Mathlib.Omega.{arith}
use lib.Dec.{eqb}
use Rattle.wire.specs.Lists.{those}
use Rattle.std.specs.List.{range_with_len}
use Rattle.std.proofs.lemmas.List.{map-append}
use Rattle.std.proofs.lemmas.List.Elements.{filter-append}
use Rattle.std.proofs.lemmas.List.FromFn.{map-range_with_len_more}
use Rattle.engine_value.specs.Engine.{Route, progress}
use Rattle.engine_value.specs.declared.Progress.{Progress}
use Rattle.timing.specs.Changes.{status_passed, status_stopped, status_departed}
use Rattle.told_once.specs.Recording.{Name, Told, stops, passes}
use Rattle.told_once.specs.ToldOnce.{name_of, names_in, StoppedBefore, last_stops}

-- ---- one more at the end of a list

pub not_empty : {A : Type 0} (a b : List A) (t : A) → [] ≡ a ++ (t ∷ b) → ⊥
not_empty [] b t e = cc
not_empty (x ∷ a) b t e = cc

-- a list with one more, parted at t: t is that one, or stands in the list
abbrev pub Parted : {A : Type 0} → List A → List A → List A → A → A → Type 0
Parted {A} l a b x t = ((l ≡ a) × (x ≡ t) × (b ≡ [])) ⊎ ((c : List A) × (l ≡ a ++ (t ∷ c)) × (b ≡ c ++ (x ∷ [])))

pub parted : {A : Type 0} (l a b : List A) (x t : A) → l ++ (x ∷ []) ≡ a ++ (t ∷ b) → Parted l a b x t
parted [] [] b x t e = inl (refl, cc, cc)
parted [] (y ∷ a) b x t e = absurd (not_empty a b t (cc))
parted (z ∷ l) [] b x t e = inr (l, cc, cc)
parted {A} (z ∷ l) (y ∷ a) b x t e = go (parted l a b x t (cc))
  where
    go : Parted l a b x t → Parted (z ∷ l) (y ∷ a) b x t
    go (inl (p, q, r)) = inl (cc, q, r)
    go (inr (c, p, q)) = inr (c, cc, q)

pub last_is : (b : Bool) (l : List Told) (t : Told) → last_stops b (l ++ (t ∷ [])) ≡ stops t
unfolding last_stops
last_is b [] t = refl
last_is b (x ∷ l) t = last_is (stops x) l t

-- ---- the story

module _ (j : Route) where
  -- what a packet 62 of point k and a status tells
  abbrev pub tell : ℕ → ℕ → Told
  tell k s = record { name = name_of j k; status = s }

  abbrev pub Departures : List Told → Type 0
  Departures told = (before : List Told) (t : Told) (after : List Told) → told ≡ before ++ (t ∷ after) → t.status ≡ status_departed
      → StoppedBefore before t.name

  -- behind a 1 stands nothing, or first a 2
  abbrev pub Follows : List Told → Type 0
  Follows told = (before : List Told) (t : Told) (after : List Told) → told ≡ before ++ (t ∷ after) → t.status ≡ status_stopped
      → (after ≡ []) ⊎ ((s : Told) × (rest : List Told) × (after ≡ s ∷ rest) × (s.status ≡ status_departed))

  pub record Story (start : ℕ) (p : Progress) (told : List Told) : Type 0 where
    pub low : start ≤ p.next
    pub names : names_in (those passes told) ≡ map (name_of j) (range_with_len start (p.next - start))
    pub departures : Departures told
    pub follows : Follows told
    pub resting : p.reached ≡ true → (earlier : List Told) × (told ≡ earlier ++ (tell p.next status_stopped ∷ []))
    pub last : last_stops false told ≡ p.reached

  pub begins : (start : ℕ) → Story start (progress start false) []
  unfolding last_stops
  begins start =
      let z : start - start ≡ 0 = omega arith in
      record {
        low = omega arith;
        names = sym (ap (λ n. map (name_of j) (range_with_len start n)) z);
        departures = λ before t after e s. absurd (not_empty before after t e);
        follows = λ before t after e s. absurd (not_empty before after t e);
        resting = λ e. absurd (false≢true e);
        last = refl;
      }

  module _ (start k : ℕ) (told : List Told) where
    -- one more that is no departure
    no_departure : (t : Told) → (t.status ≡ status_departed → ⊥) → Departures told → Departures (told ++ (t ∷ []))
    no_departure t n d before s after e q = go (parted told before after t s e)
      where
        go : Parted told before after t s → StoppedBefore before s.name
        go (inl (a, b, c)) = absurd (n (ap (λ (x : Told). x.status) b ∙ q))
        go (inr (c, a, b)) = d before s c a q

    one_follows : (t : Told) → (last_stops false told ≡ true → t.status ≡ status_departed) → Follows told → Follows (told ++ (t ∷ []))
    one_follows t d f before s after e q = go (parted told before after t s e)
      where
        Then : List Told → Type 0
        Then l = (l ≡ []) ⊎ ((x : Told) × (rest : List Told) × (l ≡ x ∷ rest) × (x.status ≡ status_departed))

        further : (c : List Told) → told ≡ before ++ (s ∷ c) → Then c → Then (c ++ (t ∷ []))
        further c a (inl z) =
            let ends : told ≡ before ++ (s ∷ []) = a ∙ ap (λ (l : List Told). before ++ (s ∷ l)) z in
            let stands : last_stops false told ≡ true = ap (last_stops false) ends ∙ last_is false before s ∙ ap (λ n. eqb n status_stopped) q in
            inr (t, [], ap (λ (l : List Told). l ++ (t ∷ [])) z, d stands)
        further c a (inr (x, rest, z, w)) = inr (x, rest ++ (t ∷ []), ap (λ (l : List Told). l ++ (t ∷ [])) z, w)

        go : Parted told before after t s → Then after
        go (inl (a, b, c)) = inl c
        go (inr (c, a, b)) = subst Then (sym b) (further c a (f before s c a q))

    one_more : start ≤ k → map (name_of j) (range_with_len start (k - start)) ++ (name_of j k ∷ []) ≡ map (name_of j) (range_with_len start (k + 1 - start))
    one_more l =
        let z : k + 1 - start ≡ k - start + 1 = omega arith in
        sym (ap (λ n. map (name_of j) (range_with_len start n)) z ∙ map-range_with_len_more (name_of j) start (k - start) k (omega arith))

    names_more : (t : Told) → passes t ≡ true → names_in (those passes (told ++ (t ∷ []))) ≡ names_in (those passes told) ++ (t.name ∷ [])
    names_more t e =
        ap names_in (filter-append passes told (t ∷ [])) ∙ map-append (λ (x : Told). x.name) (those passes told) _
        ∙ ap (λ b. names_in (those passes told) ++ names_in (cond b (t ∷ []) [])) e

    pub passing : Story start (progress k false) told → Story start (progress (k + 1) false) (told ++ (tell k status_passed ∷ []))
    passing s = record {
      low = omega (arith, s.low);
      names = names_more (tell k status_passed) refl ∙ ap (λ (l : List Name). l ++ (name_of j k ∷ [])) s.names ∙ one_more s.low;
      departures = no_departure (tell k status_passed) (λ e. omega arith) s.departures;
      follows = one_follows (tell k status_passed) (λ e. absurd (false≢true (sym s.last ∙ e))) s.follows;
      resting = λ e. absurd (false≢true e);
      last = last_is false told (tell k status_passed);
    }

    pub stopping : Story start (progress k false) told → Story start (progress k true) (told ++ (tell k status_stopped ∷ []))
    stopping s = record {
      low = s.low;
      names = ap names_in (filter-append passes told (tell k status_stopped ∷ [])) ∙ ap names_in (append-nil (those passes told)) ∙ s.names;
      departures = no_departure (tell k status_stopped) (λ e. omega arith) s.departures;
      follows = one_follows (tell k status_stopped) (λ e. absurd (false≢true (sym s.last ∙ e))) s.follows;
      resting = λ e. (told, refl);
      last = last_is false told (tell k status_stopped);
    }

    pub departing : Story start (progress k true) told → Story start (progress (k + 1) false) (told ++ (tell k status_departed ∷ []))
    departing s = record {
      low = omega (arith, s.low);
      names = names_more (tell k status_departed) refl ∙ ap (λ (l : List Name). l ++ (name_of j k ∷ [])) s.names ∙ one_more s.low;
      follows = one_follows (tell k status_departed) (λ e. refl) s.follows;
      departures = λ before t after e q. go before t after q (parted told before after (tell k status_departed) t e);
      resting = λ e. absurd (false≢true e);
      last = last_is false told (tell k status_departed);
    }
      where
        go : (before : List Told) (t : Told) (after : List Told) → t.status ≡ status_departed
            → Parted told before after (tell k status_departed) t
            → StoppedBefore before t.name
        go before t after q (inl (a, b, c)) =
            let r = s.resting refl in
            record { earlier = r.0; stop = tell k status_stopped; last = sym a ∙ r.1; is_stop = refl; same_point = ap (λ (x : Told). x.name) b }
        go before t after q (inr (c, a, b)) = s.departures before t c a q
