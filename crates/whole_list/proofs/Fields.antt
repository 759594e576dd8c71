-- The whole engine as a function of the history, and that it shows what the rules show.
use Rattle.std.specs.Prelude.{Option, Some, None, IfSome, if◌then◌else◌}
use mathlib.Core.Path.{◌≡◌, refl, sym, ◌∙◌, ap}
use mathlib.Core.Bool.{Bool, true, false, not, ◌&&◌, ◌||◌}
use mathlib.Core.List.{List, [], ◌∷◌, map}
use Prim.Native.Nat.{ℕ, zero, suc, ◌+◌, ◌-◌, ◌≤◌, ◌<◌}
use native.Mathlib.Omega.{arith}
use lib.Dec.{eqb, leb}
use lib.ListN.{length, get_or, set, replicate, length-set}
use lib.Seq.{get_or-set_same, get_or-set_other}
use borrow.Author.Tests.{eqb-true, eqb-false}
use Rattle.wire.specs.Numbers.{flag}
use Rattle.status_word.specs.Word.{conditions_of}
use Rattle.engine_value.specs.Engine.{train_of, inputs_of, adhesion_of, Route, no_skips, progress}
use Rattle.engine_value.specs.declared.Position.{Position}
use Rattle.engine_value.specs.declared.Progress.{Progress}
use Rattle.engine_value.specs.declared.Train.{Train}
use Rattle.engine_value.specs.declared.Inputs.{Inputs}
use Rattle.engine_value.specs.declared.Control.{Control}
use Rattle.engine_value.specs.declared.Engine.{Engine}
use Rattle.event.specs.Kinds.{Role, off, load, report, other, skip}
use Rattle.position.specs.Position.{point_count, placed}
use Rattle.position.specs.Standing.{standing, is_passed, behind}
use Rattle.timing.specs.Report.{run}
use Rattle.position.specs.Skips.{stop_named}
use Rattle.position.proofs.Laws.{stop_below}
use Rattle.position.specs.declared.Standing.{Standing}
use Rattle.timing.proofs.Steps.{InRange, started, run-range, target-most}
use Rattle.timing.proofs.Rule.{as_the_rule}
use Rattle.state_codes.specs.Codes.{code}
use Rattle.conditions.specs.Conditions.{end_ahead, last_ahead, first_ahead, profiles_there, route_conditions, nine, conditions}
use Rattle.whole_list.specs.Values.{History, role_of_call, number_by, constraints_by, reports_by, position_by, length_by, route_by, is_point, skipped_by, reports_since, behind_at_load}
use Rattle.whole_list.specs.Rules.{standing_by, conditions_by, machine_by, state_by, request_by}
use Rattle.traction.specs.View.{traction_of}
use Rattle.whole_list.specs.Requests.{traction_by}
use Rattle.whole_list.proofs.Decoded.{RouteIn, route-in}

-- ---- the engine after a history

abbrev pub skip_by : List Bool → Option ℕ → Bool → List Bool
skip_by l None on = l
skip_by l (Some k) on = set l k on

abbrev pub skips_then : Role → Route → List Bool → List Bool
skips_then off j l = no_skips
skips_then load j l = no_skips
skips_then report j l = l
skips_then other j l = l
skips_then (skip t on) j l = skip_by l (stop_named j t) on

unfoldable pub skips_of : History → List Bool
skips_of [] = no_skips
skips_of (c ∷ h) = skips_then (role_of_call c) (route_by h) (skips_of h)

unfoldable pub progress_run : History → Progress
progress_run h = run (route_by h) (progress (behind_at_load h) false) (reports_since h)

abbrev pub train_by : History → Train
train_by h = train_of (position_by h) (λ v. number_by v h)

abbrev pub inputs_by : History → Inputs
inputs_by h = inputs_of (λ v. number_by v h)

abbrev pub control_by : History → Control
control_by h = record { state = code (state_by h); press = (machine_by h).press; request = request_by h }

abbrev pub engine_of : History → Engine
engine_of h = record {
  points = (route_by h).points;
  skips = skips_of h;
  segments = (route_by h).segments;
  load = (route_by h).load;
  train = train_by h;
  progress = progress_run h;
  inputs = inputs_by h;
  control = control_by h;
  traction = traction_of (traction_by h);
  adhesion = adhesion_of (constraints_by h);
}

-- ---- driver skips

pub stop-in : (j : Route) (t : ℕ) → IfSome (stop_named j t) (λ k. k < point_count j)
stop-in j t = go (stop_named j t) (stop_below j t)
  where
    go : (f : Option ℕ) → ((k : ℕ) → f ≡ Some k → k < point_count j) → IfSome f (λ k. k < point_count j)
    go None e = tt
    go (Some k) e = e k refl

in_array : (j : Route) (f : Option ℕ) → IfSome f (λ k. k < point_count j) → IfSome f (λ k. k < 64)
in_array j None b = tt
in_array j (Some k) b = omega arith

skip_long : (l : List Bool) (f : Option ℕ) (on : Bool) → length l ≡ 64 → length (skip_by l f on) ≡ 64
skip_long l None on e = e
skip_long l (Some k) on e = length-set l k on ∙ e

then_long : (r : Role) (j : Route) (l : List Bool) → length l ≡ 64 → length (skips_then r j l) ≡ 64
then_long off j l e = refl
then_long load j l e = refl
then_long report j l e = e
then_long other j l e = e
then_long (skip t on) j l e = skip_long l (stop_named j t) on e

skips_long : (h : History) → length (skips_of h) ≡ 64
unfolding skips_of
skips_long [] = refl
skips_long (c ∷ h) = then_long (role_of_call c) (route_by h) (skips_of h) (skips_long h)

none_skipped : (n k : ℕ) → get_or (replicate n false) k false ≡ false
none_skipped zero k = refl
none_skipped (suc n) zero = refl
none_skipped (suc n) (suc k) = none_skipped n k

skip_at_lem : (l : List Bool) (f : Option ℕ) (on : Bool) (k : ℕ) → IfSome f (λ i. i < length l) → get_or (skip_by l f on) k false ≡ (if is_point f k then on else get_or l k false)
skip_at_lem l None on k b = refl
skip_at_lem l (Some i) on k b = go _ refl
  where
    go : (t : Bool) → eqb i k ≡ t → get_or (set l i on) k false ≡ (if eqb i k then on else get_or l k false)
    go true q = rw (q, ← eqb-true i k q) (get_or-set_same l i on false b)
    go false q = rw q (get_or-set_other l i k on false (λ z. eqb-false i k q (sym z)))

-- what an event does to the driver skips, by the rules
abbrev pub skipped_then : Role → Route → (ℕ → Bool) → ℕ → Bool
skipped_then r j f k = elim r [ off ↦ false | load ↦ false | report ↦ f k | other ↦ f k | skip t on ↦ if is_point (stop_named j t) k then on else f k ]

then_skipped : (r : Role) (j : Route) (l : List Bool) (f : ℕ → Bool) (k : ℕ) → length l ≡ 64 → get_or l k false ≡ f k → get_or (skips_then r j l) k false ≡ skipped_then r j f k
then_skipped off j l f k n e = none_skipped 64 k
then_skipped load j l f k n e = none_skipped 64 k
then_skipped report j l f k n e = e
then_skipped other j l f k n e = e
then_skipped (skip t on) j l f k n e =
    skip_at_lem l (stop_named j t) on k (rw n (in_array j (stop_named j t) (stop-in j t)))
    ∙ ap (λ b. if is_point (stop_named j t) k then on else b) e

pub skips-at : (h : History) (k : ℕ) → get_or (skips_of h) k false ≡ skipped_by h k
unfolding skips_of skipped_by
skips-at [] k = none_skipped 64 k
skips-at (c ∷ h) k = then_skipped (role_of_call c) (route_by h) (skips_of h) (skipped_by h) k (skips_long h) (skips-at h k)

-- ---- where the points stand

behind-most : (h : History) → behind_at_load h ≤ point_count (route_by h)
unfolding behind_at_load route_by
behind-most [] = omega arith
behind-most (c ∷ h) = go _ refl (behind-most h)
  where
    go : (r : Role) → role_of_call c ≡ r → behind_at_load h ≤ point_count (route_by h) → behind_at_load (c ∷ h) ≤ point_count (route_by (c ∷ h))
    go off q e = rw (q, behind_at_load) (omega arith)
    go load q e = rw (q, behind_at_load) (target-most (route_by (c ∷ h)) (position_by (c ∷ h)) (length_by (c ∷ h)))
    go report q e = rw (q, behind_at_load, route_by) e
    go other q e = rw (q, behind_at_load, route_by) e
    go (skip t on) q e = rw (q, behind_at_load, route_by) e

pub in-range : (h : History) → InRange (route_by h) (progress_run h)
unfolding progress_run
in-range h = run-range (route_by h) (reports_since h) (progress (behind_at_load h) false) (started (route_by h) (behind_at_load h) (behind-most h))

pub stands_at : (h : History) (k : ℕ) → k < point_count (route_by h) → standing (progress_run h) k ≡ standing_by h k
unfolding progress_run standing_by
stands_at h k l = as_the_rule (route_by h) (behind_at_load h) (reports_since h) (behind-most h) k l

-- ---- the conditions look only at points of the journey

first_ext : (s t : ℕ → Standing) (n k : ℕ) → ((i : ℕ) → k ≤ i → i < k + n → s i ≡ t i) → first_ahead s n k ≡ first_ahead t n k
unfolding first_ahead
first_ext s t zero k e = refl
first_ext s t (suc n) k e =
    let z : s k ≡ t k = e k (omega arith) (omega arith) in
    let ih : first_ahead s n (k + 1) ≡ first_ahead t n (k + 1) = first_ext s t n (k + 1) (λ i l m. e i (omega arith) (omega arith)) in
    ap (λ x. if is_passed x then first_ahead s n (k + 1) else k) z ∙ ap (λ m. if is_passed (t k) then m else k) ih

module _ (j : Route) (s t : ℕ → Standing) (ends : RouteIn j) (same : (k : ℕ) → k < point_count j → s k ≡ t k) where
  pub end_ext : end_ahead j.load s ≡ end_ahead j.load t
  end_ext = go _ refl
    where
      go : (b : Bool) → j.load.valid ≡ b → end_ahead j.load s ≡ end_ahead j.load t
      go false q = rw q
      go true q = rw q (ap (λ x. not (behind x)) (same j.load.ending (ends.ending q)))

  last_ext : last_ahead j.load s ≡ last_ahead j.load t
  last_ext = go _ refl
    where
      go : (b : Bool) → j.load.valid ≡ b → last_ahead j.load s ≡ last_ahead j.load t
      go false q = rw q
      go true q = rw q (ap (λ x. not (is_passed x)) (same (point_count j - 1) (omega (arith, ends.ending q))))

  profiles_ext : profiles_there j s ≡ profiles_there j t
  profiles_ext = ap (λ k. j.load.valid && (leb (point_count j) k || placed j k)) (first_ext s t (point_count j) 0 (λ i l m. same i (omega arith)))

  nine_ext : (reports : ℕ) (x : Position) → nine j.load reports (route_conditions j x s) s ≡ nine j.load reports (route_conditions j x t) t
  nine_ext reports x = cc (end_ext, last_ext, profiles_ext)

pub conditions-is : (h : History) → conditions (route_by h) (reports_by h) (position_by h) (standing (progress_run h)) ≡ conditions_by h
unfolding conditions conditions_by
conditions-is h = ap (λ (l : List Bool). conditions_of (map flag l)) (nine_ext (route_by h) (standing (progress_run h)) (standing_by h) (route-in h) (stands_at h) (reports_by h) (position_by h))
