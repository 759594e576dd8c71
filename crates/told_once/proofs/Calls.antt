-- The story goes on through every list of calls.
use mathlib.Core.Path.{◌≡◌, refl, sym, ◌∙◌, ap, subst}
use mathlib.Core.Bool.{false}
use mathlib.Core.List.{List, [], ◌∷◌, ◌++◌, append-nil}
use Prim.Native.Nat.{ℕ}
use Rattle.wire.specs.Judged.{Judged}
use Rattle.wire.specs.Judged.Judged.{refuse, accept}
use Rattle.engine_value.specs.Engine.{Route, fresh, progress}
use Rattle.engine_value.specs.declared.Engine.{Engine}
use Rattle.engine_value.specs.declared.Position.{Position}
use Rattle.engine_value.specs.declared.Progress.{Progress}
use Rattle.event.specs.Event.Event.{PositionReport}
use Rattle.event.specs.Kinds.{Role, off, load, report, other, skip}
use Rattle.event.proofs.Known.{OfRole, known}
use Rattle.timing.specs.Report.{run}
use Rattle.call_values.specs.Call.{Call}
use Rattle.call.specs.Call.{Outcome, step_of}
use Rattle.whole_list.specs.Values.{History, event_of_call, role_of_call, route_by, report_at, reports_since, behind_at_load}
use Rattle.whole_list.specs.Table.{packets_by, table_by, packets_refused_by}
use Rattle.whole_list.specs.Calls.{play, trace, with_accepted, accepted_in, history_of}
use Rattle.whole_list.specs.Recorded.{packets_after}
use Rattle.whole_list.specs.WholeList.{bytes_of_each}
use Rattle.whole_list.proofs.Readable.{packets_fit, refused_fit, memory_read}
use Rattle.whole_list.proofs.Fields.{progress_run, engine_of, in-range}
use Rattle.whole_list.proofs.FieldsStep.{run_kept, route_kept, progress_new}
use Rattle.whole_list.proofs.WholeList.{outcome_if, step_by_rules, kept}
use Rattle.whole_list.specs.Recorded.{timing_points}
use Rattle.told_once.specs.Recording.{Told, goes_on, goes_on_if, recording_from, told_in}
use Rattle.told_once.specs.ToldOnce.{told_since}
use Rattle.told_once.proofs.Story.{Story, begins}
use Rattle.told_once.proofs.Reports.{reporting}
use Rattle.told_once.proofs.Packets.{told-append, refused-tells, report-tells, quiet}

-- ---- one accepted call

abbrev pub StoryBy : History → List Told → Type 0
StoryBy h told = Story (route_by h) (behind_at_load h) (progress_run h) told

moved : {j i : Route} {m n : ℕ} {p q : Progress} {l k : List Told} → j ≡ i → m ≡ n → p ≡ q → l ≡ k → Story j m p l → Story i n q k
moved {i = i} {m = m} {n = n} {p = p} {q = q} {l = l} a b c d s =
    subst (Story i n q) d (subst (λ x. Story i n x l) c (subst (λ x. Story i x p l) b (subst (λ x. Story x m p l) a s)))

module _ (h : History) (c : Call) where
  -- with no report since, the story begins
  anew : reports_since (c ∷ h) ≡ [] → StoryBy (c ∷ h) []
  unfolding progress_run run
  anew e =
      moved refl refl (sym (ap (run (route_by (c ∷ h)) (progress (behind_at_load (c ∷ h)) false)) e)) refl
      (begins (route_by (c ∷ h)) (behind_at_load (c ∷ h)))

  -- the points stand as they did, and nothing is told
  goes_on_lem : route_by (c ∷ h) ≡ route_by h → behind_at_load (c ∷ h) ≡ behind_at_load h → reports_since (c ∷ h) ≡ reports_since h
      → (told : List Told) → StoryBy h told → StoryBy (c ∷ h) told
  goes_on_lem a b d told s = moved (sym a) (sym b) (sym (run_kept h c a b d)) refl s

  reports_on : (x : Position) → event_of_call c ≡ PositionReport x → behind_at_load (c ∷ h) ≡ behind_at_load h → (told : List Told) → StoryBy h told
      → StoryBy (c ∷ h) (told ++ told_in (bytes_of_each (packets_by h c)))
  reports_on x e b told s =
      moved (sym (route_kept c h x e)) (sym b) (sym (progress_new c h x e)) (ap (λ (l : List Told). told ++ l) (sym (report-tells h c x e)))
      (reporting (route_by h) (behind_at_load h) (report_at (c ∷ h)) (progress_run h) (in-range h) told s)

after_call : (h : History) (c : Call) (l : List (List ℕ)) → StoryBy h (told_in l)
    → StoryBy (c ∷ h) (told_in (goes_on (role_of_call c) l (bytes_of_each (packets_by h c))))
unfolding route_by behind_at_load reports_since timing_points told_in
after_call h c l s = go (role_of_call c) refl (known (event_of_call c)).role
  where
    written : List (List ℕ)
    written = bytes_of_each (packets_by h c)

    as_told : (r : Role) → role_of_call c ≡ r → StoryBy (c ∷ h) (told_in (goes_on r l written)) → StoryBy (c ∷ h) (told_in (goes_on (role_of_call c) l written))
    as_told r q t = subst (λ x. StoryBy (c ∷ h) (told_in (goes_on x l written))) (sym q) t

    nothing_more : told_in written ≡ [] → StoryBy (c ∷ h) (told_in l) → StoryBy (c ∷ h) (told_in (l ++ written))
    nothing_more e t =
        moved refl refl refl (sym (told-append l written ∙ ap (λ (m : List Told). told_in l ++ m) e ∙ append-nil (told_in l))) t

    go : (r : Role) → role_of_call c ≡ r → OfRole r (event_of_call c) → StoryBy (c ∷ h) (told_in (goes_on (role_of_call c) l written))
    go off q k = as_told off q (anew h c (rw (q, reports_since)))
    go load q k = as_told load q (moved refl refl refl (sym (quiet h c load q tt)) (anew h c (rw (q, reports_since))))
    go report q (x, e) = as_told report q (moved refl refl refl (sym (told-append l written)) (reports_on h c x e (rw (q, behind_at_load)) (told_in l) s))
    go other q k =
        as_told other q (nothing_more (quiet h c other q tt) (goes_on_lem h c (rw (q, route_by)) (rw (q, behind_at_load)) (rw (q, reports_since)) (told_in l) s))
    go (skip t on) q k =
        as_told (skip t on) q
        (nothing_more (quiet h c (skip t on) q tt) (goes_on_lem h c (rw (q, route_by)) (rw (q, behind_at_load)) (rw (q, reports_since)) (told_in l) s))

-- ---- a list of calls

abbrev Next : Call → History → List (List ℕ) → Outcome → Type 0
Next c h l r =
    (r.engine ≡ engine_of (with_accepted r.answer c h))
    × StoryBy (with_accepted r.answer c h) (told_in (goes_on_if r.answer (role_of_call c) l (packets_after r.answer r.memory)))

one-call : (h : History) (c : Call) (l : List (List ℕ)) → StoryBy h (told_in l) → Next c h l (step_of (engine_of h) c)
one-call h c l s = subst (Next c h l) (sym (step_by_rules h c)) (go (table_by h c))
  where
    go : (t : Judged (Unit {0})) → Next c h l (outcome_if h c t)
    go (refuse n) =
        let w = memory_read (packets_refused_by h c n) (refused_fit h c n) c.memory in
        let e : told_in (l ++ bytes_of_each (packets_refused_by h c n)) ≡ told_in l =
        told-append l (bytes_of_each (packets_refused_by h c n)) ∙ ap (λ (m : List Told). told_in l ++ m) (refused-tells h c n) ∙ append-nil (told_in l) in
        (refl, subst (λ x. StoryBy h (told_in (l ++ x))) (sym w) (subst (StoryBy h) (sym e) s))
    go (accept u) =
        (refl, subst (λ w. StoryBy (c ∷ h) (told_in (goes_on (role_of_call c) l w))) (sym (memory_read (packets_by h c) (packets_fit h c) c.memory)) (after_call h c l s))

all_calls : (calls : List Call) (e : Engine) (h : History) (l : List (List ℕ)) → e ≡ engine_of h → StoryBy h (told_in l)
    → StoryBy (accepted_in h (trace e calls)) (told_in (recording_from l (trace e calls)))
unfolding trace accepted_in recording_from
all_calls [] e h l q s = s
all_calls (c ∷ calls) e h l q s =
    let n = subst (λ x. Next c h l (step_of x c)) (sym q) (one-call h c l s) in
    all_calls calls _ _ _ n.0 n.1

first_story : StoryBy [] (told_in [])
unfolding route_by behind_at_load reports_since progress_run run timing_points told_in
first_story = begins (route_by []) 0

pub story : (calls : List Call) → StoryBy (history_of calls) (told_since calls)
unfolding play trace accepted_in
story calls = all_calls calls fresh [] [] (kept []).seen first_story
