-- Laws of the effects.
use Rattle.std.proofs.Common.{ℕ, ◌≡◌, refl, ap, subst, ◌∙◌, List, ◌++◌, append-nil, Bool, true, false, Option, Some, None}
use Rattle.std.specs.Prelude.{is_some, if◌then◌else◌}
use Rattle.wire.specs.Lists.{tabulate}
use Rattle.engine_value.specs.Engine.{Route, max_points}
use Rattle.engine_value.specs.declared.Progress.{Progress}
use Rattle.position.specs.Position.{point}
use Rattle.timing.specs.declared.Reported.{Reported}
use Rattle.timing.specs.Changes.{passings, changes_of}
use Rattle.packets.specs.declared.PointStatus.{PointStatus}
use Rattle.trackside.specs.Trackside.{trackside_changes}
use Rattle.trackside.specs.View.{status_at, changes_from}
use Rattle.trackside.proofs.Laws.{changes_are}
use Rattle.event.specs.Event.{Event}
use Rattle.event.specs.Kinds.{load, skip, role_of, carried, nothing, bringing}
use Rattle.event.proofs.Known.{OfRole, known}
use Rattle.event_packets.specs.View.{changes_view}
use Rattle.effects.specs.View.{no_changes, reported_changes}

pub then_some : {A : Type 0} (b : Bool) (a : A) → is_some (if b then Some a else None) ≡ b
then_some true a = refl
then_some false a = refl

-- the changes of a report
pub report_changes : (j : Route) (p : Progress) (t : Reported) → changes_view (reported_changes p.next t (point j t.progress.next).held) ≡ changes_of j p t
report_changes j p t = go t.departed refl t.reached refl (point j t.progress.next).held refl
  where
    go : (a : Bool) → t.departed ≡ a → (b : Bool) → t.reached ≡ b → (c : Bool) → (point j t.progress.next).held ≡ c
        → changes_view (reported_changes p.next t (point j t.progress.next).held) ≡ changes_of j p t
    go true q true r true h = rw (q, r, h)
    go true q true r false h = rw (q, r, h)
    go true q false r c h = rw (q, r)
    go false q true r true h = rw (q, r, h)
    go false q true r false h = rw (q, r, h)
    go false q false r c h = rw (q, r)

-- those of a load, where no other point changes
pub load_changes : (old new : Route) (p : Progress) (l : List (Option PointStatus)) → l ≡ tabulate max_points (status_at old new)
    → changes_from p 0 l ++ changes_view no_changes ≡ trackside_changes old new p
unfolding passings
load_changes old new p l e = append-nil (changes_from p 0 l) ∙ ap (changes_from p 0) e ∙ changes_are old new p

-- a load and a driver skip bring no value
pub carries_load : (v : Event) → role_of v ≡ load → carried v ≡ bringing nothing
carries_load v q = ap carried (subst (λ r. OfRole r v) q (known v).role)

pub carries_skip : (v : Event) (t : ℕ) (on : Bool) → role_of v ≡ skip t on → carried v ≡ bringing nothing
carries_skip v t true q = ap carried (subst (λ r. OfRole r v) q (known v).role)
carries_skip v t false q = ap carried (subst (λ r. OfRole r v) q (known v).role)
