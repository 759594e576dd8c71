use Rattle.std.proofs.Common.{rules, ◌≡◌, ◌∙◌, ap, ap₂, List, [], ◌++◌}
use Rattle.engine_value.specs.Engine.{Route, route_in}
use Rattle.engine_value.specs.declared.Point.{Point}
use Rattle.position.specs.Position.{point}
use Rattle.timing.specs.Changes.{Change, changes_of}
use Rattle.event_packets.specs.View.{told_view, changes_view}
use Rattle.call.specs.Effect.{position_effect}
use Rattle.effects.specs.View.{reported_changes}
use Rattle.effects.specs.declared.Effect.{Effect}
use Rattle.effects.proofs.Laws.{report_changes}
use Rattle.effects.proofs.report.Goals as goal

pub returns-clause-effect : goal.returns-clause-effect
unfolding position_effect
returns-clause-effect c =
    let o = c.args.o.now in
    let e = o.engine.now in
    let t = o.looked.report in
    let at = c.point-held.ensures ∙ ap (λ (j : Route). point j t.progress.next) c.route-2.ensures in
    let changes : changes_view c.changes_of.result ≡ changes_of (route_in e) e.progress t =
    ap changes_view (c.changes_of.ensures ∙ ap (λ (p : Point). reported_changes e.progress.next t p.held) at) ∙ report_changes (route_in e) e.progress t in
    let told : told_view t.progress c.unchanged.result.told ≡ [] = ap (λ (f : Effect). told_view t.progress f.told) c.unchanged.ensures in
    let all : told_view t.progress c.unchanged.result.told ++ changes_view c.changes_of.result ≡ changes_of (route_in e) e.progress t =
    ap₂ (λ (x y : List Change). x ++ y) told changes in
    search (rules, all)
