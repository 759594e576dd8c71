use mathlib.Core.Path.{refl}
use Rattle.std.proofs.Common.{rules, tests, ap, sym, ◌≡◌, ◌∙◌, ℕ, arith}
use Rattle.std.specs.Prelude.{Option, Some, None, Result, Ok, Err}
use Rattle.std.specs.Option.{ok_or, option_map, option_transpose}
use Rattle.wire.specs.View.{judged}
use Rattle.wire.specs.Judged.Judged.{refuse}
use Rattle.wire.specs.Refusals.{number_of}
use Rattle.wire.specs.declared.Refusal.{Refusal}
use Rattle.wire.specs.declared.Refusal.TheVariants.{Points}
use Rattle.engine_value.specs.declared.Segment.{Segment}
use Rattle.segment_record.specs.Record.{lookup_point}
use Rattle.segment_record.specs.View.{entry_view}
use Rattle.segment_record.specs.declared.BookPoint.{BookPoint}
use Rattle.segment_record.specs.declared.Entry.{Entry}
use Rattle.journey.specs.declared.JourneyPoint.{JourneyPoint}
use Rattle.route.specs.Limits.{record_view}
use Rattle.route.specs.View.{point_on}
use Rattle.route.proofs.placed.Placed.point.Goals as goal

-- what the look-up of a point in a record refuses
module _ (p : JourneyPoint) (g : Segment) (e : Refusal) where
  no : {A B : Type 0} (b : B) → ◌≡◌ {A = Result B Refusal} (Ok b) (Err e) → A
  no b q = let z : ◌≡◌ {A = ℕ} 0 1 = cc in absurd (omega arith)

  missing : (x : Entry) (b : Option BookPoint) → lookup_point p.nidtp (entry_view x).points ≡ b → option_transpose (Some (ok_or b Points)) ≡ Err e → (e ≡ Points) × (refuse 11 ≡ point_on p g (record_view (Some x)))
  missing x None n q = (cc, rw n)
  missing x (Some b) n q = no (Some b) q

  refused : (o : Option Entry) (m : Option (Result BookPoint Refusal)) → m ≡ option_map (λ (x : Entry). ok_or (lookup_point p.nidtp (entry_view x).points) Points) o → option_transpose m ≡ Err e
      → (e ≡ Points) × (refuse 11 ≡ point_on p g (record_view o))
  refused None m h q = no {A = (e ≡ Points) × (refuse 11 ≡ point_on p g (record_view None))} {B = Option BookPoint} None (sym (ap option_transpose h) ∙ q)
  refused (Some x) m h q = missing x (lookup_point p.nidtp (entry_view x).points) refl (sym (ap option_transpose h) ∙ q)

pub returns-in_err-found : goal.returns-in_err-found
returns-in_err-found c =
    let n = refused c.args.p.now c.args.self.now.segment c.in_err-found.field-0.0 c.args.self.now.entry c.map.result (search (rules, tests)) (sym c.transpose.ensures ∙ c.in_err-found.was) in
    let r : judged c.from_residual.result ≡ refuse (number_of c.in_err-found.field-0.0) = search rules in
    r ∙ ap (λ (e : Refusal). refuse (number_of e)) n.0 ∙ n.1
