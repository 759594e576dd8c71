-- A call at the engine of a history goes by the table and the packets of the rules.
use mathlib.Core.Path.{◌≡◌, refl, ◌∙◌, ap, subst}
use mathlib.Core.Bool.{Bool}
use mathlib.Core.List.{List, ◌∷◌, ◌++◌}
use Rattle.std.specs.Prelude.{Option}
use lib.Dec.{ltb}
use lib.ListN.{length}
use Rattle.wire.specs.Judged.{Judged, then_judge, row}
use Rattle.wire.specs.Judged.Judged.{refuse, accept}
use Rattle.event.specs.Events.{event_of}
use Rattle.event.specs.Kinds.{kind_of}
use Rattle.event.specs.Event.{Event}
use Rattle.packets.specs.Packets.{joined}
use Rattle.packets.specs.Packet.{Packet}
use Rattle.packets.specs.declared.Requested.{Requested}
use Rattle.state_codes.specs.Codes.{code, state_at}
use Rattle.state_codes.proofs.CodeLaws.{state_code}
use Rattle.state_codes.specs.Numbers.{power_rows, state_row}
use Rattle.state_codes.specs.declared.State.{State}
use Rattle.traction.specs.Requests.{written_content}
use Rattle.traction.specs.declared.Remembered.{Remembered}
use Rattle.traction.specs.View.{remembered_in}
use Rattle.traction.proofs.Laws.{told_again}
use Rattle.hold.specs.Hold.{held_stop_in, hold_row}
use Rattle.call.specs.Packets.{own_packets}
use Rattle.event.specs.Kinds.{carried}
use Rattle.call_values.specs.Packets.{traction_brakes, adhesion_systems, packets_of}
use Rattle.call.specs.Effect.{Effect, effect}
use Rattle.call_values.specs.Call.{Call}
use Rattle.call.specs.Call.{Step, status_in, step_to, step_by, judge, judged}
use Rattle.whole_list.specs.Values.{History, event_of_call, position_by, route_by}
use Rattle.whole_list.specs.Rules.{state_by}
use Rattle.whole_list.specs.Requests.{traction_by}
use Rattle.whole_list.specs.Table.{held_stop_by, head_of_call, own_by, status_by, packets_by, kind_rows, table_by}
use Rattle.whole_list.proofs.Fields.{engine_of}
use Rattle.whole_list.proofs.FieldsStep.{held_is_by, changes_by_lem}
use Rattle.whole_list.proofs.FieldsEffect.{effect_of, effect_is}
use Rattle.whole_list.proofs.FieldsControl.{conditions-in, engine-is}

-- the event that the layout reads
pub event-is : (c : Call) (e : Event) → event_of c.event ≡ accept e → event_of_call c ≡ e
unfolding event_of_call
event-is c e q = rw (q, event_of_call)

-- an accepted call, by the rules
abbrev pub ruled : History → Call → Step
ruled h c = record { engine = engine_of (c ∷ h); packets = packets_by h c }

status_is : (h : History) → status_in (engine_of h) ≡ status_by h
status_is h = λ i. record { state = code (state_by h); conditions = conditions-in h i; speed = (position_by h).speed }

own_is : (h : History) (c : Call) → own_packets (engine_of h) (event_of_call c) (engine_of (c ∷ h)) ≡ own_by h c
own_is h c =
    let slippery = adhesion_systems (route_by (c ∷ h)) (position_by (c ∷ h)) (carried (event_of_call c)).constraints in
    let packet : Option Requested → List Packet = λ o. traction_brakes (route_by (c ∷ h)) (position_by (c ∷ h)) o ++ slippery in
    ap (λ (s : State). packet (written_content s (event_of_call c) (remembered_in (engine_of h).traction) (remembered_in (engine_of (c ∷ h)).traction))) (state_code (state_by h))
    ∙ ap (λ (m : Option Remembered). packet (written_content (state_by h) (event_of_call c) m (remembered_in (engine_of (c ∷ h)).traction))) (told_again (traction_by h))
    ∙ ap (λ (m : Option Remembered). packet (written_content (state_by h) (event_of_call c) (traction_by h) m)) (told_again (traction_by (c ∷ h)))

step_is : (h : History) (c : Call) → step_by (engine_of h) (event_of_call c) (effect_of h c) ≡ ruled h c
unfolding packets_by
step_is h c =
    ap (λ m. step_to (engine_of h) (event_of_call c) (effect_of h c) m) (engine-is h c)
    ∙ λ i. record { engine = engine_of (c ∷ h); packets = packets_of (route_by (c ∷ h)) (position_by (c ∷ h)) (head_of_call c) (changes_by_lem h c i) (own_is h c i) (status_is h i) (status_is (c ∷ h) i) }

-- the rows one after the other
rows_on : (power state held kind : Judged (Unit {0})) (f : Effect) (test : Effect → Bool) (step : Effect → Step)
    → then_judge power (λ u. then_judge state (λ u. then_judge held (λ u. then_judge (then_judge kind (λ u. accept f)) (λ f. then_judge (row 16 (test f)) (λ u. accept (step f))))))
    ≡ then_judge (then_judge power (λ u. then_judge state (λ u. then_judge held (λ u. then_judge kind (λ u. row 16 (test f)))))) (λ u. accept (step f))
rows_on (refuse n) s g k f test step = refl
rows_on (accept p) (refuse n) g k f test step = refl
rows_on (accept p) (accept s) (refuse n) k f test step = refl
rows_on (accept p) (accept s) (accept g) (refuse n) f test step = refl
rows_on (accept p) (accept s) (accept g) (accept k) f test step = refl

module _ (h : History) (c : Call) where
  abbrev shorter : List Packet → Bool
  shorter ps = ltb (length c.memory) (length (joined ps))

  abbrev engine_rows : Event → Judged Step
  engine_rows e =
      then_judge (power_rows (state_at (code (state_by h))) (kind_of e)) (λ u.
      then_judge (state_row (state_at (code (state_by h))) (kind_of e)) (λ u.
      then_judge (hold_row (held_stop_in (engine_of h)) (kind_of e)) (λ u.
      then_judge (effect (engine_of h) c.journey c.book e) (λ f.
      then_judge (row 16 (shorter (step_by (engine_of h) e f).packets)) (λ u.
      accept (step_by (engine_of h) e f))))))

  abbrev rule_rows : Event → Judged (Unit {0})
  rule_rows e =
      then_judge (power_rows (state_by h) (kind_of e)) (λ u.
      then_judge (state_row (state_by h) (kind_of e)) (λ u.
      then_judge (hold_row (held_stop_by h) (kind_of e)) (λ u.
      then_judge (kind_rows h c) (λ u.
      row 16 (shorter (packets_by h c))))))

  same_rows : engine_rows (event_of_call c) ≡ then_judge (rule_rows (event_of_call c)) (λ u. accept (ruled h c))
  same_rows =
      let e = event_of_call c in
      let k = kind_of e in
      ap (λ s.
      then_judge (power_rows s k) (λ u.
      then_judge (state_row s k) (λ u.
      then_judge (hold_row (held_stop_in (engine_of h)) k) (λ u.
      then_judge (effect (engine_of h) c.journey c.book e) (λ f.
      then_judge (row 16 (shorter (step_by (engine_of h) e f).packets)) (λ u.
      accept (step_by (engine_of h) e f))))))) (state_code (state_by h))
      ∙ ap (λ o.
      then_judge (power_rows (state_by h) k) (λ u.
      then_judge (state_row (state_by h) k) (λ u.
      then_judge (hold_row o k) (λ u.
      then_judge (effect (engine_of h) c.journey c.book e) (λ f.
      then_judge (row 16 (shorter (step_by (engine_of h) e f).packets)) (λ u.
      accept (step_by (engine_of h) e f))))))) (held_is_by h)
      ∙ ap (λ m.
      then_judge (power_rows (state_by h) k) (λ u.
      then_judge (state_row (state_by h) k) (λ u.
      then_judge (hold_row (held_stop_by h) k) (λ u.
      then_judge m (λ f.
      then_judge (row 16 (shorter (step_by (engine_of h) e f).packets)) (λ u.
      accept (step_by (engine_of h) e f))))))) (effect_is h c)
      ∙ rows_on (power_rows (state_by h) k) (state_row (state_by h) k) (hold_row (held_stop_by h) k) (kind_rows h c) (effect_of h c) (λ f. shorter (step_by (engine_of h) e f).packets) (λ f. step_by (engine_of h) e f)
      ∙ ap (λ (s : Step).
      then_judge (then_judge (power_rows (state_by h) k) (λ u. then_judge (state_row (state_by h) k) (λ u. then_judge (hold_row (held_stop_by h) k) (λ u. then_judge (kind_rows h c) (λ u. row 16 (shorter s.packets)))))) (λ u. accept s)) (step_is h c)

  pub judged_is : judged (engine_of h) c ≡ then_judge (table_by h c) (λ u. accept (ruled h c))
  unfolding judged judge table_by
  judged_is = go (event_of c.event) refl
    where
      go : (m : Judged Event) → event_of c.event ≡ m → then_judge m engine_rows ≡ then_judge (then_judge m rule_rows) (λ u. accept (ruled h c))
      go (refuse n) q = refl
      go (accept e) q = subst (λ x. engine_rows x ≡ then_judge (rule_rows x) (λ u. accept (ruled h c))) (event-is c e q) same_rows
