-- The lists by computation, and what the claim says of some of them.
use mathlib.Core.Path.{◌≡◌, refl, sym, ◌∙◌, ap, subst}
use mathlib.Core.Logic.{inl}
use mathlib.Core.List.{List, [], ◌∷◌, ◌++◌}
use mathlib.Core.Bool.{false, false≢true}
use Prim.Native.Nat.{ℕ, zero, suc, ◌<◌}
use lib.ListN.{get_or, take, length}
use native.Mathlib.Omega.{arith}
use Rattle.packets.specs.Packets.{packet_of, judged_packet}
use Rattle.position.specs.Position.{point, point_count}
use Rattle.position.specs.declared.Standing.TheVariants.{Targeted, Reached, Passed}
use Rattle.wire.specs.Judged.Judged.{accept}
use Rattle.event.specs.Kinds.{off, load, report}
use Rattle.timing.specs.Distance.{leaves}
use Rattle.whole_list.specs.Values.{History, role_of_call, route_by, report_at}
use Rattle.whole_list.specs.Table.{table_by}
use Rattle.call_values.specs.Call.{Call}
use Rattle.call.specs.Trials.{power_on, at, press, plainly, point as point_bytes, trial_load}
use Rattle.whole_list.specs.Rules.{StandsBy, Engaged, no_call}
use Rattle.whole_list.specs.Calls.{history_of, engine_after}
use Rattle.whole_list.specs.Creeping.{TrulyDeparted, Leaving, SurelyDeparted, Keeps, NoTraceOfCreeping}
use Rattle.whole_list.specs.Held.{PressHeld, BecomesHeld, HoldEnds}
use Rattle.whole_list.specs.Example.{Example, stopped, driven, finished, crept, coming, held, pressed, skipped_load}
use Rattle.trackside.specs.Trackside.{foretold}
use Rattle.whole_list.specs.Recorded.{timing_points, rows_told}
use Rattle.whole_list.specs.Trackside.{journey_of_call, journey_by, Gives, Takes}
use Rattle.whole_list.proofs.Computed.{worked}
use Rattle.whole_list.proofs.WholeList.{whole_list}
use Rattle.whole_list.proofs.Engaged.{stands_exactly}
use Rattle.whole_list.proofs.Held.{each-held}
use Rattle.whole_list.proofs.Creeping.{by_leaves, truly-departed, surely-departed, no_trace_of_creeping}

pub example : Example
unfolding worked packet_of judged_packet timing_points rows_told journey_of_call journey_by foretold
example = record {
  answers = refl;
  reached = refl;
  passed = refl;
  ahead = refl;
  engaged = refl;
  accepted = refl;
  last_answer_lem = refl;
  last_status_lem = refl;
  passed_too = refl;
  degraded = refl;
  accepted_too = refl;
  last_status_too = refl;
  answers_crept = refl;
  reached_still = refl;
  departed = refl;
  by_rule = refl;
  by_rule_passed = refl;
  by_rule_crept = refl;
  by_rule_departed = refl;
  by_rows = refl;
  by_rows_too = refl;
  all_nine_lem = refl;
  requested = refl;
  answers_turned_down = refl;
  recorded_lem = refl;
  same_engine = refl;
  same_history = refl;
  last_status_kept = refl;
  targeted_again = refl;
  answers_held = refl;
  at_held_stop = refl;
  reached_held = refl;
  engaged_held = refl;
  answers_skipping = refl;
  told_skipping = refl;
  foretold_skipping = refl;
  requests = refl;
  since_EG = refl;
  ranged = refl;
  remembers = refl;
  none_left = refl;
  answers_slippery = refl;
  told_slippery = refl;
  in_force = refl;
}

-- ---- what the claim says of them

pub engaged-there : Engaged (history_of driven)
engaged-there = (whole_list driven).engaged.in_engine.0 example.engaged

pub not-engaged-there : Engaged (history_of finished) → ⊥
not-engaged-there e =
    let z : (engine_after finished).control.state ≡ 5 = (whole_list finished).engaged.in_engine.1 e in
    let y : (engine_after finished).control.state ≡ 6 = example.degraded in
    omega arith

-- with a press made before the held stop was reached
pub engaged_held_there : Engaged (history_of pressed)
engaged_held_there = (whole_list pressed).engaged.in_engine.0 example.engaged_held

two-points : point_count (route_by (history_of stopped)) ≡ 2
unfolding worked
two-points = refl

two-points_too : point_count (route_by (history_of finished)) ≡ 2
unfolding worked
two-points_too = refl

pub reached_there : StandsBy (history_of stopped) 0 Reached
reached_there = ((whole_list stopped).points.each 0 (omega (arith, two-points)) Reached).0 example.reached

pub passed_there : StandsBy (history_of finished) 1 Passed
passed_there = ((whole_list finished).points.each 1 (omega (arith, two-points_too)) Passed).0 example.passed_too

-- the packet 62 of the departure stands for one
pub departed_there : TrulyDeparted (at 40151 50 ∷ history_of crept) (plainly 62 40151 50 (point_bytes 7001 0x11 0x00))
unfolding worked packet_of judged_packet
departed_there =
    truly-departed crept (at 40151 50) _ (inl refl)
    (record {
      header = record { nidc = 17; nidsp = 500; offset = 40151; speed = 50; operational = 0xFFFFFFFF };
      nidc = 17;
      nidtp = 7001;
      q_eoj_reached = 1;
      alignment = 0;
      status = 2;
      stopping = 0;
    })
    refl refl

-- it is reached, and that report leaves it
leaving_there : Leaving crept (at 40151 50) 0
unfolding worked
leaving_there = record {
  before = record { one_of_them = omega arith; reached = ((whole_list crept).points.each 0 (omega arith) Reached).0 example.reached_still };
  position = record { nidsp = 500; offset = 40151; nidc = 17; speed = 50 };
  is_report_lem = refl;
  accepted = refl;
  left = record { moves = omega arith; front = 40151; is_known = refl; is_beyond = refl };
}

pub surely_there : SurelyDeparted crept (at 40151 50) 0
surely_there = surely-departed crept (at 40151 50) 0 leaving_there

-- each of these four reports keeps 7001 reached: within R, behind −R, with the offset undefined, at speed 0 beyond R
abbrev pub creep : List Call
creep = at 40150 50 ∷ at 39849 50 ∷ at 16777215 50 ∷ at 40151 0 ∷ []

keeps_if : (h : History) (c : Call) (k : ℕ) → role_of_call c ≡ report → leaves (route_by h) (report_at (c ∷ h)) k ≡ false → Keeps h k c
keeps_if h c k r n = record {
  no_load = λ q. let z : report ≡ load = sym r ∙ q in cc;
  no_power_off = λ q. let z : report ≡ off = sym r ∙ q in cc;
  no_departure = λ x e v. false≢true (sym n ∙ by_leaves h c x e k v);
}

kept_so : (n : ℕ) → n < 4 → Keeps (history_of (stopped ++ take n creep)) 0 (get_or creep n no_call)
unfolding worked
kept_so zero l = keeps_if _ _ 0 refl refl
kept_so (suc zero) l = keeps_if _ _ 0 refl refl
kept_so (suc (suc zero)) l = keeps_if _ _ 0 refl refl
kept_so (suc (suc (suc zero))) l = keeps_if _ _ 0 refl refl
kept_so (suc (suc (suc (suc n)))) l = absurd (omega arith)

-- a list in two parts, by the first one's length
parts : (some : List Call) (c : Call) (others : List Call)
    → (take (length some) (some ++ (c ∷ others)) ≡ some) × (get_or (some ++ (c ∷ others)) (length some) no_call ≡ c) × (length some < length (some ++ (c ∷ others)))
parts [] c others = (refl, refl, omega arith)
parts (x ∷ some) c others = let (a, b, l) = parts some c others in (ap (λ (y : List Call). x ∷ y) a, b, omega (arith, l))

pub crept_there : NoTraceOfCreeping stopped creep 0
crept_there =
    no_trace_of_creeping stopped creep 0
    (record { before = record { one_of_them = omega (arith, two-points); reached = reached_there }; each = each })
  where
    each : (some : List Call) (c : Call) (others : List Call) → creep ≡ some ++ (c ∷ others)
        → table_by (history_of (stopped ++ some)) c ≡ accept tt → Keeps (history_of (stopped ++ some)) 0 c
    each some c others e t =
        let (a, b, l) = parts some c others in
        let n = length some in
        let few : n < 4 = subst (λ (y : List Call). n < length y) (sym e) l in
        subst (λ y. Keeps (history_of (stopped ++ y)) 0 c) (ap (take n) e ∙ a)
        (subst (λ y. Keeps (history_of (stopped ++ take n creep)) 0 y) (ap (λ (y : List Call). get_or y n no_call) e ∙ b) (kept_so n few))

-- ---- held

-- 7001 becomes reached at that report, and its hold ends with that load
pub becomes_there : BecomesHeld (history_of coming) (at 39900 0) 0
unfolding worked
becomes_there = record {
  accepted = refl;
  position = record { nidsp = 500; offset = 39900; nidc = 17; speed = 0 };
  is_report_lem = refl;
  after = record { reached = record { one_of_them = omega arith; reached = (stands_exactly (at 39900 0 ∷ history_of coming) 0 Reached).0 refl }; marked = refl };
  before = λ s. let z : Targeted ≡ Reached = (stands_exactly (history_of coming) 0 Reached).1 s in cc;
}

pub ends_there : HoldEnds (history_of held) trial_load 0
unfolding worked
ends_there = record {
  accepted = refl;
  is_load_lem = refl;
  before = record { reached = record { one_of_them = omega arith; reached = (stands_exactly (history_of held) 0 Reached).0 refl }; marked = refl };
  not_kept = none;
}
  where
    none : (i : ℕ) → i < 2 → (point (route_by (trial_load ∷ history_of held)) i).nidtp ≡ 7001 → (point (route_by (trial_load ∷ history_of held)) i).held ≡ false
    none zero l q = refl
    none (suc zero) l q = refl
    none (suc (suc i)) l q = absurd (omega arith)

-- the press before that load is one at a held stop
pub press_there : PressHeld (history_of (coming ++ (at 39900 0 ∷ []))) press
unfolding worked
press_there = (each-held (coming ++ (at 39900 0 ∷ [])) press).twenty.0 refl

-- ---- skipped by trackside

pub gives_there : Gives (history_of (power_on ∷ trial_load ∷ [])) skipped_load 0
unfolding worked
gives_there = record {
  loads = record { accepted = refl; is_load_lem = refl };
  one_of_them = omega arith;
  gained = record { skipped = refl; before = record { index = 0; one_of_them = omega arith; same_name = refl; was = refl } };
}

pub takes_there : Takes (history_of (power_on ∷ trial_load ∷ skipped_load ∷ [])) trial_load 0
unfolding worked
takes_there = record {
  loads = record { accepted = refl; is_load_lem = refl };
  one_of_them = omega arith;
  lost = record { unskipped = refl; before = record { index = 0; one_of_them = omega arith; same_name = refl; was = refl } };
}
