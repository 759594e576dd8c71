-- THE CLAIM, for every list of calls.
use mathlib.Core.Path.{◌≡◌, refl, sym, ◌∙◌, ap, subst}
use mathlib.Core.Logic.{◌≢◌, ◌↔◌}
use mathlib.Core.Bool.{Bool, false}
use mathlib.Core.List.{List, [], ◌∷◌, map}
use Rattle.std.specs.Prelude.{Option, Some, None}
use Prim.Native.Nat.{ℕ}
use lib.ListN.{length, take}
use Rattle.wire.specs.Judged.{Judged, then_judge}
use Rattle.wire.specs.Judged.Judged.{refuse, accept}
use Rattle.engine_value.specs.Engine.{fresh, route_in}
use Rattle.engine_value.specs.declared.Engine.{Engine}
use Rattle.event.specs.Kinds.{Row, SwitchOn, Configure, SwitchOff, Fail, EngagePress, ByState, kind_of, row_of}
use Rattle.event.specs.Event.{Event}
use Rattle.event.proofs.Known.{OfRow, known}
use Rattle.packets.specs.Packets.{packet_of, joined, cut_packets}
use Rattle.timing.specs.Report.{run}
use Rattle.state_codes.specs.Codes.{code, state_at}
use Rattle.state_codes.proofs.CodeLaws.{state_code}
use Rattle.state_codes.specs.Numbers.{power_rows}
use Rattle.states.specs.States.{machine, by_row, machine_after}
use Rattle.states.specs.declared.Values.{Values}
use Rattle.state_codes.specs.declared.State.{State}
use Rattle.state_codes.specs.declared.State.TheVariants.{NP, CO, EG}
use Rattle.call_values.specs.Call.{Call, Answer, refused, accepted, bytes_written}
use Rattle.call_values.specs.declared.Accepted.{Accepted}
use Rattle.call.specs.Call.{Outcome, Step, conditions_in, with_packets, judged, outcome_of, step_of}
use Rattle.call.proofs.Rows.{memory_length}
use Rattle.whole_list.specs.Values.{History, event_of_call, latest, position_by, route_by, reports_since, behind_at_load}
use Rattle.whole_list.specs.Rules.{conditions_by, machine_by, state_by, request_by, Engaged}
use Rattle.whole_list.specs.Requests.{requests_since, after_requests, traction_by}
use Rattle.whole_list.proofs.Requests.{traction_exactly}
use Rattle.whole_list.specs.Table.{packets_by, accepted_by, table_by, packets_refused_by, packets_if, written_by, answer_if, answer_by}
use Rattle.whole_list.specs.Calls.{play, engine_after, trace, with_accepted, accepted_in, history_of, later_answer, last_answer, keep, accepted_calls}
use Rattle.whole_list.specs.Recorded.{packets_after, rows_told, newest, last_status}
use Rattle.whole_list.specs.Slippery.{SlipperyTold}
use Rattle.event.proofs.Sentences.{sentences}
use Rattle.whole_list.proofs.RowNumbers.{refused_21}
use Rattle.whole_list.proofs.Slippery.{shows-rows, slippery_stands, slippery_rows}
use Rattle.whole_list.specs.WholeList.{EngagedExactly, PointsStand, bytes_of_each, StatusPacket, StatusWritten, RequestWrites, Has, Slippery, JudgedByTable, WholeList, NothingAhead, NoTrace, RequestExactly}
use Rattle.whole_list.proofs.Decoded.{zones-booked}
use Rattle.whole_list.proofs.Fields.{skips_of, progress_run, engine_of, stands_at}
use Rattle.whole_list.proofs.FieldsControl.{conditions-in}
use Rattle.whole_list.proofs.TableRows.{ruled, judged_is}
use Rattle.whole_list.proofs.Engaged.{Good, power_accepts, stands_exactly, saw, held_exactly, engaged_exactly, requested_exactly}
use Rattle.whole_list.proofs.Recorded.{newest_refused}
use Rattle.whole_list.proofs.Readable.{packets_fit, refused_fit, written_fit, memory_read, read_back}
use Rattle.whole_list.proofs.Shown.{shown_by}
use Rattle.whole_list.proofs.Passed as passed
use Rattle.whole_list.proofs.Status.{Names, names_next, names_first}

-- ---- one call

abbrev pub outcome_by : History → Call → Judged (Unit {0}) → Outcome
outcome_by h c t = outcome_of (engine_of h) c.memory (then_judge t (λ u. accept (ruled h c)))

pub outcome-is : (h : History) (c : Call) → step_of (engine_of h) c ≡ outcome_by h c (table_by h c)
unfolding step_of
outcome-is h c = ap (outcome_of (engine_of h) c.memory) (judged_is h c)

-- the engine after a call of which the table says so
abbrev engine_if : History → Call → Judged (Unit {0}) → Engine
engine_if h c (refuse n) = engine_of h
engine_if h c (accept u) = engine_of (c ∷ h)

abbrev pub outcome_if : History → Call → Judged (Unit {0}) → Outcome
outcome_if h c t = record { answer = answer_if h c t; engine = engine_if h c t; memory = with_packets (packets_if h c t) c.memory }

module _ (h : History) (c : Call) where
  by_rules : (t : Judged (Unit {0})) → outcome_by h c t ≡ outcome_if h c t
  unfolding outcome_of
  by_rules (refuse n) = refl
  by_rules (accept u) = refl

  pub step_by_rules : step_of (engine_of h) c ≡ outcome_if h c (table_by h c)
  step_by_rules = outcome-is h c ∙ by_rules (table_by h c)

  bytes_if : (t : Judged (Unit {0})) → bytes_written (answer_if h c t) ≡ length (joined (packets_if h c t))
  bytes_if (refuse n) = refl
  bytes_if (accept u) = refl

  bytes_are : bytes_written (step_of (engine_of h) c).answer ≡ length (joined (written_by h c))
  bytes_are = ap (λ r. bytes_written r.answer) step_by_rules ∙ bytes_if (table_by h c)

  pub written_is : packets_after (step_of (engine_of h) c).answer (step_of (engine_of h) c).memory ≡ bytes_of_each (written_by h c)
  written_is =
      ap (λ r. cut_packets (take (bytes_written (step_of (engine_of h) c).answer) r.memory)) step_by_rules
      ∙ ap (λ n. cut_packets (take n (with_packets (written_by h c) c.memory))) bytes_are
      ∙ memory_read (written_by h c) (written_fit h c) c.memory

  accepted_if : (t : Judged (Unit {0})) → ((a : Accepted) × (answer_if h c t ≡ accepted a)) ↔ (t ≡ accept tt)
  accepted_if (refuse n) = ((λ p. let q = p.1 in cc), (λ e. cc))
  accepted_if (accept u) = ((λ p. refl), (λ e. (accepted_by h c, refl)))

  number_if : (t : Judged (Unit {0})) (n : ℕ) → ((bytes : ℕ) × (answer_if h c t ≡ refused n bytes)) ↔ (t ≡ refuse n)
  number_if (refuse m) n = (
    (λ p. let q = p.1 in let z : m ≡ n = cc in ap refuse z),
    (λ e. let z : m ≡ n = cc in (length (joined (packets_refused_by h c m)), ap (λ k. refused k (length (joined (packets_refused_by h c m)))) z)),
  )
  number_if (accept u) n = ((λ p. let q = p.1 in cc), (λ e. cc))

  answer-is : (step_of (engine_of h) c).answer ≡ answer_by h c
  answer-is = ap (λ r. r.answer) step_by_rules

  -- ---- 4
  judged_by_table : JudgedByTable (engine_of h) h c (step_of (engine_of h) c)
  judged_by_table = record {
    is_accepted = subst (λ x. ((a : Accepted) × (x ≡ accepted a)) ↔ (table_by h c ≡ accept tt)) (sym answer-is) (accepted_if (table_by h c));
    number = λ n. subst (λ x. ((bytes : ℕ) × (x ≡ refused n bytes)) ↔ (table_by h c ≡ refuse n)) (sym answer-is) (number_if (table_by h c) n);
    answer = answer-is;
    refused_engine = λ n e. ap (λ r. r.engine) step_by_rules ∙ ap (engine_if h c) e;
    memory = ap (λ r. r.memory) step_by_rules;
    bytes = bytes_are;
    as_long = memory_length (engine_of h) c;
    packets = written_is;
    read_back = ap (map packet_of) written_is ∙ read_back (written_by h c) (written_fit h c);
    traction = λ e. subst (λ (l : List (List ℕ)). Has 61 l ↔ RequestWrites h c) (sym (written_is ∙ ap (λ t. bytes_of_each (packets_if h c t)) e)) (traction_exactly h c);
    slippery = subst (λ (l : List (List ℕ)). Has 64 l ↔ ((table_by h c ≡ accept tt) × Slippery c)) (sym written_is) (slippery_stands h c);
  }

-- ---- a list of calls

-- what is kept up, call by call: o is the last packet 68, a the last accepted answer
abbrev pub Named : History → Option (List ℕ) → Type 0
Named [] o = o ≡ None
Named (c ∷ h) o = Names o (c ∷ h)

abbrev pub Answered : History → Option Accepted → Type 0
Answered [] a = a ≡ None
Answered (c ∷ h) a = (x : Accepted) × (a ≡ Some x) × (x.state ≡ code (state_by (c ∷ h)))

pub record Kept (e : Engine) (h : History) (o : Option (List ℕ)) (a : Option Accepted) : Type 0 where
  pub seen : e ≡ engine_of h
  pub good : Good h
  pub named : Named h o
  pub answered : Answered h a

-- the first accepted event is power on, and leads to CO
first_state : (e : Event) (r : Bool) (v : Values) → power_rows NP (kind_of e) ≡ accept tt → (machine_after (machine NP false) e r v).state ≡ CO
unfolding power_rows machine_after
first_state e r v a = go (row_of e) (kind_of e) (known e).row a
  where
    go : (w : Row) (n : ℕ) → OfRow w n e → power_rows NP n ≡ accept tt → (by_row (machine NP false) w r v).state ≡ CO
    go SwitchOn n k a = refl
    go Configure n k a = cc (rw k.1 at a)
    go SwitchOff n k a = cc (rw k.1 at a)
    go Fail n k a = cc (rw k.1 at a)
    go EngagePress n k a = cc (rw k.1 at a)
    go ByState n k a = cc (rw k.0 at a)

first_CO : (c : Call) → table_by [] c ≡ accept tt → state_by (c ∷ []) ≢ NP
unfolding machine_by
first_CO c e q =
    let z : state_by (c ∷ []) ≡ CO = first_state (event_of_call c) _ _ (power_accepts [] c e) in
    cc (sym q ∙ z)

named_more : (h : History) (c : Call) (o : Option (List ℕ)) → table_by h c ≡ accept tt → Named h o → Named (c ∷ h) (newest o (bytes_of_each (packets_by h c)))
named_more [] c o e n = names_first o c (first_CO c e)
named_more (x ∷ h) c o e n = names_next o (x ∷ h) c n

-- the call's outcome in the trace
abbrev Next : Call → History → Option (List ℕ) → Option Accepted → Outcome → Type 0
Next c h o a r = Kept r.engine (with_accepted r.answer c h) (newest o (packets_after r.answer r.memory)) (later_answer r.answer a)

keeps_one : (h : History) (o : Option (List ℕ)) (a : Option Accepted) (c : Call) → Good h → Named h o → Answered h a → Next c h o a (step_of (engine_of h) c)
keeps_one h o a c g n s = subst (Next c h o a) (sym (step_by_rules h c)) (go (table_by h c) refl)
  where
    go : (t : Judged (Unit {0})) → table_by h c ≡ t → Next c h o a (outcome_if h c t)
    go (refuse m) e =
        record {
          seen = refl;
          good = g;
          named = rw (memory_read (packets_refused_by h c m) (refused_fit h c m) c.memory, newest_refused (route_by h) (position_by h) o m (length c.memory)) n;
          answered = s;
        }
    go (accept u) e =
        record {
          seen = refl;
          good = (e, g);
          named = rw (memory_read (packets_by h c) (packets_fit h c) c.memory) (named_more h c o e n);
          answered = (accepted_by h c, refl, refl);
        }

keeps : (calls : List Call) (e : Engine) (h : History) (o : Option (List ℕ)) (a : Option Accepted) → Kept e h o a
    → Kept (play e calls) (accepted_in h (trace e calls)) (last_status o (trace e calls)) (last_answer a (trace e calls))
unfolding play trace accepted_in last_status last_answer
keeps [] e h o a k = k
keeps (c ∷ calls) e h o a k =
    keeps calls _ _ _ _ (subst (λ x. Next c h o a (step_of x c)) (sym k.seen) (keeps_one h o a c k.good k.named k.answered))

fresh-is : fresh ≡ engine_of []
unfolding latest route_by skips_of progress_run run reports_since behind_at_load machine_by request_by requests_since after_requests traction_by
fresh-is = refl

pub kept : (calls : List Call) → Kept (engine_after calls) (history_of calls) (last_status None (trace fresh calls)) (last_answer None (trace fresh calls))
kept calls = keeps calls fresh [] None None (record { seen = fresh-is; good = tt; named = refl; answered = refl })

-- ---- 1
code_EG : (s : State) → (code s ≡ 5) ↔ (s ≡ EG)
code_EG s = ((λ e. sym (state_code s) ∙ ap state_at e), (λ e. ap code e))

five_exactly : (h : History) → Good h → (n : ℕ) → n ≡ code (state_by h) → (n ≡ 5) ↔ Engaged h
five_exactly h g n e =
    ((λ q. (engaged_exactly h g).0 ((code_EG (state_by h)).0 (sym e ∙ q))), (λ r. e ∙ (code_EG (state_by h)).1 ((engaged_exactly h g).1 r)))

answered_state : (h : History) (o : Option Accepted) → Answered h o → (a : Accepted) → o ≡ Some a → a.state ≡ code (state_by h)
answered_state [] o s a e = cc
answered_state (c ∷ h) o (b, q, w) a e = let z : a ≡ b = cc in ap (λ x. x.state) z ∙ w

some-answer : (h : History) (o : Option Accepted) → Answered h o → h ≢ [] → (a : Accepted) × (o ≡ Some a)
some-answer [] o s n = absurd (n refl)
some-answer (c ∷ h) o (b, q, w) n = (b, q)

claim_engaged : (e : Engine) (h : History) (o : Option (List ℕ)) (a : Option Accepted) → Kept e h o a → EngagedExactly e h a
claim_engaged e h o a k = record {
  in_engine = five_exactly h k.good e.control.state (ap (λ x. x.control.state) k.seen);
  in_answer = λ x q. five_exactly h k.good x.state (answered_state h a k.answered x q);
  answered = some-answer h a k.answered;
}

-- ---- 2
claim_points : (e : Engine) (h : History) → e ≡ engine_of h → PointsStand e h
claim_points e h q = record {
  in_force = ap route_in q;
  each = λ k l s. rw (q, stands_at h k l) (stands_exactly h k s);
}

-- ---- 3
named-before : (h : History) (o : Option (List ℕ)) → Named h o → h ≡ [] → o ≡ None
named-before [] o n e = n
named-before (c ∷ h) o n e = cc

named_since : (h : History) (o : Option (List ℕ)) → Named h o → h ≢ [] → (packet : List ℕ) × (o ≡ Some packet) × StatusPacket packet (code (state_by h)) (conditions_by h)
named_since [] o n e = absurd (e refl)
named_since (c ∷ h) o n e = (n.packet, n.is_last, n.tells)

claim_status : (e : Engine) (h : History) (o : Option (List ℕ)) (a : Option Accepted) → Kept e h o a → StatusWritten e h o
claim_status e h o a k = record {
  before = named-before h o k.named;
  since = named_since h o k.named;
  state = ap (λ x. x.control.state) k.seen;
  conditions = ap conditions_in k.seen ∙ conditions-in h;
}

-- ---- 4
claim_judged : (e : Engine) (h : History) (c : Call) → e ≡ engine_of h → JudgedByTable e h c (step_of e c)
claim_judged e h c q = rw q (judged_by_table h c)

pub whole_list : (calls : List Call) → WholeList calls
whole_list calls =
    let k = kept calls in
    record {
      engaged = claim_engaged _ _ _ _ k;
      points = claim_points _ _ k.seen;
      status = claim_status _ _ _ _ k;
      judged = λ earlier c later e. claim_judged _ _ c (kept earlier).seen;
      request = ap (λ x. x.control.request) k.seen;
      traction = ap (λ x. x.traction) k.seen;
      as_ruled = record { stands = stands_exactly (history_of calls); became = saw (history_of calls); held = held_exactly (history_of calls); zones = zones-booked (history_of calls) };
      shown = rw k.seen (shown_by (history_of calls));
      slippery = rw k.seen (shows-rows (history_of calls));
    }

-- of a call that is made next
pub judged_next : (earlier : List Call) (c : Call) → JudgedByTable (engine_after earlier) (history_of earlier) c (step_of (engine_after earlier) c)
judged_next earlier c = claim_judged _ _ c (kept earlier).seen

-- ---- corollaries

-- each accepted kind 15, and nothing else, writes a packet 64, with its rows
pub each-slippery : (earlier : List Call) (c : Call) → SlipperyTold earlier c
each-slippery earlier c = record {
  rows = ap rows_told (judged_next earlier c).packets ∙ slippery_rows (history_of earlier) c;
  twenty_one = λ b.
      let t = refused_21 (history_of earlier) c in
      let r = sentences.twenty_one c.event b in
      (λ q. r.0 (t.0 q), λ q. t.1 (r.1 q));
}

-- refused calls leave no trace
left : (e : Engine) (c : Call) (n bytes : ℕ) → (step_of e c).answer ≡ refused n bytes → (step_of e c).engine ≡ e
unfolding step_of outcome_of
left e c n bytes q = go (judged e c) q
  where
    go : (m : Judged Step) → (outcome_of e c.memory m).answer ≡ refused n bytes → (outcome_of e c.memory m).engine ≡ e
    go (refuse k) q = refl
    go (accept s) q = cc

untraced : (calls : List Call) (e : Engine) (h : History)
    → (play e (accepted_calls e calls) ≡ play e calls) × (accepted_in h (trace e (accepted_calls e calls)) ≡ accepted_in h (trace e calls))
unfolding play trace accepted_in accepted_calls
untraced [] e h = (refl, refl)
untraced (c ∷ calls) e h = go (step_of e c).answer refl (untraced calls e h) (λ l. untraced calls (step_of e c).engine l)
  where
    next : Engine
    next = (step_of e c).engine

    Same : Engine → History → List Call → Type 0
    Same x l cs = (play e cs ≡ play x calls) × (accepted_in h (trace e cs) ≡ accepted_in l (trace x calls))

    go : (r : Answer) → (step_of e c).answer ≡ r
        → (play e (accepted_calls e calls) ≡ play e calls) × (accepted_in h (trace e (accepted_calls e calls)) ≡ accepted_in h (trace e calls))
        → ((l : History) → (play next (accepted_calls next calls) ≡ play next calls) × (accepted_in l (trace next (accepted_calls next calls)) ≡ accepted_in l (trace next calls)))
        → Same next (with_accepted (step_of e c).answer c h) (keep (step_of e c).answer c (accepted_calls next calls))
    go (refused n bytes) q here there = rw q (subst (λ x. Same x h (accepted_calls x calls)) (sym (left e c n bytes q)) here)
    go (accepted x) q here there = rw q ((there h).0, ap (λ r. accepted_in (with_accepted r c h) (trace next (accepted_calls next calls))) q ∙ (there (c ∷ h)).1)

pub no_trace : (calls : List Call) → NoTrace calls
no_trace calls = let z = untraced calls fresh [] in record { same_engine = z.0; same_history = z.1 }

-- the AD request by its sentence
pub ad_request : (calls : List Call) → RequestExactly calls
ad_request calls =
    let k = kept calls in
    rw (whole_list calls).request (requested_exactly (history_of calls) k.good)

-- nothing ahead is recorded as passed
pub nothing-ahead : (earlier : List Call) (c : Call) → NothingAhead earlier c
nothing-ahead earlier c = passed.nothing-ahead earlier c (judged_next earlier c)
