-- A call by the rows that it goes through, and its outcome.
use Rattle.std.proofs.Common.{ℕ, ◌+◌, ◌≤◌, ◌≡◌, refl, sym, ap, ◌∙◌, List, [], ◌∷◌, ◌++◌, length, drop, Result, Ok, Err, arith}
use Rattle.std.specs.Result.{IsErrAnd}
use Prim.Native.Nat.{◌<◌}
use native.Mathlib.Numerals.{add-one}
use lib.ListN.{take, set, get_or}
use lib.Seq.{sets, sets-eq, take-suc, take_all}
use Rattle.adhesion.specs.Constraints.{max_constraints, blank_constraint}
use Rattle.adhesion.specs.declared.TemporaryConstraint.{TemporaryConstraint}
use Rattle.engine_value.specs.Engine.{filled}
use Rattle.engine_value.proofs.Filled.{filled_length}
use Rattle.route.proofs.Filling.{filled_within}
use Rattle.wire.proofs.ListLaws.{one_more}
use Rattle.wire.specs.Judged.{Judged, then_judge}
use Rattle.wire.specs.Judged.Judged.{refuse, accept}
use Rattle.wire.specs.Refusals.{number_of}
use Rattle.wire.specs.View as answers
use Rattle.wire.specs.declared.Refusal.{Refusal}
use Rattle.engine_value.specs.declared.Engine.{Engine}
use Rattle.event.specs.Events.{event_of}
use Rattle.event.specs.Kinds.{Role, load, Carried, kind_of, role_of, carried}
use Rattle.route.specs.Route.{LoadValue, load_of}
use Rattle.event.specs.Event.{Event}
use Rattle.event.specs.View.{event_view}
use Rattle.packets.specs.Packets.{joined}
use Rattle.state_codes.specs.Codes.{state_at}
use Rattle.state_codes.specs.Numbers.{power_rows, state_row, state_rows}
use Rattle.hold.specs.Hold.{held_stop_in, hold_row, rows_of_state}
use Rattle.look_up.specs.declared.Occurrence.{Occurrence}
use Rattle.call_values.specs.Call.{Call, Answer, refused, accepted}
use Rattle.call_values.specs.declared.Accepted.{Accepted}
use Rattle.call.specs.Effect as model
use Rattle.call.specs.Effect.{loaded_in, load_effect, effect_as, effect}
use Rattle.call.specs.Call.{Outcome, Step, packets_refused_in, with_packets, judge, judged, outcome_of, step_of}
use Rattle.event_packets.specs.View.{packets_view}
use Rattle.judge.specs.View.{engine_after, step_view}
use Rattle.judge.specs.declared.Judgement.{Judgement}
use Rattle.engine.specs.View.{answer_of, taken_of, Takes, take_of}

-- an error that `?` hands on is the same
pub err_is : {A : Type 0} (r : Result A Refusal) (x : Refusal) → IsErrAnd r (λ y. y ≡ x) → r ≡ Err x
err_is (Ok a) x h = absurd h
err_is (Err y) x h = ap Err h

-- ---- an outcome

-- bytes stored at the front: "the bytes behind" keep their values
stored-front : (bytes memory : List ℕ) → length bytes ≤ length memory → sets memory 0 bytes ≡ bytes ++ drop (length bytes) memory
stored-front bytes memory h =
    let n : 0 + length bytes ≡ length bytes = omega arith in
    sets-eq bytes memory 0 (omega arith) ∙ ap (λ (k : ℕ). bytes ++ drop k memory) n

-- a call whose event is read, allowed, and occurs
pub record Occurs (e : Engine) (c : Call) (o : Occurrence) : Type 0 where
  pub engine : o.engine.now ≡ e
  pub read : accept (event_view o.event) ≡ event_of c.event
  pub allowed : accept tt ≡ rows_of_state e (kind_of (event_view o.event))

module _ (e : Engine) (c : Call) where
  pub refused_by : (r : Result Accepted Refusal) (x : Refusal) → r ≡ Err x → refuse (number_of x) ≡ judged e c → Takes (take_of e c) e (answers.judged r) c.memory
  refused_by r x told q = rw (told, ← q) (record { engine = refl; answer = refl; output = refl })

  pub accepted_by : (o : Occurrence) → Occurs e c o → (t : Judgement) → accept (step_view o.engine.now t) ≡ judged e c → t.size ≡ length (joined (packets_view (engine_after e t) t.writes)) → t.size ≤ length c.memory
      → (m : Engine) (a : Accepted) (after : List ℕ) → m ≡ engine_after e t → a ≡ answer_of t → after ≡ sets c.memory 0 (joined (packets_view (engine_after e t) t.writes))
      → Takes (take_of e c) m (accept a) after
  accepted_by o occurs t q size h m a after p w out =
      rw (← q, occurs.engine)
      (record {
        engine = p;
        answer = rw (w, size);
        output = out ∙ stored-front (joined (packets_view (engine_after e t) t.writes)) c.memory (omega (arith, size));
      })

  -- ---- the rows

  pub unread : (n : ℕ) → refuse n ≡ event_of c.event → refuse n ≡ judged e c
  unfolding judged
  unread n q = rw (← q) refl

assoc : {A : Type 0} (p q : Judged (Unit {0})) (x : Judged A) → then_judge p (λ a. then_judge q (λ b. x)) ≡ then_judge (then_judge p (λ a. q)) (λ b. x)
assoc (refuse n) q x = refl
assoc (accept a) q x = refl

module _ (e : Engine) (c : Call) (v : Event) (read : accept v ≡ event_of c.event) where
  rows_together : judged e c ≡ then_judge (rows_of_state e (kind_of v)) (λ a. then_judge (effect e c.journey c.book v) (judge e v c.memory))
  unfolding judged state_rows rows_of_state
  rows_together =
      let power = power_rows (state_at e.control.state) (kind_of v) in
      let state = state_row (state_at e.control.state) (kind_of v) in
      let held = hold_row (held_stop_in e) (kind_of v) in
      let rest = then_judge (effect e c.journey c.book v) (judge e v c.memory) in
      rw (← read) (assoc power state (then_judge held (λ a. rest)) ∙ assoc (then_judge power (λ a. state)) held rest)

  pub not_allowed : (n : ℕ) → refuse n ≡ rows_of_state e (kind_of v) → refuse n ≡ judged e c
  not_allowed n q = sym (rows_together ∙ rw (← q) refl)

module _ (e : Engine) (c : Call) (o : Occurrence) (occurs : Occurs e c o) (r : Role) (role : r ≡ role_of (event_view o.event)) where
  abbrev does : Judged model.Effect
  does = effect_as r o.engine.now (carried (event_view o.event)) o.looked c.journey c.book

  judged_is : judged e c ≡ then_judge does (judge o.engine.now (event_view o.event) c.memory)
  unfolding effect
  judged_is = rows_together e c (event_view o.event) occurs.read ∙ rw (← occurs.allowed, role, o.found, occurs.engine) refl

  pub no_effect : (n : ℕ) → refuse n ≡ does → refuse n ≡ judged e c
  no_effect n q = sym (judged_is ∙ rw (← q) refl)

  pub has_effect : (f : model.Effect) → accept f ≡ does → judge o.engine.now (event_view o.event) c.memory f ≡ judged e c
  has_effect f q = sym (judged_is ∙ rw (← q) refl)

-- ---- the load

module _ (e : Engine) (c : Carried) (journey book : List ℕ) where
  pub load_taken : (l : LoadValue) → accept l ≡ load_of journey book → accept (loaded_in e c l) ≡ load_effect e c journey book
  unfolding load_effect
  load_taken l q = rw (← q)

-- one whose profiles a row refuses
pub not_loaded : (e : Engine) (c : Call) (v : Event) → accept v ≡ event_of c.event → accept tt ≡ rows_of_state e (kind_of v) → load ≡ role_of v
    → (n : ℕ) → refuse n ≡ load_of c.journey c.book → refuse n ≡ judged e c
unfolding effect load_effect
not_loaded e c v read allowed role n q = sym (rows_together e c v read ∙ rw (← allowed, ← role, ← q) refl)

-- ---- a call: its rows, and then what profiles turned down write

-- engine, answer and output memory are those of an outcome
pub record Gives (o : Outcome) (m : Engine) (a : Answer) (memory : List ℕ) : Type 0 where
  pub engine : m ≡ o.engine
  pub answer : a ≡ o.answer
  pub output : memory ≡ o.memory

module _ (e : Engine) (c : Call) (m : Engine) (memory : List ℕ) where
  pub taken : (a : Accepted) → Takes (take_of e c) m (accept a) memory → Gives (step_of e c) m (accepted a) memory
  unfolding step_of outcome_of
  taken a t = go (judged e c) t
    where
      go : (j : Judged Step) → Takes (taken_of e c.memory j) m (accept a) memory → Gives (outcome_of e c.memory j) m (accepted a) memory
      go (refuse n) t = absurd (let q = t.answer in cc)
      go (accept s) t = record { engine = t.engine; answer = let q = t.answer in cc; output = t.output }

  pub turned_down : (n : ℕ) → Takes (take_of e c) m (refuse n) memory → (bytes : ℕ) (after : List ℕ)
      → bytes ≡ length (joined (packets_refused_in m n memory)) → after ≡ with_packets (packets_refused_in m n memory) memory
      → Gives (step_of e c) m (refused n bytes) after
  unfolding step_of outcome_of
  turned_down n t bytes after b w = go (judged e c) t
    where
      go : (j : Judged Step) → Takes (taken_of e c.memory j) m (refuse n) memory → Gives (outcome_of e c.memory j) m (refused n bytes) after
      go (refuse k) t =
          let z : n ≡ k = let q = t.answer in cc in
          rw (← z, ← t.engine, ← t.output) (record { engine = refl; answer = ap (refused n) b; output = w })
      go (accept s) t = absurd (let q = t.answer in cc)

-- ---- rows in the engine's array

module _ (rows : List TemporaryConstraint) where
  abbrev array : List TemporaryConstraint
  array = filled max_constraints blank_constraint rows

  pub rows_next : (l : List TemporaryConstraint) (k : ℕ) → k < 31 → length l ≡ 31 → take k l ≡ take k array → take (k + 1) (set l k (get_or rows k blank_constraint)) ≡ take (k + 1) array
  rows_next l k h n e =
      let long : length array ≡ 31 = filled_length blank_constraint max_constraints rows in
      one_more k l (get_or rows k blank_constraint) (omega arith)
      ∙ ap (λ (m : List TemporaryConstraint). m ++ (get_or rows k blank_constraint ∷ [])) e
      ∙ ap (λ (r : TemporaryConstraint). take k array ++ (r ∷ [])) (sym (filled_within blank_constraint max_constraints rows k h))
      ∙ sym (ap (λ (m : ℕ). take m array) (add-one k) ∙ take-suc array k blank_constraint (omega arith))

  pub rows_whole : (l : List TemporaryConstraint) (k : ℕ) → 31 ≤ k → length l ≡ 31 → take k l ≡ take k array → l ≡ array
  rows_whole l k h n e =
      let long : length array ≡ 31 = filled_length blank_constraint max_constraints rows in
      sym (take_all k l (omega arith)) ∙ e ∙ take_all k array (omega arith)
