-- Over every run of accepted events: the AD request by its sentence, and what each state tells of press, values and request.
use mathlib.Core.Path.{◌≡◌, refl, sym, ◌∙◌}
use mathlib.Core.Logic.{◌↔◌, ◌⊎◌, inl, inr}
use mathlib.Core.Bool.{Bool, true, false, false≢true, not, ◌&&◌, ◌||◌}
use Prim.Native.Nat.{ℕ, zero, suc, ◌≤◌, ◌<◌}
use native.Mathlib.Omega.{arith}
use native.Mathlib.Nat.{eq-or-lt_of_le}
use Rattle.event.specs.Event.{Event}
use Rattle.event.specs.Kinds.{Row, SwitchOn, Configure, SwitchOff, Fail, EngagePress, ByState, row_of}
use Rattle.state_codes.specs.Codes.{is_ad}
use Rattle.states.specs.States.{machine, U, from_re, from_eg, from_de, by_state, by_row, machine_after, wanted, given}
use Rattle.states.specs.declared.Values.{Values}
use Rattle.states.specs.declared.Machine.{Machine}
use Rattle.engagement.specs.Engagement.{Waiting}
use Rattle.engagement.proofs.Run.{Run, Requested, Holds}
use Rattle.state_codes.specs.declared.State.{State}
use Rattle.state_codes.specs.declared.State.TheVariants.{NP, CO, NA, AV, RE, EG, DE, FA}
use Rattle.state_codes.specs.declared.EtcsMode.{EtcsMode}
use Rattle.state_codes.specs.declared.EtcsMode.TheVariants.{Other, AD}
use Rattle.state_codes.specs.declared.DriverLever.{DriverLever}
use Rattle.state_codes.specs.declared.DriverLever.TheVariants.{Neutral, Traction, Brake}
use Rattle.engagement.proofs.Engaged.{engaged_exactly}

both : (a b : Bool) → (a && b) ≡ true → (a ≡ true) × (b ≡ true)
both true b e = (refl, e)
both false b e = absurd (false≢true e)

either : (a b : Bool) → (a || b) ≡ true → (a ≡ true) ⊎ (b ≡ true)
either true b e = inl refl
either false b e = inr e

or_right : (a : Bool) → (a || true) ≡ true
or_right true = refl
or_right false = refl

is_other : (m : EtcsMode) → not (is_ad m) ≡ true → m ≡ Other
is_other Other e = refl
is_other AD e = absurd (false≢true e)

-- ---- the AD request

-- given, wanted and in mode other
given_other : (s : State) (v : Values) (before : Bool) → wanted s v ≡ true → v.mode ≡ Other → given s v before ≡ true
given_other s v before w o = rw (w, o) (or_right before)

-- given before, and wanted
given-still : (s : State) (v : Values) (before : Bool) → wanted s v ≡ true → before ≡ true → given s v before ≡ true
given-still s v before w b = rw (w, b)

-- ---- what each state tells of press, values and request

abbrev Tells : State → Bool → Values → Bool → Type 0
Tells NP p v q = p ≡ false
Tells CO p v q = p ≡ false
Tells NA p v q = p ≡ false
Tells AV p v q = p ≡ false
Tells RE p v q = Waiting v × (q ≡ true)
Tells EG p v q = (p ≡ false) × (v.mode ≡ AD) × (q ≡ true)
Tells DE p v q = (p ≡ false) × (v.mode ≡ AD) × (q ≡ true)
Tells FA p v q = p ≡ false

-- of a machine after an event, with the values after it, and the request before it
abbrev Told : Machine → Values → Bool → Type 0
Told z v q = Tells z.state z.press v (given z.state v q)

abbrev values : Bool → Bool → DriverLever → EtcsMode → Values
values o t l d = record { O = o; T = t; lever = l; mode = d }

u-tells : (o t : Bool) (l : DriverLever) (d : EtcsMode) (q : Bool) → Told (machine (U (values o t l d)) false) (values o t l d) q
u-tells false t l d q = refl
u-tells true false l d q = refl
u-tells true true Neutral Other q = (record { O = refl; T = refl; N = refl; other = refl }, or_right q)
u-tells true true Neutral AD q = refl
u-tells true true Traction d q = refl
u-tells true true Brake d q = refl

re_tells : (p o t : Bool) (l : DriverLever) (d : EtcsMode) (q : Bool) → q ≡ true → Told (from_re p (values o t l d)) (values o t l d) q
re_tells false o t l d q e = u-tells o t l d q
re_tells true false t l d q e = refl
re_tells true true false l d q e = refl
re_tells true true true Neutral Other q e = (record { O = refl; T = refl; N = refl; other = refl }, or_right q)
re_tells true true true Neutral AD q e = (refl, refl, given-still EG (values true true Neutral AD) q refl e)
re_tells true true true Traction d q e = refl
re_tells true true true Brake d q e = refl

eg_tells : (r o t : Bool) (l : DriverLever) (d : EtcsMode) (q : Bool) → q ≡ true → Told (machine (from_eg r (values o t l d)) false) (values o t l d) q
eg_tells r o t Brake d q e = u-tells o t Brake d q
eg_tells r o t Neutral Other q e = u-tells o t Neutral Other q
eg_tells r o t Traction Other q e = u-tells o t Traction Other q
eg_tells true o t Neutral AD q e = u-tells o t Neutral AD q
eg_tells true o t Traction AD q e = u-tells o t Traction AD q
eg_tells false false t Neutral AD q e = (refl, refl, given-still DE (values false t Neutral AD) q refl e)
eg_tells false false t Traction AD q e = (refl, refl, given-still DE (values false t Traction AD) q refl e)
eg_tells false true false Neutral AD q e = (refl, refl, given-still DE (values true false Neutral AD) q refl e)
eg_tells false true false Traction AD q e = (refl, refl, given-still DE (values true false Traction AD) q refl e)
eg_tells false true true Neutral AD q e = (refl, refl, given-still EG (values true true Neutral AD) q refl e)
eg_tells false true true Traction AD q e = (refl, refl, given-still EG (values true true Traction AD) q refl e)

de_tells : (o t : Bool) (l : DriverLever) (d : EtcsMode) (q : Bool) → q ≡ true → Told (machine (from_de (values o t l d)) false) (values o t l d) q
de_tells o t Brake d q e = u-tells o t Brake d q
de_tells o t Neutral Other q e = u-tells o t Neutral Other q
de_tells o t Traction Other q e = u-tells o t Traction Other q
de_tells o t Neutral AD q e = (refl, refl, given-still DE (values o t Neutral AD) q refl e)
de_tells o t Traction AD q e = (refl, refl, given-still DE (values o t Traction AD) q refl e)

by_state_tells : (s : State) (p k r : Bool) (v w : Values) (q : Bool) → Tells s p v q → Told (by_state s k r w) w q
by_state_tells NP p k r v w q h = refl
by_state_tells CO p k r v w q h = refl
by_state_tells NA p k r v w q h = u-tells w.O w.T w.lever w.mode q
by_state_tells AV p k r v w q h = u-tells w.O w.T w.lever w.mode q
by_state_tells RE p k r v w q h = re_tells k w.O w.T w.lever w.mode q h.1
by_state_tells EG p k r v w q h = eg_tells r w.O w.T w.lever w.mode q h.2
by_state_tells DE p k r v w q h = de_tells w.O w.T w.lever w.mode q h.2
by_state_tells FA p k r v w q h = refl

row-tells : (m : Machine) (x : Row) (r : Bool) (v w : Values) (q : Bool) → Tells m.state m.press v q → Told (by_row m x r w) w q
row-tells m SwitchOn r v w q h = refl
row-tells m Configure r v w q h = u-tells w.O w.T w.lever w.mode q
row-tells m SwitchOff r v w q h = refl
row-tells m Fail r v w q h = refl
row-tells m EngagePress r v w q h = by_state_tells m.state m.press true r v w q h
row-tells m ByState r v w q h = by_state_tells m.state m.press m.press r v w q h

after-tells : (m : Machine) (e : Event) (r : Bool) (v w : Values) (q : Bool) → Tells m.state m.press v q → Told (machine_after m e r w) w q
unfolding machine_after
after-tells m e r v w q h = row-tells m (row_of e) r v w q h

press-tells : (s : State) (p : Bool) (v : Values) (q : Bool) → Tells s p v q → p ≡ true → s ≡ RE
press-tells NP p v q h e = absurd (false≢true (sym h ∙ e))
press-tells CO p v q h e = absurd (false≢true (sym h ∙ e))
press-tells NA p v q h e = absurd (false≢true (sym h ∙ e))
press-tells AV p v q h e = absurd (false≢true (sym h ∙ e))
press-tells RE p v q h e = refl
press-tells EG p v q h e = absurd (false≢true (sym h.0 ∙ e))
press-tells DE p v q h e = absurd (false≢true (sym h.0 ∙ e))
press-tells FA p v q h e = absurd (false≢true (sym h ∙ e))

told_in_lem : (s t : State) (p : Bool) (v : Values) (q : Bool) → s ≡ t → Tells s p v q → Tells t p v q
told_in_lem s t p v q e h = rw e at h

module _ (event : ℕ → Event) (value : ℕ → Values) (reached : ℕ → Bool) (Reached AtHeldStop : ℕ → Type 0) (after : ℕ → Machine) (request : ℕ → Bool) (n : ℕ)
    (R : Run event value reached Reached AtHeldStop after request n) where
  abbrev Asked : ℕ → Type 0
  Asked m = Requested value after m

  asked_more : (m : ℕ) → wanted (after (suc m)).state (value (suc m)) ≡ true → Asked m → Asked (suc m)
  asked_more m w r = record {
    from = r.from;
    within = omega (arith, r.within);
    mode_other = r.mode_other;
    wanted_since = λ v l h. go v l (eq-or-lt_of_le h);
  }
    where
      go : (v : ℕ) → r.from ≤ v → (v ≡ suc m) ⊎ (v < suc m) → wanted (after v).state (value v) ≡ true
      go v l (inl q) = rw q w
      go v l (inr q) = r.wanted_since v l (omega arith)

  asked_new : (m : ℕ) → wanted (after m).state (value m) ≡ true → (value m).mode ≡ Other → Asked m
  asked_new m w o = record { from = m; within = omega arith; mode_other = o; wanted_since = λ v l h. let q : v ≡ m = omega arith in rw q w }

  asked : (m : ℕ) → m ≤ n → request m ≡ true → Asked m
  asked zero h e = absurd (false≢true (sym R.no_request_lem ∙ e))
  asked (suc m) h e =
      let s = both (wanted (after (suc m)).state (value (suc m))) _ (sym (R.next_request m h) ∙ e) in
      go s.0 (either (request m) _ s.1) (asked m (omega arith))
    where
      go : wanted (after (suc m)).state (value (suc m)) ≡ true → (request m ≡ true) ⊎ (not (is_ad (value (suc m)).mode) ≡ true) → (request m ≡ true → Asked m) → Asked (suc m)
      go w (inl q) f = asked_more m w (f q)
      go w (inr q) f = asked_new (suc m) w (is_other _ q)

  gives : (m : ℕ) → m ≤ n → Asked m → request m ≡ true
  gives zero h r = absurd (false≢true (sym none ∙ r.wanted_since 0 (omega (arith, r.within)) (omega arith)))
    where
      none : wanted (after 0).state (value 0) ≡ false
      none = rw R.start
  gives (suc m) h r = R.next_request m h ∙ go (eq-or-lt_of_le r.within) (gives m (omega arith))
    where
      w : wanted (after (suc m)).state (value (suc m)) ≡ true
      w = r.wanted_since (suc m) r.within (omega arith)

      go : (r.from ≡ suc m) ⊎ (r.from < suc m) → (Asked m → request m ≡ true) → given (after (suc m)).state (value (suc m)) (request m) ≡ true
      go (inl q) f = given_other (after (suc m)).state (value (suc m)) (request m) w (rw q at r.mode_other)
      go (inr q) f = given-still (after (suc m)).state (value (suc m)) (request m) w
          (f (record { from = r.from; within = omega arith; mode_other = r.mode_other; wanted_since = λ v l k. r.wanted_since v l (omega arith) }))

  pub requested_exactly : (request n ≡ true) ↔ Requested value after n
  requested_exactly = (asked n (omega arith), gives n (omega arith))

  tells : (m : ℕ) → m ≤ n → Tells (after m).state (after m).press (value m) (request m)
  tells zero h = rw R.start refl
  tells (suc m) h = rw (R.next_request m h, R.next m h) (after-tells (after m) (event m) (reached m) (value m) (value (suc m)) (request m) (tells m (omega arith)))

  abbrev told_at : (s : State) → (after n).state ≡ s → Tells s (after n).press (value n) (request n)
  told_at s e = told_in_lem (after n).state s (after n).press (value n) (request n) e (tells n (omega arith))

  -- what is claimed of every run
  pub run_holds : Holds event value reached Reached AtHeldStop after request n
  run_holds = record {
    engaged = engaged_exactly event value reached Reached AtHeldStop after request n R;
    requested = requested_exactly;
    press = press-tells (after n).state (after n).press (value n) (request n) (tells n (omega arith));
    in_RE = λ e. told_at RE e;
    in_EG = λ e. let h = told_at EG e in (h.1, h.2);
    in_DE = λ e. let h = told_at DE e in (h.1, h.2);
  }
