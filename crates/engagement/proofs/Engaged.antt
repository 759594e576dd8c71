-- Over every run of accepted events the state is EG exactly when the engagement rule holds. Forward by an invariant for each state; back by
-- climbing from the press to the AD report in RE, and from there in EG.
use mathlib.Core.Path.{◌≡◌, refl, sym, ◌∙◌, ap}
use mathlib.Core.Logic.{◌≢◌, ◌↔◌, ◌⊎◌, inl, inr}
use mathlib.Core.Bool.{Bool, true, false, false≢true}
use Prim.Native.Nat.{ℕ, zero, suc, ◌≤◌, ◌<◌}
use native.Mathlib.Omega.{arith}
use native.Mathlib.Nat.{eq-or-lt_of_le, le_of_suc-le-suc}
use Rattle.wire.specs.Judged.Judged.{accept}
use Rattle.event.specs.Kinds.{Row, SwitchOn, Configure, SwitchOff, Fail, EngagePress, ByState, kind_of, row_of}
use Rattle.event.specs.Event.{Event}
use Rattle.event.specs.Event.Event.{PowerOn, Configured, PowerOff, Fault, Press, Mode}
use Rattle.event.proofs.Known.{OfRow, known}
use Rattle.state_codes.specs.Codes.{is}
use Rattle.states.specs.States.{machine, U, from_re, from_eg, from_de, by_state, by_row, machine_after}
use Rattle.states.specs.declared.Values.{Values}
use Rattle.states.specs.declared.Machine.{Machine}
use Rattle.state_codes.specs.Numbers.{power_rows, state_row}
use Rattle.engagement.specs.Engagement.{Waiting, Ready, Driving, Engagement}
use Rattle.engagement.proofs.Run.{Run}
use Rattle.state_codes.proofs.CodeLaws.{same_state}
use Rattle.state_codes.specs.declared.State.{State}
use Rattle.state_codes.specs.declared.State.TheVariants.{NP, CO, NA, AV, RE, EG, DE, FA}
use Rattle.state_codes.specs.declared.EtcsMode.{EtcsMode}
use Rattle.state_codes.specs.declared.EtcsMode.TheVariants.{Other, AD}
use Rattle.state_codes.specs.declared.DriverLever.{DriverLever}
use Rattle.state_codes.specs.declared.DriverLever.TheVariants.{Neutral, Traction, Brake}

-- ---- which row of the states an event takes

after-row : (m : Machine) (e : Event) (r : Bool) (v : Values) → machine_after m e r v ≡ by_row m (row_of e) r v
unfolding machine_after
after-row m e r v = refl

-- an event's row, read back, and the state in which the rows of power and state accept it
abbrev Is : Row → Event → State → Type 0
Is SwitchOn e s = (e ≡ PowerOn) × (s ≡ NP)
Is Configure e s = (e ≡ Configured) × (s ≡ CO)
Is SwitchOff e s = e ≡ PowerOff
Is Fail e s = e ≡ Fault
Is EngagePress e s = (e ≡ Press) × (s ≡ RE)
Is ByState e s = Unit

-- power on is accepted in NP alone, configured in CO, a press in RE
on_in : (s : State) → power_rows s 1 ≡ accept tt → s ≡ NP
unfolding power_rows
on_in s e = go _ refl
  where
    go : (b : Bool) → is s NP ≡ b → s ≡ NP
    go true q = same_state s NP q
    go false q = cc

conf_in : (s : State) → state_row s 2 ≡ accept tt → s ≡ CO
unfolding state_row
conf_in s e = go _ refl
  where
    go : (b : Bool) → is s CO ≡ b → s ≡ CO
    go true q = same_state s CO q
    go false q = cc

pub press-in : (s : State) → state_row s 8 ≡ accept tt → s ≡ RE
unfolding state_row
press-in s e = go _ refl
  where
    go : (b : Bool) → is s RE ≡ b → s ≡ RE
    go true q = same_state s RE q
    go false q = cc

accepted : (e : Event) (s : State) → power_rows s (kind_of e) ≡ accept tt → state_row s (kind_of e) ≡ accept tt → Is (row_of e) e s
accepted e s p q = go (row_of e) (kind_of e) (known e).row p q
  where
    go : (w : Row) (n : ℕ) → OfRow w n e → power_rows s n ≡ accept tt → state_row s n ≡ accept tt → Is w e s
    go SwitchOn n k p q = (k.0, on_in s (rw k.1 at p))
    go Configure n k p q = (k.0, conf_in s (rw k.1 at q))
    go SwitchOff n k p q = k.0
    go Fail n k p q = k.0
    go EngagePress n k p q = (k.0, press-in s (rw k.1 at q))
    go ByState n k p q = tt

-- ---- counting

-- what holds at every k from a on below m, and at m, holds below m + 1
upto : (P : ℕ → Type 0) (a m : ℕ) → ((k : ℕ) → a ≤ k → k < m → P k) → P m → (k : ℕ) → a ≤ k → k < suc m → P k
upto P a m below here k l h = go (eq-or-lt_of_le (le_of_suc-le-suc h))
  where
    go : (k ≡ m) ⊎ (k < m) → P k
    go (inl e) = rw e here
    go (inr b) = below k l b

-- from a up to b, one at a time
climb : (P : ℕ → Type 0) (a b : ℕ) → P a → ((k : ℕ) → a ≤ k → k < b → P k → P (suc k)) → (v : ℕ) → a ≤ v → v ≤ b → P v
climb P a b base up zero l h = let z : 0 ≡ a = omega arith in rw z base
climb P a b base up (suc v) l h = go (eq-or-lt_of_le l) (λ q. climb P a b base up v q (omega arith))
  where
    go : (a ≡ suc v) ⊎ (a < suc v) → (a ≤ v → P v) → P (suc v)
    go (inl e) f = rw (← e) base
    go (inr q) f = up v (omega arith) h (f (omega arith))

abbrev values : Bool → Bool → DriverLever → EtcsMode → Values
values o t l d = record { O = o; T = t; lever = l; mode = d }

-- ---- what each state tells of the run behind it

module _ (event : ℕ → Event) (value : ℕ → Values) (reached : ℕ → Bool) (Reached AtHeldStop : ℕ → Type 0) where
  record PoweredBy (m : ℕ) : Type 0 where
    powered : ℕ
    below : powered < m
    is_on : event powered ≡ PowerOn
    last_on : (k : ℕ) → powered < k → k < m → event k ≢ PowerOn
    no_fault : (k : ℕ) → powered < k → k < m → event k ≢ Fault

  record ConfiguredBy (m : ℕ) : Type 0 where
    on : PoweredBy m
    c : ℕ
    since : on.powered < c
    within : c < m
    is_configured : event c ≡ Configured

  record PressedBy (m : ℕ) : Type 0 where
    conf : ConfiguredBy m
    i : ℕ
    is_press : event i ≡ Press
    before_i : conf.c < i
    not_held : ¬ AtHeldStop i
    within : i < m
    waiting : (v : ℕ) → i ≤ v → v < suc m → Waiting (value v)

  abbrev Inv : State → Bool → ℕ → Type 0
  Inv NP p m = Unit
  Inv CO p m = PoweredBy m
  Inv NA p m = ConfiguredBy m
  Inv AV p m = ConfiguredBy m
  Inv RE false m = ConfiguredBy m × Waiting (value m)
  Inv RE true m = PressedBy m
  Inv EG p m = Engagement event value Reached AtHeldStop m
  Inv DE p m = ConfiguredBy m
  Inv FA p m = Unit

  -- an event that is neither a power on nor a fault
  record Harmless (m : ℕ) : Type 0 where
    not_on : event m ≢ PowerOn
    not_fault : event m ≢ Fault

  abbrev on_more : {m : ℕ} → PoweredBy m → Harmless m → PoweredBy (suc m)
  on_more {m} w a = record {
    powered = w.powered;
    below = omega arith;
    is_on = w.is_on;
    last_on = upto (λ k. event k ≢ PowerOn) (suc w.powered) m w.last_on a.not_on;
    no_fault = upto (λ k. event k ≢ Fault) (suc w.powered) m w.no_fault a.not_fault;
  }

  abbrev conf_more : {m : ℕ} → ConfiguredBy m → Harmless m → ConfiguredBy (suc m)
  conf_more {m} w a = record { on = on_more w.on a; c = w.c; since = w.since; within = omega arith; is_configured = w.is_configured }

  press_more : {m : ℕ} → PressedBy m → Harmless m → Waiting (value (suc m)) → PressedBy (suc m)
  press_more {m} w a v = record {
    conf = conf_more w.conf a;
    i = w.i;
    is_press = w.is_press;
    before_i = w.before_i;
    not_held = w.not_held;
    within = omega arith;
    waiting = upto (λ k. Waiting (value k)) w.i (suc m) w.waiting v;
  }

  -- a press, at event m
  press_new : {m : ℕ} → ConfiguredBy m → Harmless m → event m ≡ Press → ¬ AtHeldStop m → Waiting (value m) → Waiting (value (suc m)) → PressedBy (suc m)
  press_new {m} w a e f u v = record {
    conf = conf_more w a;
    i = m;
    is_press = e;
    before_i = w.within;
    not_held = f;
    within = omega arith;
    waiting = λ k l h. two k (omega arith) (eq-or-lt_of_le l);
  }
    where
      two : (k : ℕ) → k ≤ suc m → (m ≡ k) ⊎ (m < k) → Waiting (value k)
      two k h (inl q) = rw (← q) u
      two k h (inr q) = let z : k ≡ suc m = omega arith in rw z v

  -- the AD report that engages, at event m
  engage : {m : ℕ} → PressedBy m → event m ≡ Mode 1 → Ready (value (suc m)) → (value (suc m)).mode ≡ AD → Engagement event value Reached AtHeldStop (suc m)
  engage {m} w e r a =
      let cf : ConfiguredBy (suc m) = conf_more w.conf (record { not_on = λ q. cc; not_fault = λ q. cc }) in
      record {
        powered = cf.on.powered;
        is_on = cf.on.is_on;
        last_on = cf.on.last_on;
        i = w.i;
        j = m;
        is_press = w.is_press;
        is_AD = e;
        later = w.within;
        within = omega arith;
        c = cf.c;
        since = cf.since;
        before_i = w.before_i;
        is_configured = cf.is_configured;
        not_held = w.not_held;
        waiting = λ v l h. w.waiting v l (omega arith);
        right_after = r;
        from_j = λ v l h. now v (omega arith);
        unreached = λ k l h. absurd (omega arith);
        no_fault = cf.on.no_fault;
      }
    where
      now : (v : ℕ) → v ≡ suc m → Driving (value v)
      now v q = rw q (record { O = r.O; T = r.T; AD = a; unbraked = λ b. cc (r.N, b) })

  engaged_more : {m : ℕ} → Engagement event value Reached AtHeldStop m → Harmless m → Driving (value (suc m)) → ¬ Reached m → Engagement event value Reached AtHeldStop (suc m)
  engaged_more {m} w a v r = record {
    powered = w.powered;
    is_on = w.is_on;
    last_on = upto (λ k. event k ≢ PowerOn) (suc w.powered) m w.last_on a.not_on;
    i = w.i;
    j = w.j;
    is_press = w.is_press;
    is_AD = w.is_AD;
    later = w.later;
    within = omega arith;
    c = w.c;
    since = w.since;
    before_i = w.before_i;
    is_configured = w.is_configured;
    not_held = w.not_held;
    waiting = w.waiting;
    right_after = w.right_after;
    from_j = λ k l h. upto (λ k. Driving (value k)) (suc w.j) (suc m) (λ q l h. w.from_j q l (omega arith)) v k l (omega arith);
    unreached = upto (λ k. ¬ Reached k) (suc w.j) m w.unreached r;
    no_fault = upto (λ k. event k ≢ Fault) (suc w.powered) m w.no_fault a.not_fault;
  }

  -- an engaged moment is a configured one
  conf_of : {m : ℕ} → Engagement event value Reached AtHeldStop m → ConfiguredBy m
  conf_of w = record {
    on = record { powered = w.powered; below = omega arith; is_on = w.is_on; last_on = w.last_on; no_fault = w.no_fault };
    c = w.c;
    since = w.since;
    within = omega arith;
    is_configured = w.is_configured;
  }

  -- the values after event m
  record At (m : ℕ) (o t : Bool) (l : DriverLever) (d : EtcsMode) : Type 0 where
    O : (value (suc m)).O ≡ o
    T : (value (suc m)).T ≡ t
    lever : (value (suc m)).lever ≡ l
    mode : (value (suc m)).mode ≡ d

  now : (m : ℕ) → At m (value (suc m)).O (value (suc m)).T (value (suc m)).lever (value (suc m)).mode
  now m = record { O = refl; T = refl; lever = refl; mode = refl }

  u_inv : (m : ℕ) (o t : Bool) (l : DriverLever) (d : EtcsMode) → At m o t l d → ConfiguredBy (suc m) → Inv (U (values o t l d)) false (suc m)
  u_inv m false t l d a c = c
  u_inv m true false l d a c = c
  u_inv m true true Neutral Other a c = (c, record { O = a.O; T = a.T; N = a.lever; other = a.mode })
  u_inv m true true Neutral AD a c = c
  u_inv m true true Traction d a c = c
  u_inv m true true Brake d a c = c

  re_inv : (m : ℕ) (p o t : Bool) (l : DriverLever) (d : EtcsMode) → At m o t l d → ConfiguredBy (suc m)
      → (p ≡ true → Waiting (value (suc m)) → PressedBy (suc m))
      → (p ≡ true → Ready (value (suc m)) → (value (suc m)).mode ≡ AD → Engagement event value Reached AtHeldStop (suc m))
      → let z = from_re p (values o t l d) in Inv z.state z.press (suc m)
  re_inv m false o t l d a c f g = u_inv m o t l d a c
  re_inv m true false t l d a c f g = c
  re_inv m true true false l d a c f g = c
  re_inv m true true true Neutral Other a c f g = f refl (record { O = a.O; T = a.T; N = a.lever; other = a.mode })
  re_inv m true true true Neutral AD a c f g = g refl (record { O = a.O; T = a.T; N = a.lever }) a.mode
  re_inv m true true true Traction d a c f g = c
  re_inv m true true true Brake d a c f g = c

  eg_inv : (m : ℕ) (r o t : Bool) (l : DriverLever) (d : EtcsMode) → At m o t l d → ConfiguredBy (suc m)
      → (r ≡ false → Driving (value (suc m)) → Engagement event value Reached AtHeldStop (suc m))
      → Inv (from_eg r (values o t l d)) false (suc m)
  eg_inv m r o t Brake d a c f = u_inv m o t Brake d a c
  eg_inv m r o t Neutral Other a c f = u_inv m o t Neutral Other a c
  eg_inv m r o t Traction Other a c f = u_inv m o t Traction Other a c
  eg_inv m true o t Neutral AD a c f = u_inv m o t Neutral AD a c
  eg_inv m true o t Traction AD a c f = u_inv m o t Traction AD a c
  eg_inv m false false t Neutral AD a c f = c
  eg_inv m false false t Traction AD a c f = c
  eg_inv m false true false Neutral AD a c f = c
  eg_inv m false true false Traction AD a c f = c
  eg_inv m false true true Neutral AD a c f = f refl (record { O = a.O; T = a.T; AD = a.mode; unbraked = λ b. cc (a.lever, b) })
  eg_inv m false true true Traction AD a c f = f refl (record { O = a.O; T = a.T; AD = a.mode; unbraked = λ b. cc (a.lever, b) })

  de_inv : (m : ℕ) (o t : Bool) (l : DriverLever) (d : EtcsMode) → At m o t l d → ConfiguredBy (suc m) → Inv (from_de (values o t l d)) false (suc m)
  de_inv m o t Brake d a c = u_inv m o t Brake d a c
  de_inv m o t Neutral Other a c = u_inv m o t Neutral Other a c
  de_inv m o t Traction Other a c = u_inv m o t Traction Other a c
  de_inv m o t Neutral AD a c = c
  de_inv m o t Traction AD a c = c

  module _ (m : ℕ) (saw : reached m ≡ false → ¬ Reached m) (report : (value m).mode ≡ Other → (value (suc m)).mode ≡ AD → event m ≡ Mode 1)
      (free : event m ≡ Press → ¬ AtHeldStop m) where
    -- an event with no row of its own
    plain_inv : (s : State) (p : Bool) → Harmless m → Inv s p m → let z = by_state s p (reached m) (value (suc m)) in Inv z.state z.press (suc m)
    plain_inv NP p a i = tt
    plain_inv CO p a i = on_more i a
    plain_inv NA p a i = u_inv m _ _ _ _ (now m) (conf_more i a)
    plain_inv AV p a i = u_inv m _ _ _ _ (now m) (conf_more i a)
    plain_inv RE false a i = re_inv m false _ _ _ _ (now m) (conf_more i.0 a) (λ e. absurd (false≢true e)) (λ e. absurd (false≢true e))
    plain_inv RE true a i = re_inv m true _ _ _ _ (now m) (conf_more i.conf a) (λ e w. press_more i a w)
        (λ e r d. engage i (report (i.waiting m (omega arith) (omega arith)).other d) r d)
    plain_inv EG p a i = eg_inv m _ _ _ _ _ (now m) (conf_more (conf_of i) a) (λ r d. engaged_more i a d (saw r))
    plain_inv DE p a i = de_inv m _ _ _ _ (now m) (conf_more i a)
    plain_inv FA p a i = tt

    press_inv : (p : Bool) → event m ≡ Press → Inv RE p m → let z = from_re true (value (suc m)) in Inv z.state z.press (suc m)
    press_inv p k i = re_inv m true _ _ _ _ (now m) (conf_more (c p i) a) (λ e v. press_new (c p i) a k (free k) (w p i) v)
        (λ e r d. cc (report (w p i).other d, k))
      where
        a : Harmless m
        a = record { not_on = λ q. cc (k, q); not_fault = λ q. cc (k, q) }

        c : (p : Bool) → Inv RE p m → ConfiguredBy m
        c false i = i.0
        c true i = i.conf

        w : (p : Bool) → Inv RE p m → Waiting (value m)
        w false i = i.1
        w true i = i.waiting m (omega arith) (omega arith)

    step_inv : (s : State) (p : Bool) (w : Row) → row_of (event m) ≡ w → Is w (event m) s → Inv s p m
        → let z = by_row (machine s p) w (reached m) (value (suc m)) in Inv z.state z.press (suc m)
    step_inv s p SwitchOn e k i = record { powered = m; below = omega arith; is_on = k.0; last_on = λ q l h. absurd (omega arith); no_fault = λ q l h. absurd (omega arith) }
    step_inv s p Configure e k i =
        let w : PoweredBy m = rw k.1 at i in
        u_inv m _ _ _ _ (now m)
        (record { on = on_more w (record { not_on = λ q. cc (k.0, q); not_fault = λ q. cc (k.0, q) }); c = m; since = w.below; within = omega arith; is_configured = k.0 })
    step_inv s p SwitchOff e k i = tt
    step_inv s p Fail e k i = tt
    step_inv s p EngagePress e k i = rw k.1 (press_inv p k.0 (rw k.1 at i))
    step_inv s p ByState e k i = plain_inv s p (record { not_on = λ q. cc; not_fault = λ q. cc }) i

-- ---- what the rows do where the rule holds

abbrev pressed : Machine
pressed = machine RE true

-- RE with the press pending, at an event that is neither a fault nor a power off
stays_RE : (w : Row) (e : Event) (r : Bool) (v : Values) → Is w e RE → w ≢ Fail → w ≢ SwitchOff → Waiting v → by_row pressed w r v ≡ pressed
stays_RE SwitchOn e r v k f o x = cc k.1
stays_RE Configure e r v k f o x = cc k.1
stays_RE SwitchOff e r v k f o x = absurd (o refl)
stays_RE Fail e r v k f o x = absurd (f refl)
stays_RE EngagePress e r v k f o x = simp (x.O, x.T, x.N, x.other)
stays_RE ByState e r v k f o x = simp (x.O, x.T, x.N, x.other)

first_RE : (s : State) (p : Bool) (r : Bool) (v : Values) → s ≡ RE → Waiting v → by_row (machine s p) EngagePress r v ≡ pressed
first_RE s p r v q x = simp (q, x.O, x.T, x.N, x.other)

presses : (e : Event) (s : State) → e ≡ Press → Is (row_of e) e s → s ≡ RE
presses e s q k = let z : (Press ≡ Press) × (s ≡ RE) = rw q at k in z.1

engages_RE : (r : Bool) (v : Values) → Ready v → v.mode ≡ AD → (by_row pressed ByState r v).state ≡ EG
engages_RE r v x d = simp (x.O, x.T, x.N, d)

drives : (r o t : Bool) (l : DriverLever) (d : EtcsMode) → r ≡ false → o ≡ true → t ≡ true → l ≢ Brake → d ≡ AD → from_eg r (values o t l d) ≡ EG
drives r o t Neutral d a b c e f = simp (a, b, c, f)
drives r o t Traction d a b c e f = simp (a, b, c, f)
drives r o t Brake d a b c e f = absurd (e refl)

stays_EG : (p : Bool) (w : Row) (e : Event) (r : Bool) (v : Values) → Is w e EG → w ≢ Fail → w ≢ SwitchOff → r ≡ false → Driving v → (by_row (machine EG p) w r v).state ≡ EG
stays_EG p SwitchOn e r v k f o q x = cc k.1
stays_EG p Configure e r v k f o q x = cc k.1
stays_EG p SwitchOff e r v k f o q x = absurd (o refl)
stays_EG p Fail e r v k f o q x = absurd (f refl)
stays_EG p EngagePress e r v k f o q x = cc k.1
stays_EG p ByState e r v k f o q x = drives _ _ _ _ _ q x.O x.T x.unbraked x.AD

is_flt : (w : Row) (e : Event) (s : State) → w ≡ Fail → Is w e s → e ≡ Fault
is_flt w e s q k = rw q at k

is_off_lem : (w : Row) (e : Event) (s : State) → w ≡ SwitchOff → Is w e s → e ≡ PowerOff
is_off_lem w e s q k = rw q at k

eg_of : (event : ℕ → Event) (value : ℕ → Values) (reached : ℕ → Bool) (Reached AtHeldStop : ℕ → Type 0) (s : State) (p : Bool) (m : ℕ)
    → s ≡ EG → Inv event value reached Reached AtHeldStop s p m → Engagement event value Reached AtHeldStop m
eg_of event value reached Reached AtHeldStop s p m e i = rw e at i

true-or-false : (b : Bool) (A : Type 0) → (b ≡ true) ↔ A → b ≡ false → ¬ A
true-or-false b A l f a = false≢true (sym f ∙ l.1 a)

not-true : (b : Bool) → ¬ (b ≡ true) → b ≡ false
not-true true f = absurd (f refl)
not-true false f = refl

module _ (event : ℕ → Event) (value : ℕ → Values) (reached : ℕ → Bool) (Reached AtHeldStop : ℕ → Type 0) (after : ℕ → Machine) (request : ℕ → Bool) (n : ℕ)
    (R : Run event value reached Reached AtHeldStop after request n) where
  at_row : (k : ℕ) → k < n → Is (row_of (event k)) (event k) (after k).state
  at_row k h = accepted (event k) (after k).state (R.power k h) (R.state k h)

  next : (k : ℕ) → k < n → after (suc k) ≡ by_row (after k) (row_of (event k)) (reached k) (value (suc k))
  next k h = R.next k h ∙ after-row (after k) (event k) (reached k) (value (suc k))

  holds : (m : ℕ) → m ≤ n → Inv event value reached Reached AtHeldStop (after m).state (after m).press m
  holds zero h = rw R.start tt
  holds (suc m) h = rw (next m h)
      (step_inv event value reached Reached AtHeldStop m (true-or-false (reached m) (Reached m) (R.saw m h)) (R.AD_report m h) (R.not_held m h) _ _ _ refl (at_row m h) (holds m (omega arith)))

  forward : (after n).state ≡ EG → Engagement event value Reached AtHeldStop n
  forward e = eg_of event value reached Reached AtHeldStop _ _ n e (holds n (omega arith))

  not_flt : (k : ℕ) → k < n → event k ≢ Fault → row_of (event k) ≢ Fail
  not_flt k h f e = f (is_flt _ (event k) (after k).state e (at_row k h))

  not_off : (k : ℕ) → k < n → (value (suc k)).O ≡ true → row_of (event k) ≢ SwitchOff
  not_off k h t e = false≢true (sym (R.off k h (is_off_lem _ (event k) (after k).state e (at_row k h))) ∙ t)

  module _ (w : Engagement event value Reached AtHeldStop n) where
    abbrev Pending : ℕ → Type 0
    Pending v = after v ≡ pressed

    first_press : Pending (suc w.i)
    first_press =
        let h : w.i < n = omega arith in
        let x : Waiting (value (suc w.i)) = w.waiting _ (omega arith) (omega arith) in
        next w.i h ∙ rw w.is_press (first_RE (after w.i).state (after w.i).press _ _ (presses _ _ w.is_press (at_row w.i h)) x)

    pending : (v : ℕ) → suc w.i ≤ v → v ≤ w.j → Pending v
    pending = climb Pending (suc w.i) w.j first_press (λ k l h e.
        let b : k < n = omega arith in
        let x : Waiting (value (suc k)) = w.waiting _ (omega arith) (omega arith) in
        next k b ∙ rw e (stays_RE _ (event k) _ _ (rw e at (at_row k b)) (not_flt k b (w.no_fault k (omega arith) b)) (not_off k b x.O) x))

    abbrev Engaged : ℕ → Type 0
    Engaged v = (after v).state ≡ EG

    engages : Engaged (suc w.j)
    engages =
        let h : after w.j ≡ pressed = pending w.j (omega arith) (omega arith) in
        let x : Driving (value (suc w.j)) = w.from_j _ (omega arith) (omega arith) in
        ap (λ m. m.state) (next w.j w.within) ∙ rw (h, w.is_AD) (engages_RE (reached w.j) _ w.right_after x.AD)

    engaged : (v : ℕ) → suc w.j ≤ v → v ≤ n → Engaged v
    engaged = climb Engaged (suc w.j) n engages (λ k l b e.
        let x : Driving (value (suc k)) = w.from_j _ (omega arith) (omega arith) in
        let r : reached k ≡ false = not-true (reached k) (λ t. w.unreached k (omega arith) b ((R.saw k b).0 t)) in
        ap (λ m. m.state) (next k b) ∙ go _ _ k b e (at_row k b) x r (not_flt k b (w.no_fault k (omega arith) b)))
      where
        go : (s : State) (p : Bool) (k : ℕ) → k < n → s ≡ EG → Is (row_of (event k)) (event k) s → Driving (value (suc k)) → reached k ≡ false → row_of (event k) ≢ Fail
            → (by_row (machine s p) (row_of (event k)) (reached k) (value (suc k))).state ≡ EG
        go s p k b e a x r f = rw e (stays_EG p _ (event k) _ _ (rw e at a) f (not_off k b x.O) r x)

  backward : Engagement event value Reached AtHeldStop n → (after n).state ≡ EG
  backward w = engaged w n w.within (omega arith)

  -- the rows are in EG exactly when the engagement rule says so
  pub engaged_exactly : ((after n).state ≡ EG) ↔ Engagement event value Reached AtHeldStop n
  engaged_exactly = (forward, backward)
