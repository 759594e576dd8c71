use mathlib.Core.Path.{◌≡◌, refl, sym, ◌∙◌, ap}
use mathlib.Core.Logic.{◌≢◌, ◌⊎◌, inl, inr}
use mathlib.Core.Bool.{Bool, true, false, not, ◌&&◌, false≢true}
use Prim.Native.Nat.{ℕ, zero, suc, ◌+◌, ◌≤◌, ◌<◌}
use native.Mathlib.Omega.{arith}
use native.Mathlib.Nat.{eq-or-lt_of_le}
use lib.Dec.{eqb}
use borrow.Author.Tests.{eq-eqb}
use Rattle.event.specs.Kinds.{kind_of}
use Rattle.event.specs.Event.{Event}
use Rattle.event.specs.Event.Event.{PowerOn, Configured, Fault, Press, Mode, Lever}
use Rattle.state_codes.specs.Codes.{is_neutral, is_brake}
use Rattle.state_codes.specs.declared.EtcsMode.TheVariants.{AD}
use Rattle.states.specs.Anchors.{waiting}
use Rattle.engagement.specs.Engagement.{Waiting, Driving}
use Rattle.engagement.specs.Anchors.{Anchors, events, moments, traction, drive, steady}

-- ---- where an event lies

module _ (f : ℕ → Event) (e : Event) where
  -- no event of e's kind among the n from m on
  abbrev none : ℕ → ℕ → Bool
  none m zero = true
  none m (suc n) = not (eqb (kind_of (f (m + n))) (kind_of e)) && none m n

  last_of : (m n : ℕ) → none m (suc n) ≡ true → (f (m + n) ≢ e) × (none m n ≡ true)
  last_of m n h = go _ refl h
    where
      go : (b : Bool) → eqb (kind_of (f (m + n))) (kind_of e) ≡ b → (not b && none m n) ≡ true → (f (m + n) ≢ e) × (none m n ≡ true)
      go true q h = absurd (false≢true h)
      go false q h = (λ p. false≢true (sym q ∙ eq-eqb _ _ (ap kind_of p)), h)

  before : (m n : ℕ) → none m n ≡ true → (k : ℕ) → k < m + n → f k ≡ e → k < m
  before m zero h k l q = omega arith
  before m (suc n) h k l q = let b : k ≤ m + n = omega arith in go (eq-or-lt_of_le b) (λ r. before m n (last_of m n h).1 k r q)
    where
      go : (k ≡ m + n) ⊎ (k < m + n) → (k < m + n → k < m) → k < m
      go (inl p) r = absurd ((last_of m n h).0 (sym (ap f p) ∙ q))
      go (inr p) r = r p

  behind : (n : ℕ) → none 0 n ≡ true → (k : ℕ) → f k ≡ e → n ≤ k
  behind zero h k q = omega arith
  behind (suc n) h k q = go (eq-or-lt_of_le (behind n (last_of 0 n h).1 k q))
    where
      go : (n ≡ k) ⊎ (n < k) → suc n ≤ k
      go (inl p) = let z : 0 + n ≡ k = omega arith in absurd ((last_of 0 n h).0 (ap f z ∙ q))
      go (inr p) = p

  absent : (m n : ℕ) → none m n ≡ true → (k : ℕ) → m ≤ k → k < m + n → f k ≢ e
  absent m n h k l u q = let z : k < m = before m n h k u q in omega arith

-- at two moments
two : (P : ℕ → Type 0) (m : ℕ) → P m → P (suc m) → (v : ℕ) → m ≤ v → v ≤ suc m → P v
two P m a b v l u = go (eq-or-lt_of_le l)
  where
    go : (m ≡ v) ⊎ (m < v) → P v
    go (inl q) = rw (← q) a
    go (inr q) = let z : v ≡ suc m = omega arith in rw z b

-- ---- the runs

pub anchors : Anchors
anchors = record {
  engaged = record {
    powered = 3;
    is_on = refl;
    last_on = absent drive PowerOn 4 4 refl;
    i = 5;
    j = 6;
    is_press = refl;
    is_AD = refl;
    later = omega arith;
    within = omega arith;
    c = 4;
    since = omega arith;
    before_i = omega arith;
    is_configured = refl;
    not_held = λ n. n refl;
    waiting = two (λ v. Waiting (steady v)) 5 (record { O = refl; T = refl; N = refl; other = refl })
        (record { O = refl; T = refl; N = refl; other = refl });
    right_after = record { O = refl; T = refl; N = refl };
    from_j = two (λ v. Driving (steady v)) 7
        (record { O = refl; T = refl; AD = refl; unbraked = λ q. false≢true (ap is_brake q) })
        (record { O = refl; T = refl; AD = refl; unbraked = λ q. false≢true (ap is_brake q) });
    unreached = λ k l h r. omega arith;
    no_fault = absent drive Fault 4 4 refl;
  };
  powered_again = λ e. e.last_on 7 (omega arith) (omega arith) refl;
  AD_first = λ e.
      let f = events Configured (Mode 1) Press (Lever 1) in
      let i : 6 ≤ e.i = behind f Press 6 refl e.i e.is_press in
      let j : e.j < 6 = before f (Mode 1) 6 2 refl e.j e.within e.is_AD in
      omega arith;
  unconfigured = λ e. absent (events (Lever 0) Press (Mode 1) (Lever 1)) Configured 0 8 refl e.c (omega arith) (omega arith) e.is_configured;
  moved_first = λ e.
      let i : e.i < 6 = before drive Press 6 2 refl e.i (omega arith) e.is_press in
      let l : 5 ≤ e.i = behind drive Press 5 refl e.i e.is_press in
      false≢true (ap is_neutral (e.waiting 5 (omega arith) (omega arith)).N);
  moved_before = λ e.
      let i : 5 ≤ e.i = behind drive Press 5 refl e.i e.is_press in
      false≢true (ap is_neutral (e.waiting 6 (omega arith) (omega arith)).N);
  moved_after = λ e.
      let i : 5 ≤ e.i = behind drive Press 5 refl e.i e.is_press in
      let j : e.j < 7 = before drive (Mode 1) 7 1 refl e.j e.within e.is_AD in
      let z : suc e.j ≡ 7 = omega arith in
      false≢true (ap is_neutral (sym (ap (λ v. (moments waiting waiting (traction AD) (traction AD) v).lever) z) ∙ e.right_after.N));
  braked = λ e. (e.from_j 8 e.within (omega arith)).unbraked refl;
  stopped = λ e. e.unreached 7 (before drive (Mode 1) 7 1 refl e.j e.within e.is_AD) (omega arith) refl;
  failed = λ e. e.no_fault 7 (omega arith) (omega arith) refl;
  pressed_held = λ e.
      let i : e.i < 6 = before drive Press 6 2 refl e.i (omega arith) e.is_press in
      let l : 5 ≤ e.i = behind drive Press 5 refl e.i e.is_press in
      e.not_held (omega arith);
}
