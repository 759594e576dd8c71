-- The last packet 68 names the state and the conditions of the history: it does so after each accepted call, by what that call wrote.
use Rattle.std.specs.Prelude.{if◌then◌else◌, Option, Some}
use mathlib.Core.Path.{◌≡◌, refl, sym, ◌∙◌, ap}
use mathlib.Core.Logic.{◌≢◌}
use mathlib.Core.Bool.{Bool, true, false, false≢true}
use mathlib.Core.List.{List, [], ◌∷◌}
use Prim.Native.Nat.{ℕ}
use lib.Dec.{eqb}
use borrow.Author.Tests.{eqb-true, ne_eqb}
use Rattle.status_word.specs.View.{same_conditions}
use Rattle.packets.specs.Packets.{packet_bytes}
use Rattle.status_word.proofs.ConditionLaws.{conditions_equal}
use Rattle.state_codes.specs.Codes.{code, state_at}
use Rattle.conditions.proofs.NineLaws.{conditions_zeros}
use Rattle.state_codes.proofs.CodeLaws.{code-most, state_code}
use Rattle.state_codes.specs.declared.State.TheVariants.{NP}
use Rattle.call_values.specs.Call.{Call}
use Rattle.call_values.specs.Packets.{Status, ato_status, status_due}
use Rattle.whole_list.specs.Values.{History, position_by, route_by}
use Rattle.whole_list.specs.Rules.{conditions_by, state_by, machine_by}
use Rattle.whole_list.specs.Table.{head_of_call, changes_by, own_by, status_by, packets_by}
use Rattle.whole_list.specs.Recorded.{newest}
use Rattle.whole_list.specs.WholeList.{bytes_of_each, StatusPacket}
use Rattle.whole_list.proofs.Recorded.{own-are, newest_is, status_tells}
use Rattle.whole_list.proofs.Decoded.{ranged}

-- ---- when one is due

module _ (before after : Status) where
  -- where none is due, state and conditions are as before
  pub not_due : status_due before after ≡ false → (after.state ≡ before.state) × (after.conditions ≡ before.conditions)
  unfolding status_due
  not_due h = go _ refl _ refl
    where
      go : (a : Bool) → eqb after.state before.state ≡ a → (b : Bool) → same_conditions after.conditions before.conditions ≡ b → (after.state ≡ before.state) × (after.conditions ≡ before.conditions)
      go true p true q = (eqb-true _ _ p, conditions_equal _ _ q)
      go true p false q = absurd (false≢true (sym h ∙ rw (p, q)))
      go false p b q = absurd (false≢true (sym h ∙ rw p))

  pub state_due : after.state ≢ before.state → status_due before after ≡ true
  unfolding status_due
  state_due n = rw (ne_eqb after.state before.state n)

-- ---- what the last one tells

-- the packet 68 of a history: the values of its header, its state and its conditions
abbrev pub status_packet : History → List ℕ
status_packet h = packet_bytes (ato_status (route_by h) (position_by h) (code (state_by h)) (conditions_by h))

pub packet-tells : (h : History) → StatusPacket (status_packet h) (code (state_by h)) (conditions_by h)
unfolding conditions_by
packet-tells h = status_tells (route_by h) (position_by h) (code (state_by h)) (conditions_by h) (ranged h) (code-most (state_by h)) (conditions_zeros _ _ _ _)

module _ (o : Option (List ℕ)) (h : History) (c : Call) where
  pub newest_by : newest o (bytes_of_each (packets_by h c)) ≡ (if status_due (status_by h) (status_by (c ∷ h)) then Some (status_packet (c ∷ h)) else o)
  unfolding packets_by newest
  newest_by = newest_is (route_by (c ∷ h)) (position_by (c ∷ h)) o (head_of_call c) (changes_by h c) (own_by h c) (status_by h) (status_by (c ∷ h)) (own-are h c)

-- the last packet 68 names the state and the conditions of a history
pub record Names (o : Option (List ℕ)) (h : History) : Type 0 where
  pub packet : List ℕ
  pub is_last : o ≡ Some packet
  pub tells : StatusPacket packet (code (state_by h)) (conditions_by h)

named_now : (o : Option (List ℕ)) (h : History) (c : Call) → status_due (status_by h) (status_by (c ∷ h)) ≡ true → Names (newest o (bytes_of_each (packets_by h c))) (c ∷ h)
named_now o h c e = record { packet = status_packet (c ∷ h); is_last = newest_by o h c ∙ rw e; tells = packet-tells (c ∷ h) }

-- the packets of an accepted call keep it so
pub names_next : (o : Option (List ℕ)) (h : History) (c : Call) → Names o h → Names (newest o (bytes_of_each (packets_by h c))) (c ∷ h)
names_next o h c n = go _ refl
  where
    go : (b : Bool) → status_due (status_by h) (status_by (c ∷ h)) ≡ b → Names (newest o (bytes_of_each (packets_by h c))) (c ∷ h)
    go true e = named_now o h c e
    go false e =
        let q = not_due (status_by h) (status_by (c ∷ h)) e in
        let t = n.tells in
        record {
          packet = n.packet;
          is_last = newest_by o h c ∙ rw e n.is_last;
          tells = record { status = t.status; read = t.read; state_is = t.state_is ∙ sym q.0; conditions_are = t.conditions_are ∙ sym q.1 };
        }

-- the first accepted event leaves NP, so it writes one
pub names_first : (o : Option (List ℕ)) (c : Call) → state_by (c ∷ []) ≢ NP → Names (newest o (bytes_of_each (packets_by [] c))) (c ∷ [])
unfolding machine_by
names_first o c n = named_now o [] c (state_due (status_by []) (status_by (c ∷ [])) (λ e. n (sym (state_code (state_by (c ∷ []))) ∙ ap state_at e)))
