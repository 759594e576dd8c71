-- Which packet 68 of an event is the last one, and what it tells.
use Rattle.std.specs.Prelude.{if◌then◌else◌, Option, Some, None}
use mathlib.Core.Path.{◌≡◌, refl, sym, ◌∙◌, ap, subst}
use mathlib.Core.Logic.{inl, inr}
use mathlib.Core.Bool.{Bool, true, false, ◌&&◌}
use mathlib.Core.List.{List, [], ◌∷◌, ◌++◌, map}
use Prim.Native.Nat.{ℕ, ◌≤◌}
use native.Mathlib.Omega.{arith}
use lib.Dec.{leb}
use borrow.Author.Tests.{le-leb}
use Rattle.wire.specs.Refusals.{turns_down}
use Rattle.engine_value.specs.Engine.{Route, max2, max4, undefined}
use Rattle.engine_value.specs.declared.Position.{Position}
use Rattle.journey.specs.declared.Head.{Head}
use Rattle.packets.specs.Layouts.{kind65, kind_size}
use Rattle.packets.specs.Packets.{value_bytes, packet_bytes}
use Rattle.status_word.specs.View.{conditions_view}
use Rattle.status_word.specs.Sentences.{ZerosAndOnes}
use Rattle.packets.proofs.ConditionLaws.{status_fits}
use Rattle.packets.proofs.RoundTrips.{read-written}
use Rattle.status_word.specs.declared.OperationalConditions.{OperationalConditions}
use Rattle.adhesion.specs.declared.TemporaryConstraint.{TemporaryConstraint}
use Rattle.packets.specs.declared.Requested.{Requested}
use Rattle.packets.specs.declared.AtoStatus.{AtoStatus}
use Rattle.packets.specs.Packet.{Packet}
use Rattle.timing.specs.Changes.{when}
use Rattle.call_values.specs.Packets.{PointChange, header, timing_point, jp_received, traction_brake, traction_brakes, adhesion_system, adhesion_systems, ato_status, Status, status_due, received, packets_of, jp_turned_down, packets_refused}
use Rattle.wire.specs.Lists.{All}
use Rattle.event.specs.Kinds.{carried}
use Rattle.traction.specs.Requests.{written_content}
use Rattle.call_values.specs.Call.{Call}
use Rattle.whole_list.specs.Values.{History, event_of_call, position_by, route_by}
use Rattle.whole_list.specs.Rules.{state_by}
use Rattle.whole_list.specs.Requests.{traction_by}
use Rattle.whole_list.specs.Table.{own_by}
use Rattle.whole_list.specs.Recorded.{newest, In}
use Rattle.whole_list.specs.WholeList.{bytes_of_each, StatusPacket}

-- ---- the last packet 68 of an event

pub bytes-append : (ps qs : List Packet) → bytes_of_each (ps ++ qs) ≡ bytes_of_each ps ++ bytes_of_each qs
bytes-append [] qs = refl
bytes-append (p ∷ ps) qs = ap (λ l. packet_bytes p ∷ l) (bytes-append ps qs)

pub newest-append : (o : Option (List ℕ)) (a b : List (List ℕ)) → newest o (a ++ b) ≡ newest (newest o a) b
unfolding newest
newest-append o [] b = refl
newest-append o (p ∷ a) b = newest-append (newest o (p ∷ [])) a b

newest_split : (o : Option (List ℕ)) (ps qs : List Packet) → newest o (bytes_of_each (ps ++ qs)) ≡ newest (newest o (bytes_of_each ps)) (bytes_of_each qs)
newest_split o ps qs = ap (newest o) (bytes-append ps qs) ∙ newest-append o (bytes_of_each ps) (bytes_of_each qs)

-- what one kind of event alone writes is a packet 61 or 64
abbrev pub Own : Packet → Type 0
Own (Packet.TimingPoint p) = ⊥
Own (Packet.JpReceived p) = ⊥
Own (Packet.AtoStatus p) = ⊥
Own (Packet.TractionBrake p) = Unit {0}
Own (Packet.AdhesionSystem h rows) = Unit {0}

pub own-in : (p : Packet) (l : List Packet) → All Own l → In p l → Own p
own-in p [] a i = absurd i
own-in p (q ∷ l) a (inl e) = subst Own (sym e) a.0
own-in p (q ∷ l) a (inr i) = own-in p l a.1 i

own_other : (o : Option (List ℕ)) (p : Packet) → Own p → newest o (packet_bytes p ∷ []) ≡ o
unfolding newest value_bytes
own_other o (Packet.TimingPoint p) k = absurd k
own_other o (Packet.JpReceived p) k = absurd k
own_other o (Packet.AtoStatus p) k = absurd k
own_other o (Packet.TractionBrake p) k = refl
own_other o (Packet.AdhesionSystem h rows) k = refl

newest_own : (o : Option (List ℕ)) (l : List Packet) → All Own l → newest o (bytes_of_each l) ≡ o
unfolding newest
newest_own o [] a = refl
newest_own o (p ∷ l) a = ap (λ (q : Option (List ℕ)). newest q (bytes_of_each l)) (own_other o p a.0) ∙ newest_own o l a.1

module _ (j : Route) (x : Position) where
  own_kinds : (o : Option Requested) (r : Option (List TemporaryConstraint)) → All Own (traction_brakes j x o ++ adhesion_systems j x r)
  unfolding traction_brake adhesion_system
  own_kinds None None = tt
  own_kinds None (Some r) = (tt, tt)
  own_kinds (Some q) None = (tt, tt)
  own_kinds (Some q) (Some r) = (tt, (tt, tt))

  -- 65 and 62 are no 68
  newest_65 : (o : Option (List ℕ)) (h : Option Head) → newest o (bytes_of_each (received j x h)) ≡ o
  unfolding newest jp_received value_bytes
  newest_65 o None = refl
  newest_65 o (Some h) = refl

  pub newest_refused : (o : Option (List ℕ)) (n room : ℕ) → newest o (bytes_of_each (packets_refused j x n room)) ≡ o
  unfolding newest packets_refused jp_turned_down value_bytes
  newest_refused o n room = go (turns_down n && leb (kind_size kind65) room)
    where
      go : (b : Bool) → newest o (bytes_of_each (when b (jp_turned_down j x))) ≡ o
      go true = refl
      go false = refl

  newest_62 : (o : Option (List ℕ)) (l : List PointChange) → newest o (bytes_of_each (map (timing_point j x) l)) ≡ o
  unfolding newest timing_point value_bytes
  newest_62 o [] = refl
  newest_62 o (c ∷ l) = newest_62 o l

  newest_68 : (o : Option (List ℕ)) (due : Bool) (s : ℕ) (c : OperationalConditions) → newest o (bytes_of_each (when due (ato_status j x s c))) ≡ (if due then Some (packet_bytes (ato_status j x s c)) else o)
  unfolding newest ato_status value_bytes
  newest_68 o true s c = refl
  newest_68 o false s c = refl

  pub newest_is : (o : Option (List ℕ)) (loaded : Option Head) (changes : List PointChange) (own : List Packet) (before after : Status) → All Own own
      → newest o (bytes_of_each (packets_of j x loaded changes own before after)) ≡ (if status_due before after then Some (packet_bytes (ato_status j x after.state after.conditions)) else o)
  unfolding packets_of
  newest_is o loaded changes own before after other =
      let last = when (status_due before after) (ato_status j x after.state after.conditions) in
      let points = map (timing_point j x) changes in
      newest_split o (received j x loaded) (points ++ (own ++ last))
      ∙ ap (λ (p : Option (List ℕ)). newest p (bytes_of_each (points ++ (own ++ last)))) (newest_65 o loaded)
      ∙ newest_split o points (own ++ last)
      ∙ ap (λ (p : Option (List ℕ)). newest p (bytes_of_each (own ++ last))) (newest_62 o changes)
      ∙ newest_split o own last
      ∙ ap (λ (p : Option (List ℕ)). newest p (bytes_of_each last)) (newest_own o own other)
      ∙ newest_68 o (status_due before after) after.state after.conditions

pub own-are : (h : History) (c : Call) → All Own (own_by h c)
own-are h c =
    own_kinds (route_by (c ∷ h)) (position_by (c ∷ h)) (written_content (state_by h) (event_of_call c) (traction_by h) (traction_by (c ∷ h))) (carried (event_of_call c)).constraints

-- ---- what a packet 68 tells

-- the values of a header that is read back
pub record Ranged (j : Route) (x : Position) : Type 0 where
  pub nidc : x.nidc ≤ 1023
  pub nidsp : x.nidsp ≤ max4
  pub offset : x.offset ≤ undefined
  pub speed : x.speed ≤ max2
  pub operational : j.load.operational ≤ max4

pub status_tells : (j : Route) (x : Position) (state : ℕ) (conditions : OperationalConditions) → Ranged j x → state ≤ 7 → ZerosAndOnes (conditions_view conditions) → StatusPacket (packet_bytes (ato_status j x state conditions)) state conditions
unfolding ato_status
status_tells j x state conditions r s c =
    record {
      status = told;
      read = read-written (Packet.AtoStatus told) (status_fits told (rw (le-leb x.nidc 1023 r.nidc, le-leb x.offset 16777215 r.offset)) s c)
          ((tt, (omega (arith, r.nidsp), (tt, (omega (arith, r.speed), (omega (arith, r.operational), tt))))), (tt, tt));
      state_is = refl;
      conditions_are = refl;
    }
  where
    told : AtoStatus
    told = record { header = header j x; state = state; conditions = conditions }
