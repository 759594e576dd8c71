-- The packets 62 of a call, as the packet reader gives them, are those of its changes.
use Rattle.std.specs.Prelude.{Option, Some, None, if◌then◌else◌}
use mathlib.Core.Path.{◌≡◌, refl, sym, ◌∙◌, ap, subst}
use mathlib.Core.Bool.{Bool, true, false, ◌&&◌}
use mathlib.Core.List.{List, [], ◌∷◌, ◌++◌, map, append-nil}
use Prim.Native.Nat.{ℕ}
use lib.Dec.{eqb, leb}
use lib.ListN.{length}
use Rattle.std.specs.List.{filter_map, cons_option}
use Rattle.std.proofs.lemmas.List.Elements.{filter_map-append}
use Rattle.wire.specs.Numbers.{flag}
use Rattle.wire.specs.Lists.{All}
use Rattle.wire.specs.Judged.Judged.{accept}
use Rattle.wire.specs.Refusals.{turns_down}
use Rattle.engine_value.specs.Engine.{Route}
use Rattle.engine_value.specs.declared.Position.{Position}
use Rattle.journey.specs.declared.Head.{Head}
use Rattle.packets.specs.Layouts.{kind65, kind_size}
use Rattle.packets.specs.Packets.{packet_bytes}
use Rattle.packets.specs.declared.TimingPoint.{TimingPoint}
use Rattle.packets.specs.Packet.{Packet}
use Rattle.packets.proofs.RoundTrips.{read-written}
use Rattle.status_word.specs.declared.OperationalConditions.{OperationalConditions}
use Rattle.timing.specs.Changes.{status_stopped, when}
use Rattle.call_values.specs.Packets.{PointChange, header, timing_point, received, jp_received, ato_status, status_due, packets_of, jp_turned_down, packets_refused}
use Rattle.call_values.specs.Call.{Call}
use Rattle.whole_list.specs.Values.{History, position_by, route_by}
use Rattle.whole_list.specs.Table.{changes_by, head_of_call, own_by, status_by, packets_by, table_by, packets_refused_by, written_by}
use Rattle.whole_list.specs.Recorded.{timing_point_in, timing_points, In}
use Rattle.whole_list.specs.WholeList.{bytes_of_each}
use Rattle.whole_list.specs.Held.{Is62}
use Rattle.whole_list.proofs.Recorded.{Own, own-are}
use Rattle.whole_list.proofs.Readable.{Fits, packets_fit, refused_fit, written_fit, read_as}
use Rattle.whole_list.proofs.Passed.{timing_among, told_accepted}

pub points_append : (a b : List (List ℕ)) → timing_points (a ++ b) ≡ timing_points a ++ timing_points b
unfolding timing_points
points_append a b = filter_map-append _ a b

-- ---- packets that are read back

abbrev among : List Packet → List TimingPoint
among l = filter_map (λ p. timing_point_in (accept p)) l

among_append : (a b : List Packet) → among (a ++ b) ≡ among a ++ among b
among_append a b = filter_map-append _ a b

read_back : (l : List Packet) → All Fits l → timing_points (bytes_of_each l) ≡ among l
unfolding timing_points
read_back [] f = refl
read_back (p ∷ l) f =
    ap (λ q. cons_option (timing_point_in q) (timing_points (bytes_of_each l))) (read-written p f.0.0 f.0.1)
    ∙ ap (cons_option (timing_point_in (accept p))) (read_back l f.1)

-- ---- the packets of an event

-- what the packet 62 of a change says
abbrev pub point_values : Route → Position → PointChange → TimingPoint
point_values j x c = record {
  header = header j x;
  nidc = c.point.nidc;
  nidtp = c.point.nidtp;
  q_eoj_reached = flag c.end_ahead;
  alignment = c.point.alignment;
  status = c.status;
  stopping = if eqb c.status status_stopped then c.point.stopping else 0;
}

module _ (j : Route) (x : Position) where
  of_65 : (o : Option Head) → among (received j x o) ≡ []
  unfolding jp_received
  of_65 None = refl
  of_65 (Some d) = refl

  of_own : (l : List Packet) → All Own l → among l ≡ []
  of_own [] a = refl
  of_own (Packet.TimingPoint p ∷ l) a = absurd a.0
  of_own (Packet.JpReceived p ∷ l) a = absurd a.0
  of_own (Packet.AtoStatus p ∷ l) a = absurd a.0
  of_own (Packet.TractionBrake p ∷ l) a = of_own l a.1
  of_own (Packet.AdhesionSystem h rows ∷ l) a = of_own l a.1

  of_68 : (due : Bool) (s : ℕ) (n : OperationalConditions) → among (when due (ato_status j x s n)) ≡ []
  unfolding ato_status
  of_68 true s n = refl
  of_68 false s n = refl

  of_62 : (l : List PointChange) → among (map (timing_point j x) l) ≡ map (point_values j x) l
  unfolding timing_point
  of_62 [] = refl
  of_62 (c ∷ l) = ap (λ (m : List TimingPoint). point_values j x c ∷ m) (of_62 l)

module _ (h : History) (c : Call) where
  pub call_points : timing_points (bytes_of_each (packets_by h c)) ≡ map (point_values (route_by (c ∷ h)) (position_by (c ∷ h))) (changes_by h c)
  unfolding packets_by packets_of
  call_points =
      let j = route_by (c ∷ h) in
      let x = position_by (c ∷ h) in
      let points = map (timing_point j x) (changes_by h c) in
      let after = status_by (c ∷ h) in
      let last = when (status_due (status_by h) after) (ato_status j x after.state after.conditions) in
      read_back (packets_by h c) (packets_fit h c)
      ∙ among_append (received j x (head_of_call c)) (points ++ (own_by h c ++ last))
      ∙ ap (λ (l : List TimingPoint). l ++ among (points ++ (own_by h c ++ last))) (of_65 j x (head_of_call c))
      ∙ among_append points (own_by h c ++ last)
      ∙ ap (λ (l : List TimingPoint). among points ++ l)
      (among_append (own_by h c) last
      ∙ ap (λ (l : List TimingPoint). l ++ among last) (of_own j x (own_by h c) (own-are h c))
      ∙ of_68 j x (status_due (status_by h) after) after.state after.conditions)
      ∙ append-nil (among points)
      ∙ of_62 j x (changes_by h c)

  -- what a refused call writes has none
  pub refused_points : (n : ℕ) → timing_points (bytes_of_each (packets_refused_by h c n)) ≡ []
  unfolding packets_refused jp_turned_down
  refused_points n = read_back (packets_refused_by h c n) (refused_fit h c n) ∙ go (turns_down n && leb (kind_size kind65) (length c.memory))
    where
      go : (b : Bool) → among (when b (jp_turned_down (route_by h) (position_by h))) ≡ []
      go true = refl
      go false = refl

-- ---- what a packet 62 of a call is

-- of an accepted call, and of one of its changes
pub record Change62 (h : History) (c : Call) (packet : List ℕ) (status : ℕ) : Type 0 where
  pub accepted : table_by h c ≡ accept tt
  pub change : PointChange
  pub one_of_them : In change (changes_by h c)
  pub status_is : change.status ≡ status
  pub bytes : packet ≡ packet_bytes (timing_point (route_by (c ∷ h)) (position_by (c ∷ h)) change)

pub change_of : (h : History) (c : Call) (packet : List ℕ) (status : ℕ) → In packet (bytes_of_each (written_by h c)) → Is62 packet status → Change62 h c packet status
unfolding timing_point
change_of h c packet status i t =
    let a = read_as packet (written_by h c) (written_fit h c) i in
    let same : a.packet ≡ Packet.TimingPoint t.told = cc (a.read, t.read) in
    let (accepted, among) = told_accepted h c t.told (subst (λ (p : Packet). In p (written_by h c)) same a.one_of_them) in
    let (d, k, z) = timing_among h c t.told among in
    let s : t.told.status ≡ d.status = cc in
    record { accepted = accepted; change = d; one_of_them = k; status_is = sym s ∙ t.status_is; bytes = a.is_it ∙ ap packet_bytes (same ∙ z) }
