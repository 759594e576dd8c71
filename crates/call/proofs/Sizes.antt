-- No call writes more than 1,673 bytes, whatever engine it finds: with so much memory 16 does not come.
use Rattle.std.specs.Prelude.{if◌then◌else◌}
use Prim.Native.Nat.{ℕ, zero, suc, ◌+◌, ◌-◌, ◌*◌, ◌≤◌}
use mathlib.Core.Path.{◌≡◌, refl, sym, ap, subst, ◌∙◌}
use mathlib.Core.List.{List, [], ◌∷◌, ◌++◌, map}
use mathlib.Core.Bool.{Bool, true, false, ◌&&◌, ◌||◌}
use Rattle.std.specs.Prelude.{Option, Some, None}
use lib.ListN.{length, length-append, length-map}
use lib.Dec.{ltb}
use borrow.Author.Tests.{le-ltb}
use native.Mathlib.Omega.{arith}
use Rattle.wire.specs.Numbers.{flag}
use Rattle.wire.specs.Judged.{Judged, then_judge, row}
use Rattle.wire.specs.Judged.Judged.{refuse, accept}
use Rattle.engine_value.specs.Engine.{Route, route_in, progress}
use Rattle.engine_value.specs.declared.Point.{Point}
use Rattle.engine_value.specs.declared.Position.{Position}
use Rattle.engine_value.specs.declared.Progress.{Progress}
use Rattle.engine_value.specs.declared.Engine.{Engine}
use Rattle.event.specs.declared.TractionRequest.{TractionRequest}
use Rattle.event.specs.Event.{Event}
use Rattle.event.proofs.Known.{OfTraction, traction-of, OfConstraints, constraints-of}
use Rattle.event.specs.Events.{event_of}
use Rattle.event.proofs.Accepted.{Fits, event-fits}
use Rattle.event.proofs.Adhesion.{rows-fit}
use Rattle.adhesion.specs.declared.TemporaryConstraint.{TemporaryConstraint}
use Rattle.event.specs.Kinds.{Role, off, load, report, other, skip, Carried, role_of, carried}
use Rattle.packets.specs.Packets.{packet_bytes, joined}
use Rattle.packets.specs.declared.Requested.{Requested}
use Rattle.status_word.specs.declared.OperationalConditions.{OperationalConditions}
use Rattle.packets.specs.Packet.{Packet}
use Rattle.packets.proofs.PacketLaws.{length-packet_bytes, length-joined, length-one, size_64 as size_of_rows}
use Rattle.journey.specs.declared.Head.{Head}
use Rattle.route.specs.Route.{LoadValue, load_of}
use Rattle.position.specs.Position.{point, point_count, placed, known}
use Rattle.timing.specs.Distance as distance
use Rattle.timing.specs.Distance.{report_from, beyond, at_stop, leaves}
use Rattle.timing.specs.Report.{following, looked, looked_from, departs, first_looked, reported, became_reached}
use Rattle.timing.specs.Changes.{Change, change, passings, when, stopped_at, changes_of, report_changes, status_departed, status_held}
use Rattle.position.specs.Standing.{standing, behind}
use Rattle.position.specs.declared.Stop.{Stop}
use Rattle.timing.proofs.Steps.{reported_stays, reported_departs, reported_looks}
use Rattle.call_values.specs.Packets.{PointChange, timing_point, jp_received, ato_status, received, header, traction_brake, traction_brakes, adhesion_system, adhesion_systems, status_due, packets_of}
use Rattle.state_codes.specs.Codes.{state_at}
use Rattle.traction.specs.Requests.{written_content}
use Rattle.traction.specs.View.{remembered_in}
use Rattle.traction.proofs.Laws.{not_written}
use Rattle.hold.specs.Hold.{held_stop_in, hold_ended}
use Rattle.trackside.specs.Trackside.{trackside_changes}
use Rattle.trackside.proofs.Laws.{told_most}
use Rattle.call.specs.Packets.{change_in, changes_in, own_packets}
use Rattle.look_up.specs.LookUp.{position_after, look_up}
use Rattle.look_up.specs.declared.LookedUp.{LookedUp}
use Rattle.call_values.specs.Rows.{offset_beyond, same_bool}
use Rattle.call.specs.Effect.{Effect, effect_as, effect, train_with, values_only, position_effect, reported_in, load_effect, skip_effect, skipped_in, progress_loaded, loaded_in}
use Rattle.call_values.specs.Call.{Call, bytes_written}
use Rattle.call_values.proofs.Laws.{refused_fits}
use Rattle.call.specs.Call.{Step, status_in, step_by, judged, outcome_of, step_of}
use Rattle.call.proofs.Rows.{taken}

-- ---- the points that a report changes

-- those that pass from point k on, and the one that is reached, are among the n points
look_most : (j : Route) (r : distance.Report) (n k : ℕ) → (looked j r n k).next - k + flag (looked j r n k).reached ≤ n
unfolding looked
look_most j r zero k = omega arith
look_most j r (suc n) k = go _ refl _ refl (look_most j r n (k + 1))
  where
    here : (b : Bool) → k - k + flag b ≤ suc n
    here true = omega arith
    here false = omega arith

    go : (a : Bool) → known j r.position && placed j k ≡ a → (b : Bool) → beyond j r k ≡ b
        → (looked j r n (k + 1)).next - (k + 1) + flag (looked j r n (k + 1)).reached ≤ n → (looked j r (suc n) k).next - k + flag (looked j r (suc n) k).reached ≤ suc n
    go false p b q h = rw p (here false)
    go true p true q h = rw (p, q) (omega arith)
    go true p false q h = rw (p, q) (here (at_stop j r k))

length-passings : (n k : ℕ) → length (passings n k) ≡ n
unfolding passings
length-passings zero k = refl
length-passings (suc n) k = ap suc (length-passings n (k + 1))

length-when : {A : Type 0} (b : Bool) (a : A) → length (when b a) ≡ flag b
length-when true a = refl
length-when false a = refl

flag-most : (b : Bool) → flag b ≤ 1
flag-most true = omega arith
flag-most false = omega arith

-- of a stop that becomes reached one, and one more where it is held
length-stopped : (b : Bool) (j : Route) (p : Progress) → length (if b then stopped_at j p else []) ≤ flag b + 1
length-stopped true j p = omega (arith, length-when (point j p.next).held (change p.next status_held p), flag-most (point j p.next).held)
length-stopped false j p = omega arith

module _ (j : Route) (r : distance.Report) (p : Progress) where
  after_most : (k : ℕ) → (looked_from j r k).next - k + flag (looked_from j r k).reached ≤ point_count j - k
  after_most k = look_most j r (point_count j - k) k

  -- the one that departs, those that pass and the one that is reached differ
  points_most : flag (departs j r p) + ((reported j r p).next - first_looked j r p) + flag (became_reached j r p) ≤ 64
  points_most = go p.reached refl (leaves j r p.next) refl
    where
      go : (a : Bool) → p.reached ≡ a → (b : Bool) → leaves j r p.next ≡ b
          → flag (departs j r p) + ((reported j r p).next - first_looked j r p) + flag (became_reached j r p) ≤ 64
      go false e b f = rw (reported_looks j r p e, e) (omega (arith, after_most p.next))
      go true e false f = rw (reported_stays j r p e f, e, f) (omega arith)
      go true e true f = rw (reported_departs j r p e f, e, f) (omega (arith, after_most (following p.next)))

  changes_most : length (report_changes j r p) ≤ 65
  unfolding report_changes
  changes_most =
      let a = length-when (departs j r p) (change p.next status_departed (progress (first_looked j r p) false)) in
      let b = length-stopped (became_reached j r p) j (reported j r p) in
      simp (length-append, length-passings) (omega (arith, points_most, a, b))

-- ---- what an effect writes, but for packet 68

abbrev load_bytes : Option Head → ℕ
load_bytes None = 0
load_bytes (Some h) = 29

abbrev ended : Option Point → ℕ
ended None = 0
ended (Some p) = 1

abbrev effect_bytes : Effect → ℕ
effect_bytes f = load_bytes f.loaded + 25 * (ended f.hold_ended + length f.changes)

abbrev Small : Judged Effect → Type 0
Small (refuse n) = Unit {0}
Small (accept f) = effect_bytes f ≤ 1654

small_row : (n : ℕ) (b : Bool) (f : Effect) → Small (accept f) → Small (then_judge (row n b) (λ a. accept f))
small_row n true f h = tt
small_row n false f h = h

small-skip : (e : Engine) (c : Carried) (on : Bool) (f : Option Stop) → Small (skip_effect e c on f)
unfolding skip_effect
small-skip e c on None = tt
small-skip e c on (Some s) = small_row 15 (behind (standing e.progress s.at) || same_bool s.skipped on) (skipped_in e c s.at on) (omega arith)

small-load : (e : Engine) (c : Carried) (x : Judged LoadValue) → Small (then_judge x (λ l. accept (loaded_in e c l)))
small-load e c (refuse n) = tt
small-load e c (accept l) = go (hold_ended (held_stop_in e) l.route)
  where
    told : List Change
    told = trackside_changes (route_in e) l.route (progress_loaded e c l.route)

    few : length told ≤ 64
    few = told_most (route_in e) l.route (λ k s. change k s (progress_loaded e c l.route))

    go : (o : Option Point) → 29 + 25 * (ended o + length told) ≤ 1654
    go None = omega (arith, few)
    go (Some p) = omega (arith, few)

small-report : (e : Engine) (c : Carried) (l : LookedUp) → length (changes_of (route_in e) e.progress l.report) ≤ 65 → Small (position_effect e c l)
unfolding position_effect
small-report e c l h = small_row 13 (offset_beyond l.segment (train_with e c).position) (reported_in e c l.report) (omega arith)

small : (e : Engine) (journey book : List ℕ) (event : Event) → Small (effect e journey book event)
unfolding effect load_effect report_changes
small e journey book event = go (role_of event) refl
  where
    c : Carried
    c = carried event

    go : (r : Role) → role_of event ≡ r → Small (effect_as r e c (look_up e event) journey book)
    go off q = omega arith
    go load q = small-load e c (load_of journey book)
    go report q = small-report e c (look_up e event) (rw q (changes_most (route_in e) (report_from e (position_after e event)) e.progress))
    go other q = omega arith
    go (skip t on) q = small-skip e c on (look_up e event).stop

-- an event that only brings values changes no point and loads nothing
values-small : (e : Engine) (journey book : List ℕ) (event : Event) (f : Effect) → role_of event ≡ other → effect e journey book event ≡ accept f → effect_bytes f ≡ 0
unfolding effect
values-small e journey book event f r q =
    let same : accept (values_only e (carried event)) ≡ accept f = ap (λ (r : Role). effect_as r e (carried event) (look_up e event) journey book) (sym r) ∙ q in
    let z : values_only e (carried event) ≡ f = cc in
    ap effect_bytes (sym z)

-- ---- the packets

module _ (j : Route) (x : Position) where
  size_62s : (l : List PointChange) → length (joined (map (timing_point j x) l)) ≡ 25 * length l
  unfolding timing_point
  size_62s [] = refl
  size_62s (c ∷ l) = length-append (packet_bytes (timing_point j x c)) _ ∙ omega (arith, length-packet_bytes (timing_point j x c), size_62s l)

  size_65 : (h : Option Head) → length (joined (received j x h)) ≡ load_bytes h
  unfolding jp_received
  size_65 None = refl
  size_65 (Some h) = length-one (jp_received j x h) 29 refl

  size_68 : (b : Bool) (s : ℕ) (n : OperationalConditions) → length (joined (when b (ato_status j x s n))) ≤ 19
  unfolding ato_status
  size_68 true s n = omega (arith, length-one (ato_status j x s n) 19 refl)
  size_68 false s n = omega arith

  size_61 : (o : Option Requested) → length (joined (traction_brakes j x o)) ≤ 22
  unfolding traction_brake
  size_61 None = omega arith
  size_61 (Some r) = omega (arith, length-one (traction_brake j x r) 22 refl)

  size_64 : (rows : List TemporaryConstraint) → length rows ≤ 31 → length (joined (adhesion_systems j x (Some rows))) ≤ 514
  unfolding adhesion_system
  size_64 rows h = omega (arith, length-one (adhesion_system j x rows) (18 + length rows * 16) (size_of_rows (header j x) rows))

length-changes : (m : Engine) (o : Option Point) (changes : List Change) → length (changes_in m o changes) ≡ ended o + length changes
length-changes m None changes = omega (arith, length-map changes (change_in (route_in m)))
length-changes m (Some p) changes = omega (arith, length-map changes (change_in (route_in m)))

-- only a request writes a packet 61, only slippery rail a packet 64
module _ (e : Engine) (event : Event) (m : Engine) where
  abbrev brakes : List Packet
  brakes = traction_brakes (route_in m) m.train.position (written_content (state_at e.control.state) event (remembered_in e.traction) (remembered_in m.traction))

  abbrev slippery : List Packet
  slippery = adhesion_systems (route_in m) m.train.position (carried event).constraints

  no_brakes : (carried event).traction ≡ None → length (joined brakes) ≡ 0
  no_brakes q =
      ap (λ (o : Option Requested). length (joined (traction_brakes (route_in m) m.train.position o)))
      (not_written (state_at e.control.state) event (remembered_in e.traction) (remembered_in m.traction) q)

  -- all but packet 68
  with_own : (bytes journey book : List ℕ) (f : Effect) → event_of bytes ≡ accept event → effect e journey book event ≡ accept f
      → effect_bytes f + length (joined (own_packets e event m)) ≤ 1654
  with_own bytes journey book f read q =
      let both = length-joined brakes slippery in
      go (carried event).constraints refl (constraints-of event) (carried event).traction refl (traction-of event) both
    where
      go : (r : Option (List TemporaryConstraint)) → (carried event).constraints ≡ r → OfConstraints r event
          → (o : Option TractionRequest) → (carried event).traction ≡ o → OfTraction o event
          → length (joined (own_packets e event m)) ≡ length (joined brakes) + length (joined slippery)
          → effect_bytes f + length (joined (own_packets e event m)) ≤ 1654
      go (Some rows) r k o p l both =
          let few = (rows-fit rows (subst Fits k (event-fits bytes event read))).few in
          let none : (carried event).traction ≡ None = ap (λ (v : Event). (carried v).traction) k in
          let z = values-small e journey book event f (ap role_of k) q in
          let most : length (joined slippery) ≤ 514 = rw r (size_64 (route_in m) m.train.position rows few) in
          omega (arith, z, both, no_brakes none, most)
      go None r k None p l both =
          let h : effect_bytes f ≤ 1654 = subst Small q (small e journey book event) in
          let empty : length (joined slippery) ≡ 0 = rw r in
          omega (arith, h, both, no_brakes p, empty)
      go None r k (Some x) p l both =
          let z = values-small e journey book event f (ap role_of l) q in
          let empty : length (joined slippery) ≡ 0 = rw r in
          omega (arith, z, both, empty, size_61 (route_in m) m.train.position (written_content (state_at e.control.state) event (remembered_in e.traction) (remembered_in m.traction)))

-- "16 shorter than this event's packets"
pub bytes_most : (e : Engine) (bytes journey book : List ℕ) (event : Event) (f : Effect) → event_of bytes ≡ accept event → effect e journey book event ≡ accept f → length (joined (step_by e event f).packets) ≤ 1673
unfolding packets_of
bytes_most e bytes journey book event f read q =
    let m = (step_by e event f).engine in
    let j = route_in m in
    let x = m.train.position in
    let h = with_own e event m bytes journey book f read q in
    let own = own_packets e event m in
    let due = status_due (status_in e) (status_in m) in
    let changes = changes_in m f.hold_ended f.changes in
    let n = length-changes m f.hold_ended f.changes in
    let last = when due (ato_status j x (status_in m).state (status_in m).conditions) in
    let a = length-joined (received j x f.loaded) (map (timing_point j x) changes ++ (own ++ last)) in
    let b = length-joined (map (timing_point j x) changes) (own ++ last) in
    let d = length-joined own last in
    omega (arith, h, a, b, d, size_65 j x f.loaded, size_62s j x changes, n, size_68 j x due (status_in m).state (status_in m).conditions)

-- with so much memory that row does not refuse
pub row_16 : (e : Engine) (bytes journey book memory : List ℕ) (event : Event) (f : Effect) → event_of bytes ≡ accept event → effect e journey book event ≡ accept f → 1673 ≤ length memory
    → row 16 (ltb (length memory) (length (joined (step_by e event f).packets))) ≡ accept tt
row_16 e bytes journey book memory event f read q h = rw (le-ltb (length memory) (length (joined (step_by e event f).packets)) (omega (arith, bytes_most e bytes journey book event f read q)))

-- every call, accepted or refused, writes no more
pub call_bytes_most : (e : Engine) (c : Call) → bytes_written (step_of e c).answer ≤ 1673
unfolding step_of outcome_of
call_bytes_most e c = go (judged e c) refl
  where
    go : (j : Judged Step) → judged e c ≡ j → bytes_written (outcome_of e c.memory j).answer ≤ 1673
    go (refuse n) q = omega (arith, (refused_fits (route_in e) e.train.position n (length c.memory)).1)
    go (accept s) q =
        let t = taken e c s q in
        let z : length (joined s.packets) ≡ length (joined (step_by e t.event t.made).packets) = ap (λ (s : Step). length (joined s.packets)) t.result in
        omega (arith, z, bytes_most e c.event c.journey c.book t.event t.made t.is_event t.does)
