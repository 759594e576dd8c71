-- In every history the values that conditions and packets look at are within their ranges: each was read with its range, or is fresh.
use Rattle.std.specs.Prelude.{if◌then◌else◌, Option, Some, None}
use mathlib.Core.Path.{◌≡◌, refl, subst}
use mathlib.Core.Bool.{Bool, true, false, false≢true}
use mathlib.Core.List.{List, [], ◌∷◌}
use Prim.Native.Nat.{ℕ, zero, suc, ◌≤◌, ◌<◌}
use native.Mathlib.Omega.{arith}
use lib.ListN.{length, get_or, replicate, take, length-replicate}
use Rattle.wire.specs.Judged.{Judged}
use Rattle.wire.specs.Judged.Judged.{refuse, accept}
use Rattle.engine_value.specs.Engine.{Route, no_route, fresh_position, blank_point, blank_segment, max4}
use Rattle.engine_value.specs.declared.Segment.{Segment}
use Rattle.engine_value.specs.declared.Position.{Position}
use Rattle.event.specs.Events.{event_of}
use Rattle.adhesion.specs.declared.TemporaryConstraint.{TemporaryConstraint}
use Rattle.event.proofs.Accepted.{PositionFits, Fits, Straight, position_fits, event-fits, event-straight}
use Rattle.event.proofs.Adhesion.{rows-fit}
use Rattle.event.specs.Event.{Event}
use Rattle.event.specs.Event.Event.{PowerOn}
use Rattle.event.proofs.Known.{OfPosition, position_of, OfConstraints, constraints-of}
use Rattle.event.specs.Kinds.{carried, Role, off, load, report, other, skip, newer, is_off}
use Rattle.route.specs.Route.{LoadValue, load_of}
use Rattle.route.proofs.Ranges.{PointFits, LoadFits, load_fits}
use Rattle.position.specs.Position.{point, point_count}
use Rattle.conditions.specs.Sentences.{ZonesBooked}
use Rattle.call_values.specs.Call.{Call}
use Rattle.whole_list.specs.Values.{History, event_of_call, load_of_call, role_of_call, latest, constraints_by, position_by, route_loaded, route_by}
use Rattle.whole_list.proofs.Recorded.{Ranged}

-- ---- the position

pub event-in : (c : Call) → Fits (event_of_call c)
unfolding event_of_call
event-in c = go (event_of c.event) refl
  where
    go : (j : Judged Event) → event_of c.event ≡ j → Fits (elim j [ refuse n ↦ PowerOn | accept e ↦ e ])
    go (refuse n) q = (tt, refl, refl)
    go (accept e) q = event-fits c.event e q

pub event-straight_in : (c : Call) → Straight (event_of_call c)
unfolding event_of_call
event-straight_in c = go (event_of c.event) refl
  where
    go : (j : Judged Event) → event_of c.event ≡ j → Straight (elim j [ refuse n ↦ PowerOn | accept e ↦ e ])
    go (refuse n) q = refl
    go (accept e) q = event-straight c.event e q

-- the rows in force are at most 31
few_then : (o : Option (List TemporaryConstraint)) (e : Event) → OfConstraints o e → Fits e → (l : List TemporaryConstraint) → length l ≤ 31 → length (newer o l) ≤ 31
few_then None e k f l h = h
few_then (Some rows) e k f l h = (rows-fit rows (subst Fits k f)).few

pub few_rows : (h : History) → length (constraints_by h) ≤ 31
unfolding latest
few_rows [] = omega arith
few_rows (c ∷ h) =
    let few = few_then (carried (event_of_call c)).constraints (event_of_call c) (constraints-of (event_of_call c)) (event-in c) (constraints_by h) (few_rows h) in
    go (is_off (role_of_call c)) (newer (carried (event_of_call c)).constraints (constraints_by h)) few
  where
    go : (b : Bool) (l : List TemporaryConstraint) → length l ≤ 31 → length (if b then [] else l) ≤ 31
    go true l k = omega arith
    go false l k = k

-- the latest of the values that events carry
carried-in : (e : Event) (x : Position) → Fits e → PositionFits x → PositionFits (newer (carried e).position x)
carried-in e x h k = go (carried e).position (position_of e)
  where
    go : (o : Option Position) → OfPosition o e → PositionFits (newer o x)
    go None q = k
    go (Some y) q = position_fits y (rw q at h)

fresh_in : PositionFits fresh_position
fresh_in = record { nidc = omega arith; nidsp = omega arith; offset = omega arith; speed = omega arith }

position_in : (h : History) → PositionFits (position_by h)
unfolding latest
position_in [] = fresh_in
position_in (c ∷ h) = go (is_off (role_of_call c)) _ (carried-in (event_of_call c) (position_by h) (event-in c) (position_in h))
  where
    go : (b : Bool) (x : Position) → PositionFits x → PositionFits (if b then fresh_position else x)
    go true x k = fresh_in
    go false x k = k

-- ---- the load in force

-- the load of a call, where it has one
pub load-in : (c : Call) (l : LoadValue) → load_of_call c ≡ Some l → LoadFits l
unfolding load_of_call
load-in c l = go (load_of c.journey c.book) refl
  where
    go : (v : Judged LoadValue) → load_of c.journey c.book ≡ v → elim v [ refuse n ↦ None | accept k ↦ Some k ] ≡ Some l → LoadFits l
    go (refuse n) q e = cc
    go (accept k) q e = let z : k ≡ l = cc in rw (← z) (load_fits c.journey c.book k q)

pub record RouteIn (j : Route) : Type 0 where
  pub full : length j.points ≡ 64
  pub operational : j.load.operational ≤ max4
  pub points : (k : ℕ) → PointFits (point j k)
  pub ending : j.load.valid ≡ true → j.load.ending < point_count j
  pub unbooked : (k : ℕ) → (get_or j.segments k blank_segment).booked ≡ false → (get_or j.segments k blank_segment).zone_count ≡ 0

blank_in : PointFits blank_point
blank_in = record { nidtp = omega arith; nidc = omega arith; alignment = omega arith; stopping = omega arith; place = omega arith; reach = omega arith }

blanks_in : (n k : ℕ) → PointFits (get_or (replicate n blank_point) k blank_point)
blanks_in zero k = blank_in
blanks_in (suc n) zero = blank_in
blanks_in (suc n) (suc k) = blanks_in n k

no_zones-in : (n k : ℕ) → (get_or (replicate n blank_segment) k blank_segment).zone_count ≡ 0
no_zones-in zero k = refl
no_zones-in (suc n) zero = refl
no_zones-in (suc n) (suc k) = no_zones-in n k

none_in : RouteIn no_route
none_in = record { full = length-replicate 64 blank_point; operational = omega arith; points = blanks_in 64; ending = λ v. absurd (false≢true v); unbooked = λ k e. no_zones-in 40 k }

loaded-in : (l : LoadValue) → LoadFits l → RouteIn l.route
loaded-in l h = record { full = h.point_array; operational = h.operational; points = h.points; ending = λ v. omega (arith, h.ending, h.most_points); unbooked = λ k. (h.segments k).unbooked }

pub route-in : (h : History) → RouteIn (route_by h)
unfolding route_by
route-in [] = none_in
route-in (c ∷ h) = go (role_of_call c) (route-in h)
  where
    by : (o : Option LoadValue) → load_of_call c ≡ o → RouteIn (route_by h) → RouteIn (route_loaded o (route_by h))
    by None e k = k
    by (Some l) e k = loaded-in l (load-in c l e)

    go : (r : Role) → RouteIn (route_by h)
        → RouteIn (elim r [ off ↦ no_route | load ↦ route_loaded (load_of_call c) (route_by h) | report ↦ route_by h | other ↦ route_by h | skip t on ↦ route_by h ])
    go off k = none_in
    go load k = by (load_of_call c) refl k
    go report k = k
    go other k = k
    go (skip t on) k = k

-- of the journey's segments, those that are not in the book have no zones
unbooked_among : (n : ℕ) (l : List Segment) → ((k : ℕ) → (get_or l k blank_segment).booked ≡ false → (get_or l k blank_segment).zone_count ≡ 0)
    → (k : ℕ) → (get_or (take n l) k blank_segment).booked ≡ false → (get_or (take n l) k blank_segment).zone_count ≡ 0
unbooked_among zero l h k e = refl
unbooked_among (suc n) [] h k e = refl
unbooked_among (suc n) (s ∷ l) h zero e = h 0 e
unbooked_among (suc n) (s ∷ l) h (suc k) e = unbooked_among n l (λ i. h (suc i)) k e

pub zones-booked : (h : History) → ZonesBooked (route_by h)
zones-booked h = let j = route_by h in unbooked_among j.load.segment_count j.segments (route-in h).unbooked

-- ---- both

pub ranged : (h : History) → Ranged (route_by h) (position_by h)
ranged h =
    let p = position_in h in
    record { nidc = p.nidc; nidsp = p.nidsp; offset = p.offset; speed = p.speed; operational = (route-in h).operational }
