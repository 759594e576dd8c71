-- What an accepted event tells: its fields are in their ranges, and its kind is the first byte.
use Rattle.std.specs.Prelude.{if◌then◌else◌}
use Prim.Native.Nat.{ℕ, ◌+◌, ◌≤◌}
use mathlib.Core.Path.{◌≡◌, refl, sym, subst}
use mathlib.Core.List.{List, [], ◌∷◌}
use mathlib.Core.Bool.{Bool, true, false, not}
use lib.ListN.{length, get_or}
use lib.Dec.{eqb, leb}
use native.Mathlib.Omega.{arith}
use borrow.Author.Tests.{eqb-true, leb-true}
use Rattle.wire.specs.Numbers.{magnitude}
use Rattle.wire.specs.Judged.{Judged, then_judge, row}
use Rattle.wire.specs.Judged.Judged.{refuse, accept}
use Rattle.wire.proofs.ListLaws.{and_left, and_right}
use Rattle.layout.specs.Body.{BodyValues, body_size, body_at, body_fits}
use Rattle.engine_value.specs.Engine.{max2, max4, max_nidc, undefined}
use Rattle.engine_value.specs.declared.Position.{Position}
use Rattle.packets.specs.declared.Requested.{Requested}
use Rattle.wire.specs.Lists.{any}
use Rattle.adhesion.specs.Constraints.{reversed}
use Rattle.event.specs.Kinds.{Content, kind, kinds, kind_of, event_constraints}
use Rattle.event.specs.Events.{event_rows, event_with, content_among, event_of_kind, event_of}
use Rattle.event.specs.declared.TractionRequest.{TractionRequest}
use Rattle.event.specs.Event.{Event}

-- an event is that of values in the ranges of its layout
abbrev pub Fits : Event → Type 0
Fits e = let c = (kind e).content in (v : BodyValues c.body) × (body_fits c.body v ≡ true) × (c.event v ≡ e)

-- none of its rows is reversed
abbrev pub Straight : Event → Type 0
Straight e = any reversed (event_constraints e) ≡ false

pub record PositionFits (p : Position) : Type 0 where
  pub nidc : p.nidc ≤ max_nidc
  pub nidsp : p.nidsp ≤ max4
  pub offset : p.offset ≤ undefined
  pub speed : p.speed ≤ max2

pub position_fits : (p : Position) → Fits (Event.PositionReport p) → PositionFits p
position_fits p f =
    let (nidc, (nidsp, (offset, (speed, _)))) = f.0 in
    let same : p ≡ record { nidsp = nidsp; offset = offset; nidc = nidc; speed = speed } = cc f.2 in
    let behind-nidc = and_right (leb nidc max_nidc) _ f.1 in
    let behind-nidsp = and_right (leb nidsp max4) _ behind-nidc in
    rw same
    (record {
      nidc = leb-true _ _ (and_left (leb nidc max_nidc) _ f.1);
      nidsp = leb-true _ _ (and_left (leb nidsp max4) _ behind-nidc);
      offset = leb-true _ _ (and_left (leb offset undefined) _ behind-nidsp);
      speed = leb-true _ _ (and_left (leb speed max2) _ (and_right (leb offset undefined) _ behind-nidsp));
    })

-- the content of a traction request, within the bytes of its fields
pub record ContentFits (r : Requested) : Type 0 where
  pub trabrrq : r.m_ato_trabrrq ≤ 255
  pub locobrrq : r.m_ato_locobrrq ≤ 255
  pub suptb : r.q_ato_suptb ≤ 255
  pub rtbrq : r.m_ato_rtbrq ≤ 65535

pub content-fits : (x : TractionRequest) → Fits (Event.Traction x) → ContentFits x.content
content-fits x f =
    let (request, (trabrrq, (locobrrq, (suptb, (rtbrq, _))))) = f.0 in
    let same : x.content ≡ record { m_ato_trabrrq = trabrrq; m_ato_locobrrq = locobrrq; q_ato_suptb = suptb; m_ato_rtbrq = rtbrq } = cc f.2 in
    let behind-request = and_right (leb (magnitude request) 100) _ f.1 in
    let behind-trabrrq = and_right (leb trabrrq 255) _ behind-request in
    let behind-locobrrq = and_right (leb locobrrq 255) _ behind-trabrrq in
    rw same
    (record {
      trabrrq = leb-true _ _ (and_left (leb trabrrq 255) _ behind-request);
      locobrrq = leb-true _ _ (and_left (leb locobrrq 255) _ behind-trabrrq);
      suptb = leb-true _ _ (and_left (leb suptb 255) _ behind-locobrrq);
      rtbrq = leb-true _ _ (and_left (leb rtbrq 65535) _ (and_right (leb suptb 255) _ behind-locobrrq));
    })

-- ---- every kind

-- a content gives events of the kind n, with their fields in their ranges
abbrev pub Gives : ℕ → Content → Type 0
Gives n c = (v : BodyValues c.body) → body_fits c.body v ≡ true → Fits (c.event v) × (kind_of (c.event v) ≡ n)

gives : (e : Event) → Gives (kind e).number (kind e).content
gives Event.PowerOn v h = ((v, h, refl), refl)
gives Event.Configured v h = ((v, h, refl), refl)
gives Event.PowerOff v h = ((v, h, refl), refl)
gives Event.Fault v h = ((v, h, refl), refl)
gives (Event.Reports n) v h = ((v, h, refl), refl)
gives (Event.Mode n) v h = ((v, h, refl), refl)
gives (Event.Lever n) v h = ((v, h, refl), refl)
gives Event.Press v h = ((v, h, refl), refl)
gives (Event.PositionReport x) v h = ((v, h, refl), refl)
gives (Event.Length n) v h = ((v, h, refl), refl)
gives Event.Load v h = ((v, h, refl), refl)
gives (Event.Skip t) v h = ((v, h, refl), refl)
gives (Event.Revoke t) v h = ((v, h, refl), refl)
gives (Event.Traction x) v h = ((v, h, refl), refl)
gives (Event.Adhesion rs) v h = ((v, h, refl), refl)

pub among-gives : (es : List Event) (n : ℕ) (c : Content) → content_among es n ≡ accept c → Gives n c
unfolding content_among
among-gives [] n c q = let z : ◌≡◌ {A = ℕ} 0 1 = cc in absurd (omega arith)
among-gives (e ∷ es) n c q = go (eqb n (kind e).number) refl q (among-gives es n c)
  where
    same : accept (kind e).content ≡ accept c → (kind e).content ≡ c
    same p = cc

    go : (b : Bool) → eqb n (kind e).number ≡ b → (if b then accept (kind e).content else content_among es n) ≡ accept c
        → (content_among es n ≡ accept c → Gives n c) → Gives n c
    go true t p ih = subst (Gives n) (same p) (subst (λ k. Gives k (kind e).content) (sym (eqb-true n (kind e).number t)) (gives e))
    go false t p ih = ih p

-- ---- the rows

module _ (c : Content) (l : List ℕ) (e : Event) where
  abbrev made : Event
  made = c.event (body_at c.body 1 l)

  with_inv : event_with c l ≡ accept e → (body_fits c.body (body_at c.body 1 l) ≡ true) × (made ≡ e) × Straight made
  unfolding event_with event_rows
  with_inv q = go (eqb (length l) (1 + body_size c.body (body_at c.body 1 l))) (body_fits c.body (body_at c.body 1 l)) refl (any reversed (event_constraints made)) refl q
    where
      same : accept made ≡ accept e → made ≡ e
      same p = cc

      go : (a b : Bool) → body_fits c.body (body_at c.body 1 l) ≡ b → (d : Bool) → any reversed (event_constraints made) ≡ d
          → then_judge (row 1 (not a)) (λ t. then_judge (row 2 (not b)) (λ u. then_judge (row 21 d) (λ w. accept made))) ≡ accept e
          → (body_fits c.body (body_at c.body 1 l) ≡ true) × (made ≡ e) × Straight made
      go true true f false r q = (f, same q, r)
      go true true f true r q = let z : ◌≡◌ {A = ℕ} 0 1 = cc in absurd (omega arith)
      go true false f d r q = let z : ◌≡◌ {A = ℕ} 0 1 = cc in absurd (omega arith)
      go false b f d r q = let z : ◌≡◌ {A = ℕ} 0 1 = cc in absurd (omega arith)

-- what an accepted event is
abbrev Sure : ℕ → Event → Type 0
Sure n e = Fits e × Straight e × (kind_of e ≡ n)

kind-sure : (n : ℕ) (l : List ℕ) (e : Event) → event_of_kind n l ≡ accept e → Sure n e
unfolding event_of_kind
kind-sure n l e q = go (content_among kinds n) refl q
  where
    go : (j : Judged Content) → content_among kinds n ≡ j → then_judge j (λ c. event_with c l) ≡ accept e → Sure n e
    go (refuse k) f p = let z : ◌≡◌ {A = ℕ} 0 1 = cc in absurd (omega arith)
    go (accept c) f p =
        let i = with_inv c l e p in
        let g = among-gives kinds n c f (body_at c.body 1 l) i.0 in
        subst (Sure n) i.1 (g.0, i.2, g.1)

event-sure : (l : List ℕ) (e : Event) → event_of l ≡ accept e → Sure (get_or l 0 0) e
unfolding event_of
event-sure l e q = go (eqb (length l) 0) q
  where
    go : (b : Bool) → then_judge (row 1 b) (λ t. event_of_kind (get_or l 0 0) l) ≡ accept e → Sure (get_or l 0 0) e
    go true p = let z : ◌≡◌ {A = ℕ} 0 1 = cc in absurd (omega arith)
    go false p = kind-sure (get_or l 0 0) l e p

pub event-fits : (l : List ℕ) (e : Event) → event_of l ≡ accept e → Fits e
event-fits l e q = (event-sure l e q).0

pub event-kind : (l : List ℕ) (e : Event) → event_of l ≡ accept e → kind_of e ≡ get_or l 0 0
event-kind l e q = (event-sure l e q).2

pub event-straight : (l : List ℕ) (e : Event) → event_of l ≡ accept e → Straight e
event-straight l e q = (event-sure l e q).1
