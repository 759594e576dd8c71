-- What a journey that was read keeps to: the ranges of its fields and the lengths of its lists.
use Prim.Native.Nat.{ℕ, ◌≤◌}
use mathlib.Core.Path.{◌≡◌, subst}
use mathlib.Core.List.{List, [], ◌∷◌}
use mathlib.Core.Bool.{Bool, true, false, cond, not, ◌||◌}
use native.Mathlib.Omega.{arith}
use lib.ListN.{length}
use lib.Dec.{eqb}
use Rattle.wire.specs.Numbers.{bit}
use Rattle.wire.specs.Lists.{All}
use Rattle.fields.specs.Parse.{Parse, field, free, bit_map, optional, must, counted, whole}
use Rattle.fields.specs.Parse.Parse.{bad, good}
use Rattle.fields.proofs.ReaderLaws.{field-inv}
use Rattle.fields.proofs.Sure.{optional-most, Sure, sure-on, sure_of, counted_all}
use Rattle.wire.specs.Judged.Judged.{refuse, accept}
use Rattle.engine_value.specs.Engine.{max4, max_nidc, max_nidtp, no_operational, max_segments, max_points}
use Rattle.journey.specs.Journey.{max_date, max_atots, no_atots, max_alignment, max_stopping, JourneyValue, name_record, point_record, head_record, journey_record, journey_value}
use Rattle.journey.specs.declared.Name.{Name}
use Rattle.journey.specs.declared.JourneyPoint.{JourneyPoint}
use Rattle.journey.specs.declared.Head.{Head}

-- ---- the ranges of document 01

pub record HeadFits (h : Head) : Type 0 where
  pub operational : h.operational ≤ max4
  pub date : h.date ≤ max_date
  pub seconds : h.seconds ≤ max4
  pub counter : h.counter ≤ 255
  pub atots : h.atots ≤ no_atots

pub record NameFits (n : Name) : Type 0 where
  pub nidc : n.nidc ≤ max_nidc
  pub nidsp : n.nidsp ≤ max4

pub record JourneyPointFits (p : JourneyPoint) : Type 0 where
  pub nidtp : p.nidtp ≤ max_nidtp
  pub index : p.index ≤ 255
  pub alignment : p.alignment ≤ max_alignment
  pub stopping : p.stopping ≤ max_stopping

pub record JourneyFits (v : JourneyValue) : Type 0 where
  pub head : HeadFits v.head
  pub some_name : 1 ≤ length v.names
  pub most_names : length v.names ≤ max_segments
  pub some_point : 1 ≤ length v.points
  pub most_points : length v.points ≤ max_points
  pub names : All NameFits v.names
  pub points : All JourneyPointFits v.points

name-fits : (l : List ℕ) → Sure NameFits (name_record l)
unfolding name_record
name-fits l =
    sure-on NameFits (field 2 0 max_nidc l) _ (λ c r₁ e₁.
    sure-on NameFits (free 4 r₁) _ (λ sp r₂ e₂.
    record { nidc = (field-inv 2 0 max_nidc l c r₁ e₁).most; nidsp = (field-inv 4 0 max4 r₁ sp r₂ e₂).most }))

point_fits : (l : List ℕ) → Sure JourneyPointFits (point_record l)
unfolding point_record
point_fits l =
    sure-on JourneyPointFits (bit_map (0 ∷ 1 ∷ []) [] l) _ (λ m r₁ e₁.
    sure-on JourneyPointFits (must (not (bit 5 m || bit 7 m) || bit 4 m) r₁) _ (λ u r₂ e₂.
    sure-on JourneyPointFits (field 4 0 max_nidtp r₂) _ (λ t r₃ e₃.
    sure-on JourneyPointFits (free 1 r₃) _ (λ i r₄ e₄.
    sure-on JourneyPointFits (optional (bit 2 m) 0 (field 1 0 max_alignment) r₄) _ (λ a r₅ e₅.
    sure-on JourneyPointFits (optional (bit 3 m) 0 (field 1 0 max_stopping) r₅) _ (λ d r₆ e₆.
    record {
      nidtp = (field-inv 4 0 max_nidtp r₂ t r₃ e₃).most;
      index = (field-inv 1 0 255 r₃ i r₄ e₄).most;
      alignment = optional-most (bit 2 m) 0 1 0 max_alignment max_alignment r₄ a r₅ (omega arith) (omega arith) e₅;
      stopping = optional-most (bit 3 m) 0 1 0 max_stopping max_stopping r₅ d r₆ (omega arith) (omega arith) e₆;
    }))))))

head-fits : (l : List ℕ) → Sure HeadFits (head_record l)
unfolding head_record
head-fits l =
    sure-on HeadFits (bit_map (1 ∷ 3 ∷ 4 ∷ []) (5 ∷ 6 ∷ 7 ∷ []) l) _ (λ m r₁ e₁.
    sure-on HeadFits (optional (bit 0 m) no_operational (free 4) r₁) _ (λ o r₂ e₂.
    sure-on HeadFits (field 2 0 max_date r₂) _ (λ d r₃ e₃.
    sure-on HeadFits (free 4 r₃) _ (λ t r₄ e₄.
    sure-on HeadFits (free 1 r₄) _ (λ n r₅ e₅.
    sure-on HeadFits (optional (bit 2 m) no_atots (field 2 0 max_atots) r₅) _ (λ a r₆ e₆.
    record {
      operational = optional-most (bit 0 m) no_operational 4 0 max4 max4 r₁ o r₂ (omega arith) (omega arith) e₂;
      date = (field-inv 2 0 max_date r₂ d r₃ e₃).most;
      seconds = (field-inv 4 0 max4 r₃ t r₄ e₄).most;
      counter = (field-inv 1 0 255 r₄ n r₅ e₅).most;
      atots = optional-most (bit 2 m) no_atots 2 0 max_atots no_atots r₅ a r₆ (omega arith) (omega arith) e₆;
    }))))))

record_fits : (l : List ℕ) → Sure JourneyFits (journey_record l)
unfolding journey_record
record_fits l =
    sure-on JourneyFits (head_record l) _ (λ h r₁ e₁.
    sure-on JourneyFits (counted max_segments name_record r₁) _ (λ ns r₂ e₂.
    sure-on JourneyFits (counted max_points point_record r₂) _ (λ ps r₃ e₃.
    let n = sure_of (λ (xs : List Name). (1 ≤ length xs) × (length xs ≤ max_segments) × All NameFits xs) (counted max_segments name_record r₁) ns r₂ e₂ (counted_all NameFits name_record name-fits max_segments r₁) in
    let p = sure_of (λ (xs : List JourneyPoint). (1 ≤ length xs) × (length xs ≤ max_points) × All JourneyPointFits xs) (counted max_points point_record r₂) ps r₃ e₃ (counted_all JourneyPointFits point_record point_fits max_points r₂) in
    record { head = sure_of HeadFits (head_record l) h r₁ e₁ (head-fits l); some_name = n.0; most_names = n.1; some_point = p.0; most_points = p.1; names = n.2; points = p.2 })))

-- of a journey that 9 does not refuse
pub journey-fits : (l : List ℕ) (v : JourneyValue) → journey_value l ≡ accept v → JourneyFits v
journey-fits l v = go (journey_record l) (record_fits l)
  where
    go : (q : Parse JourneyValue) → Sure JourneyFits q → whole 9 q ≡ accept v → JourneyFits v
    go bad h e = let z : ◌≡◌ {A = ℕ} 0 1 = cc in absurd (omega arith)
    go (good a r) h e = test (eqb (length r) 0) e
      where
        test : (b : Bool) → cond b (accept a) (refuse 9) ≡ accept v → JourneyFits v
        test true e = let q : a ≡ v = cc in subst JourneyFits q h
        test false e = let z : ◌≡◌ {A = ℕ} 0 1 = cc in absurd (omega arith)
