-- The bytes that a reader leaves are no more than it was given; of a record eleven fewer, or none.
use Prim.Native.Nat.{ℕ, ◌-◌, ◌*◌, ◌≤◌}
use mathlib.Core.List.{List, [], ◌∷◌}
use mathlib.Core.Bool.{Bool, true, false, cond}
use native.Mathlib.Omega.{arith}
use lib.ListN.{length, drop, length-drop}
use Rattle.wire.specs.Numbers.{number, bit}
use Rattle.engine_value.specs.Engine.{max_nidc, max_zones}
use Rattle.fields.specs.Parse.{Parse, Reader, and_then, field, free, must, map_fits, bit_map, counted, listed}
use Rattle.fields.specs.Parse.Parse.{bad, good}
use Rattle.segment_record.specs.Record.{max_length, max_record_points, book_point, zone_record, segment_record}
use Rattle.segment_record.specs.View.{Takes}
use Rattle.segment_record.proofs.Takes.{many_items, point_takes, zone_takes}

abbrev pub Leaves : {A : Type 0} → ℕ → Parse A → Type 0
Leaves n bad = Unit {0}
Leaves n (good a r) = length r ≤ n

then_leaves : {A B : Type 0} {m : ℕ} (n : ℕ) (p : Parse A) (f : A → List ℕ → Parse B) → Leaves m p → ((a : A) (r : List ℕ) → length r ≤ m → Leaves n (f a r)) → Leaves n (and_then p f)
then_leaves n bad f h g = tt
then_leaves n (good a r) f h g = g a r h

drop_leaves : {A : Type 0} {n : ℕ} (b : Bool) (a : A) (k : ℕ) (l : List ℕ) → length l ≤ n → Leaves n (cond b (good a (drop k l)) bad)
drop_leaves true a k l h = rw length-drop (omega arith)
drop_leaves false a k l h = tt

field_leaves : {n : ℕ} (w low high : ℕ) (l : List ℕ) → length l ≤ n → Leaves n (field w low high l)
unfolding field
field_leaves w low high l h = drop_leaves _ _ w l h

field_takes : {n : ℕ} (w low high : ℕ) (l : List ℕ) → length l ≤ n → Leaves (n - w) (field w low high l)
unfolding field
field_takes {n = n} w low high l h = go _
  where
    go : (b : Bool) → Leaves (n - w) (cond b (good (number w l) (drop w l)) bad)
    go true = rw length-drop (omega arith)
    go false = tt

pub list_leaves : {A : Type 0} {k n : ℕ} {fits : A → Bool} {value : List ℕ → A} {p : Reader A} → Takes k fits value p → (present : Bool) (most : ℕ) (l : List ℕ) → length l ≤ n → Leaves n (listed present most p l)
unfolding listed counted
list_leaves t false most l h = h
list_leaves {k = k} {n = n} t true most l h = then_leaves n (field 1 1 most l) _ (field_leaves 1 1 most l h) (λ c r g. rw (many_items t c r) (drop_leaves _ _ (c * k) r g))

map_leaves : (standing clear l : List ℕ) → Leaves (length l - 1) (bit_map standing clear l)
unfolding field bit_map
map_leaves standing clear l = then_leaves (length l - 1) (field 1 0 255 l) _ (first _) (λ m r h. then_leaves {m = length l - 1} (length l - 1) (must (map_fits standing clear m) r) _ (drop_leaves (map_fits standing clear m) tt 0 r h) (λ a r₂ h₂. h₂))
  where
    first : (b : Bool) → Leaves (length l - 1) (cond b (good (number 1 l) (drop 1 l)) bad)
    first true = rw length-drop (omega arith)
    first false = tt

pub segment_leaves : (l : List ℕ) → Leaves (length l - 11) (segment_record l)
unfolding segment_record
segment_leaves l =
    then_leaves (length l - 11) (bit_map (0 ∷ 1 ∷ 2 ∷ []) (5 ∷ 6 ∷ 7 ∷ []) l) _ (map_leaves (0 ∷ 1 ∷ 2 ∷ []) (5 ∷ 6 ∷ 7 ∷ []) l) (λ m r₁ h₁.
    then_leaves (length l - 11) (field 2 0 max_nidc r₁) _ (field_takes 2 0 max_nidc r₁ h₁) (λ c r₂ h₂.
    then_leaves (length l - 11) (free 4 r₂) _ (field_takes 4 0 _ r₂ h₂) (λ sp r₃ h₃.
    then_leaves (length l - 11) (field 4 1 max_length r₃) _ (field_takes 4 1 max_length r₃ h₃) (λ len r₄ h₄.
    then_leaves (length l - 11) (listed (bit 3 m) max_record_points (book_point len) r₄) _ (list_leaves (point_takes len) (bit 3 m) max_record_points r₄ h₄) (λ ps r₅ h₅.
    then_leaves (length l - 11) (listed (bit 4 m) max_zones (zone_record len) r₅) _ (list_leaves (zone_takes len) (bit 4 m) max_zones r₅ h₅) (λ zs r₆ h₆. omega arith))))))
