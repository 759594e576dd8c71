-- A record takes eleven bytes at least.
use Prim.Native.Nat.{ℕ, ◌+◌, ◌≤◌}
use mathlib.Core.Path.{◌≡◌, ap, subst}
use mathlib.Core.List.{List, [], ◌∷◌}
use mathlib.Core.Bool.{Bool, true, false}
use native.Mathlib.Omega.{arith}
use lib.ListN.{length, length-drop}
use Rattle.engine_value.specs.Engine.{max4, max_nidc, max_zones}
use Rattle.wire.specs.Numbers.{bit}
use Rattle.fields.specs.Parse.{Parse, Reader, and_then, field, free, map_fits, bit_map, listed, must, give}
use Rattle.fields.specs.Parse.Parse.{bad, good}
use Rattle.fields.proofs.ReaderLaws.{then_inv, field-inv}
use Rattle.segment_record.specs.Record.{max_length, max_record_points, book_point, zone_record, segment_record}
use Rattle.segment_record.specs.View.{Takes}
use Rattle.segment_record.proofs.Takes.{point_takes, zone_takes}
use Rattle.segment_record.proofs.Behind.{Leaves, list_leaves}

-- a reader takes k bytes at least
abbrev pub AtLeast : {A : Type 0} → ℕ → Reader A → Type 0
AtLeast {A} k p = (l : List ℕ) (a : A) (r : List ℕ) → p l ≡ good a r → length r + k ≤ length l

takes-give : {A : Type 0} (x : A) → AtLeast 0 (give x)
takes-give x l a r e = let q : r ≡ l = cc in omega (arith, ap length q)

takes-must : (b : Bool) → AtLeast 0 (must b)
takes-must true l a r e = let q : r ≡ l = cc in omega (arith, ap length q)
takes-must false l a r e = let z : ◌≡◌ {A = ℕ} 0 1 = cc in absurd (omega arith)

takes_field : (w low high : ℕ) → AtLeast w (field w low high)
takes_field w low high l a r e = let t = field-inv w low high l a r e in let h : w ≤ length l = t.there in omega (arith, ap length t.rest, length-drop w l)

takes_then : {A B : Type 0} (k j : ℕ) (p : Reader A) (f : A → Reader B) → AtLeast k p → ((a : A) → AtLeast j (f a)) → AtLeast (k + j) (λ l. and_then (p l) f)
takes_then k j p f a b l x r e =
    let i = then_inv (p l) f x r e in
    omega (arith, a l i.0 i.1 i.2, b i.0 i.1 x r i.3)

takes-map : (standing clear : List ℕ) → AtLeast 1 (bit_map standing clear)
unfolding bit_map
takes-map standing clear =
    takes_then 1 0 (free 1) _ (takes_field 1 0 255) (λ m.
    takes_then 0 0 (must (map_fits standing clear m)) _ (takes-must (map_fits standing clear m)) (λ u. takes-give m))

takes-listed : {A : Type 0} {k : ℕ} {fits : A → Bool} {value : List ℕ → A} {p : Reader A} → Takes k fits value p → (b : Bool) (high : ℕ) → AtLeast 0 (listed b high p)
takes-listed {A = A} t b high l xs r e = let h = subst (λ (q : Parse (List A)). Leaves (length l) q) e (list_leaves t b high l (omega arith)) in omega (arith, h)

pub segment-takes : AtLeast 11 segment_record
unfolding segment_record
segment-takes =
    takes_then 1 10 (bit_map (0 ∷ 1 ∷ 2 ∷ []) (5 ∷ 6 ∷ 7 ∷ [])) _ (takes-map (0 ∷ 1 ∷ 2 ∷ []) (5 ∷ 6 ∷ 7 ∷ [])) (λ m.
    takes_then 2 8 (field 2 0 max_nidc) _ (takes_field 2 0 max_nidc) (λ c.
    takes_then 4 4 (free 4) _ (takes_field 4 0 max4) (λ sp.
    takes_then 4 0 (field 4 1 max_length) _ (takes_field 4 1 max_length) (λ len.
    takes_then 0 0 (listed (bit 3 m) max_record_points (book_point len)) _ (takes-listed (point_takes len) (bit 3 m) max_record_points) (λ ps.
    takes_then 0 0 (listed (bit 4 m) max_zones (zone_record len)) _ (takes-listed (zone_takes len) (bit 4 m) max_zones) (λ zs.
    takes-give (record { nidc = c; nidsp = sp; length = len; points = ps; zones = zs })))))))
