-- The bytes that a reader takes: their number, what must hold of them, and the value. The items of a record's lists.
use Prim.Native.Nat.{ℕ, zero, suc, ◌+◌, ◌-◌, ◌*◌, ◌/◌, ◌≤◌, ◌<◌}
use mathlib.Core.Path.{◌≡◌, refl, ◌∙◌}
use mathlib.Core.List.{List, ◌∷◌, map}
use mathlib.Core.Bool.{Bool, true, false, cond, ◌&&◌, and-true, and-false}
use native.Mathlib.Nat.{mul-div_cancel}
use native.Mathlib.Omega.{arith}
use lib.ListN.{length, take, drop, length-drop}
use lib.Dec.{leb}
use lib.Seq.{drop-drop}
use borrow.Author.Tests.{le-leb, lt-leb, leb-true, leb-false}
use Rattle.std.proofs.lemmas.List.{get_or-take, drop-take, take-take, length-take-le}
use Rattle.std.proofs.lemmas.Bool.Decides.{nat_tests}
use Rattle.std.specs.Simd.{first_chunks}
use Rattle.wire.specs.Numbers.{number}
use Rattle.wire.specs.Lists.{every}
use Rattle.fields.specs.Parse.{Reader, and_then, field, give, many, counted, listed, ◌>>=◌}
use Rattle.fields.specs.Parse.Parse.{bad, good}
use Rattle.engine_value.specs.Engine.{max_nidtp}
use Rattle.segment_record.specs.Record.{max_reach, book_point, zone_record}
use Rattle.segment_record.specs.View.{Takes, point_of, zone_of, point_fits, zone_fits}

record Reads {A : Type 0} (k : ℕ) (ok : List ℕ → Bool) (value : List ℕ → A) (p : Reader A) : Type 0 where
  by : (l : List ℕ) → p l ≡ cond (leb k (length l) && ok l) (good (value l) (drop k l)) bad

of_field : (w low high : ℕ) → Reads w (λ l. leb low (number w l) && leb (number w l) high) (number w) (field w low high)
unfolding field
of_field w low high = record { by = λ l. refl }

of_give : {A : Type 0} (a : A) → Reads 0 (λ l. true) (λ l. a) (give a)
of_give a = record { by = λ l. rw (le-leb 0 (length l) (omega arith)) }

behind : (k m n : ℕ) → k ≤ n → leb m (n - k) ≡ leb (k + m) n
behind k m n h = grind (arith, nat_tests)

of_both : {A B : Type 0} {k m : ℕ} {ok : List ℕ → Bool} {v : List ℕ → A} {p : Reader A} {ok₂ : A → List ℕ → Bool} {v₂ : A → List ℕ → B} {f : A → Reader B}
    → Reads k ok v p → ((a : A) → Reads m (ok₂ a) (v₂ a) (f a)) → Reads (k + m) (λ l. ok l && ok₂ (v l) (drop k l)) (λ l. v₂ (v l) (drop k l)) (p >>= f)
of_both {A} {B} {k} {m} {ok} {v} {p} {ok₂} {v₂} {f} h g = record { by = λ l. rw (h.by l) (go l (leb k (length l)) refl (ok l)) }
  where
    go : (l : List ℕ) (t : Bool) → leb k (length l) ≡ t → (b : Bool)
        → and_then (cond (t && b) (good (v l) (drop k l)) bad) f ≡ cond (leb (k + m) (length l) && (b && ok₂ (v l) (drop k l))) (good (v₂ (v l) (drop k l)) (drop (k + m) l)) bad
    go l false t b = let h : length l < k = leb-false k (length l) t in rw (lt-leb (k + m) (length l) (omega arith))
    go l true t false = rw (and-false (leb (k + m) (length l)))
    go l true t true = rw ((g (v l)).by (drop k l), drop-drop, length-drop, behind k m (length l) (leb-true k (length l) t))

-- ---- the items

number-front : (w k : ℕ) (l : List ℕ) → w ≤ k → number w (take k l) ≡ number w l
unfolding number
number-front zero k l h = refl
number-front (suc w) k l h = rw (number-front w k l (omega arith), get_or-take k l w 0 h)

number-inside : (w k m : ℕ) (l : List ℕ) → w ≤ m → number w (drop k (take (k + m) l)) ≡ number w (drop k l)
number-inside w k m l h = rw (drop-take k m l) (number-front w m (drop k l) h)

least : (n : ℕ) → leb 0 n ≡ true
least n = le-leb 0 n (omega arith)

abbrev in_range : ℕ → ℕ → ℕ → List ℕ → Bool
in_range w low high l = leb low (number w l) && leb (number w l) high

point_reads : (len : ℕ) → Reads 10
    (λ l. in_range 4 0 max_nidtp l && (in_range 4 0 len (drop 4 l) && (in_range 2 0 max_reach (drop 4 (drop 4 l)) && true)))
    (λ l. record { nidtp = number 4 l; place = number 4 (drop 4 l); reach = number 2 (drop 4 (drop 4 l)) })
    (book_point len)
unfolding book_point
point_reads len = of_both (of_field 4 0 max_nidtp) (λ t. of_both (of_field 4 0 len) (λ p. of_both (of_field 2 0 max_reach) (λ r. of_give _)))

pub point_takes : (len : ℕ) → Takes 10 (point_fits len) point_of (book_point len)
point_takes len = record {
  reads = λ l. (point_reads len).by l ∙ rw (
    number-front 4 10 l (omega arith),
    number-inside 4 4 6 l (omega arith),
    number-inside 2 8 2 l (omega arith),
    drop-drop 4 4 l,
    least (number 4 l),
    least (number 4 (drop 4 l)),
    least (number 2 (drop 8 l)),
    and-true (leb (number 2 (drop 8 l)) max_reach),
  );
}

zone_order : (a b len : ℕ) → ((leb 0 a && leb a len) && ((leb a b && leb b len) && true)) ≡ (leb a b && leb b len)
zone_order a b len = grind (arith, nat_tests)

zone_reads : (len : ℕ) → Reads 8
    (λ l. in_range 4 0 len l && (in_range 4 (number 4 l) len (drop 4 l) && true))
    (λ l. record { start = number 4 l; end = number 4 (drop 4 l) })
    (zone_record len)
unfolding zone_record
zone_reads len = of_both (of_field 4 0 len) (λ x. of_both (of_field 4 x len) (λ y. of_give _))

pub zone_takes : (len : ℕ) → Takes 8 (zone_fits len) zone_of (zone_record len)
zone_takes len = record {
  reads = λ l. (zone_reads len).by l ∙ rw (number-front 4 8 l (omega arith), number-inside 4 4 4 l (omega arith), zone_order (number 4 l) (number 4 (drop 4 l)) len);
}

-- ---- lists of items

module _ {A : Type 0} {k : ℕ} {fits : A → Bool} {value : List ℕ → A} {p : Reader A} (t : Takes k fits value p) where
  pub many_items : (n : ℕ) (l : List ℕ) → many n p l
      ≡ cond (leb (n * k) (length l) && every (λ x. fits (value x)) (first_chunks k n l)) (good (map value (first_chunks k n l)) (drop (n * k) l)) bad
  unfolding many
  many_items zero l = let e : 0 * k ≡ 0 = omega arith in rw (e, le-leb 0 (length l) (omega arith))
  many_items (suc n) l = rw (t.reads l) (go (leb k (length l)) refl (fits (value (take k l))) (many_items n (drop k l)))
    where
      xs : List (List ℕ)
      xs = first_chunks k n (drop k l)

      ok : Bool
      ok = every (λ x. fits (value x)) xs

      more : suc n * k ≡ k + n * k
      more = omega arith

      last : (b : Bool) (a : A) (zs : List A) (r : List ℕ) → and_then (cond b (good zs r) bad) (λ ys r₂. good (a ∷ ys) r₂) ≡ cond b (good (a ∷ zs) r) bad
      last true a zs r = refl
      last false a zs r = refl

      go : (b : Bool) → leb k (length l) ≡ b → (c : Bool) → many n p (drop k l) ≡ cond (leb (n * k) (length (drop k l)) && ok) (good (map value xs) (drop (n * k) (drop k l))) bad
          → and_then (cond (b && c) (good (value (take k l)) (drop k l)) bad) (λ a r. and_then (many n p r) (λ rest r₂. good (a ∷ rest) r₂))
          ≡ cond (leb (suc n * k) (length l) && (c && ok)) (good (value (take k l) ∷ map value xs) (drop (suc n * k) l)) bad
      go false e c ih = let h : length l < k = leb-false k (length l) e in rw (lt-leb (suc n * k) (length l) (omega arith))
      go true e false ih = rw (and-false (leb (suc n * k) (length l)))
      go true e true ih = rw (ih, more, drop-drop, length-drop, behind k (n * k) (length l) (leb-true k (length l) e)) (last (leb (k + n * k) (length l) && ok) (value (take k l)) (map value xs) (drop (k + n * k) l))

-- those of the first bytes
pub chunks_front : (k n : ℕ) (l : List ℕ) → 0 < k → n * k ≤ length l → first_chunks k (length (take (n * k) l) / k) (take (n * k) l) ≡ first_chunks k n l
chunks_front k n l h g = let e : n * k / k ≡ n = mul-div_cancel n h in rw (length-take-le (n * k) l g, e) (front n l)
  where
    front : (n : ℕ) (l : List ℕ) → first_chunks k n (take (n * k) l) ≡ first_chunks k n l
    front zero l = refl
    front (suc n) l = let e : suc n * k ≡ k + n * k = omega arith in let f : take k (take (k + n * k) l) ≡ take k l = take-take k (k + n * k) l (omega arith) in rw (e, drop-take, front n (drop k l), f)

-- a list that stands, where its count was read
module _ {A : Type 0} {k : ℕ} {fits : A → Bool} {value : List ℕ → A} {p : Reader A} (t : Takes k fits value p) (most n : ℕ) (s r : List ℕ) (e : good n r ≡ field 1 1 most s) where
  pub list_read : listed true most p s
      ≡ cond (leb (n * k) (length r) && every (λ x. fits (value x)) (first_chunks k n r)) (good (map value (first_chunks k n r)) (drop (n * k) r)) bad
  unfolding listed counted
  list_read = rw (← e) (many_items t n r)
