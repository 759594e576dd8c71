-- Over every layout: its size, and that reading and writing undo each other.
use Prim.Native.Nat.{ℕ, ◌+◌, ◌*◌, ◌/◌, ◌%◌, ◌^◌, ◌<◌, ◌≤◌, ◌∣◌}
use mathlib.Core.Path.{◌≡◌, refl, sym, ap, ◌∙◌}
use mathlib.Core.List.{List, [], ◌∷◌, ◌++◌, map, append_assoc}
use mathlib.Core.Bool.{Bool, true, ◌&&◌}
use native.Mathlib.Nat.{add-zero, add_assoc, mod-add-div, mod-eq_of_lt, div-eq_of_lt, add-mul-mod_self_left, add-mul-div_left, mul-le-mul_left}
use native.Mathlib.Nat.{dvd-zero, dvd-add, dvd_trans, dvd-mul_right, dvd-mul_right_of_dvd, dvd_of_mod-eq-zero, mod-mod_of_dvd, mul-div_cancel'}
use native.Mathlib.Omega.{arith}
use lib.ListN.{length, drop, length-append}
use lib.Seq.{drop-drop, drop_at, get_or-drop}
use lib.Dec.{eqb, leb, ltb}
use borrow.Author.Tests.{eqb-true, leb-true, ltb-true}
use Rattle.wire.specs.Numbers.{number, bytes_of, Bytes}
use Rattle.wire.proofs.NumberLaws.{length-bytes_of, number-bytes_of, number_bound, reread}
use Rattle.wire.proofs.ListLaws.{and_left, and_right}
use Rattle.layout.specs.Layout.{Part, Content, Layout, Numbers, Value, Values, listed, weighed, packed, below, numbers_of, unpacked, bytes, size, values_at, parts_fit, content_fits, fits}
use Rattle.layout.specs.Layout.Content.{free, up_to, between, signed, weighted}

-- ---- size

pub length-bytes : (l : Layout) (v : Values l) → length (bytes l v) ≡ size l
unfolding bytes
length-bytes [] v = refl
length-bytes (f ∷ fs) v =
    length-append (bytes_of f.width (packed f.content v.0)) (bytes fs v.1)
    ∙ cc (length-bytes_of f.width (packed f.content v.0), length-bytes fs v.1)

-- ---- a layout that can hold its ranges

-- the parts do not overlap: each weight is a multiple of the one before, and above the most that all before it come to
abbrev apart : ℕ → ℕ → List Part → Bool
apart most before [] = true
apart most before (p ∷ ps) = eqb (p.weight % before) 0 && (ltb most p.weight && apart (most + p.weight * p.high) p.weight ps)

-- what they come to at most, with what those before them do
abbrev most_of : ℕ → List Part → ℕ
most_of most [] = most
most_of most (p ∷ ps) = most_of (most + p.weight * p.high) ps

abbrev pub roomy : ℕ → Content → Bool
roomy w free = true
roomy w (up_to high) = ltb high (256 ^ w)
roomy w (between low high) = ltb high (256 ^ w)
roomy w (signed high) = true
roomy w (weighted high ps) = apart high 1 ps && ltb (most_of high ps) (256 ^ w)

abbrev pub sound : Layout → Bool
sound [] = true
sound (f ∷ fs) = roomy f.width f.content && sound fs

-- the numbers without a range, and signed ones, are below the power of their width
abbrev pub Held : ℕ → (c : Content) → Value c → Type 0
Held w free v = v < 256 ^ w
Held w (up_to high) v = Unit {0}
Held w (between low high) v = Unit {0}
Held w (signed high) v = v < 256 ^ w
Held w (weighted high ps) v = Unit {0}

abbrev pub Typed : (l : Layout) → Values l → Type 0
Typed [] v = Unit {0}
Typed (f ∷ fs) v = Held f.width f.content v.0 × Typed fs v.1

-- ---- several numbers in one

abbrev sum_of : (ps : List Part) → Numbers ps → ℕ
sum_of ps v = weighed (map (λ (p : Part). p.weight) ps) (listed ps v)

module _ (most before : ℕ) (p : Part) (ps : List Part) (a : apart most before (p ∷ ps) ≡ true) where
  -- the weight is a multiple of the one before
  multiple : before ∣ p.weight
  multiple = dvd_of_mod-eq-zero before (eqb-true _ _ (and_left (eqb (p.weight % before) 0) _ a))

  above : most < p.weight
  above = ltb-true _ _ (and_left (ltb most p.weight) _ (and_right (eqb (p.weight % before) 0) _ a))

  apart_rest : apart (most + p.weight * p.high) p.weight ps ≡ true
  apart_rest = and_right (ltb most p.weight) _ (and_right (eqb (p.weight % before) 0) _ a)

-- what lies below the parts, of a number, is the number but for multiples of the weight before them
below_mod : (most before : ℕ) (ps : List Part) (n : ℕ) → apart most before ps ≡ true → below ps n % before ≡ n % before
below_mod most before [] n a = refl
below_mod most before (p ∷ ps) n a = mod-mod_of_dvd before n (multiple most before p ps a)

-- a number is the sum of what it is taken apart to
sum-taken : (most before : ℕ) (ps : List Part) (n : ℕ) → apart most before ps ≡ true → below ps n + sum_of ps (numbers_of ps n) ≡ n
sum-taken most before [] n a = add-zero n
sum-taken most before (p ∷ ps) n a =
    let w = p.weight in
    let rest = apart_rest most before p ps a in
    let again : below ps n + sum_of ps (numbers_of ps n) ≡ n = sum-taken (most + w * p.high) w ps n rest in
    let one : n % w + w * (below ps n / w) ≡ below ps n = ap (λ (k : ℕ). k + w * (below ps n / w)) (sym (below_mod _ w ps n rest)) ∙ mod-add-div (below ps n) w in
    sym (add_assoc (n % w) (w * (below ps n / w)) (sum_of ps (numbers_of ps n))) ∙ ap (λ (k : ℕ). k + sum_of ps (numbers_of ps n)) one ∙ again

-- the sum of the parts is a multiple of the weight before them
sum_multiple : (most before : ℕ) (ps : List Part) (v : Numbers ps) → apart most before ps ≡ true → before ∣ sum_of ps v
sum_multiple most before [] v a = dvd-zero before
sum_multiple most before (p ∷ ps) v a =
    let m = multiple most before p ps a in
    dvd-add before (dvd-mul_right_of_dvd before m v.0) (dvd_trans before m (sum_multiple (most + p.weight * p.high) p.weight ps v.1 (apart_rest most before p ps a)))

-- numbers in their ranges are what their sum is taken apart to
taken-sum : (most before : ℕ) (ps : List Part) (v : Numbers ps) (n : ℕ) → apart most before ps ≡ true → n ≤ most → parts_fit ps v ≡ true
    → (below ps (n + sum_of ps v) ≡ n) × (numbers_of ps (n + sum_of ps v) ≡ v)
taken-sum most before [] v n a h e = (add-zero n, refl)
taken-sum most before (p ∷ ps) v n a h e =
    let w = p.weight in
    let x = v.0 in
    let r = sum_of ps v.1 in
    let rest = apart_rest most before p ps a in
    let b : most < w = above most before p ps a in
    let x-most : x ≤ p.high = leb-true _ _ (and_left (leb x p.high) _ e) in
    let wx-most : w * x ≤ w * p.high = mul-le-mul_left w x-most in
    let same : n + (w * x + r) ≡ n + w * x + r = sym (add_assoc n (w * x) r) in
    let ih = taken-sum (most + w * p.high) w ps v.1 (n + w * x) rest (omega arith) (and_right (leb x p.high) _ e) in
    let whole : w ∣ w * x + r = dvd-add w (dvd-mul_right w x) (sum_multiple _ w ps v.1 rest) in
    let first : (n + (w * x + r)) % w ≡ n
    = ap (λ (k : ℕ). (n + k) % w) (sym (mul-div_cancel' w whole)) ∙ add-mul-mod_self_left n w _ ∙ mod-eq_of_lt (omega arith) in
    let number : below ps (n + (w * x + r)) / w ≡ x
    = ap (λ (k : ℕ). below ps k / w) same ∙ ap (λ (k : ℕ). k / w) ih.0 ∙ add-mul-div_left n x (omega arith) ∙ ap (λ (k : ℕ). k + x) (div-eq_of_lt (omega arith)) ∙ omega arith in
    let others : numbers_of ps (n + (w * x + r)) ≡ v.1 = ap (numbers_of ps) same ∙ ih.1 in
    (first, λ i. (number i, others i))

sum-most : (most : ℕ) (ps : List Part) (v : Numbers ps) (n : ℕ) → n ≤ most → parts_fit ps v ≡ true → n + sum_of ps v ≤ most_of most ps
sum-most most [] v n h e = omega arith
sum-most most (p ∷ ps) v n h e =
    let x-most : v.0 ≤ p.high = leb-true _ _ (and_left (leb v.0 p.high) _ e) in
    let wx-most : p.weight * v.0 ≤ p.weight * p.high = mul-le-mul_left p.weight x-most in
    let more : n + p.weight * v.0 + sum_of ps v.1 ≤ most_of (most + p.weight * p.high) ps
    = sum-most (most + p.weight * p.high) ps v.1 (n + p.weight * v.0) (omega arith) (and_right (leb v.0 p.high) _ e) in
    omega arith

packed-unpacked : (w : ℕ) (c : Content) (n : ℕ) → roomy w c ≡ true → packed c (unpacked c n) ≡ n
packed-unpacked w free n r = refl
packed-unpacked w (up_to high) n r = refl
packed-unpacked w (between low high) n r = refl
packed-unpacked w (signed high) n r = refl
packed-unpacked w (weighted high ps) n r = sum-taken high 1 ps n (and_left (apart high 1 ps) _ r)

-- a number in its range is held by its bytes
packed-held : (w : ℕ) (c : Content) (v : Value c) → roomy w c ≡ true → content_fits c v ≡ true → Held w c v → (packed c v < 256 ^ w) × (unpacked c (packed c v) ≡ v)
packed-held w free v r e h = (h, refl)
packed-held w (up_to high) v r e h = let a : v ≤ high = leb-true _ _ e in let b : high < 256 ^ w = ltb-true _ _ r in (omega arith, refl)
packed-held w (between low high) v r e h = let a : v ≤ high = leb-true _ _ (and_right (leb low v) _ e) in let b : high < 256 ^ w = ltb-true _ _ r in (omega arith, refl)
packed-held w (signed high) v r e h = (h, refl)
packed-held w (weighted high ps) v r e h =
    let v-most : v.0 ≤ high = leb-true _ _ (and_left (leb v.0 high) _ e) in
    let f = and_right (leb v.0 high) _ e in
    let a : packed (weighted high ps) v ≤ most_of high ps = sum-most high ps v.1 v.0 v-most f in
    let b : most_of high ps < 256 ^ w = ltb-true _ _ (and_right (apart high 1 ps) _ r) in
    let t = taken-sum high 1 ps v.1 v.0 (and_left (apart high 1 ps) _ r) v-most f in
    (omega arith, λ i. (t.0 i, t.1 i))

values_further : (l : Layout) (k n : ℕ) (s : List ℕ) → values_at l n (drop k s) ≡ values_at l (k + n) s
unfolding values_at
values_further [] k n s = refl
values_further (f ∷ fs) k n s = rw (drop-drop, values_further fs k (n + f.width) s, add_assoc)

-- the values in front of what is behind a position are those from it on
pub values_from : (l : Layout) (k : ℕ) (s : List ℕ) → values_at l 0 (drop k s) ≡ values_at l k s
values_from l k s = values_further l k 0 s ∙ ap (λ n. values_at l n s) (add-zero k)

-- ---- what was written is read

pub read-written : (l : Layout) (v : Values l) (k : ℕ) (s rest : List ℕ) → sound l ≡ true → fits l v ≡ true → Typed l v
    → drop k s ≡ bytes l v ++ rest → values_at l k s ≡ v
unfolding bytes values_at
read-written [] v k s rest o e t d = refl
read-written (f ∷ fs) v k s rest o e t d =
    let w = f.width in
    let n = packed f.content v.0 in
    let h = packed-held w f.content v.0 (and_left (roomy w f.content) _ o) (and_left (content_fits f.content v.0) _ e) t.0 in
    let d' : drop k s ≡ bytes_of w n ++ (bytes fs v.1 ++ rest) = d ∙ append_assoc (bytes_of w n) (bytes fs v.1) rest in
    let a : unpacked f.content (number w (drop k s)) ≡ v.0
    = ap (λ (x : List ℕ). unpacked f.content (number w x)) d' ∙ ap (unpacked f.content) (number-bytes_of w n (bytes fs v.1 ++ rest) h.0) ∙ h.1 in
    let b : drop (k + w) s ≡ bytes fs v.1 ++ rest = sym (drop-drop w k s) ∙ ap (drop w) d' ∙ drop_at (bytes_of w n) _ w (length-bytes_of w n) in
    let c : values_at fs (k + w) s ≡ v.1
    = read-written fs v.1 (k + w) s rest (and_right (roomy w f.content) _ o) (and_right (content_fits f.content v.0) _ e) t.1 b in
    λ i. (a i, c i)

-- ---- what was read is written

pub written_read : (l : Layout) (k : ℕ) (s : List ℕ) → sound l ≡ true → Bytes s → k + size l ≤ length s → bytes l (values_at l k s) ++ drop (k + size l) s ≡ drop k s
unfolding bytes values_at
written_read [] k s o b h = rw add-zero
written_read (f ∷ fs) k s o b h =
    let w = f.width in
    let same = packed-unpacked w f.content (number w (drop k s)) (and_left (roomy w f.content) _ o) in
    rw (same, append_assoc, ← add_assoc, written_read fs (k + w) s (and_right (roomy w f.content) _ o) b (omega arith)) (reread w k s b (omega arith))

-- ---- what was read is typed

held : (w : ℕ) (c : Content) (l : List ℕ) → Bytes l → Held w c (unpacked c (number w l))
held w free l b = number_bound w l b
held w (up_to high) l b = tt
held w (between low high) l b = tt
held w (signed high) l b = number_bound w l b
held w (weighted high ps) l b = tt

pub read_typed : (l : Layout) (k : ℕ) (s : List ℕ) → Bytes s → Typed l (values_at l k s)
unfolding values_at
read_typed [] k s b = tt
read_typed (f ∷ fs) k s b = (held f.width f.content (drop k s) (λ i. rw get_or-drop (b (k + i))), read_typed fs (k + f.width) s b)
