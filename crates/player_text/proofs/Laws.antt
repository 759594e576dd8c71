-- Laws of texts that grow, of the lines, and of the events in the input.
use Prim.Native.Nat.{ℕ, zero, suc, ◌+◌, ◌-◌, ◌^◌, ◌≤◌, ◌<◌, min, max}
use mathlib.Core.Path.{◌≡◌, refl, sym, ap, ◌∙◌}
use mathlib.Core.List.{List, [], ◌∷◌, ◌++◌, append_assoc, append-nil}
use mathlib.Core.Bool.{Bool, true, false}
use lib.ListN.{length, take, drop, get_or, length-append, length-take, length-drop, drop_of_length-le}
use lib.Seq.{sets, length-sets, set_out, take_all, drop-cons, drop-drop}
use lib.Dec.{leb}
use native.Mathlib.Numerals.{add-one}
use native.Mathlib.Omega.{arith}
use borrow.Author.Tests.{leb-true, leb-false}
use borrow.Author.Rules.{rules}
use Rattle.std.specs.Fmt.{decimal as printed}
use Rattle.std.proofs.lemmas.Fmt.{AppendsLastDigit, decimal_from_appends, length-decimal-le}
use Rattle.wire.proofs.NumberLaws.{sets_past, sets_more}
use Rattle.fields.specs.Parse.{field}
use Rattle.fields.specs.Parse.Parse.{good}
use Rattle.fields.proofs.ReaderLaws.{field-inv, then_inv, cond-good}
use Rattle.packets.specs.Packets.{front_size}
use Rattle.packets.proofs.Cutting.{cut-none, cut-first}
use Rattle.player_text.specs.Calls.{Given, some, block, profiles, call}
use Rattle.player_text.specs.Lines.{decimal, most_digits, hex, hex_byte, hex_line, hex_lines, newline, packet_text}
use Rattle.player_text.specs.View.{appended, Put}

-- ---- texts

take-append : (k : ℕ) (l m : List ℕ) → take k (l ++ m) ≡ take k l ++ take (k - length l) m
take-append zero [] m = refl
take-append zero (b ∷ l) m = let e : 0 - length (b ∷ l) ≡ 0 = omega arith in rw e
take-append (suc k) [] m = let e : suc k - 0 ≡ suc k = omega arith in rw e
take-append (suc k) (b ∷ l) m = let e : suc k - length (b ∷ l) ≡ k - length l = omega arith in rw (e, take-append k l m)

-- a text, then another, is both
pub appended_then : (n : ℕ) (t l m : List ℕ) → appended n (appended n t l) m ≡ appended n t (l ++ m)
unfolding appended
appended_then n t l m =
    let e : n - length (t ++ take (n - length t) l) ≡ n - length t - length l = rw (length-append, length-take) (omega arith) in
    rw (e, take-append (n - length t) l m, append_assoc)

-- nothing behind a text
pub appended_none : (n : ℕ) (t : List ℕ) → appended n t [] ≡ t
unfolding appended
appended_none n t = rw (take_all {A = ℕ} (n - length t) [] (omega arith), append-nil)

-- what more is put behind a text that grew, and what nothing more says of it
pub appended_grows : (n : ℕ) (t u l more : List ℕ) → u ≡ appended n t l → appended n u more ≡ appended n t (l ++ more)
appended_grows n t u l more e = rw (e, appended_then n t l more)

pub appended_grown : (n : ℕ) (t u l : List ℕ) → ((more : List ℕ) → appended n u more ≡ appended n t (l ++ more)) → u ≡ appended n t l
appended_grown n t u l e = sym (appended_none n u) ∙ e [] ∙ ap (appended n t) (append-nil l)

-- ---- the same in a slice, from a position on

-- past the end nothing is put
pub put_past : (t : List ℕ) (i b : ℕ) → length t ≤ i → Put t i (b ∷ []) t i
put_past t i b h = record { stored = sym (set_out t i b h); behind = omega arith }

pub put-length : {t u l : List ℕ} {i j : ℕ} → Put t i l u j → length u ≡ length t
put-length p = ap length p.stored ∙ simp length-sets

module _ {t u : List ℕ} {i j : ℕ} (l m : List ℕ) (p : Put t i l u j) where
  stored_then : (b : Bool) → leb (i + length l) (length t) ≡ b → sets u j m ≡ sets u (i + length l) m
  stored_then true e =
      let h : i + length l ≤ length t = leb-true _ _ e in
      let at : j ≡ i + length l = omega (arith, p.behind) in
      rw at
  stored_then false e =
      let h : length t < i + length l = leb-false _ _ e in
      let past : length u ≤ i + length l = omega (arith, put-length p) in
      let last : length u ≤ j = omega (arith, put-length p, p.behind) in
      sets_past m u j last ∙ sym (sets_past m u (i + length l) past)

  pub put_grows-stored : sets u j m ≡ sets t i (l ++ m)
  put_grows-stored = stored_then _ refl ∙ ap (λ (x : List ℕ). sets x (i + length l) m) p.stored ∙ sets_more l m t i

  pub put_grows-behind : min (j + length m) (max j (length u)) ≡ min (i + length (l ++ m)) (max i (length t))
  put_grows-behind = rw length-append (omega (arith, p.behind, put-length p))

pub put_then : {t u v : List ℕ} {i j k : ℕ} (l m : List ℕ) → Put t i l u j → Put u j m v k → Put t i (l ++ m) v k
put_then l m p q = record { stored = q.stored ∙ put_grows-stored l m p; behind = q.behind ∙ put_grows-behind l m p }

-- nothing more behind a slice: it is the same slice, and l was put
pub put_grown : {A : Type 0} {a b : A} {t u : List ℕ} {i j : ℕ} (l : List ℕ)
    → ◌≡◌ {A = A × List ℕ × ℕ} (b, sets u j [], min (j + length {A = ℕ} []) (max j (length u))) (a, sets t i (l ++ []), min (i + length (l ++ [])) (max i (length t)))
    → (b ≡ a) × Put t i l u j
put_grown {A} {a} {b} {t} {u} {i} {j} l e =
    let stored : u ≡ sets t i (l ++ []) = ap (λ (x : A × List ℕ × ℕ). x.1) e in
    let behind : min (j + 0) (max j (length u)) ≡ min (i + length (l ++ [])) (max i (length t)) = ap (λ (x : A × List ℕ × ℕ). x.2) e in
    let k : length (l ++ []) ≡ length l = ap length (append-nil l) in
    (ap (λ (x : A × List ℕ × ℕ). x.0) e, record { stored = stored ∙ ap (sets t i) (append-nil l); behind = omega (arith, behind, k) })

-- ---- what is left of the input

-- the bytes of l behind its first n
record Behind (n : ℕ) (l r : List ℕ) : Type 0 where
  there : n ≤ length l
  rest : drop n l ≡ r

behind-then : {m n : ℕ} {l r t : List ℕ} → Behind m l r → Behind n r t → Behind (m + n) l t
behind-then {m} {n} {l} b c =
    let h = rw length-drop at (ap length b.rest) in
    record { there = omega (arith, b.there, c.there, h); rest = sym (drop-drop n m l) ∙ ap (λ (x : List ℕ). drop n x) b.rest ∙ c.rest }

block-behind : (l b r : List ℕ) → block l ≡ good b r → (n : ℕ) × (1 ≤ n) × Behind n l r
unfolding block some
block-behind l b r e =
    let (n, r₁, e₁, e₂) = then_inv (field 2 0 65535 l) some b r e in
    let f = field-inv 2 0 65535 l n r₁ e₁ in
    let g = cond-good (leb n (length r₁)) (take n r₁) (drop n r₁) b r e₂ in
    let h = leb-true _ _ g.0 in
    (2 + n, omega arith, behind-then (record { there = f.there; rest = sym f.rest }) (record { there = h; rest = sym g.2 }))

profiles-behind : (event : List ℕ) (t : Bool) (l : List ℕ) (g : Given) (r : List ℕ) → profiles event t l ≡ good g r → (n : ℕ) × Behind n l r
unfolding profiles
profiles-behind event false l g r e = (0, record { there = omega arith; rest = cc })
profiles-behind event true l g r e =
    let (j, r₁, e₁, f₁) = then_inv (block l) _ g r e in
    let (b, r₂, e₂, f₂) = then_inv (block r₁) _ g r f₁ in
    let z : r₂ ≡ r = cc in
    let (m, _, p) = block-behind l j r₁ e₁ in
    let (n, _, q) = block-behind r₁ b r₂ e₂ in
    (m + n, behind-then p (record { there = q.there; rest = q.rest ∙ z }))

pub call-behind : (l : List ℕ) (g : Given) (r : List ℕ) → call l ≡ good g r → (n : ℕ) × (1 ≤ n) × (n ≤ length l) × (drop n l ≡ r)
unfolding call
call-behind l g r e =
    let (event, r₁, e₁, e₂) = then_inv (block l) _ g r e in
    let (m, h, p) = block-behind l event r₁ e₁ in
    let (n, q) = profiles-behind event _ r₁ g r e₂ in
    let b = behind-then p q in
    (m + n, omega arith, b.there, b.rest)

pub call_shorter : (l : List ℕ) (g : Given) (r : List ℕ) → call l ≡ good g r → length r < length l
call_shorter l g r e =
    let (n, h, there, rest) = call-behind l g r e in
    let f = rw length-drop at (ap length rest) in
    omega (arith, h, there, f)

-- ---- lines

-- a byte in hexadecimal, and those behind it
pub hex_next : (s : List ℕ) (i : ℕ) → i < length s → hex_line (drop i s) ≡ hex_byte (get_or s i 0) ++ hex_line (drop (i + 1) s)
unfolding hex
hex_next s i h = rw (add-one, drop-cons s i 0)

pub hex_none : (s : List ℕ) (i : ℕ) → length s ≤ i → hex_line (drop i s) ≡ newline
unfolding hex
hex_none s i h = rw (drop_of_length-le s h)

-- what the library prints of a number of 64 bits
digits_appended : AppendsLastDigit decimal
unfolding decimal
digits_appended = search rules

pub digits_printed : (n : ℕ) → n < 2 ^ 64 → printed n ≡ decimal most_digits n
digits_printed n h = sym (decimal_from_appends decimal digits_appended most_digits n h (length-decimal-le most_digits n (omega arith) (omega arith) h))

-- the packet in front, and those behind it
pub packets_next : (s : List ℕ) → 1 ≤ length s → packet_text s ≡ hex_line (take (front_size s) s) ++ packet_text (drop (front_size s) s)
unfolding hex_lines
packets_next s h = rw (cut-first s h)

pub packets_more : (s more : List ℕ) → 1 ≤ length s → packet_text s ++ more ≡ hex_line (take (front_size s) s) ++ (packet_text (drop (front_size s) s) ++ more)
packets_more s more h = rw (packets_next s h, append_assoc (hex_line (take (front_size s) s)))

pub packets_none : (s : List ℕ) → length s ≡ 0 → packet_text s ≡ []
unfolding hex_lines
packets_none [] h = rw cut-none
packets_none (b ∷ s) h = absurd (omega arith)
