-- The range is that of the sentence: over every list of ranges, and for the sizes that some range of the table holds.
use Rattle.std.specs.Prelude.{if◌then◌else◌}
use mathlib.Core.Path.{◌≡◌, refl}
use mathlib.Core.Bool.{Bool, true, false}
use mathlib.Core.List.{List, [], ◌∷◌}
use Prim.Native.Nat.{ℕ, zero, suc, ◌≤◌, ◌<◌}
use native.Mathlib.Omega.{arith}
use lib.Dec.{ltb}
use lib.ListN.{length}
use borrow.Author.Tests.{ltb-true}
use Rattle.wire.specs.Lists.{every, tabulate}
use Rattle.wire.proofs.ListLaws.{and_left, and_right}
use Rattle.traction.specs.Ranges.{Range, ranges, holds, holds_at, lowest}
use Rattle.traction.specs.Sentences.{Lowest, Sentences}

none_below : (rs : List Range) (size i : ℕ) → i < lowest rs size → holds_at rs i size ≡ false
none_below [] size i l = refl
none_below (r ∷ rs) size i l = go (holds r size) refl i l (λ i l. none_below rs size i l)
  where
    go : (b : Bool) → holds r size ≡ b → (i : ℕ) → i < (if b then 0 else suc (lowest rs size)) → ((i : ℕ) → i < lowest rs size → holds_at rs i size ≡ false)
        → holds_at (r ∷ rs) i size ≡ false
    go true q i l ih = absurd (omega arith)
    go false q zero l ih = q
    go false q (suc i) l ih = ih i (omega arith)

held : (rs : List Range) (size : ℕ) → lowest rs size < length rs → holds_at rs (lowest rs size) size ≡ true
held [] size l = absurd (omega arith)
held (r ∷ rs) size l = go (holds r size) refl l (held rs size)
  where
    go : (b : Bool) → holds r size ≡ b → (if b then 0 else suc (lowest rs size)) < suc (length rs) → (lowest rs size < length rs → holds_at rs (lowest rs size) size ≡ true)
        → holds_at (r ∷ rs) (if b then 0 else suc (lowest rs size)) size ≡ true
    go true q l ih = q
    go false q l ih = ih (omega arith)

-- one of the five holds each size to 100
every_one : (f : ℕ → Bool) (g : ℕ → ℕ) (n : ℕ) → every f (tabulate n g) ≡ true → (k : ℕ) → k < n → f (g k) ≡ true
every_one f g zero q k l = absurd (omega arith)
every_one f g (suc n) q zero l = and_left (f (g 0)) _ q
every_one f g (suc n) q (suc k) l = every_one f (λ i. g (suc i)) n (and_right (f (g 0)) _ q) k (omega arith)

some-range : (size : ℕ) → size ≤ 100 → lowest ranges size < 5
some-range size h = ltb-true _ _ (every_one (λ n. ltb (lowest ranges n) 5) (λ k. k) 101 refl size (omega arith))

lowest-of : (size : ℕ) → size ≤ 100 → Lowest size (lowest ranges size)
lowest-of size h = record { is_held = held ranges size (some-range size h); none_below = none_below ranges size }

pub sentences : Sentences
sentences = record {
  stays = λ k size q. rw q;
  moves = λ k size h q. rw q (lowest-of size h);
  first = lowest-of;
}
