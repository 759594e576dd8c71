-- 02, Q-2: "Proved besides", of the very function that the packet's bytes and the code go by.
use Rattle.std.specs.Prelude.{ℕ, ◌+◌, ◌<◌, ◌≤◌, ◌≡◌, List, length, get_or, set}
use Rattle.wire.specs.Lists.{All}
use Rattle.status_word.specs.Word.{weight_of, status_word}

-- nine zeros and ones
pub record ZerosAndOnes (conditions : List ℕ) : Type 0 where
  pub nine : length conditions ≡ 9
  pub each : All (λ (c : ℕ). c ≤ 1) conditions

pub record Sentences : Type 0 where
  -- "a condition turned from 0 to 1 adds exactly its weight"
  pub turned : (state : ℕ) (conditions : List ℕ) (k : ℕ) → length conditions ≡ 9 → k < 9 → get_or conditions k 0 ≡ 0
      → status_word state (set conditions k 1) ≡ status_word state conditions + weight_of k
  -- "equal words have equal state and conditions". The states are 0 to 7, and it is true to 15; a state of 16 counts as much as condition 0
  -- (`run-into` of Anchors), so that with a free state byte it is false
  pub equal_words : (s t : ℕ) (a b : List ℕ) → s ≤ 15 → t ≤ 15 → ZerosAndOnes a → ZerosAndOnes b → status_word s a ≡ status_word t b → (s ≡ t) × (a ≡ b)
