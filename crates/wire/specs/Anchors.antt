-- Values worked out by hand from document 01, which the definitions must give.
use Rattle.std.specs.Prelude.{ℕ, ◌+◌, ◌≡◌, Bool, true, false, List, [], ◌∷◌, map, eqb, ltb, if◌then◌else◌}
use Rattle.wire.specs.Numbers.{number, bytes_of, bit, flag, magnitude, Bytes}
use Rattle.wire.specs.Lists.{All, any, every, those, same_numbers, tabulate, sum, twice, falls, strictly_rises}
use Rattle.wire.specs.Judged.{Judged, then_judge, row, ◌>>=◌, ◌>>◌}
use Rattle.wire.specs.Judged.Judged.{refuse, accept}
use Rattle.std.specs.Prelude.{Ok, Err}
use Rattle.wire.specs.Refusals.{number_of, turns_down}
use Rattle.wire.specs.View.{judged as view}
use Rattle.wire.specs.declared.Refusal.{Refusal}

-- bits 0 to 8 of a number
abbrev pub bits : ℕ → List Bool
bits m = map (λ k. bit k m) (0 ∷ 1 ∷ 2 ∷ 3 ∷ 4 ∷ 5 ∷ 6 ∷ 7 ∷ 8 ∷ [])

pub record Numbers : Type 0 where
  -- "Numbers in layouts are unsigned, most significant byte first": of no byte to all four, and no byte more
  pub numbers : map (λ w. number w (0x81 ∷ 0x02 ∷ 0x03 ∷ 0x04 ∷ 0x05 ∷ [])) (0 ∷ 1 ∷ 2 ∷ 3 ∷ 4 ∷ [])
      ≡ 0 ∷ 0x81 ∷ 0x8102 ∷ 0x810203 ∷ 0x81020304 ∷ []
  pub greatest : map (λ w. number w (0xFF ∷ 0xFF ∷ 0xFF ∷ 0xFF ∷ [])) (1 ∷ 2 ∷ 4 ∷ []) ≡ 255 ∷ 65535 ∷ 4294967295 ∷ []
  -- a byte past the end counts as 0
  pub past_the_end : number 4 (0x12 ∷ 0x34 ∷ []) ≡ 0x12340000
  -- the same the other way, zeros in front
  pub bytes : map (λ w. bytes_of w 0x81020304) (0 ∷ 1 ∷ 2 ∷ 4 ∷ 5 ∷ [])
      ≡ [] ∷ (0x04 ∷ []) ∷ (0x03 ∷ 0x04 ∷ []) ∷ (0x81 ∷ 0x02 ∷ 0x03 ∷ 0x04 ∷ []) ∷ (0x00 ∷ 0x81 ∷ 0x02 ∷ 0x03 ∷ 0x04 ∷ []) ∷ []
  pub carries : map (bytes_of 2) (255 ∷ 256 ∷ 65535 ∷ []) ≡ (0x00 ∷ 0xFF ∷ []) ∷ (0x01 ∷ 0x00 ∷ []) ∷ (0xFF ∷ 0xFF ∷ []) ∷ []
  -- "bit 0 is least significant"
  pub bit0 : bits 0x01 ≡ true ∷ false ∷ false ∷ false ∷ false ∷ false ∷ false ∷ false ∷ false ∷ []
  pub bit7 : bits 0x80 ≡ false ∷ false ∷ false ∷ false ∷ false ∷ false ∷ false ∷ true ∷ false ∷ []
  pub some_bits : bits 0x1A6 ≡ false ∷ true ∷ true ∷ false ∷ false ∷ true ∷ false ∷ true ∷ true ∷ []
  pub other_bits : bits 0x59 ≡ true ∷ false ∷ false ∷ true ∷ true ∷ false ∷ true ∷ false ∷ false ∷ []
  -- a test as a number: Q_EOJ_REACHED "0 once the End of Journey is reached or passed, else 1"
  pub flags : map flag (true ∷ false ∷ []) ≡ 1 ∷ 0 ∷ []
  pub chosen : map {B = ℕ} (λ b. if b then 5 else 6) (true ∷ false ∷ []) ≡ 5 ∷ 6 ∷ []
  -- 0, 1, 100, 127; −128, −127, −101, −100, −1
  pub magnitudes : map magnitude (0x00 ∷ 0x01 ∷ 0x64 ∷ 0x7F ∷ 0x80 ∷ 0x81 ∷ 0x9B ∷ 0x9C ∷ 0xFF ∷ []) ≡ 0 ∷ 1 ∷ 100 ∷ 127 ∷ 128 ∷ 127 ∷ 101 ∷ 100 ∷ 1 ∷ []
  -- a byte is at most 255
  pub byte : Bytes (0 ∷ 255 ∷ [])
  pub no_byte : ¬ Bytes (0 ∷ 256 ∷ [])

-- lists of which each notion must tell: none, one, equal and unequal neighbours, equal ones far apart, what rises, falls, or does either late
abbrev pub lists : List (List ℕ)
lists =
    [] ∷ (4 ∷ []) ∷ (4 ∷ 4 ∷ []) ∷ (4 ∷ 5 ∷ []) ∷ (5 ∷ 4 ∷ [])
    ∷ (4 ∷ 5 ∷ 6 ∷ 4 ∷ []) ∷ (4 ∷ 5 ∷ 6 ∷ 9 ∷ []) ∷ (4 ∷ 5 ∷ 9 ∷ 9 ∷ []) ∷ (4 ∷ 9 ∷ 6 ∷ 7 ∷ []) ∷ (9 ∷ 6 ∷ 5 ∷ 4 ∷ []) ∷ []

abbrev pub Fours : List ℕ → Type 0
Fours = All (λ (n : ℕ). n ≡ 4)

pub record Lists : Type 0 where
  -- "a segment or .. an NID_TP twice"
  pub twos : map (twice eqb) lists ≡ false ∷ false ∷ true ∷ false ∷ false ∷ true ∷ false ∷ true ∷ false ∷ false ∷ []
  -- "index falls": it may stay
  pub fallen : map falls lists ≡ false ∷ false ∷ false ∷ false ∷ true ∷ true ∷ false ∷ false ∷ true ∷ true ∷ []
  -- "placed points do not strictly rise": they may not stay
  pub risen : map strictly_rises lists ≡ true ∷ true ∷ false ∷ true ∷ false ∷ false ∷ true ∷ false ∷ false ∷ false ∷ []
  -- one of them, each of them, and those that are above 4
  pub one : map (any (ltb 4)) lists ≡ false ∷ false ∷ false ∷ true ∷ true ∷ true ∷ true ∷ true ∷ true ∷ true ∷ []
  pub each : map (every (eqb 4)) lists ≡ true ∷ true ∷ true ∷ false ∷ false ∷ false ∷ false ∷ false ∷ false ∷ false ∷ []
  pub late : map (every (ltb 4)) ((5 ∷ 6 ∷ 4 ∷ []) ∷ (5 ∷ 6 ∷ 7 ∷ []) ∷ []) ≡ false ∷ true ∷ []
  pub above : map (those (ltb 4)) ([] ∷ (4 ∷ 4 ∷ []) ∷ (9 ∷ 4 ∷ 6 ∷ 4 ∷ 6 ∷ []) ∷ []) ≡ [] ∷ [] ∷ (9 ∷ 6 ∷ 6 ∷ []) ∷ []
  pub all : Fours (4 ∷ 4 ∷ []) × Fours []
  pub not_first : ¬ Fours (5 ∷ 4 ∷ [])
  pub not_last : ¬ Fours (4 ∷ 5 ∷ [])
  pub alike : map (same_numbers (4 ∷ 5 ∷ [])) lists ≡ false ∷ false ∷ false ∷ true ∷ false ∷ false ∷ false ∷ false ∷ false ∷ false ∷ []
  pub none_alike : map (same_numbers []) ([] ∷ (0 ∷ []) ∷ []) ≡ true ∷ false ∷ []
  -- "its start is the sum of the lengths before it"
  pub sums : map sum ([] ∷ (7 ∷ []) ∷ (1 ∷ 20 ∷ 300 ∷ []) ∷ []) ≡ 0 ∷ 7 ∷ 321 ∷ []
  pub tables : map (λ n. tabulate n (λ k. k + 10)) (0 ∷ 1 ∷ 3 ∷ []) ≡ [] ∷ (10 ∷ []) ∷ (10 ∷ 11 ∷ 12 ∷ []) ∷ []

pub record Rows : Type 0 where
  -- a row of the table of numbers: its number where it refuses
  pub refuses : row 7 true ≡ refuse 7
  pub passes : row 7 false ≡ accept tt
  -- "Numbers by place of checking | Place, in order": the first row that refuses gives the number
  pub first : (row 7 true >> row 8 true) ≡ refuse 7
  pub second : (row 7 false >> row 8 true) ≡ refuse 8
  pub neither : (row 7 false >> row 8 false) ≡ accept tt
  -- the next place gets the value
  pub value : map (λ (p : Judged ℕ). p >>= λ n. accept (n + 1)) (refuse 9 ∷ accept 3 ∷ []) ≡ refuse 9 ∷ accept 4 ∷ []
  pub judged : map (λ (p : Judged ℕ). then_judge {B = ℕ} p refuse) (refuse 9 ∷ accept 3 ∷ []) ≡ refuse 9 ∷ refuse 3 ∷ []
  -- "For an answer that is an enum, a definition gives this paper's number"
  pub verdicts : map (view {A = Unit {0}}) (Ok tt ∷ Err Refusal.Order ∷ []) ≡ accept tt ∷ refuse 12 ∷ []
  -- "Numbers by place of checking", each number from 1 to 19 once and in order; 02, Q-5: 20; Q-7: 21
  pub all : map number_of (
      Refusal.EventForm ∷ Refusal.EventRange ∷ Refusal.NoPower ∷ Refusal.Powered ∷ Refusal.Fault ∷ Refusal.State ∷ Refusal.BookForm ∷ Refusal.BookTwice
      ∷ Refusal.JourneyForm ∷ Refusal.SegmentTwice ∷ Refusal.Points ∷ Refusal.Order ∷ Refusal.Beyond ∷ Refusal.NoStop ∷ Refusal.Skip ∷ Refusal.Output
      ∷ Refusal.PacketLength ∷ Refusal.PacketNumber ∷ Refusal.PacketRange ∷ Refusal.Held ∷ Refusal.Reversed ∷ []
      ) ≡ 1 ∷ 2 ∷ 3 ∷ 4 ∷ 5 ∷ 6 ∷ 7 ∷ 8 ∷ 9 ∷ 10 ∷ 11 ∷ 12 ∷ 13 ∷ 14 ∷ 15 ∷ 16 ∷ 17 ∷ 18 ∷ 19 ∷ 20 ∷ 21 ∷ []
  -- 02, Q-4: "refused by 7 to 12", of 1 to 21
  pub profiles : map turns_down (1 ∷ 2 ∷ 3 ∷ 4 ∷ 5 ∷ 6 ∷ 7 ∷ 8 ∷ 9 ∷ 10 ∷ 11 ∷ 12 ∷ 13 ∷ 14 ∷ 15 ∷ 16 ∷ 17 ∷ 18 ∷ 19 ∷ 20 ∷ 21 ∷ [])
      ≡ false ∷ false ∷ false ∷ false ∷ false ∷ false ∷ true ∷ true ∷ true ∷ true ∷ true ∷ true ∷ false ∷ false ∷ false ∷ false ∷ false ∷ false ∷ false ∷ false ∷ false ∷ []

pub record Anchors : Type 0 where
  pub numbers : Numbers
  pub lists : Lists
  pub rows : Rows
