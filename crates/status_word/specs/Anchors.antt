-- The word of packet 68, worked out by hand from documents 01 and 02 (Q-2), which the definitions must give.
use Rattle.std.specs.Prelude.{ℕ, ◌/◌, ◌%◌, ◌^◌, ◌≡◌, true, false, List, [], ◌∷◌, map, set, replicate}
use Rattle.wire.specs.Lists.{tabulate}
use Rattle.status_word.specs.Word.{weight_of, status_word, conditions_of, conditions_of_word}
use Rattle.status_word.specs.View.{conditions_view, conditions_number, same_conditions, all_nine}
use Rattle.status_word.specs.declared.OperationalConditions.{OperationalConditions}

-- the nine conditions that a number has, "bit 0 is least significant"
abbrev pub numbered : ℕ → OperationalConditions
numbered n = conditions_of (tabulate 9 (λ k. n / 2 ^ k % 2))

-- conditions 1, 2, 5, 7 and 8, and all nine
abbrev pub five : List ℕ
five = 0 ∷ 1 ∷ 1 ∷ 0 ∷ 0 ∷ 1 ∷ 0 ∷ 1 ∷ 1 ∷ []

abbrev pub nine : List ℕ
nine = replicate 9 1

-- condition k alone
abbrev pub alone : ℕ → List ℕ
alone k = set (replicate 9 0) k 1

-- 02: "state + 16 × condition 0 + 32 × condition 1, and so on to 4,096 × condition 8"
pub record Anchors : Type 0 where
  pub weights : map weight_of (0 ∷ 1 ∷ 2 ∷ 3 ∷ 4 ∷ 5 ∷ 6 ∷ 7 ∷ 8 ∷ []) ≡ 16 ∷ 32 ∷ 64 ∷ 128 ∷ 256 ∷ 512 ∷ 1024 ∷ 2048 ∷ 4096 ∷ []
  pub states : map (λ s. status_word s (replicate 9 0)) (0 ∷ 7 ∷ 15 ∷ []) ≡ 0 ∷ 7 ∷ 15 ∷ []
  -- each condition alone, in CO
  pub each : map (λ k. status_word 1 (alone k)) (0 ∷ 1 ∷ 2 ∷ 3 ∷ 4 ∷ 5 ∷ 6 ∷ 7 ∷ 8 ∷ [])
      ≡ 0x0011 ∷ 0x0021 ∷ 0x0041 ∷ 0x0081 ∷ 0x0101 ∷ 0x0201 ∷ 0x0401 ∷ 0x0801 ∷ 0x1001 ∷ []
  -- "RE with all nine, 1FF4"
  pub all_nine_lem : status_word 4 nine ≡ 0x1FF4
  -- a state above 15 runs into condition 0
  pub run_into : status_word 16 (replicate 9 0) ≡ status_word 0 (alone 0)
  -- each condition in its field: "0, 1, 5, 8 are report bits 0, 1, 2, 3", 2 the End of Journey, 3 the last point, 4 the profiles, 6 the position, 7 the zones
  pub fields : conditions_of (10 ∷ 11 ∷ 12 ∷ 13 ∷ 14 ∷ 15 ∷ 16 ∷ 17 ∷ 18 ∷ [])
      ≡ record {
        etcs_fulfilled = 10;
        no_emergency_brake = 11;
        end_ahead = 12;
        last_ahead = 13;
        profiles_there = 14;
        no_inconsistency = 15;
        located = 16;
        outside_zones = 17;
        data_valid = 18;
      }
  pub in_order : conditions_view (conditions_of (10 ∷ 11 ∷ 12 ∷ 13 ∷ 14 ∷ 15 ∷ 16 ∷ 17 ∷ 18 ∷ [])) ≡ 10 ∷ 11 ∷ 12 ∷ 13 ∷ 14 ∷ 15 ∷ 16 ∷ 17 ∷ 18 ∷ []
  -- each condition alone, in CO, is read again; all nine in RE; a spare bit, 13, beside condition 8
  pub read : map conditions_of_word (0x0011 ∷ 0x0021 ∷ 0x0041 ∷ 0x0081 ∷ 0x0101 ∷ 0x0201 ∷ 0x0401 ∷ 0x0801 ∷ 0x1001 ∷ [])
      ≡ map (λ k. conditions_of (alone k)) (0 ∷ 1 ∷ 2 ∷ 3 ∷ 4 ∷ 5 ∷ 6 ∷ 7 ∷ 8 ∷ [])
  pub read_nine : conditions_of_word 0x1FF4 ≡ conditions_of nine
  pub read_spare : conditions_of_word 0x3000 ≡ conditions_of (set (replicate 9 0) 8 3)
  -- as one number, "bit 0 is least significant"
  pub numbers : map (λ k. conditions_number (conditions_of (alone k))) (0 ∷ 1 ∷ 2 ∷ 3 ∷ 4 ∷ 5 ∷ 6 ∷ 7 ∷ 8 ∷ []) ≡ 1 ∷ 2 ∷ 4 ∷ 8 ∷ 16 ∷ 32 ∷ 64 ∷ 128 ∷ 256 ∷ []
  pub number_of_nine : conditions_number (conditions_of nine) ≡ 511
  pub by_number : map numbered (0x1A6 ∷ 511 ∷ []) ≡ conditions_of five ∷ conditions_of nine ∷ []
  -- they are the same only where each is: with one of the nine turned they are others
  pub same_nine : same_conditions (conditions_of nine) (conditions_of nine) ≡ true
  pub one_turned : map (λ k. same_conditions (conditions_of nine) (conditions_of (set nine k 0))) (0 ∷ 1 ∷ 2 ∷ 3 ∷ 4 ∷ 5 ∷ 6 ∷ 7 ∷ 8 ∷ []) ≡ replicate 9 false
  -- "O means all nine": any one away
  pub all_there : map (λ n. all_nine (numbered n)) (511 ∷ 510 ∷ 509 ∷ 507 ∷ 503 ∷ 495 ∷ 479 ∷ 447 ∷ 383 ∷ 255 ∷ 0 ∷ []) ≡ true ∷ replicate 10 false
