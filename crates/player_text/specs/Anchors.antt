-- Values worked out by hand from document 01, "Player and trials"; text is in ASCII.
use Rattle.std.specs.Prelude.{ℕ, ◌≡◌, true, false, List, [], ◌∷◌, ◌++◌, map, replicate}
use Rattle.fields.specs.Parse.Parse.{bad, good}
use Rattle.call_values.specs.Call.{refused, accepted}
use Rattle.player_text.specs.Calls.{Given, call}
use Rattle.player_text.specs.Lines.{hex, decimal, most_digits, hex_lines, lines, output_bytes}

abbrev pub given : List ℕ → List ℕ → List ℕ → Given
given event journey book = record { event = event; journey = journey; book = book }

pub record Anchors : Type 0 where
  -- "two-byte length, event": the next event stays; an empty event; most significant byte first
  pub events : map call ((0 ∷ 1 ∷ 1 ∷ []) ∷ (0 ∷ 2 ∷ 5 ∷ 31 ∷ 0 ∷ 1 ∷ 2 ∷ []) ∷ (0 ∷ 0 ∷ 9 ∷ []) ∷ (1 ∷ 0 ∷ 5 ∷ []) ∷ [])
      ≡ good (given (1 ∷ []) [] []) [] ∷ good (given (5 ∷ 31 ∷ []) [] []) (0 ∷ 1 ∷ 2 ∷ []) ∷ good (given [] [] []) (9 ∷ []) ∷ bad ∷ []
  -- "after kind 11 also two-byte length and journey, two-byte length and book"; after another kind none
  pub profiles : map call ((0 ∷ 1 ∷ 11 ∷ 0 ∷ 2 ∷ 7 ∷ 8 ∷ 0 ∷ 1 ∷ 9 ∷ 6 ∷ []) ∷ (0 ∷ 1 ∷ 11 ∷ 0 ∷ 0 ∷ 0 ∷ 0 ∷ []) ∷ (0 ∷ 1 ∷ 12 ∷ 0 ∷ 2 ∷ []) ∷ [])
      ≡ good (given (11 ∷ []) (7 ∷ 8 ∷ []) (9 ∷ [])) (6 ∷ []) ∷ good (given (11 ∷ []) [] []) [] ∷ good (given (12 ∷ []) [] []) (0 ∷ 2 ∷ []) ∷ []
  -- "input cut short ends the run": no byte, half a length, an event, a journey, a book
  pub short : map call ([] ∷ (0 ∷ []) ∷ (0 ∷ 2 ∷ 1 ∷ []) ∷ (0 ∷ 1 ∷ 11 ∷ 0 ∷ 2 ∷ 7 ∷ []) ∷ (0 ∷ 1 ∷ 11 ∷ 0 ∷ 0 ∷ 0 ∷ 1 ∷ []) ∷ [])
      ≡ bad ∷ bad ∷ bad ∷ bad ∷ bad ∷ []
  -- "Input 00 01 01 prints whole: A 1 0 19 / 4400000000000000FFFFFF0000FFFFFFFF0801"; what stands in the memory behind the bytes is not printed
  pub example : lines (accepted (record { state = 1; request = false; bytes = 19 }))
      (0x44 ∷ 0x00 ∷ 0x00 ∷ 0x00 ∷ 0x00 ∷ 0x00 ∷ 0x00 ∷ 0x00 ∷ 0xFF ∷ 0xFF ∷ 0xFF ∷ 0x00 ∷ 0x00
      ∷ 0xFF ∷ 0xFF ∷ 0xFF ∷ 0xFF ∷ 0x08 ∷ 0x01 ∷ 0xEE ∷ 0xEE ∷ [])
      ≡ 65 ∷ 32 ∷ 49 ∷ 32 ∷ 48 ∷ 32 ∷ 49 ∷ 57 ∷ 10 ∷ 52 ∷ 52 ∷ 48 ∷ 48 ∷ 48 ∷ 48 ∷ 48 ∷ 48 ∷ 48 ∷ 48 ∷ 48
      ∷ 48 ∷ 48 ∷ 48 ∷ 48 ∷ 48 ∷ 70 ∷ 70 ∷ 70 ∷ 70 ∷ 70 ∷ 70 ∷ 48 ∷ 48 ∷ 48 ∷ 48 ∷ 70 ∷ 70 ∷ 70 ∷ 70 ∷ 70
      ∷ 70 ∷ 70 ∷ 70 ∷ 48 ∷ 56 ∷ 48 ∷ 49 ∷ 10 ∷ []
  -- "A, state, request, bytes (decimal)": A 5 1 0
  pub accepted_lem : lines (accepted (record { state = 5; request = true; bytes = 0 })) (0xEE ∷ []) ≡ 65 ∷ 32 ∷ 53 ∷ 32 ∷ 49 ∷ 32 ∷ 48 ∷ 10 ∷ []
  -- "R and the number", "the count (0 for any other refusal) and the packet's line": R 3 0, R 16 0; R 12 29 / 41 and 28 bytes 00
  pub refused_lem : map (λ (n : ℕ). lines (refused n 0) (0x44 ∷ [])) (3 ∷ 16 ∷ []) ≡ (82 ∷ 32 ∷ 51 ∷ 32 ∷ 48 ∷ 10 ∷ []) ∷ (82 ∷ 32 ∷ 49 ∷ 54 ∷ 32 ∷ 48 ∷ 10 ∷ []) ∷ []
  pub turned_down : lines (refused 12 29) (0x41 ∷ replicate 28 0x00 ++ (0xEE ∷ []))
      ≡ 82 ∷ 32 ∷ 49 ∷ 50 ∷ 32 ∷ 50 ∷ 57 ∷ 10 ∷ 52 ∷ 49 ∷ replicate 56 48 ++ (10 ∷ [])
  -- 0, 9, 10, 100, 1669
  pub decimals : map (decimal most_digits) (0 ∷ 9 ∷ 10 ∷ 100 ∷ 1669 ∷ [])
      ≡ (48 ∷ []) ∷ (57 ∷ []) ∷ (49 ∷ 48 ∷ []) ∷ (49 ∷ 48 ∷ 48 ∷ []) ∷ (49 ∷ 54 ∷ 54 ∷ 57 ∷ []) ∷ []
  -- "uppercase hexadecimal": 00 09 0A 9F AF F0
  pub digits : hex (0x00 ∷ 0x09 ∷ 0x0A ∷ 0x9F ∷ 0xAF ∷ 0xF0 ∷ []) ≡ 48 ∷ 48 ∷ 48 ∷ 57 ∷ 48 ∷ 65 ∷ 57 ∷ 70 ∷ 65 ∷ 70 ∷ 70 ∷ 48 ∷ []
  -- "a line of uppercase hexadecimal a packet": 01 / ABCD
  pub a_line_each : hex_lines ((0x01 ∷ []) ∷ (0xAB ∷ 0xCD ∷ []) ∷ []) ≡ 48 ∷ 49 ∷ 10 ∷ 65 ∷ 66 ∷ 67 ∷ 68 ∷ 10 ∷ []
  -- "It lends 4,096 output bytes"
  pub lends : output_bytes ≡ 4096
