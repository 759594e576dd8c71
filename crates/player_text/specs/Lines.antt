-- "Each event gives a line: R and the number, or A, state, request, bytes (decimal), then a line of uppercase hexadecimal a packet." 02, Q-4: "the player's R line
-- gains the count (0 for any other refusal) and the packet's line"
use Rattle.std.specs.Prelude.{ℕ, zero, suc, ◌+◌, ◌-◌, ◌/◌, ◌%◌, List, [], ◌∷◌, ◌++◌, Bool, take, ltb, if◌then◌else◌}
use Rattle.wire.specs.Numbers.{flag}
use Rattle.packets.specs.Packets.{cut_packets}
use Rattle.call_values.specs.Call.{Answer, refused, accepted, bytes_written}

-- ---- ASCII

abbrev pub zero_sign : ℕ
zero_sign = 48

abbrev pub letter_a : ℕ
letter_a = 65

abbrev pub letter_r : ℕ
letter_r = 82

abbrev pub space : List ℕ
space = 32 ∷ []

abbrev pub newline : List ℕ
newline = 10 ∷ []

-- ---- numbers as text

-- the last digit of n, in uppercase hexadecimal
abbrev pub digit : ℕ → ℕ
digit n = if ltb (n % 16) 10 then zero_sign + n % 16 else letter_a + (n % 16 - 10)

abbrev pub hex_byte : ℕ → List ℕ
hex_byte b = digit (b / 16) ∷ digit b ∷ []

unfoldable pub hex : List ℕ → List ℕ
hex [] = []
hex (b ∷ l) = hex_byte b ++ hex l

-- the last k digits of n in decimal, with no zeros in front
unfoldable pub decimal : ℕ → ℕ → List ℕ
decimal zero n = []
decimal (suc k) n = (if ltb n 10 then [] else decimal k (n / 10)) ++ ((zero_sign + n % 10) ∷ [])

-- 64 bits make 20 digits at most
abbrev pub most_digits : ℕ
most_digits = 20

abbrev pub spaced : ℕ → List ℕ
spaced n = space ++ decimal most_digits n

-- ---- lines

abbrev pub hex_line : List ℕ → List ℕ
hex_line l = hex l ++ newline

-- "a line of uppercase hexadecimal a packet"
unfoldable pub hex_lines : List (List ℕ) → List ℕ
hex_lines [] = []
hex_lines (p ∷ ps) = hex_line p ++ hex_lines ps

abbrev pub packet_text : List ℕ → List ℕ
packet_text l = hex_lines (cut_packets l)

abbrev pub refused_line : ℕ → ℕ → List ℕ
refused_line n bytes = (letter_r ∷ []) ++ (spaced n ++ (spaced bytes ++ newline))

abbrev pub accepted_line : ℕ → Bool → ℕ → List ℕ
accepted_line state request bytes = (letter_a ∷ []) ++ (spaced state ++ (spaced (flag request) ++ (spaced bytes ++ newline)))

abbrev pub answer_line : Answer → List ℕ
answer_line (refused n bytes) = refused_line n bytes
answer_line (accepted a) = accepted_line a.state a.request a.bytes

-- the lines of an event: its answer, and the packets in the output memory m
unfoldable pub lines : Answer → List ℕ → List ℕ
lines a m = answer_line a ++ packet_text (take (bytes_written a) m)

-- "It lends 4,096 output bytes"
abbrev pub output_bytes : ℕ
output_bytes = 4096

-- the bytes that an event's lines take at most (`lines_fit` of proofs/Room)
abbrev pub most_lines : ℕ
most_lines = 16384
