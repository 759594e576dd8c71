-- Document 01, "Book and journey": books in bytes, the numbers 7 and 8, and the look-up of a segment. Values are worked out from the paper.
use Rattle.std.specs.Prelude.{ℕ, zero, suc, ◌≡◌, List, [], ◌∷◌, ◌++◌, map, true, false, length}
use Rattle.std.specs.Prelude.{Some, None}
use Rattle.wire.specs.Judged.{Judged, then_judge}
use Rattle.wire.specs.Judged.Judged.{refuse, accept}
use Rattle.segment_record.specs.Record.{BookSegment}
use Rattle.book.specs.Book.{lookup, is_some}
use Rattle.book.specs.Table.{book_of}

-- a record of NID_C c, NID_SP sp, length 100, and with points of the names l; each number is below 256
abbrev pub segment : ℕ → ℕ → List ℕ
segment c sp = 0x07 ∷ 0x00 ∷ c ∷ 0x00 ∷ 0x00 ∷ 0x00 ∷ sp ∷ 0x00 ∷ 0x00 ∷ 0x00 ∷ 0x64 ∷ []

abbrev pub points : List ℕ → List ℕ
points [] = []
points (t ∷ l) = 0x00 ∷ 0x00 ∷ 0x00 ∷ t ∷ 0x00 ∷ 0x00 ∷ 0x00 ∷ 0x0A ∷ 0x00 ∷ 0x05 ∷ points l

abbrev pub having : ℕ → ℕ → List ℕ → List ℕ
having c sp l = 0x0F ∷ 0x00 ∷ c ∷ 0x00 ∷ 0x00 ∷ 0x00 ∷ sp ∷ 0x00 ∷ 0x00 ∷ 0x00 ∷ 0x64 ∷ length l ∷ points l

abbrev pub value : ℕ → ℕ → BookSegment
value c sp = record { nidc = c; nidsp = sp; length = 100; points = []; zones = [] }

abbrev pub segments : ℕ → List ℕ
segments zero = []
segments (suc n) = segment 17 n ++ segments n

-- how many records are accepted
abbrev pub size_of : List ℕ → Judged ℕ
size_of l = then_judge (book_of l) (λ b. accept (length b))

pub record Anchors : Type 0 where
  -- "A book is 0 to 40 records end to end."
  pub empty : book_of [] ≡ accept []
  pub two : book_of (segment 17 5 ++ segment 18 6) ≡ accept (value 17 5 ∷ value 18 6 ∷ [])
  -- "7 bad map, range or length": of the first, of the last; bytes left; one missing
  pub unread : map book_of (
      (0x00 ∷ segment 17 5) ∷ (segment 17 5 ++ (0x00 ∷ segment 17 6)) ∷ (segment 17 5 ++ (0x07 ∷ [])) ∷ (having 17 5 (1 ∷ []) ++ (0x00 ∷ []))
      ∷ (0x07 ∷ 0x00 ∷ 0x11 ∷ 0x00 ∷ 0x00 ∷ 0x00 ∷ 0x05 ∷ 0x00 ∷ 0x00 ∷ 0x00 ∷ []) ∷ []
      ) ≡ refuse 7 ∷ refuse 7 ∷ refuse 7 ∷ refuse 7 ∷ refuse 7 ∷ []
  -- "8 a segment .. twice": side by side, apart; NID_SP or NID_C alone may stand twice
  pub segment_twice : map size_of (
      (segment 17 5 ++ segment 17 5) ∷ (segment 17 5 ++ segment 18 5 ++ segment 17 5) ∷ (segment 17 5 ++ segment 18 6 ++ segment 18 5 ++ segment 17 6) ∷ []
      ) ≡ refuse 8 ∷ refuse 8 ∷ accept 4 ∷ []
  -- "8 .. or, in one record, an NID_TP twice"
  pub point_twice : map size_of (
      having 17 5 (1 ∷ 1 ∷ []) ∷ (segment 18 5 ++ having 17 5 (1 ∷ 2 ∷ 1 ∷ [])) ∷ (having 17 5 (1 ∷ 2 ∷ []) ++ having 18 5 (2 ∷ 1 ∷ [])) ∷ []
      ) ≡ refuse 8 ∷ refuse 8 ∷ accept 2 ∷ []
  -- "8 .. or over 40"
  pub forty : size_of (segments 40) ≡ accept 40
  pub over_forty : size_of (segments 41) ≡ refuse 8
  -- "Book and journey are each checked whole in row order.": 7 also beyond the 40th, and behind what 8 refuses
  pub in_row_order : map size_of (
      (segments 41 ++ (0x00 ∷ [])) ∷ (segment 17 5 ++ segment 17 5 ++ (0x00 ∷ [])) ∷ (having 17 5 (1 ∷ 1 ∷ []) ++ (0x00 ∷ [])) ∷ []
      ) ≡ refuse 7 ∷ refuse 7 ∷ refuse 7 ∷ []
  -- a segment is named by NID_C and NID_SP together
  pub look_up : map (λ (n : ℕ × ℕ). lookup n.0 n.1 (value 17 5 ∷ value 18 5 ∷ value 17 6 ∷ [])) (
      (17, 5) ∷ (18, 5) ∷ (17, 6) ∷ (18, 6) ∷ (5, 17) ∷ []
      ) ≡ Some (value 17 5) ∷ Some (value 18 5) ∷ Some (value 17 6) ∷ None ∷ None ∷ []
  pub found : map is_some (Some (value 17 5) ∷ None ∷ []) ≡ true ∷ false ∷ []
