-- What the code's values stand for, and a text that grows.
use Rattle.std.specs.Prelude.{ℕ, ◌+◌, ◌-◌, min, max, ◌≡◌, List, ◌++◌, length, take}
use Rattle.std.proofs.lemmas.List.Edits.{sets}
use Rattle.player_text.specs.Calls.{Given}
use Rattle.player_text.specs.declared.calls.Call.{Call}

abbrev pub given_view : Call → Given
given_view c = record { event = c.event.now; journey = c.journey.now; book = c.book.now }

-- l behind a text, as far as there is room for n bytes
unfoldable pub appended : ℕ → List ℕ → List ℕ → List ℕ
appended n text l = text ++ take (n - length text) l

-- bytes l behind a text a are the text b: what more is put behind b is put behind l in a
abbrev pub Grows : {T H : Type 0} → (T → List ℕ → H) → T → List ℕ → T → Type 0
Grows grown a l b = (more : List ℕ) → grown b more ≡ grown a (l ++ more)

-- l was stored in a text at a position, as far as there is room, and the position behind it is next
pub record Put (before : List ℕ) (at : ℕ) (l after : List ℕ) (next : ℕ) : Type 0 where
  pub stored : after ≡ sets before at l
  pub behind : next ≡ min (at + length l) (max at (length before))
