-- "The player reads standard input: two-byte length, event; after kind 11 also two-byte length and journey, two-byte length and book."
use Rattle.std.specs.Prelude.{ℕ, List, [], Bool, true, false, length, take, drop, eqb, leb, if◌then◌else◌}
use Rattle.wire.specs.Numbers.{number}
use Rattle.fields.specs.Parse.{Reader, field, give, ◌>>=◌}
use Rattle.fields.specs.Parse.Parse.{bad, good}
use Rattle.engine_value.specs.Engine.{max2}
use Rattle.event.specs.Kinds.{kind_of}
use Rattle.event.specs.Event.Event.{Load}

-- an event with its profiles
pub record Given : Type 0 where
  pub event : List ℕ
  pub journey : List ℕ
  pub book : List ℕ

-- the next n bytes
unfoldable pub some : ℕ → Reader (List ℕ)
some n l = if leb n (length l) then good (take n l) (drop n l) else bad

-- a two-byte length, and as many bytes
unfoldable pub block : Reader (List ℕ)
block = do
  n ← field 2 0 max2
  some n

unfoldable pub profiles : List ℕ → Bool → Reader Given
profiles event false = give (record { event = event; journey = []; book = [] })
profiles event true = do
  journey ← block
  book ← block
  give (record { event = event; journey = journey; book = book })

unfoldable pub call : Reader Given
call = do
  event ← block
  profiles event (eqb (number 1 event) (kind_of Load))
