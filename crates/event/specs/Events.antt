-- Document 01, "Events", and the place "event" of the table of numbers.
use Rattle.std.specs.Prelude.{ℕ, ◌+◌, Bool, not, List, [], ◌∷◌, length, get_or, eqb, if◌then◌else◌}
use Rattle.wire.specs.Judged.{Judged, row, ◌>>=◌, ◌>>◌}
use Rattle.wire.specs.Judged.Judged.{refuse, accept}
use Rattle.layout.specs.Body.{body_size, body_at, body_fits}
use Rattle.wire.specs.Lists.{any}
use Rattle.adhesion.specs.Constraints.{reversed}
use Rattle.event.specs.Kinds.{Content, kind, kinds, event_constraints}
use Rattle.event.specs.Event.{Event}

-- "1 .. wrong length; 2 field out of range": the event e, if there are n bytes and its fields fit; 02, Q-7: "21, a row whose start exceeds its end, checked
-- after 2 and before 3"
unfoldable pub event_rows : ℕ → Bool → Event → List ℕ → Judged Event
event_rows n fit e l = do
  row 1 (not (eqb (length l) n))
  row 2 (not fit)
  row 21 (any reversed (event_constraints e))
  accept e

-- "One byte kind, then": its fields from the second byte on
unfoldable pub event_with : Content → List ℕ → Judged Event
event_with c l = let v = body_at c.body 1 l in event_rows (1 + body_size c.body v) (body_fits c.body v) (c.event v) l

-- "1 .. unknown kind"
unfoldable pub content_among : List Event → ℕ → Judged Content
content_among [] n = refuse 1
content_among (e ∷ es) n = if eqb n (kind e).number then accept (kind e).content else content_among es n

unfoldable pub event_of_kind : ℕ → List ℕ → Judged Event
event_of_kind n l = do
  c ← content_among kinds n
  event_with c l

-- "1 empty, unknown kind or wrong length; 2 field out of range"
unfoldable pub event_of : List ℕ → Judged Event
event_of l = do
  row 1 (eqb (length l) 0)
  event_of_kind (get_or l 0 0) l
