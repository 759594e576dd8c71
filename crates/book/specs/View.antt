-- What the values of the code say.
use Rattle.std.specs.Prelude.{List, map, min, take}
use Rattle.engine_value.specs.Engine.{max_segments}
use Rattle.segment_record.specs.Record.{BookSegment}
use Rattle.segment_record.specs.View.{entry_view}
use Rattle.book.specs.declared.Book.{Book}

-- the records of a book that the count takes in; safe for every value of the struct
abbrev pub book_view : Book → List BookSegment
book_view b = map entry_view (take (min max_segments b.count) b.entries)
