use Rattle.std.specs.Prelude.{◌≡◌, ◌-◌}
use Rattle.arrayvec.specs.ArrayVec.{array_vec_len}
use Rattle.fields.specs.Parse.{many}
use Rattle.fields.proofs.ReaderLaws.{with_front}
use Rattle.fields.proofs.read_counted.Given as goal

-- what was read and what is still read make the whole
abbrev pub invariant-loop : goal.invariant-loop
invariant-loop g l = record {
  count : array_vec_len l.items ≡ l.counter;
  whole : with_front l.items.items (many (l.n - l.counter) g.I.Item.reader l.rest) ≡ many l.n g.I.Item.reader l.initial.rest;
}
