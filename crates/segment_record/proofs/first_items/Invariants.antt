use Rattle.std.proofs.Common.{◌≡◌, map, length}
use Rattle.arrayvec.specs.ArrayVec.{array_vec_len}
use Rattle.segment_record.proofs.first_items.Given as goal

abbrev pub invariant-loop-x : goal.invariant-loop-x
invariant-loop-x g l = record {
  count : array_vec_len l.items ≡ length l.yielded;
  items : l.items.items ≡ map g.T.ListItem.value_of (map (λ x. x.now) l.yielded);
}
