use Rattle.std.proofs.Common.{◌≡◌, ◌∙◌, ap₂}
use Rattle.engine_value.proofs.Filled.{front_copied}
use Rattle.journey.proofs.journey_of.Goals as goal

pub returns : goal.returns
returns c =
    ap₂ (λ n p. record { head = c.args.head; names = n; points = p })
    (rw (c.copy_from_slice.ensures.after, c.as_slice.ensures.value, c.len-name_count.ensures.value)
    (front_copied 40 c.args.listed.now.items _ (rw c.len-name_count.ensures.value at c.len-name_count.ensures.fits)))
    (rw (c.copy_from_slice-2.ensures.after, c.as_slice-2.ensures.value, c.len-point_count.ensures.value)
    (front_copied 64 c.args.visited.now.items _ (rw c.len-point_count.ensures.value at c.len-point_count.ensures.fits)))
