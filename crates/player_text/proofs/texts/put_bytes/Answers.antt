use native.Mathlib.Numerals.{add-one}
use lib.Seq.{take-suc}
use Rattle.player_text.proofs.Laws.{put_then}
use Rattle.player_text.proofs.texts.put_bytes.Goals as goal

pub loop-b-preserved : goal.loop-b-preserved
loop-b-preserved c =
    let l = c.loop-b in
    rw (add-one, take-suc c.args.s.now l.b-index 0 c.loop-b-test.true) (put_then _ _ l.invariant c.put_byte-next.ensures)
