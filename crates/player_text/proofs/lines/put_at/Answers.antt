use mathlib.Core.List.{[]}
use Rattle.player_text.proofs.Laws.{put_grown}
use Rattle.player_text.proofs.lines.put_at.Goals as goal

pub returns : goal.returns
returns c =
    let (same, put) = put_grown _ (c.put_lines.ensures []) in
    record { same_reference = same; put = put }
