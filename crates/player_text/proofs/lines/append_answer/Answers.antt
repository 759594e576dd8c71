use Rattle.player_text.proofs.Laws.{appended_grown}
use Rattle.player_text.proofs.lines.append_answer.Goals as goal

pub returns : goal.returns
returns g c = appended_grown _ _ _ _ c.put_lines.ensures
