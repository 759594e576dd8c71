use Rattle.player_text.proofs.Laws.{put_grows-stored, put_grows-behind}
use Rattle.player_text.proofs.texts.CursorText.put.Goals as goal

pub returns : goal.returns
returns c =
    let s = c.args.s.now in
    let p = c.put_bytes-self.ensures in
    λ more. rw (put_grows-stored s more p, put_grows-behind s more p)
