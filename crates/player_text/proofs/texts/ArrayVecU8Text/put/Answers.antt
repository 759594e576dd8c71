use mathlib.Core.Path.{◌≡◌}
use native.Mathlib.Omega.{arith}
use Rattle.std.proofs.lemmas.Grind.{common_steps}
use Rattle.player_text.specs.View.{appended}
use Rattle.player_text.proofs.Laws.{appended_grows}
use Rattle.player_text.proofs.texts.ArrayVecU8Text.put.Goals as goal

pub returns : goal.returns
unfolding appended
returns g c =
    let e : c.write.new.self.items ≡ appended g.row.N c.args.self.now.items c.args.s.now = grind (arith, common_steps) in
    λ more. appended_grows _ _ _ c.args.s.now more e
