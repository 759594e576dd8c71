use Rattle.std.proofs.Common.{arith, ◌≡◌, ◌∙◌, ap, length}
use Rattle.packets.specs.Layouts.{kind_size}
use Rattle.packets.specs.View.{kind_view}
use Rattle.packets.proofs.PacketLaws.{told_64}
use Rattle.packets.proofs.PacketKind.size_in.Goals as goal

pub returns-in-AdhesionSystem : goal.returns-in-AdhesionSystem
returns-in-AdhesionSystem c =
    let least : c.size.result ≡ 18 = c.size.ensures ∙ ap (λ k. kind_size (kind_view k)) c.in-AdhesionSystem.is in
    let rows = ap length c.get.ensures in
    let whole = told_64 c.args.s.now in
    rw c.in-AdhesionSystem.is (omega (arith, c.rows_size.ensures.value, rows))
