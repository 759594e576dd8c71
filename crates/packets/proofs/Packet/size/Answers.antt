use Rattle.std.proofs.Common.{arith, ◌≡◌, ◌∙◌, ap}
use Rattle.adhesion.specs.View.{constraints_view}
use Rattle.packets.specs.Layouts.{kind_size}
use Rattle.packets.specs.View.{packet_view, packet_values}
use Rattle.packets.proofs.PacketLaws.{size_64}
use Rattle.packets.proofs.Packet.size.Goals as goal

pub returns-in-AdhesionSystem : goal.returns-in-AdhesionSystem
returns-in-AdhesionSystem c =
    let x = c.in-AdhesionSystem.x in
    let kind = c.kind.ensures ∙ ap (λ p. (packet_values (packet_view p)).kind) c.in-AdhesionSystem.is in
    let least : c.size-size.result ≡ 18 = c.size-size.ensures ∙ ap kind_size kind in
    let whole = size_64 x.header (constraints_view x.constraints) in
    rw c.in-AdhesionSystem.is (omega (arith, c.rows_size.ensures.value))
