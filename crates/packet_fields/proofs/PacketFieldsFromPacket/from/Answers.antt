use Prim.Native.Nat.{◌%◌}
use mathlib.Core.Path.{◌≡◌, refl}
use native.Mathlib.Omega.{arith}
use Rattle.status_word.specs.View.{conditions_number}
use Rattle.status_word.proofs.ConditionLaws.{number-most}
use Rattle.packets.proofs.ConditionLaws.{fits_zeros}
use Rattle.packet_fields.proofs.PacketFieldsFromPacket.from.Goals as goal

pub returns-in-AtoStatus : goal.returns-in-AtoStatus
returns-in-AtoStatus c fits =
    let p = c.in-AtoStatus.x in
    let most = number-most p.conditions (fits_zeros p (rw c.in-AtoStatus.is at fits)) in
    let number : conditions_number p.conditions % 65536 ≡ conditions_number p.conditions = omega arith in
    rw (c.begun-begun.ensures, c.number.ensures, number, c.in-AtoStatus.is)

pub returns-in-AdhesionSystem : goal.returns-in-AdhesionSystem
returns-in-AdhesionSystem c fits = rw (c.begun-begun.ensures, c.count.ensures, c.in-AdhesionSystem.is) refl
