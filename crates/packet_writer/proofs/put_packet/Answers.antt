use Rattle.std.proofs.Common.{◌≡◌, take, drop, rules}
use Rattle.std.proofs.lemmas.List.{take_min, drop_min}
use Rattle.packets.specs.Packets.{packet_bytes}
use Rattle.packets.specs.View.{packet_view}
use Rattle.packet_writer.proofs.Stores.{sets_part}
use Rattle.packet_writer.proofs.put_packet.Goals as goal

pub returns : goal.returns
returns c =
    let l = c.args.out.now in
    let before : c.split_at_mut-rest.result.0.now ≡ take c.args.at l = search (rules, take_min, drop_min) in
    let rest : c.split_at_mut-rest.result.1.now ≡ drop c.args.at l = search (rules, take_min, drop_min) in
    rw (before, c.put_front.ensures, rest) (sets_part c.args.at l (packet_bytes (packet_view c.args.p)))
