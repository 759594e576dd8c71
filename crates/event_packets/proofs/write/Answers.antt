use Rattle.std.proofs.Common.{◌≡◌, ◌∙◌, ap, rules}
use Rattle.std.specs.Prelude.{option_map}
use lib.Seq.{sets}
use Rattle.engine_value.specs.Engine.{route_in}
use Rattle.packets.specs.Packets.{joined}
use Rattle.packets.specs.View.{packet_view}
use Rattle.call_values.specs.Packets.{traction_brake, adhesion_system, ato_status}
use Rattle.event_packets.specs.View.{jp_received_view, told_hold, revoked_packet, packets_view}
use Rattle.adhesion.specs.View.{constraints_view}
use Rattle.event_packets.proofs.Stored.{changed, put_then, put_all, in_kinds}
use Rattle.event_packets.proofs.write.Goals as goal

pub returns : goal.returns
returns c =
    let e = c.args.e.now in
    let w = c.args.w.now in
    let received : option_map packet_view c.map-received.result ≡ option_map (jp_received_view e) w.received = search rules in
    let revoked : option_map packet_view c.map-revoked.result ≡ option_map (revoked_packet e) (told_hold w.told) = search rules in
    let first : option_map packet_view c.map-first.result ≡ option_map (changed e) w.changes.first = search rules in
    let last : option_map packet_view c.map-last.result ≡ option_map (changed e) w.changes.last = search rules in
    let held : option_map packet_view c.map-held.result ≡ option_map (changed e) w.changes.held = search rules in
    let requested : option_map packet_view c.map-requested.result ≡ option_map (traction_brake (route_in e) e.train.position) w.requested = search rules in
    let constraints : option_map packet_view c.map-constraints.result ≡ option_map (adhesion_system (route_in e) e.train.position) (option_map constraints_view w.constraints) = search rules in
    let status : option_map packet_view c.map-status.result ≡ option_map (ato_status (route_in e) e.train.position e.control.state) w.status = search rules in
    let whole : c.put-8.new.self.memory.now ≡ sets c.args.out.now 0 (joined (packets_view e w)) =
    put_all _ _ _ _
    (put_then _ _ _ _ _ _ _ _ (put_then _ _ _ _ _ _ _ _ (put_then _ _ _ _ _ _ _ _ (put_then _ _ _ _ _ _ _ _ (put_then _ _ _ _ _ _ _ _ (put_then _ _ _ _ _ _ _ _ (put_then _ _ _ _ _ _ _ _ (put_then _ _ _ _ _ _ _ _ (put_then _ _ _ _ _ _ _ _
    c.put.ensures.put c.put-2.ensures.put) c.put_told.ensures.put) c.put-3.ensures.put) c.put_passed.ensures.put) c.put-4.ensures.put) c.put-5.ensures.put) c.put-6.ensures.put) c.put-7.ensures.put) c.put-8.ensures.put)
    ∙ ap (λ ps. sets c.args.out.now 0 (joined ps)) (rw (received, revoked, first, last, held, requested, constraints, status) (in_kinds e w))
    in
    search (rules, whole)
