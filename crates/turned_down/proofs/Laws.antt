-- What profiles turned down write, by the bytes that are stored.
use Rattle.std.proofs.Common.{ℕ, ◌≤◌, ◌<◌, ◌≡◌, ◌∙◌, sym, ap, refl, List, [], ◌∷◌, ◌++◌, length, append-nil, Bool, true, false}
use mathlib.Core.Bool.{◌&&◌}
use lib.Dec.{leb}
use lib.ListN.{drop}
use lib.Seq.{sets}
use borrow.Author.Tests.{le-leb, lt-leb}
use Rattle.wire.specs.Refusals.{turns_down}
use Rattle.engine_value.specs.Engine.{route_in}
use Rattle.engine_value.specs.declared.Engine.{Engine}
use Rattle.packets.specs.Packets.{packet_bytes, joined}
use Rattle.timing.specs.Changes.{when}
use Rattle.packets.specs.Packet.{Packet}
use Rattle.packet_writer.proofs.WriterLaws.{stored_front}
use Rattle.call_values.specs.Packets.{jp_turned_down, packets_refused}
use Rattle.call_values.proofs.Laws.{size_turned_down}
use Rattle.call.specs.Call.{packets_refused_in, with_packets}

module _ (e : Engine) (n : ℕ) (memory : List ℕ) where
  abbrev packet : Packet
  packet = jp_turned_down (route_in e) e.train.position

  none_lem : turns_down n ≡ false → packets_refused_in e n memory ≡ []
  unfolding packets_refused
  none_lem q = rw q

  no_room_lem : length memory < 29 → packets_refused_in e n memory ≡ []
  unfolding packets_refused
  no_room_lem h = go (turns_down n)
    where
      go : (b : Bool) → when (b && leb 29 (length memory)) packet ≡ []
      go true = rw (lt-leb 29 (length memory) h)
      go false = refl

  one_lem : turns_down n ≡ true → 29 ≤ length memory → packets_refused_in e n memory ≡ packet ∷ []
  unfolding packets_refused
  one_lem q h = rw (q, le-leb 29 (length memory) h)

  -- nothing is written
  pub unwritten : packets_refused_in e n memory ≡ []
      → (0 ≡ length (joined (packets_refused_in e n memory))) × (memory ≡ with_packets (packets_refused_in e n memory) memory)
  unwritten q = rw q (refl, refl)

  pub not_turned_down : turns_down n ≡ false
      → (0 ≡ length (joined (packets_refused_in e n memory))) × (memory ≡ with_packets (packets_refused_in e n memory) memory)
  not_turned_down q = unwritten (none_lem q)

  pub too_short : length memory < 29
      → (0 ≡ length (joined (packets_refused_in e n memory))) × (memory ≡ with_packets (packets_refused_in e n memory) memory)
  too_short h = unwritten (no_room_lem h)

  -- the packet is
  pub written : turns_down n ≡ true → 29 ≤ length memory
      → (29 ≡ length (joined (packets_refused_in e n memory))) × (sets memory 0 (packet_bytes packet) ≡ with_packets (packets_refused_in e n memory) memory)
  unfolding jp_turned_down
  written q h =
      let s = size_turned_down (route_in e) e.train.position in
      rw (one_lem q h, s) (refl, stored_front packet memory h ∙ ap (λ l. l ++ drop 29 memory) (sym (append-nil (packet_bytes packet))))
