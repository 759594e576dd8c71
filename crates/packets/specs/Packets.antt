-- Document 01, "Packets": bytes, size and ranges of a packet; the reader and the writer of one packet.
use Rattle.std.specs.Prelude.{ℕ, zero, suc, ◌+◌, min, List, [], ◌∷◌, ◌++◌, Bool, not, ◌&&◌, length, get_or, take, drop, eqb, ltb, if◌then◌else◌}
use Rattle.wire.specs.Judged.{Judged, row, ◌>>=◌, ◌>>◌}
use Rattle.wire.specs.Judged.Judged.{refuse, accept}
use Rattle.layout.specs.Layout.{bytes, values_at, fits}
use Rattle.layout.specs.Body.{body_bytes, body_size, body_at, body_fits}
use Rattle.packets.specs.Layouts.{PacketKind, header_layout, content_at, kinds}
use Rattle.packets.specs.View.{PacketValues, packet_values}
use Rattle.packets.specs.Packet.{Packet}

-- ---- bytes, size, ranges

-- "Number (1), header .., then content."
unfoldable pub value_bytes : PacketValues → List ℕ
value_bytes v = v.kind.number ∷ bytes header_layout v.header ++ body_bytes v.kind.content v.content

abbrev pub packet_bytes : Packet → List ℕ
packet_bytes p = value_bytes (packet_values p)

-- packets one after the other
abbrev pub joined : List Packet → List ℕ
joined [] = []
joined (p ∷ ps) = packet_bytes p ++ joined ps

-- "for 62, 65, 68 .. 25, 29, 19 bytes"; 02: "packet 61 has 22 bytes", "packet 64 has 18 bytes and 16 a row"
abbrev pub values_size : PacketValues → ℕ
values_size v = content_at + body_size v.kind.content v.content

abbrev pub size_of : Packet → ℕ
size_of p = values_size (packet_values p)

abbrev pub values_fit : PacketValues → Bool
values_fit v = fits header_layout v.header && body_fits v.kind.content v.content && v.kind.between v.content

abbrev pub packet_fits : Packet → Bool
packet_fits p = values_fit (packet_values p)

-- ---- the reader of one packet

-- "18 another number"
abbrev pub kind_from : List PacketKind → ℕ → Judged PacketKind
kind_from [] n = refuse 18
kind_from (k ∷ ks) n = if eqb n k.number then accept k else kind_from ks n

-- the packet of a kind, with the values that stand in its bytes
abbrev pub packet_at : PacketKind → List ℕ → Packet
packet_at k s = k.packet (values_at header_layout 1 s) (body_at k.content content_at s)

-- "17 .. for 62, 65, 68 not 25, 29, 19 bytes", for 61 not 22, for 64 not 18 and 16 a row; ".. 19 value out of range", 02, Q-7: "a bad count or row gets
-- 19": p has the values that stand in n bytes
unfoldable pub judged_packet : ℕ → Packet → Judged Packet
judged_packet n p = do
  row 17 (not (eqb n (size_of p)))
  row 19 (not (packet_fits p))
  accept p

-- "The reader takes one packet exactly." "17 empty"
unfoldable pub packet_of : List ℕ → Judged Packet
packet_of s = do
  row 17 (eqb (length s) 0)
  k ← kind_from kinds (get_or s 0 0)
  judged_packet (length s) (packet_at k s)

-- ---- the writer of one packet

-- "(the writer of one packet: 19, then 16)", "16 shorter than"; "the packet writer returns its byte count"
unfoldable pub written_count : Packet → List ℕ → Judged ℕ
written_count p memory = do
  row 19 (not (packet_fits p))
  row 16 (ltb (length memory) (size_of p))
  accept (size_of p)

-- "Every refusal .. changes neither engine nor memory"; "keeps the bytes behind"
abbrev pub memory_after : Judged ℕ → Packet → List ℕ → List ℕ
memory_after (refuse n) p memory = memory
memory_after (accept n) p memory = packet_bytes p ++ drop n memory

unfoldable pub written_memory : Packet → List ℕ → List ℕ
written_memory p memory = memory_after (written_count p memory) p memory

-- ---- packets in memory

-- the bytes of the packet in front, by its number and what stands behind it; 0 where no packet has that number
abbrev pub size_for : Judged PacketKind → List ℕ → ℕ
size_for (refuse n) s = 0
size_for (accept k) s = content_at + body_size k.content (body_at k.content content_at s)

abbrev pub size_at : List ℕ → ℕ
size_at s = size_for (kind_from kinds (get_or s 0 0)) s

-- the bytes of the piece in front: a packet or, where no packet has the number, all that are left
abbrev pub front_size : List ℕ → ℕ
front_size s = if eqb (size_at s) 0 then length s else min (size_at s) (length s)

-- bytes cut into pieces, at most n of them
unfoldable pub cut : ℕ → List ℕ → List (List ℕ)
cut zero l = []
cut (suc n) [] = []
cut (suc n) (b ∷ l) = take (front_size (b ∷ l)) (b ∷ l) ∷ cut n (drop (front_size (b ∷ l)) (b ∷ l))

unfoldable pub cut_packets : List ℕ → List (List ℕ)
cut_packets l = cut (length l) l
