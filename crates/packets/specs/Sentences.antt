-- 02, Q-2: what is said of the word of packet 68, of the packet's bytes; Q-7: what is said of the rows of packet 64.
use Rattle.std.specs.Prelude.{ℕ, ◌≡◌, ◌+◌, ◌*◌, ◌≤◌, ◌<◌, List, ◌∷◌, ◌++◌, length}
use mathlib.Core.Logic.{◌↔◌}
use Rattle.wire.specs.Numbers.{bytes_of, Bytes}
use Rattle.wire.specs.Lists.{All}
use Rattle.wire.specs.Judged.Judged.{refuse, accept}
use Rattle.adhesion.specs.declared.TemporaryConstraint.{TemporaryConstraint}
use Rattle.adhesion.specs.Ranges.{InRange, InOrder}
use Rattle.layout.specs.Layout.{bytes}
use Rattle.status_word.specs.Word.{status_word}
use Rattle.status_word.specs.View.{conditions_view}
use Rattle.packets.specs.Layouts.{header_layout}
use Rattle.packets.specs.View.{header_view}
use Rattle.packets.specs.Packets.{packet_bytes, packet_of}
use Rattle.packets.specs.declared.Header.{Header}
use Rattle.packets.specs.declared.AtoStatus.{AtoStatus}
use Rattle.packets.specs.Packet.{Packet}

-- a header that a call may write
pub record HeaderInRange (h : Header) : Type 0 where
  pub nidc : h.nidc ≤ 1023
  pub nidsp : h.nidsp < 4294967296
  pub offset : h.offset ≤ 16777215
  pub speed : h.speed < 65536
  pub operational : h.operational < 4294967296

pub record Sentences : Type 0 where
  -- "Any count up to 31 is read back to the same rows, by one proof over the count": from the packet's bytes, and the bytes from the rows that were read
  pub any_count : (h : Header) (rows : List TemporaryConstraint) → HeaderInRange h → length rows ≤ 31 → All InRange rows → All InOrder rows
      → packet_of (packet_bytes (Packet.AdhesionSystem h rows)) ≡ accept (Packet.AdhesionSystem h rows)
  pub any_bytes : (h : Header) (rows : List TemporaryConstraint) (s : List ℕ) → Bytes s → packet_of s ≡ accept (Packet.AdhesionSystem h rows)
      → packet_bytes (Packet.AdhesionSystem h rows) ≡ s
  -- and the reader takes no others
  pub no_others : (h : Header) (rows : List TemporaryConstraint) (s : List ℕ) → Bytes s → packet_of s ≡ accept (Packet.AdhesionSystem h rows)
      → HeaderInRange h × (length rows ≤ 31) × All InRange rows × All InOrder rows
  -- "packet 64 has 18 bytes and 16 a row": another length gets 17, also for a count over 31, and so does one below 18, which has no count
  pub seventeen : (header : List ℕ) (count : ℕ) (rest : List ℕ) → length header ≡ 16
      → (packet_of (64 ∷ header ++ (count ∷ rest)) ≡ refuse 17) ↔ (18 + length rest ≡ 18 + 16 * count → ⊥)
  pub below_18 : (rest : List ℕ) → 1 + length rest < 18 → packet_of (64 ∷ rest) ≡ refuse 17
  -- "the sixteen bits of packet 68", behind its header, are the sum's
  pub sixteen_bits : (p : AtoStatus)
      → packet_bytes (Packet.AtoStatus p) ≡ 68 ∷ bytes header_layout (header_view p.header) ++ bytes_of 2 (status_word p.state (conditions_view p.conditions))
