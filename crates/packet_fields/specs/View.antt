-- What the packet reader answers, as one struct: a field that the kind does not have is 0.
use Rattle.std.specs.Prelude.{ℕ, List, [], ◌∷◌, ◌++◌, Bool, true, false, get_or, length, replicate}
use Rattle.adhesion.specs.Constraints.{blank_constraint}
use Rattle.adhesion.specs.declared.TemporaryConstraint.{TemporaryConstraint}
use Rattle.wire.specs.Judged.{Judged}
use Rattle.wire.specs.Judged.Judged.{refuse, accept}
use Rattle.packets.specs.declared.Header.{Header}
use Rattle.packets.specs.Packet.{Packet}
use Rattle.packets.specs.View.{packet_values}
use Rattle.status_word.specs.View.{conditions_number}
use Rattle.packets.specs.Packets.{size_of}
use Rattle.packet_fields.specs.declared.PacketFields.{PacketFields}

abbrev no_header : Header
no_header = record { nidc = 0; nidsp = 0; offset = 0; speed = 0; operational = 0 }

-- accepted, number, kind and size; header; then the values of the contents by place, 0 behind the last one given
abbrev fields : Bool → ℕ → ℕ → ℕ → Header → List ℕ → PacketFields
fields accepted number kind size h v = record {
  accepted = accepted;
  number = number;
  kind = kind;
  size = size;
  header = h;
  nidc = get_or v 0 0;
  nidtp = get_or v 1 0;
  q_eoj_reached = get_or v 2 0;
  alignment = get_or v 3 0;
  status = get_or v 4 0;
  stopping = get_or v 5 0;
  atots = get_or v 6 0;
  date = get_or v 7 0;
  seconds = get_or v 8 0;
  counter = get_or v 9 0;
  state = get_or v 10 0;
  conditions = get_or v 11 0;
  m_ato_trabrrq = get_or v 12 0;
  m_ato_locobrrq = get_or v 13 0;
  q_ato_suptb = get_or v 14 0;
  m_ato_rtbrq = get_or v 15 0;
  constraint_count = get_or v 16 0;
}

-- a packet that was read, its content still 0
abbrev pub begun_view : ℕ → ℕ → Header → PacketFields
begun_view kind size h = fields true 0 kind size h []

-- "The packet reader returns the packet's fields"
abbrev read : Packet → Header → List ℕ → PacketFields
read p = fields true 0 (packet_values p).kind.number (size_of p)

abbrev pub packet_fields_view : Packet → PacketFields
packet_fields_view (Packet.TimingPoint p) =
    read (Packet.TimingPoint p) p.header (p.nidc ∷ p.nidtp ∷ p.q_eoj_reached ∷ p.alignment ∷ p.status ∷ p.stopping ∷ [])
packet_fields_view (Packet.JpReceived p) =
    read (Packet.JpReceived p) p.header (p.nidc ∷ 0 ∷ 0 ∷ 0 ∷ p.status ∷ 0 ∷ p.atots ∷ p.date ∷ p.seconds ∷ p.counter ∷ [])
packet_fields_view (Packet.AtoStatus p) =
    read (Packet.AtoStatus p) p.header (0 ∷ 0 ∷ 0 ∷ 0 ∷ 0 ∷ 0 ∷ 0 ∷ 0 ∷ 0 ∷ 0 ∷ p.state ∷ conditions_number p.conditions ∷ [])
packet_fields_view (Packet.TractionBrake p) =
    let r = p.requested in
    read (Packet.TractionBrake p) p.header
    (0 ∷ 0 ∷ 0 ∷ 0 ∷ 0 ∷ 0 ∷ 0 ∷ 0 ∷ 0 ∷ 0 ∷ 0 ∷ 0 ∷ r.m_ato_trabrrq ∷ r.m_ato_locobrrq ∷ r.q_ato_suptb ∷ r.m_ato_rtbrq ∷ [])
packet_fields_view (Packet.AdhesionSystem h rows) = read (Packet.AdhesionSystem h rows) h (replicate 16 0 ++ (length rows ∷ []))

-- "Every refusal returns the number only"
abbrev pub refused_view : ℕ → PacketFields
refused_view n = fields false n 0 0 no_header []

abbrev pub fields_view : Judged Packet → PacketFields
fields_view (accept p) = packet_fields_view p
fields_view (refuse n) = refused_view n

-- 02, Q-7: row k of a packet 64; blank from its count on, of another packet, and where the reader refuses
abbrev pub row_in : Packet → ℕ → TemporaryConstraint
row_in (Packet.TimingPoint p) k = blank_constraint
row_in (Packet.JpReceived p) k = blank_constraint
row_in (Packet.AtoStatus p) k = blank_constraint
row_in (Packet.TractionBrake p) k = blank_constraint
row_in (Packet.AdhesionSystem h rows) k = get_or rows k blank_constraint

abbrev pub row_view : Judged Packet → ℕ → TemporaryConstraint
row_view (accept p) k = row_in p k
row_view (refuse n) k = blank_constraint
