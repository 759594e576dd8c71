-- Documents 01, "Packets", and 02, Q-1, Q-2, Q-4 and Q-7: what 61, 62, 64, 65 and 68 have behind their number, and what lies between the fields.
-- "Ranges: NID_C to 1,023 (content of 65: 1,024); offset to 16,777,215; NID_ATOTS to 16,384; date to 32,767; alignment 0-2;
-- status 0-8 in 62, ..; stopping data to 127, 0 unless status 1; state 0-7; spare bits 0. Other fields are free."
-- 02, Q-4: "The reader now takes status 0 or 1 in packet 65"
use Rattle.std.specs.Prelude.{ℕ, ◌+◌, List, [], ◌∷◌, Bool, true, not, ◌||◌, eqb}
use Rattle.layout.specs.Layout.{Layout, Values, part, field, listed, size}
use Rattle.layout.specs.Body.{Body, BodyValues, least_size}
use Rattle.layout.specs.Body.Body.{fields}
use Rattle.layout.specs.Layout.Content.{free, up_to, weighted}
use Rattle.wire.specs.Lists.{any}
use Rattle.adhesion.specs.Constraints.{row_layout, constraints_body, constraints_of, reversed}
use Rattle.status_word.specs.Word.{condition_parts, conditions_of}
use Rattle.packets.specs.declared.Header.{Header}
use Rattle.packets.specs.declared.TimingPoint.{TimingPoint}
use Rattle.packets.specs.declared.JpReceived.{JpReceived}
use Rattle.packets.specs.declared.AtoStatus.{AtoStatus}
use Rattle.packets.specs.declared.Requested.{Requested}
use Rattle.packets.specs.declared.TractionBrake.{TractionBrake}
use Rattle.packets.specs.Packet.{Packet}

-- "header: NID_C (2), NID_SP (4), offset (4), speed (2), NID_OPERATIONAL (4; ..)"
abbrev pub header_layout : Layout
header_layout =
    field "NID_C" 2 (up_to 1023)
    ∷ field "NID_SP" 4 free
    ∷ field "offset" 4 (up_to 16777215)
    ∷ field "speed" 2 free
    ∷ field "NID_OPERATIONAL" 4 free
    ∷ []

abbrev pub header_of : Values header_layout → Header
header_of v =
    let (nidc, (nidsp, (offset, (speed, (operational, _))))) = v in
    record { nidc = nidc; nidsp = nidsp; offset = offset; speed = speed; operational = operational }

-- "Number (1), header .., then content": a kind of packet has a number, the body that is its content, what must hold between
-- the values of the content, and the packet that its values make.
pub record PacketKind : Type 0 where
  pub number : ℕ
  pub content : Body
  pub between : BodyValues content → Bool
  pub packet : Values header_layout → BodyValues content → Packet

abbrev pub content_at : ℕ
content_at = 1 + size header_layout

-- the bytes of a packet of a kind, but for its rows
abbrev pub kind_size : PacketKind → ℕ
kind_size k = content_at + least_size k.content

-- "62: point's NID_C (2), NID_TP (4), info: Q_EOJ_REACHED .. + 2 × alignment + 8 × status .., stopping data (1; 0 unless status 1)."
abbrev pub content62 : Layout
content62 =
    field "NID_C" 2 (up_to 1023)
    ∷ field "NID_TP" 4 free
    ∷ field "info" 1 (weighted 1 (part 2 2 ∷ part 8 8 ∷ []))
    ∷ field "stopping data" 1 (up_to 127)
    ∷ []

-- "stopping data .. 0 unless status 1"
abbrev pub stopping_allowed : Values content62 → Bool
stopping_allowed v = let (_, (_, ((_, (_, (status, _))), (stopping, _)))) = v in eqb status 1 || eqb stopping 0

abbrev pub timing_point_of : Values header_layout → Values content62 → TimingPoint
timing_point_of h v =
    let (nidc, (nidtp, ((reached, (alignment, (status, _))), (stopping, _)))) = v in
    record { header = header_of h; nidc = nidc; nidtp = nidtp; q_eoj_reached = reached; alignment = alignment; status = status; stopping = stopping }

abbrev pub kind62 : PacketKind
kind62 = record { number = 62; content = fields content62; between = stopping_allowed; packet = λ h v. Packet.TimingPoint (timing_point_of h v) }

-- of packet 65: "NID_C (1,024 unless the position is known)"
abbrev pub unknown_nidc : ℕ
unknown_nidc = 1024

-- "65 ..: NID_C (..), NID_ATOTS, date, seconds, counter, status .." Their widths are SUBSET-140's, Table 8: 2, 2, 2, 4, 1, 1.
abbrev pub content65 : Layout
content65 =
    field "NID_C" 2 (up_to unknown_nidc)
    ∷ field "NID_ATOTS" 2 (up_to 16384)
    ∷ field "date" 2 (up_to 32767)
    ∷ field "seconds" 4 free
    ∷ field "counter" 1 free
    ∷ field "status" 1 (up_to 1)
    ∷ []

abbrev pub jp_received_of : Values header_layout → Values content65 → JpReceived
jp_received_of h v =
    let (nidc, (atots, (date, (seconds, (counter, (status, _)))))) = v in
    record { header = header_of h; nidc = nidc; atots = atots; date = date; seconds = seconds; counter = counter; status = status }

abbrev pub kind65 : PacketKind
kind65 = record { number = 65; content = fields content65; between = λ v. true; packet = λ h v. Packet.JpReceived (jp_received_of h v) }

-- "68: state + 16 × conditions (2)."; by 02, Q-2, each condition by its weight
abbrev pub content68 : Layout
content68 = field "state and conditions" 2 (weighted 7 condition_parts) ∷ []

abbrev pub ato_status_of : Values header_layout → Values content68 → AtoStatus
ato_status_of h v =
    let ((state, conditions), _) = v in
    record { header = header_of h; state = state; conditions = conditions_of (listed condition_parts conditions) }

abbrev pub kind68 : PacketKind
kind68 = record { number = 68; content = fields content68; between = λ v. true; packet = λ h v. Packet.AtoStatus (ato_status_of h v) }

-- 02: "the five bytes of packet 61 as SUBSET-140 lists them", Table 4: UINT8, UINT8, BITSET8, INT16. "For the reader packet 61 has 22 bytes; its
-- content is free"
abbrev pub content61 : Layout
content61 =
    field "M_ATO_TraBrRq" 1 free
    ∷ field "M_ATO_LocoBrRq" 1 free
    ∷ field "Q_ATO_SupTB" 1 free
    ∷ field "M_ATO_RTBRq" 2 free
    ∷ []

abbrev pub requested_of : Values content61 → Requested
requested_of v =
    let (trabrrq, (locobrrq, (suptb, (rtbrq, _)))) = v in
    record { m_ato_trabrrq = trabrrq; m_ato_locobrrq = locobrrq; q_ato_suptb = suptb; m_ato_rtbrq = rtbrq }

abbrev pub traction_brake_of : Values header_layout → Values content61 → TractionBrake
traction_brake_of h v = record { header = header_of h; requested = requested_of v }

abbrev pub kind61 : PacketKind
kind61 = record { number = 61; content = fields content61; between = λ v. true; packet = λ h v. Packet.TractionBrake (traction_brake_of h v) }

-- 02, Q-7: "packet 64 has 18 bytes and 16 a row": its content is the count and the rows
abbrev pub adhesion_system_of : Values header_layout → List (Values row_layout) → Packet
adhesion_system_of h vs = Packet.AdhesionSystem (header_of h) (constraints_of vs)

-- "Start may not exceed end": none of them is reversed
abbrev pub none_reversed : List (Values row_layout) → Bool
none_reversed vs = not (any reversed (constraints_of vs))

abbrev pub kind64 : PacketKind
kind64 = record { number = 64; content = constraints_body; between = none_reversed; packet = adhesion_system_of }

abbrev pub kinds : List PacketKind
kinds = kind62 ∷ kind65 ∷ kind68 ∷ kind61 ∷ kind64 ∷ []
