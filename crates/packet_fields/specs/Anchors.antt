-- "The packet reader returns the packet's fields": each value of a packet in the field of its name, worked out by hand from its bytes.
use Rattle.std.specs.Prelude.{ℕ, ◌≡◌, true, false, List, [], ◌∷◌, ◌++◌, map, take, replicate}
use Rattle.adhesion.specs.Anchors.{north, south}
use Rattle.packets.specs.Packet.{Packet}
use Rattle.packets.specs.Packets.{packet_of}
use Rattle.packets.specs.Anchors.{header, timing_point_bytes, jp_received_bytes, ato_status_bytes, traction_brake_bytes, two_rows_bytes}
use Rattle.adhesion.specs.Constraints.{blank_constraint}
use Rattle.packet_fields.specs.View.{packet_fields_view, fields_view, row_view}
use Rattle.packet_fields.specs.declared.PacketFields.{PacketFields}

abbrev pub fields_of : List ℕ → PacketFields
fields_of s = fields_view (packet_of s)

-- what the content of some packet has
abbrev pub values_in : PacketFields → List ℕ
values_in f =
    f.nidc ∷ f.nidtp ∷ f.q_eoj_reached ∷ f.alignment ∷ f.status ∷ f.stopping
    ∷ f.atots ∷ f.date ∷ f.seconds ∷ f.counter ∷ f.state ∷ f.conditions
    ∷ f.m_ato_trabrrq ∷ f.m_ato_locobrrq ∷ f.q_ato_suptb ∷ f.m_ato_rtbrq ∷ f.constraint_count ∷ []

abbrev pub jp_with : ℕ → Packet
jp_with status = Packet.JpReceived (record { header = header; nidc = 1; atots = 2; date = 3; seconds = 4; counter = 5; status = status })

-- a packet of each kind
abbrev pub five : List (List ℕ)
five = timing_point_bytes 0x0D 0x55 ∷ jp_received_bytes ∷ ato_status_bytes ∷ traction_brake_bytes ∷ two_rows_bytes ∷ []

-- empty; no such packet; alignment 3
abbrev pub refused : List (List ℕ)
refused = [] ∷ (0 ∷ []) ∷ timing_point_bytes 0x06 0x00 ∷ []

pub record Anchors : Type 0 where
  pub accepted : map (λ s. (fields_of s).accepted) five ≡ true ∷ true ∷ true ∷ true ∷ true ∷ []
  pub no_number : map (λ s. (fields_of s).number) five ≡ 0 ∷ 0 ∷ 0 ∷ 0 ∷ 0 ∷ []
  pub kinds : map (λ s. (fields_of s).kind) five ≡ 62 ∷ 65 ∷ 68 ∷ 61 ∷ 64 ∷ []
  pub sizes : map (λ s. (fields_of s).size) five ≡ 25 ∷ 29 ∷ 19 ∷ 22 ∷ 50 ∷ []
  pub headers : map (λ s. (fields_of s).header) five ≡ header ∷ header ∷ header ∷ header ∷ header ∷ []
  -- in the order of `values_in`; a field that the kind does not have is 0
  pub values : map (λ s. values_in (fields_of s)) five
      ≡ (0x02A5 ∷ 0xF0E1D2C3 ∷ 1 ∷ 2 ∷ 1 ∷ 0x55 ∷ 0 ∷ 0 ∷ 0 ∷ 0 ∷ 0 ∷ 0 ∷ 0 ∷ 0 ∷ 0 ∷ 0 ∷ 0 ∷ [])
      ∷ (1024 ∷ 0 ∷ 0 ∷ 0 ∷ 0 ∷ 0 ∷ 0x3A5B ∷ 0x7C1D ∷ 0x89ABCDEF ∷ 0xFE ∷ 0 ∷ 0 ∷ 0 ∷ 0 ∷ 0 ∷ 0 ∷ 0 ∷ [])
      ∷ (0 ∷ 0 ∷ 0 ∷ 0 ∷ 0 ∷ 0 ∷ 0 ∷ 0 ∷ 0 ∷ 0 ∷ 5 ∷ 0x1A6 ∷ 0 ∷ 0 ∷ 0 ∷ 0 ∷ 0 ∷ [])
      ∷ (0 ∷ 0 ∷ 0 ∷ 0 ∷ 0 ∷ 0 ∷ 0 ∷ 0 ∷ 0 ∷ 0 ∷ 0 ∷ 0 ∷ 0x2B ∷ 0x4C ∷ 0x6D ∷ 0x8E5F ∷ 0 ∷ [])
      ∷ (0 ∷ 0 ∷ 0 ∷ 0 ∷ 0 ∷ 0 ∷ 0 ∷ 0 ∷ 0 ∷ 0 ∷ 0 ∷ 0 ∷ 0 ∷ 0 ∷ 0 ∷ 0 ∷ 2 ∷ [])
      ∷ []
  -- 02, Q-7: row k of a packet 64; blank from its count on, of another packet, and where the reader refuses (a byte too much)
  pub rows : map (λ k. row_view (packet_of two_rows_bytes) k) (0 ∷ 1 ∷ 2 ∷ 255 ∷ 256 ∷ []) ≡ north ∷ south ∷ blank_constraint ∷ blank_constraint ∷ blank_constraint ∷ []
  pub no_rows : map (λ s. row_view (packet_of s) 0) (take 4 five ++ ((two_rows_bytes ++ (0 ∷ [])) ∷ [] ∷ [])) ≡ replicate 6 blank_constraint
  -- the status of a 65, as it is
  pub status : (packet_fields_view (jp_with 6)).status ≡ 6
  -- "Every refusal returns the number only"
  pub not_accepted : map (λ s. (fields_of s).accepted) refused ≡ false ∷ false ∷ false ∷ []
  pub numbers : map (λ s. (fields_of s).number) refused ≡ 17 ∷ 18 ∷ 19 ∷ []
  pub number_only : fields_of (0 ∷ []) ≡ record {
    accepted = false;
    number = 18;
    kind = 0;
    size = 0;
    header = record { nidc = 0; nidsp = 0; offset = 0; speed = 0; operational = 0 };
    nidc = 0;
    nidtp = 0;
    q_eoj_reached = 0;
    alignment = 0;
    status = 0;
    stopping = 0;
    atots = 0;
    date = 0;
    seconds = 0;
    counter = 0;
    state = 0;
    conditions = 0;
    m_ato_trabrrq = 0;
    m_ato_locobrrq = 0;
    q_ato_suptb = 0;
    m_ato_rtbrq = 0;
    constraint_count = 0;
  }
