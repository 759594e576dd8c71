-- What stands recorded: the packets at the front of a call's memory, as that call left it.
use Rattle.std.specs.Prelude.{List, [], ◌∷◌, ◌⊎◌, ◌≡◌, ℕ, take, get_or, eqb, if◌then◌else◌, Option, Some, None}
use Rattle.std.specs.List.{filter_map}
use Rattle.wire.specs.Judged.{Judged}
use Rattle.wire.specs.Judged.Judged.{refuse, accept}
use Rattle.packets.specs.Packets.{packet_of, cut_packets}
use Rattle.packets.specs.declared.TimingPoint.{TimingPoint}
use Rattle.adhesion.specs.declared.TemporaryConstraint.{TemporaryConstraint}
use Rattle.packets.specs.Packet.{Packet}
use Rattle.call_values.specs.Call.{Answer, bytes_written}
use Rattle.whole_list.specs.Calls.{Done}

-- "a packet 68 is read in its call's output memory as that call left it": the packets at the front of that memory
abbrev pub packets_after : Answer → List ℕ → List (List ℕ)
packets_after answer memory = cut_packets (take (bytes_written answer) memory)

abbrev pub recorded_by : Done → List (List ℕ)
recorded_by d = packets_after d.answer d.memory

abbrev pub number_in : List ℕ → ℕ
number_in p = get_or p 0 0

-- the packets 62 of a list, as the packet reader gives them
abbrev pub timing_point_in : Judged Packet → Option TimingPoint
timing_point_in (refuse n) = None
timing_point_in (accept (Packet.TimingPoint p)) = Some p
timing_point_in (accept (Packet.JpReceived p)) = None
timing_point_in (accept (Packet.AtoStatus p)) = None
timing_point_in (accept (Packet.TractionBrake p)) = None
timing_point_in (accept (Packet.AdhesionSystem h rows)) = None

unfoldable pub timing_points : List (List ℕ) → List TimingPoint
timing_points l = filter_map (λ packet. timing_point_in (packet_of packet)) l

-- the rows of each packet 64 of a list, as the packet reader gives them
abbrev pub rows_in : Judged Packet → Option (List TemporaryConstraint)
rows_in (refuse n) = None
rows_in (accept (Packet.TimingPoint p)) = None
rows_in (accept (Packet.JpReceived p)) = None
rows_in (accept (Packet.AtoStatus p)) = None
rows_in (accept (Packet.TractionBrake p)) = None
rows_in (accept (Packet.AdhesionSystem h rows)) = Some rows

unfoldable pub rows_told : List (List ℕ) → List (List TemporaryConstraint)
rows_told l = filter_map (λ packet. rows_in (packet_of packet)) l

-- the last packet 68 of a list, else the one before it
unfoldable pub newest : Option (List ℕ) → List (List ℕ) → Option (List ℕ)
newest o [] = o
newest o (p ∷ l) = newest (if eqb (number_in p) 68 then Some p else o) l

-- the last packet 68 in the calls' memories
unfoldable pub last_status : Option (List ℕ) → List Done → Option (List ℕ)
last_status o [] = o
last_status o (d ∷ l) = last_status (newest o (recorded_by d)) l

abbrev pub In : {A : Type 0} → A → List A → Type 0
In x [] = ⊥
In x (y ∷ l) = (x ≡ y) ⊎ In x l
