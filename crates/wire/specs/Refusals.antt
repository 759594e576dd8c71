-- Document 01, the table of numbers: the number of each row.
use Rattle.std.specs.Prelude.{ℕ, Bool, ◌&&◌, leb}
use Rattle.wire.specs.declared.Refusal.{Refusal}
use Rattle.wire.specs.declared.Refusal.TheVariants.{EventForm, EventRange, NoPower, Powered, Fault, State, BookForm, BookTwice, JourneyForm, SegmentTwice, Points, Order, Beyond, NoStop, Skip, Output, PacketLength, PacketNumber, PacketRange, Held, Reversed}

-- "event: 1 empty, unknown kind or wrong length; 2 field out of range"; "power: 3 NP and kind not 1; 4 kind 1 outside NP; 5 FA and kind not 3"; "state: 6";
-- "book: 7 bad map, range or length; 8 a segment or, in one record, an NID_TP twice, or over 40"; "journey: 9 bad map, range or length; 10 segment twice;
-- 11 index beyond, NID_TP twice, not just one End of Journey, or a booked segment without the point; 12 index falls, or placed points do not strictly
-- rise"; "position: 13"; "skip: 14 no stop of that name; 15"; "output: 16"; "packet reader: 17, 18, 19". 02, Q-5: "20, a press at a held stop"; Q-7: "21, a row
-- whose start exceeds its end"
abbrev pub number_of : Refusal → ℕ
number_of EventForm = 1
number_of EventRange = 2
number_of NoPower = 3
number_of Powered = 4
number_of Fault = 5
number_of State = 6
number_of BookForm = 7
number_of BookTwice = 8
number_of JourneyForm = 9
number_of SegmentTwice = 10
number_of Points = 11
number_of Order = 12
number_of Beyond = 13
number_of NoStop = 14
number_of Skip = 15
number_of Output = 16
number_of PacketLength = 17
number_of PacketNumber = 18
number_of PacketRange = 19
number_of Held = 20
number_of Reversed = 21

-- 02, Q-4: "A load refused by 7 to 12": its profiles are turned down, by a row of the places book and journey
abbrev pub turns_down : ℕ → Bool
turns_down n = leb 7 n && leb n 12
