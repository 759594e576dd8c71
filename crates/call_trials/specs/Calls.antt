-- The calls of the examples, and what they leave in the memory.
use Rattle.std.specs.Prelude.{ℕ, ◌≡◌, List, [], ◌∷◌, ◌++◌, map, replicate, drop}
use Rattle.wire.specs.Numbers.{bytes_of}
use Rattle.engine_value.specs.declared.Engine.{Engine}
use Rattle.position.specs.Standing.{standing}
use Rattle.position.specs.declared.Standing.{Standing}
use Rattle.call_values.specs.Call.{Call, Answer, refused}
use Rattle.call.specs.Call.{step_of}
use Rattle.call.specs.Trials.{plain, loads, configured, reports, press, mode, lever, train_length, skip, revoke}
use Rattle.call_trials.specs.Journey.{journey, book}

-- ---- calls

abbrev pub power_off : Call
power_off = plain (0x03 ∷ [])

abbrev pub fault : Call
fault = plain (0x04 ∷ [])

-- NID_C, NID_SP, offset and speed, as an event of kind 9 and the header of a packet have them
abbrev pub in_a : ℕ → ℕ → List ℕ
in_a offset speed = 0x00 ∷ 0x11 ∷ 0x00 ∷ 0x00 ∷ 0x01 ∷ 0xF4 ∷ (bytes_of 4 offset ++ bytes_of 2 speed)

abbrev pub in_b : ℕ → ℕ → List ℕ
in_b offset speed = 0x00 ∷ 0x22 ∷ 0x00 ∷ 0x00 ∷ 0x01 ∷ 0xF4 ∷ (bytes_of 4 offset ++ bytes_of 2 speed)

abbrev pub in_c : ℕ → ℕ → List ℕ
in_c offset speed = 0x00 ∷ 0x22 ∷ 0x00 ∷ 0x00 ∷ 0x01 ∷ 0xF5 ∷ (bytes_of 4 offset ++ bytes_of 2 speed)

abbrev pub in_d : ℕ → ℕ → List ℕ
in_d offset speed = 0x00 ∷ 0x11 ∷ 0x00 ∷ 0x00 ∷ 0x02 ∷ 0x58 ∷ (bytes_of 4 offset ++ bytes_of 2 speed)

-- "offset (4; 16,777,215 undefined ..)"
abbrev pub undefined : ℕ
undefined = 16777215

-- "NID_C and NID_SP 0, offset undefined", speed 0
abbrev pub nowhere : List ℕ
nowhere = 0x00 ∷ 0x00 ∷ 0x00 ∷ 0x00 ∷ 0x00 ∷ 0x00 ∷ 0x00 ∷ 0xFF ∷ 0xFF ∷ 0xFF ∷ 0x00 ∷ 0x00 ∷ []

abbrev pub report : List ℕ → Call
report x = plain (0x09 ∷ x)

abbrev pub load : Call
load = loads journey book

-- the content of a packet 61: M_ATO_TraBrRq, M_ATO_LocoBrRq, Q_ATO_SupTB, M_ATO_RTBRq
abbrev pub requested : ℕ → List ℕ
requested suptb = 0x0A ∷ 0x0B ∷ suptb ∷ 0x0C ∷ 0x0D ∷ []

-- 02: "one signed byte, the request .., then the five bytes of packet 61"
abbrev pub traction : ℕ → ℕ → Call
traction byte suptb = plain (0x0E ∷ byte ∷ requested suptb)

-- 02, Q-7: a row of NID_C 17, NID_SP 500, category 2, range 1, with start and end
abbrev pub row : ℕ → ℕ → List ℕ
row start end = 0x00 ∷ 0x11 ∷ 0x00 ∷ 0x00 ∷ 0x01 ∷ 0xF4 ∷ 0x02 ∷ 0x01 ∷ (bytes_of 4 start ++ bytes_of 4 end)

-- "count (0-31) and that many rows"
abbrev pub slippery : ℕ → List ℕ → Call
slippery count rows = plain (0x0F ∷ count ∷ rows)

-- one of each kind but power on and power off
abbrev pub others : List Call
others =
    configured ∷ fault ∷ reports 31 ∷ mode 1 ∷ lever 1 ∷ press ∷ report (in_a 0 0) ∷ train_length 1 ∷ load ∷ skip 7001 ∷ revoke 7001 ∷ traction 20 7
    ∷ slippery 0 [] ∷ []

-- the call with so many bytes of memory
abbrev pub lending : ℕ → Call → Call
lending n c = record { event = c.event; journey = c.journey; book = c.book; memory = replicate n 0xEE }

-- ---- what they leave

-- "Every refusal .. changes neither engine nor memory."
abbrev pub Refuses : Engine → Call → ℕ → Type 0
Refuses e c n = step_of e c ≡ record { answer = refused n 0; engine = e; memory = c.memory }

-- 02, Q-4: "A load refused by 7 to 12 writes packet 65 with status 1"
abbrev pub TurnsDown : Engine → Call → ℕ → List ℕ → Type 0
TurnsDown e c n packet = step_of e c ≡ record { answer = refused n 29; engine = e; memory = packet ++ drop 29 c.memory }

-- what an engine answers to each, as the next call
abbrev pub answers_to : Engine → List Call → List Answer
answers_to e calls = map (λ (c : Call). (step_of e c).answer) calls

-- where 7001 to 7006 stand
abbrev pub standings : Engine → List Standing
standings e = map (standing e.progress) (0 ∷ 1 ∷ 2 ∷ 3 ∷ 4 ∷ 5 ∷ [])

-- a packet with the journey's NID_OPERATIONAL, and with none
abbrev pub packet : ℕ → List ℕ → List ℕ → List ℕ
packet number x content = number ∷ (x ++ (0x12 ∷ 0x34 ∷ 0x56 ∷ 0x78 ∷ content))

abbrev pub plain_packet : ℕ → List ℕ → List ℕ → List ℕ
plain_packet number x content = number ∷ (x ++ (0xFF ∷ 0xFF ∷ 0xFF ∷ 0xFF ∷ content))

-- the content of a packet 62: NID_C, NID_TP, info, stopping data
abbrev pub point : ℕ → ℕ → ℕ → ℕ → List ℕ
point nidc nidtp info stopping = bytes_of 2 nidc ++ (bytes_of 4 nidtp ++ (info ∷ stopping ∷ []))

-- the content of a packet 65 for the journey: NID_C, NID_ATOTS, date, seconds, counter, status
abbrev pub received : ℕ → List ℕ
received nidc = bytes_of 2 nidc ++ (0x01 ∷ 0x23 ∷ 0x0A ∷ 0x0B ∷ 0x01 ∷ 0x02 ∷ 0x03 ∷ 0x04 ∷ 0x07 ∷ 0x00 ∷ [])

-- of one whose profiles were turned down: NID_ATOTS 16,384, stamp 0, status 1
abbrev pub not_received : ℕ → List ℕ
not_received nidc = bytes_of 2 nidc ++ (0x40 ∷ 0x00 ∷ 0x00 ∷ 0x00 ∷ 0x00 ∷ 0x00 ∷ 0x00 ∷ 0x00 ∷ 0x00 ∷ 0x01 ∷ [])
