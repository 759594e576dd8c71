-- Document 01, "Player and trials": the example and P1 to P8, from the bytes of the calls.
use Rattle.std.specs.Prelude.{ℕ, ◌≡◌, List, [], ◌∷◌, ◌++◌, Bool, true, false, length, drop, replicate, take}
use Rattle.wire.specs.Numbers.{bytes_of}
use Rattle.engine_value.specs.Engine.{fresh}
use Rattle.engine_value.specs.declared.Engine.{Engine}
use Rattle.position.specs.Standing.{standing}
use Rattle.position.specs.declared.Standing.{Standing}
use Rattle.position.specs.declared.Standing.TheVariants.{Targeted, Reached, Passed}
use Rattle.call_values.specs.Call.{Call, Answer, refused, accepted}
use Rattle.call.specs.Call.{Outcome, step_of}

-- ---- calls

-- the memory that is lent; the bytes behind the packets must keep their values
abbrev pub lent : List ℕ
lent = replicate 100 0xEE

abbrev pub plain : List ℕ → Call
plain event = record { event = event; journey = []; book = []; memory = lent }

abbrev pub loads : List ℕ → List ℕ → Call
loads journey book = record { event = 0x0B ∷ []; journey = journey; book = book; memory = lent }

-- each call gets the engine that the one before it left
abbrev pub after_each : Engine → List Call → Engine
after_each e [] = e
after_each e (c ∷ cs) = after_each (step_of e c).engine cs

abbrev pub answered : ℕ → Bool → ℕ → Answer
answered s r n = accepted (record { state = s; request = r; bytes = n })

-- an accepted call: what it answers, the packets in front of the memory, and that the bytes behind them are kept
pub record Gives (o : Outcome) (state : ℕ) (request : Bool) (packets : List ℕ) : Type 0 where
  pub answer : o.answer ≡ answered state request (length packets)
  pub memory : o.memory ≡ packets ++ drop (length packets) lent

-- ---- the journey of the trials

-- "segment NID_C 17, NID_SP 500, length 100,000, no optional field but the record's points; stop 7001 at 40,000, R 150; passing 7002 at 90,000"
abbrev pub trial_book : List ℕ
trial_book =
    0x0F ∷ 0x00 ∷ 0x11 ∷ 0x00 ∷ 0x00 ∷ 0x01 ∷ 0xF4 ∷ 0x00 ∷ 0x01 ∷ 0x86 ∷ 0xA0
    ∷ 0x02
    ∷ 0x00 ∷ 0x00 ∷ 0x1B ∷ 0x59 ∷ 0x00 ∷ 0x00 ∷ 0x9C ∷ 0x40 ∷ 0x00 ∷ 0x96
    ∷ 0x00 ∷ 0x00 ∷ 0x1B ∷ 0x5A ∷ 0x00 ∷ 0x01 ∷ 0x5F ∷ 0x90 ∷ 0x00 ∷ 0x00
    ∷ []

-- stamp 0; the segment; "stop 7001", "passing 7002 .., End of Journey"
abbrev pub trial_journey : List ℕ
trial_journey =
    0x1A ∷ 0x00 ∷ 0x00 ∷ 0x00 ∷ 0x00 ∷ 0x00 ∷ 0x00 ∷ 0x00
    ∷ 0x01 ∷ 0x00 ∷ 0x11 ∷ 0x00 ∷ 0x00 ∷ 0x01 ∷ 0xF4
    ∷ 0x02
    ∷ 0x13 ∷ 0x00 ∷ 0x00 ∷ 0x1B ∷ 0x59 ∷ 0x00
    ∷ 0x43 ∷ 0x00 ∷ 0x00 ∷ 0x1B ∷ 0x5A ∷ 0x00
    ∷ []

abbrev pub power_on : Call
power_on = plain (0x01 ∷ [])

abbrev pub configured : Call
configured = plain (0x02 ∷ [])

abbrev pub reports : ℕ → Call
reports n = plain (0x05 ∷ n ∷ [])

-- a position report in the segment
abbrev pub at : ℕ → ℕ → Call
at offset speed = plain (0x09 ∷ 0x00 ∷ 0x11 ∷ 0x00 ∷ 0x00 ∷ 0x01 ∷ 0xF4 ∷ (bytes_of 4 offset ++ bytes_of 2 speed))

abbrev pub trial_load : Call
trial_load = loads trial_journey trial_book

-- "powered on, loaded without a position"
unfoldable pub loaded : Engine
loaded = after_each fresh (power_on ∷ trial_load ∷ [])

-- "then one position report each", "At speed 0": where a point stands after it
abbrev pub stands : ℕ → ℕ → Standing
stands offset k = standing (step_of loaded (at offset 0)).engine.progress k

pub record Trials : Type 0 where
  -- "Input 00 01 01 prints whole: A 1 0 19 / 4400000000000000FFFFFF0000FFFFFFFF0801"
  pub example : Gives (step_of fresh power_on) 1 false
      (0x44 ∷ 0x00 ∷ 0x00 ∷ 0x00 ∷ 0x00 ∷ 0x00 ∷ 0x00 ∷ 0x00 ∷ 0xFF ∷ 0xFF ∷ 0xFF ∷ 0x00 ∷ 0x00 ∷ 0xFF ∷ 0xFF ∷ 0xFF ∷ 0xFF ∷ 0x08 ∷ 0x01 ∷ [])
  -- "P1 39,849 stays targeted; P2 39,850 reached; P3 40,150 reached; P4 40,151 passed."
  pub P1 : stands 39849 0 ≡ Targeted
  pub P2 : stands 39850 0 ≡ Reached
  pub P3 : stands 40150 0 ≡ Reached
  pub P4 : stands 40151 0 ≡ Passed
  -- "P5 90,000 does not pass 7002; P6 90,001 does."
  pub P5 : stands 90000 1 ≡ Targeted
  pub P6 : stands 90001 1 ≡ Passed
  -- "P7 the stop at 39,900 writes 3E 0011 000001F4 00009BDC 0000 FFFFFFFF 0011 00001B59 09 00."
  pub P7 : take 25 (step_of loaded (at 39900 0)).memory
      ≡ 0x3E ∷ 0x00 ∷ 0x11 ∷ 0x00 ∷ 0x00 ∷ 0x01 ∷ 0xF4 ∷ 0x00 ∷ 0x00 ∷ 0x9B ∷ 0xDC ∷ 0x00 ∷ 0x00 ∷ 0xFF ∷ 0xFF ∷ 0xFF ∷ 0xFF
      ∷ 0x00 ∷ 0x11 ∷ 0x00 ∷ 0x00 ∷ 0x1B ∷ 0x59 ∷ 0x09 ∷ 0x00 ∷ []
  -- "P8 20,000, then reports 31 and configured: RE with all nine, 1FF4."
  pub P8 : Gives (step_of (after_each loaded (at 20000 0 ∷ reports 31 ∷ [])) configured) 4 true
      (0x44 ∷ 0x00 ∷ 0x11 ∷ 0x00 ∷ 0x00 ∷ 0x01 ∷ 0xF4 ∷ 0x00 ∷ 0x00 ∷ 0x4E ∷ 0x20 ∷ 0x00 ∷ 0x00 ∷ 0xFF ∷ 0xFF ∷ 0xFF ∷ 0xFF ∷ 0x1F ∷ 0xF4 ∷ [])

-- ---- further examples: the packets of each kind of event, refusals, and the false turns

abbrev pub press : Call
press = plain (0x08 ∷ [])

abbrev pub mode : ℕ → Call
mode n = plain (0x06 ∷ n ∷ [])

abbrev pub lever : ℕ → Call
lever n = plain (0x07 ∷ n ∷ [])

abbrev pub train_length : ℕ → Call
train_length n = plain (0x0A ∷ bytes_of 4 n)

abbrev pub skip : ℕ → Call
skip t = plain (0x0C ∷ bytes_of 4 t)

abbrev pub revoke : ℕ → Call
revoke t = plain (0x0D ∷ bytes_of 4 t)

-- a packet's number, its header in the segment of the trials, and its content
abbrev pub packet : ℕ → ℕ → ℕ → ℕ → List ℕ → List ℕ
packet number offset speed operational content =
    number ∷ 0x00 ∷ 0x11 ∷ 0x00 ∷ 0x00 ∷ 0x01 ∷ 0xF4 ∷ (bytes_of 4 offset ++ (bytes_of 2 speed ++ (bytes_of 4 operational ++ content)))

-- with the journey of the trials: NID_OPERATIONAL is absent
abbrev pub plainly : ℕ → ℕ → ℕ → List ℕ → List ℕ
plainly number offset speed content = packet number offset speed 0xFFFFFFFF content

-- the content of a packet 62: NID_C 17, NID_TP, info, stopping data
abbrev pub point : ℕ → ℕ → ℕ → List ℕ
point t info stopping = 0x00 ∷ 0x11 ∷ (bytes_of 4 t ++ (info ∷ stopping ∷ []))

-- standing at 20,000, and at the stop 7001
unfoldable pub ahead : Engine
ahead = after_each loaded (at 20000 0 ∷ [])

unfoldable pub stopped : Engine
stopped = after_each loaded (at 39900 0 ∷ [])

-- the same segment; NID_OPERATIONAL 12345678, date 1, seconds 2, counter 3, NID_ATOTS 5; the stop 7001 by the train's middle, with stopping data 55;
-- 7002 a stop and the End of Journey; a train of 1,001 cm
abbrev pub full_journey : List ℕ
full_journey =
    0x1F ∷ 0x12 ∷ 0x34 ∷ 0x56 ∷ 0x78 ∷ 0x00 ∷ 0x01 ∷ 0x00 ∷ 0x00 ∷ 0x00 ∷ 0x02 ∷ 0x03 ∷ 0x00 ∷ 0x05
    ∷ 0x01 ∷ 0x00 ∷ 0x11 ∷ 0x00 ∷ 0x00 ∷ 0x01 ∷ 0xF4
    ∷ 0x02
    ∷ 0x1F ∷ 0x00 ∷ 0x00 ∷ 0x1B ∷ 0x59 ∷ 0x00 ∷ 0x01 ∷ 0x55
    ∷ 0x53 ∷ 0x00 ∷ 0x00 ∷ 0x1B ∷ 0x5A ∷ 0x00
    ∷ []

unfoldable pub full : Engine
full = after_each fresh (power_on ∷ loads full_journey trial_book ∷ train_length 1001 ∷ [])

-- and standing at 7001
unfoldable pub halted : Engine
halted = after_each full (at 40350 0 ∷ [])

-- the call with a memory of n bytes
abbrev pub in_memory : ℕ → Call → Call
in_memory n c = record { event = c.event; journey = c.journey; book = c.book; memory = replicate n 0xEE }

-- P8, then the press and the AD report
unfoldable pub engaged : Engine
engaged = after_each ahead (reports 31 ∷ configured ∷ press ∷ mode 1 ∷ [])

pub record Further : Type 0 where
  -- "speed rose from 0 while not EG afterwards", in CO; else none is due where state and conditions stay
  pub speed_rises : Gives (step_of ahead (at 20000 1)) 1 false (plainly 68 20000 1 (0x0D ∷ 0xC1 ∷ []))
  pub speed_stays : Gives (step_of (after_each ahead (at 20000 1 ∷ [])) (at 20001 2)) 1 false []
  pub speed_in_EG : Gives (step_of engaged (at 20001 1)) 5 true []
  -- "65 on an accepted load: NID_C (1,024 unless the position is known), .."; then the 68
  pub first_load : Gives (step_of (step_of fresh power_on).engine trial_load) 1 false
      (0x41 ∷ 0x00 ∷ 0x00 ∷ 0x00 ∷ 0x00 ∷ 0x00 ∷ 0x00 ∷ 0x00 ∷ 0xFF ∷ 0xFF ∷ 0xFF ∷ 0x00 ∷ 0x00 ∷ 0xFF ∷ 0xFF ∷ 0xFF ∷ 0xFF
      ∷ 0x04 ∷ 0x00 ∷ 0x40 ∷ 0x00 ∷ 0x00 ∷ 0x00 ∷ 0x00 ∷ 0x00 ∷ 0x00 ∷ 0x00 ∷ 0x00 ∷ 0x00
      ∷ 0x44 ∷ 0x00 ∷ 0x00 ∷ 0x00 ∷ 0x00 ∷ 0x00 ∷ 0x00 ∷ 0x00 ∷ 0xFF ∷ 0xFF ∷ 0xFF ∷ 0x00 ∷ 0x00 ∷ 0xFF ∷ 0xFF ∷ 0xFF ∷ 0xFF ∷ 0x09 ∷ 0xC1 ∷ [])
  -- a load at the stop: its point is targeted again, and the next report at speed 0 reaches it again
  pub reload : Gives (step_of stopped (loads full_journey trial_book)) 1 false
      (packet 65 39900 0 0x12345678 (0x00 ∷ 0x11 ∷ 0x00 ∷ 0x05 ∷ 0x00 ∷ 0x01 ∷ 0x00 ∷ 0x00 ∷ 0x00 ∷ 0x02 ∷ 0x03 ∷ 0x00 ∷ []))
  pub reload_targets : standing (step_of stopped trial_load).engine.progress 0 ≡ Targeted
  pub reached_again : Gives (step_of (after_each stopped (trial_load ∷ [])) (at 39900 0)) 1 false (plainly 62 39900 0 (point 7001 0x09 0x00))
  -- "A departure writes status 2 and no 0"; the next point passes in the same report; "Order: .. the 62s as they arise, 68"
  pub departure : Gives (step_of stopped (at 90001 5)) 1 false
      (plainly 62 90001 5 (point 7001 0x11 0x00) ++ (plainly 62 90001 5 (point 7002 0x00 0x00) ++ plainly 68 90001 5 (0x0D ∷ 0x01 ∷ [])))
  -- "5 driver skip, 6 skip revoked"; a skipped stop is not reached
  pub skipping : Gives (step_of ahead (skip 7001)) 1 false (plainly 62 20000 0 (point 7001 0x29 0x00))
  pub revoking : Gives (step_of (after_each ahead (skip 7001 ∷ [])) (revoke 7001)) 1 false (plainly 62 20000 0 (point 7001 0x31 0x00))
  pub unreached : standing (after_each ahead (skip 7001 ∷ at 39900 0 ∷ [])).progress 0 ≡ Targeted
  -- "half rounded down for middle"; "stopping data (1; 0 unless status 1)"; "0 once the End of Journey is reached or passed"
  pub stop : Gives (step_of full (at 40350 0)) 1 false (packet 62 40350 0 0x12345678 (point 7001 0x0B 0x55) ++ packet 68 40350 0 0x12345678 (0x0D ∷ 0xC1 ∷ []))
  -- 02, Q-3: "only by a report with speed above 0, a known position and d greater than R": the middle is 500 behind the front, R is 150
  pub creeps : Gives (step_of (after_each full (at 40350 0 ∷ [])) (at 40650 1)) 1 false (packet 68 40650 1 0x12345678 (0x0D ∷ 0xC1 ∷ []))
  pub leaves : Gives (step_of (after_each full (at 40350 0 ∷ [])) (at 40651 1)) 1 false
      (packet 62 40651 1 0x12345678 (point 7001 0x13 0x00) ++ packet 68 40651 1 0x12345678 (0x0D ∷ 0xC1 ∷ []))
  pub ends : Gives (step_of full (at 90000 0)) 1 false
      (packet 62 90000 0 0x12345678 (point 7001 0x03 0x00) ++ (packet 62 90000 0 0x12345678 (point 7002 0x08 0x00) ++ packet 68 90000 0 0x12345678 (0x0D ∷ 0x81 ∷ [])))
  -- "Every refusal .. changes neither engine nor memory": a press in CO; a memory of one byte less than its packet
  pub refuses : step_of loaded press ≡ record { answer = refused 6 0; engine = loaded; memory = lent }
  pub too_short : step_of fresh (record { event = 0x01 ∷ []; journey = []; book = []; memory = replicate 18 0xEE })
      ≡ record { answer = refused 16 0; engine = fresh; memory = replicate 18 0xEE }
  -- 02, Q-4: "A load refused by 7 to 12 writes packet 65 with status 1": an empty journey at the stop, with NID_OPERATIONAL and NID_C of the journey in force;
  -- "Engine state after a refusal is still that before it"
  pub turned_down : step_of halted (loads [] trial_book)
      ≡ record {
        answer = refused 9 29;
        engine = halted;
        memory = packet 65 40350 0 0x12345678 (0x00 ∷ 0x11 ∷ 0x40 ∷ 0x00 ∷ 0x00 ∷ 0x00 ∷ 0x00 ∷ 0x00 ∷ 0x00 ∷ 0x00 ∷ 0x00 ∷ 0x01 ∷ []) ++ drop 29 lent;
      }
  -- with no journey: 1,024 and FFFFFFFF
  pub turned_down_first : step_of (step_of fresh power_on).engine (loads full_journey (0xFF ∷ []))
      ≡ record {
        answer = refused 7 29;
        engine = (step_of fresh power_on).engine;
        memory =
            (0x41 ∷ 0x00 ∷ 0x00 ∷ 0x00 ∷ 0x00 ∷ 0x00 ∷ 0x00 ∷ 0x00 ∷ 0xFF ∷ 0xFF ∷ 0xFF ∷ 0x00 ∷ 0x00 ∷ 0xFF ∷ 0xFF ∷ 0xFF ∷ 0xFF
            ∷ 0x04 ∷ 0x00 ∷ 0x40 ∷ 0x00 ∷ 0x00 ∷ 0x00 ∷ 0x00 ∷ 0x00 ∷ 0x00 ∷ 0x00 ∷ 0x00 ∷ 0x01 ∷ []) ++ drop 29 lent;
      }
  -- "If even that does not fit, nothing is written and the same number returns"; a load that is not turned down is still refused by 16, though 47 bytes hold one packet
  pub no_room_lem : step_of stopped (in_memory 28 (loads [] trial_book)) ≡ record { answer = refused 9 0; engine = stopped; memory = replicate 28 0xEE }
  pub just_room : (step_of stopped (in_memory 29 (loads [] trial_book))).answer ≡ refused 9 29
  pub load_too_short : step_of (step_of fresh power_on).engine (in_memory 47 trial_load)
      ≡ record { answer = refused 16 0; engine = (step_of fresh power_on).engine; memory = replicate 47 0xEE }
  -- "False turns: .. DE back to EG when conditions return; lever back to neutral in AV starting a request while still in AD"
  pub engages : (step_of (after_each ahead (reports 31 ∷ configured ∷ press ∷ [])) (mode 1)).answer ≡ answered 5 true 19
  pub degrades : (step_of engaged (reports 30)).answer ≡ answered 6 true 19
  pub stays_DE : (step_of (after_each engaged (reports 30 ∷ [])) (reports 31)).answer ≡ answered 6 true 19
  pub reached_in_EG : (step_of engaged (at 39900 0)).answer ≡ answered 3 true 44
  pub traction : (step_of (after_each engaged (at 39900 0 ∷ [])) (lever 1)).answer ≡ answered 3 false 0
  pub neutral : (step_of (after_each engaged (at 39900 0 ∷ lever 1 ∷ [])) (lever 0)).answer ≡ answered 3 false 0
