-- Values worked out by hand from document 02, Q-1, which the definitions must give.
use Rattle.std.specs.Prelude.{ℕ, ◌≡◌, Bool, true, false, Option, Some, None, List, [], ◌∷◌, map, replicate}
use Rattle.engine_value.specs.declared.Traction.{Traction}
use Rattle.event.specs.Kinds.{kinds}
use Rattle.event.specs.declared.TractionRequest.{TractionRequest}
use Rattle.event.specs.Event.{Event}
use Rattle.packets.specs.declared.Requested.{Requested}
use Rattle.state_codes.specs.declared.State.{State}
use Rattle.state_codes.specs.declared.State.TheVariants.{NP, CO, NA, AV, RE, EG, DE, FA}
use Rattle.traction.specs.Ranges.{ranges, holds_at, lowest, range_after}
use Rattle.traction.specs.Requests.{remembered, requested, driving, made, forgets, remembered_after, changed, written_content}
use Rattle.traction.specs.View.{remembered_in, traction_of}

-- ---- the ranges

-- the ends of the five ranges, and the sizes next to them
abbrev pub sizes : List ℕ
sizes = 0 ∷ 1 ∷ 22 ∷ 23 ∷ 27 ∷ 28 ∷ 72 ∷ 73 ∷ 77 ∷ 78 ∷ 90 ∷ 91 ∷ 95 ∷ 96 ∷ 100 ∷ 101 ∷ []

abbrev pub held_by : ℕ → List Bool
held_by k = map (holds_at ranges k) sizes

-- the ranges of requests one after the other, from range k
abbrev pub ranges_from : Option ℕ → List ℕ → List ℕ
ranges_from o [] = []
ranges_from o (n ∷ l) = range_after o n ∷ ranges_from (Some (range_after o n)) l

pub record InRanges : Type 0 where
  -- "range 0 (0), 1 (1-27), 2 (23-77), 3 (73-95) or 4 (91-100)", and no sixth one
  pub range0 : held_by 0 ≡ true ∷ replicate 15 false
  pub range1 : held_by 1
      ≡ false ∷ true ∷ true ∷ true ∷ true ∷ false ∷ false ∷ false ∷ false ∷ false ∷ false ∷ false ∷ false ∷ false ∷ false ∷ false ∷ []
  pub range2 : held_by 2
      ≡ false ∷ false ∷ false ∷ true ∷ true ∷ true ∷ true ∷ true ∷ true ∷ false ∷ false ∷ false ∷ false ∷ false ∷ false ∷ false ∷ []
  pub range3 : held_by 3
      ≡ false ∷ false ∷ false ∷ false ∷ false ∷ false ∷ false ∷ true ∷ true ∷ true ∷ true ∷ true ∷ true ∷ false ∷ false ∷ false ∷ []
  pub range4 : held_by 4
      ≡ false ∷ false ∷ false ∷ false ∷ false ∷ false ∷ false ∷ false ∷ false ∷ false ∷ false ∷ true ∷ true ∷ true ∷ true ∷ false ∷ []
  pub range5 : held_by 5 ≡ replicate 16 false
  -- "the lowest that does", where none was before
  pub first : map (range_after None) sizes ≡ 0 ∷ 1 ∷ 1 ∷ 1 ∷ 1 ∷ 2 ∷ 2 ∷ 2 ∷ 2 ∷ 3 ∷ 3 ∷ 3 ∷ 3 ∷ 4 ∷ 4 ∷ 5 ∷ []
  pub lowest_one : map (lowest ranges) (0 ∷ 25 ∷ 75 ∷ 92 ∷ []) ≡ 0 ∷ 1 ∷ 2 ∷ 3 ∷ []
  -- "It stays in the range it had while that range holds it, else takes the lowest that does": from each range
  pub from_0 : map (range_after (Some 0)) sizes ≡ 0 ∷ 1 ∷ 1 ∷ 1 ∷ 1 ∷ 2 ∷ 2 ∷ 2 ∷ 2 ∷ 3 ∷ 3 ∷ 3 ∷ 3 ∷ 4 ∷ 4 ∷ 5 ∷ []
  pub from_1 : map (range_after (Some 1)) sizes ≡ 0 ∷ 1 ∷ 1 ∷ 1 ∷ 1 ∷ 2 ∷ 2 ∷ 2 ∷ 2 ∷ 3 ∷ 3 ∷ 3 ∷ 3 ∷ 4 ∷ 4 ∷ 5 ∷ []
  pub from_2 : map (range_after (Some 2)) sizes ≡ 0 ∷ 1 ∷ 1 ∷ 2 ∷ 2 ∷ 2 ∷ 2 ∷ 2 ∷ 2 ∷ 3 ∷ 3 ∷ 3 ∷ 3 ∷ 4 ∷ 4 ∷ 5 ∷ []
  pub from_3 : map (range_after (Some 3)) sizes ≡ 0 ∷ 1 ∷ 1 ∷ 1 ∷ 1 ∷ 2 ∷ 2 ∷ 3 ∷ 3 ∷ 3 ∷ 3 ∷ 3 ∷ 3 ∷ 4 ∷ 4 ∷ 5 ∷ []
  pub from_4 : map (range_after (Some 4)) sizes ≡ 0 ∷ 1 ∷ 1 ∷ 1 ∷ 1 ∷ 2 ∷ 2 ∷ 2 ∷ 2 ∷ 3 ∷ 3 ∷ 4 ∷ 4 ∷ 4 ∷ 4 ∷ 5 ∷ []
  -- "27 coming from 20 stays in range 1, 28 moves to 2, 23 stays in 2, 22 returns to 1"
  pub worked : ranges_from None (20 ∷ 27 ∷ 28 ∷ 23 ∷ 22 ∷ []) ≡ 1 ∷ 1 ∷ 2 ∷ 2 ∷ 1 ∷ []
  -- the lowest also on a jump: 75 from range 1 and from range 4, 25 from range 3; 92 from 3 stays
  pub jumps : range_after (Some 1) 75 ∷ range_after (Some 4) 75 ∷ range_after (Some 3) 25 ∷ range_after (Some 3) 92 ∷ [] ≡ 2 ∷ 2 ∷ 1 ∷ 3 ∷ []

-- ---- what is remembered, and the packet

abbrev pub states : List State
states = NP ∷ CO ∷ NA ∷ AV ∷ RE ∷ EG ∷ DE ∷ FA ∷ []

abbrev pub content : ℕ → Requested
content suptb = record { m_ato_trabrrq = 1; m_ato_locobrrq = 2; q_ato_suptb = suptb; m_ato_rtbrq = 4 }

abbrev pub request : ℕ → ℕ → TractionRequest
request byte suptb = record { request = byte; content = content suptb }

-- −23 in two's complement
abbrev pub asked : TractionRequest
asked = request 0xE9 0x55

pub record Requests : Type 0 where
  pub of : remembered 3 200 ≡ record { range = 3; suptb = 200 }
  -- "Its size without sign": 23 and −23, 100 and −100, 0, −1. "Q_ATO_SupTB": the third byte
  pub sizes : map (requested None) (request 23 7 ∷ asked ∷ request 100 7 ∷ request 0x9C 7 ∷ request 0 7 ∷ request 0xFF 7 ∷ [])
      ≡ remembered 1 7 ∷ remembered 1 0x55 ∷ remembered 4 7 ∷ remembered 4 7 ∷ remembered 0 7 ∷ remembered 1 7 ∷ []
  pub from_2 : requested (Some (remembered 2 7)) asked ≡ remembered 2 0x55
  -- "In EG or DE": the states in the order of their codes
  pub in_state_lem : map driving states ≡ false ∷ false ∷ false ∷ false ∷ false ∷ true ∷ true ∷ false ∷ []
  pub made_in : map (λ s. made s (Event.Traction asked)) states ≡ None ∷ None ∷ None ∷ None ∷ None ∷ Some asked ∷ Some asked ∷ None ∷ []
  pub made_by : map (made EG) (Event.Mode 1 ∷ Event.Press ∷ Event.Traction asked ∷ []) ≡ None ∷ None ∷ Some asked ∷ []
  -- "entering EG forgets both": from each state but EG; no other state does, nor does leaving EG; power off does
  pub entering : map (λ s. forgets s (Event.Mode 1) EG) states ≡ true ∷ true ∷ true ∷ true ∷ true ∷ false ∷ true ∷ true ∷ []
  pub leaving : map (forgets EG (Event.Mode 1)) states ≡ replicate 8 false
  pub elsewhere : map (forgets RE (Event.Mode 1)) states ≡ false ∷ false ∷ false ∷ false ∷ false ∷ true ∷ false ∷ false ∷ []
  pub off : map (λ s. map (λ e. forgets s e s) kinds) (AV ∷ EG ∷ []) ≡ replicate 2 (false ∷ false ∷ true ∷ replicate 12 false)
  -- kind 14 in each state: "In CO, NA, AV and RE the event is accepted and changes nothing"
  pub stored : map (λ s. remembered_after s (Event.Traction asked) s (Some (remembered 4 7))) states
      ≡ Some (remembered 4 7) ∷ Some (remembered 4 7) ∷ Some (remembered 4 7) ∷ Some (remembered 4 7) ∷ Some (remembered 4 7)
      ∷ Some (remembered 1 0x55) ∷ Some (remembered 1 0x55) ∷ Some (remembered 4 7) ∷ []
  pub stored_first : map (λ s. remembered_after s (Event.Traction asked) s None) states
      ≡ None ∷ None ∷ None ∷ None ∷ None ∷ Some (remembered 1 0x55) ∷ Some (remembered 1 0x55) ∷ None ∷ []
  -- from EG to DE, to AV; into EG; power off
  pub kept : map (λ s. remembered_after EG (Event.Reports 0) s (Some (remembered 4 7))) (DE ∷ AV ∷ []) ≡ Some (remembered 4 7) ∷ Some (remembered 4 7) ∷ []
  pub forgotten : remembered_after RE (Event.Mode 1) EG (Some (remembered 4 7)) ∷ remembered_after EG Event.PowerOff NP (Some (remembered 4 7)) ∷ [] ≡ None ∷ None ∷ []
  -- "on a change of range or of Q_ATO_SupTB": none before; the same; another range; the lowest and the highest bit of Q_ATO_SupTB; none after
  pub changes : changed None (Some (remembered 0 0)) ∷ changed (Some (remembered 1 7)) (Some (remembered 1 7)) ∷ changed (Some (remembered 1 7)) (Some (remembered 2 7))
      ∷ changed (Some (remembered 1 7)) (Some (remembered 1 6)) ∷ changed (Some (remembered 1 7)) (Some (remembered 1 0x87)) ∷ changed (Some (remembered 1 7)) None ∷ []
      ≡ true ∷ false ∷ true ∷ true ∷ true ∷ true ∷ []
  -- "In EG or DE the packet is written", with the event's content
  pub written_in : map (λ s. written_content s (Event.Traction asked) None (Some (remembered 1 0x55))) states
      ≡ None ∷ None ∷ None ∷ None ∷ None ∷ Some (content 0x55) ∷ Some (content 0x55) ∷ None ∷ []
  pub unchanged : written_content EG (Event.Traction asked) (Some (remembered 1 0x55)) (Some (remembered 1 0x55)) ≡ None
  pub not_asked : written_content EG (Event.Mode 1) None None ≡ None

-- the engine's group
pub record Views : Type 0 where
  pub groups : map {B = Traction} traction_of (None ∷ Some (remembered 3 200) ∷ [])
      ≡ record { remembered = false; range = 0; suptb = 0; spare = 0 } ∷ record { remembered = true; range = 3; suptb = 200; spare = 0 } ∷ []
  pub told : map remembered_in (record { remembered = false; range = 3; suptb = 200; spare = 0 } ∷ record { remembered = true; range = 3; suptb = 200; spare = 0 } ∷ [])
      ≡ None ∷ Some (remembered 3 200) ∷ []

pub record Anchors : Type 0 where
  pub in_ranges : InRanges
  pub requests : Requests
  pub views : Views
