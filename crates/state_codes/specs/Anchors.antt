-- Values from document 01, worked out by hand: the codes, and rows 3 to 6 for every state and kind.
use Rattle.std.specs.Prelude.{ℕ, zero, suc, ◌≡◌, true, false, List, [], ◌∷◌, map, replicate}
use Rattle.wire.specs.Judged.{Judged}
use Rattle.wire.specs.Judged.Judged.{refuse, accept}
use Rattle.state_codes.specs.Codes.{code, state_at, is, mode_at, is_ad, lever_at, is_neutral, is_brake}
use Rattle.state_codes.specs.Numbers.{power_rows, state_row, state_rows}
use Rattle.state_codes.specs.declared.State.{State}
use Rattle.state_codes.specs.declared.State.TheVariants.{NP, CO, NA, AV, RE, EG, DE, FA}
use Rattle.state_codes.specs.declared.EtcsMode.TheVariants.{Other, AD}
use Rattle.state_codes.specs.declared.DriverLever.TheVariants.{Neutral, Traction, Brake}

-- in the order of their codes
abbrev pub states : List State
states = NP ∷ CO ∷ NA ∷ AV ∷ RE ∷ EG ∷ DE ∷ FA ∷ []

-- what the kinds 1 to 15 get in each of these states
abbrev pub answers : (State → ℕ → Judged (Unit {0})) → List State → List (List (Judged (Unit {0})))
answers rows = map (λ s. map (rows s) (1 ∷ 2 ∷ 3 ∷ 4 ∷ 5 ∷ 6 ∷ 7 ∷ 8 ∷ 9 ∷ 10 ∷ 11 ∷ 12 ∷ 13 ∷ 14 ∷ 15 ∷ []))

-- a refusal by its number, none by 0
abbrev pub answer : ℕ → Judged (Unit {0})
answer zero = accept tt
answer (suc n) = refuse (suc n)

abbrev pub table : List (List ℕ) → List (List (Judged (Unit {0})))
table = map (map answer)

pub record Anchors : Type 0 where
  -- "0 NP, 1 CO, 2 NA, 3 AV, 4 RE, 5 EG, 6 DE, 7 FA"; a state is itself alone
  pub codes : map code states ≡ 0 ∷ 1 ∷ 2 ∷ 3 ∷ 4 ∷ 5 ∷ 6 ∷ 7 ∷ []
  pub states_at : map state_at (0 ∷ 1 ∷ 2 ∷ 3 ∷ 4 ∷ 5 ∷ 6 ∷ 7 ∷ 8 ∷ 255 ∷ []) ≡ NP ∷ CO ∷ NA ∷ AV ∷ RE ∷ EG ∷ DE ∷ FA ∷ FA ∷ FA ∷ []
  pub same : map (λ s. map (is s) states) states
      ≡ (true ∷ false ∷ false ∷ false ∷ false ∷ false ∷ false ∷ false ∷ [])
      ∷ (false ∷ true ∷ false ∷ false ∷ false ∷ false ∷ false ∷ false ∷ [])
      ∷ (false ∷ false ∷ true ∷ false ∷ false ∷ false ∷ false ∷ false ∷ [])
      ∷ (false ∷ false ∷ false ∷ true ∷ false ∷ false ∷ false ∷ false ∷ [])
      ∷ (false ∷ false ∷ false ∷ false ∷ true ∷ false ∷ false ∷ false ∷ [])
      ∷ (false ∷ false ∷ false ∷ false ∷ false ∷ true ∷ false ∷ false ∷ [])
      ∷ (false ∷ false ∷ false ∷ false ∷ false ∷ false ∷ true ∷ false ∷ [])
      ∷ (false ∷ false ∷ false ∷ false ∷ false ∷ false ∷ false ∷ true ∷ [])
      ∷ []
  -- "ETCS mode (1: 0 other, 1 AD)"
  pub mode : map mode_at (0 ∷ 1 ∷ []) ≡ Other ∷ AD ∷ []
  pub is_AD : map is_ad (Other ∷ AD ∷ []) ≡ false ∷ true ∷ []
  -- "lever (1: 0 neutral, 1 traction, 2 brake)"
  pub lever : map lever_at (0 ∷ 1 ∷ 2 ∷ []) ≡ Neutral ∷ Traction ∷ Brake ∷ []
  pub is_neutral_lem : map is_neutral (Neutral ∷ Traction ∷ Brake ∷ []) ≡ true ∷ false ∷ false ∷ []
  pub is_brake_lem : map is_brake (Neutral ∷ Traction ∷ Brake ∷ []) ≡ false ∷ false ∷ true ∷ []
  -- "3 NP and kind not 1"
  pub in_NP : answers power_rows (NP ∷ []) ≡ table ((0 ∷ 3 ∷ 3 ∷ 3 ∷ 3 ∷ 3 ∷ 3 ∷ 3 ∷ 3 ∷ 3 ∷ 3 ∷ 3 ∷ 3 ∷ 3 ∷ 3 ∷ []) ∷ [])
  -- "4 kind 1 outside NP"
  pub powered : answers power_rows (CO ∷ NA ∷ AV ∷ RE ∷ EG ∷ DE ∷ [])
      ≡ table (replicate 6 (4 ∷ 0 ∷ 0 ∷ 0 ∷ 0 ∷ 0 ∷ 0 ∷ 0 ∷ 0 ∷ 0 ∷ 0 ∷ 0 ∷ 0 ∷ 0 ∷ 0 ∷ []))
  -- "5 FA and kind not 3 (kind 1: 4)"
  pub in_FA : answers power_rows (FA ∷ []) ≡ table ((4 ∷ 5 ∷ 0 ∷ 5 ∷ 5 ∷ 5 ∷ 5 ∷ 5 ∷ 5 ∷ 5 ∷ 5 ∷ 5 ∷ 5 ∷ 5 ∷ 5 ∷ []) ∷ [])
  -- "6 kind 2 outside CO, kind 8 outside RE"
  pub in_CO : answers state_row (CO ∷ []) ≡ table ((0 ∷ 0 ∷ 0 ∷ 0 ∷ 0 ∷ 0 ∷ 0 ∷ 6 ∷ 0 ∷ 0 ∷ 0 ∷ 0 ∷ 0 ∷ 0 ∷ 0 ∷ []) ∷ [])
  pub in_RE : answers state_row (RE ∷ []) ≡ table ((0 ∷ 6 ∷ 0 ∷ 0 ∷ 0 ∷ 0 ∷ 0 ∷ 0 ∷ 0 ∷ 0 ∷ 0 ∷ 0 ∷ 0 ∷ 0 ∷ 0 ∷ []) ∷ [])
  pub elsewhere : answers state_row (NP ∷ NA ∷ AV ∷ EG ∷ DE ∷ FA ∷ [])
      ≡ table (replicate 6 (0 ∷ 6 ∷ 0 ∷ 0 ∷ 0 ∷ 0 ∷ 0 ∷ 6 ∷ 0 ∷ 0 ∷ 0 ∷ 0 ∷ 0 ∷ 0 ∷ 0 ∷ []))
  -- "Place, in order": the first that refuses, in NP, CO, NA, AV, RE, EG, DE and FA
  pub in_order : answers state_rows states ≡ table (
      (0 ∷ 3 ∷ 3 ∷ 3 ∷ 3 ∷ 3 ∷ 3 ∷ 3 ∷ 3 ∷ 3 ∷ 3 ∷ 3 ∷ 3 ∷ 3 ∷ 3 ∷ [])
      ∷ (4 ∷ 0 ∷ 0 ∷ 0 ∷ 0 ∷ 0 ∷ 0 ∷ 6 ∷ 0 ∷ 0 ∷ 0 ∷ 0 ∷ 0 ∷ 0 ∷ 0 ∷ [])
      ∷ (4 ∷ 6 ∷ 0 ∷ 0 ∷ 0 ∷ 0 ∷ 0 ∷ 6 ∷ 0 ∷ 0 ∷ 0 ∷ 0 ∷ 0 ∷ 0 ∷ 0 ∷ [])
      ∷ (4 ∷ 6 ∷ 0 ∷ 0 ∷ 0 ∷ 0 ∷ 0 ∷ 6 ∷ 0 ∷ 0 ∷ 0 ∷ 0 ∷ 0 ∷ 0 ∷ 0 ∷ [])
      ∷ (4 ∷ 6 ∷ 0 ∷ 0 ∷ 0 ∷ 0 ∷ 0 ∷ 0 ∷ 0 ∷ 0 ∷ 0 ∷ 0 ∷ 0 ∷ 0 ∷ 0 ∷ [])
      ∷ (4 ∷ 6 ∷ 0 ∷ 0 ∷ 0 ∷ 0 ∷ 0 ∷ 6 ∷ 0 ∷ 0 ∷ 0 ∷ 0 ∷ 0 ∷ 0 ∷ 0 ∷ [])
      ∷ (4 ∷ 6 ∷ 0 ∷ 0 ∷ 0 ∷ 0 ∷ 0 ∷ 6 ∷ 0 ∷ 0 ∷ 0 ∷ 0 ∷ 0 ∷ 0 ∷ 0 ∷ [])
      ∷ (4 ∷ 5 ∷ 0 ∷ 5 ∷ 5 ∷ 5 ∷ 5 ∷ 5 ∷ 5 ∷ 5 ∷ 5 ∷ 5 ∷ 5 ∷ 5 ∷ 5 ∷ [])
      ∷ []
      )
