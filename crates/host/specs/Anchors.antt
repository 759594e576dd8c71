-- Values from documents 01 and 02 that the definitions must give.
use Rattle.std.specs.Prelude.{◌≡◌, [], ◌∷◌, map, true, false}
use Rattle.call_values.specs.Call.{refused, accepted}
use Rattle.host.specs.View.{answered}
use Rattle.host.specs.Version.{version}

pub record Anchors : Type 0 where
  -- "An accepted event returns state, request and bytes written"; a refusal its number, and, 02, Q-4, "gains the byte count"
  pub answers : map answered (accepted (record { state = 4; request = true; bytes = 19 }) ∷ refused 13 0 ∷ refused 12 29 ∷ [])
      ≡ record { accepted = true; number = 0; state = 4; request = true; bytes = 19 }
      ∷ record { accepted = false; number = 13; state = 0; request = false; bytes = 0 }
      ∷ record { accepted = false; number = 12; state = 0; request = false; bytes = 29 } ∷ []
  -- 2.3.0, a byte each
  pub versions : version ≡ 0x020300
