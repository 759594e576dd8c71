-- Document 02, Q-1: the range of the traction requests "as a fact of the events since EG", by the accepted calls alone. Nothing here is of crate `call`.
use Rattle.std.specs.Prelude.{List, [], ◌∷◌, ◌++◌, if◌then◌else◌, Option, Some, None}
use Rattle.event.specs.declared.TractionRequest.{TractionRequest}
use Rattle.traction.specs.Requests.{requested, made, forgets}
use Rattle.traction.specs.declared.Remembered.{Remembered}
use Rattle.whole_list.specs.Values.{History, event_of_call}
use Rattle.whole_list.specs.Rules.{state_by}

abbrev pub listed : {A : Type 0} → Option A → List A
listed None = []
listed (Some x) = x ∷ []

-- the requests made in EG or DE since the last entry into EG, the first first; none since power off
unfoldable pub requests_since : History → List TractionRequest
requests_since [] = []
requests_since (c ∷ h) =
    if forgets (state_by h) (event_of_call c) (state_by (c ∷ h)) then [] else requests_since h ++ listed (made (state_by h) (event_of_call c))

-- range and Q_ATO_SupTB after some requests, one after the other: "It stays in the range it had while that range holds it, else takes the lowest that
-- does."
unfoldable pub after_requests : Option Remembered → List TractionRequest → Option Remembered
after_requests m [] = m
after_requests m (x ∷ l) = after_requests (Some (requested m x)) l

-- none where no request was made
unfoldable pub traction_by : History → Option Remembered
traction_by h = after_requests None (requests_since h)
