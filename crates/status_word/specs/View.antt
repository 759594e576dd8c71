-- What the struct of the nine conditions stands for.
use Rattle.std.specs.Prelude.{ℕ, ◌^◌, Bool, List, [], ◌∷◌, eqb}
use Rattle.wire.specs.Lists.{every, same_numbers, tabulate}
use Rattle.layout.specs.Layout.{weighed}
use Rattle.status_word.specs.declared.OperationalConditions.{OperationalConditions}

-- the nine conditions in their order
abbrev pub conditions_view : OperationalConditions → List ℕ
conditions_view c =
    c.etcs_fulfilled
    ∷ c.no_emergency_brake
    ∷ c.end_ahead
    ∷ c.last_ahead
    ∷ c.profiles_there
    ∷ c.no_inconsistency
    ∷ c.located
    ∷ c.outside_zones
    ∷ c.data_valid
    ∷ []

-- and as one number, condition 0 the least significant bit
abbrev pub conditions_number : OperationalConditions → ℕ
conditions_number c = weighed (tabulate 9 (λ k. 2 ^ k)) (conditions_view c)

-- each of the nine is as in the other
abbrev pub same_conditions : OperationalConditions → OperationalConditions → Bool
same_conditions a b = same_numbers (conditions_view a) (conditions_view b)

-- "O means all nine": each of them is 1
abbrev pub all_nine : OperationalConditions → Bool
all_nine c = every (λ n. eqb n 1) (conditions_view c)
