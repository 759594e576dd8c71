-- 02, Q-2: the word of packet 68.
use Rattle.std.specs.Prelude.{ℕ, ◌+◌, ◌*◌, ◌^◌, List, get_or}
use Rattle.wire.specs.Lists.{tabulate}
use Rattle.layout.specs.Layout.{Part, part, listed, weighed, numbers_of}
use Rattle.status_word.specs.declared.OperationalConditions.{OperationalConditions}

-- "state + 16 × condition 0 + 32 × condition 1, and so on to 4,096 × condition 8". The weight of condition k:
abbrev pub weight_of : ℕ → ℕ
weight_of k = 16 * 2 ^ k

-- and the sum, of a state and the nine conditions, each 0 or 1
abbrev pub status_word : ℕ → List ℕ → ℕ
status_word state conditions = state + weighed (tabulate 9 weight_of) conditions

-- the nine as parts of a layout, behind the state
abbrev pub condition_parts : List Part
condition_parts = tabulate 9 (λ k. part (weight_of k) 1)

-- the nine conditions in their order
abbrev pub conditions_of : List ℕ → OperationalConditions
conditions_of l =
    record {
      etcs_fulfilled = get_or l 0 0;
      no_emergency_brake = get_or l 1 0;
      end_ahead = get_or l 2 0;
      last_ahead = get_or l 3 0;
      profiles_there = get_or l 4 0;
      no_inconsistency = get_or l 5 0;
      located = get_or l 6 0;
      outside_zones = get_or l 7 0;
      data_valid = get_or l 8 0;
    }

-- the conditions of a word
abbrev pub conditions_of_word : ℕ → OperationalConditions
conditions_of_word word = conditions_of (listed condition_parts (numbers_of condition_parts word))
