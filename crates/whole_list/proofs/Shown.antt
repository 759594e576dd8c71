-- What an engine shows, by the history.
use mathlib.Core.Path.{◌≡◌, refl, sym, ◌∙◌, ap}
use mathlib.Core.Bool.{Bool, true, false}
use Prim.Native.Nat.{ℕ, ◌≤◌, ◌<◌}
use native.Mathlib.Omega.{arith}
use lib.ListN.{length, get_or, get_or-eq_default}
use lib.Dec.{ltb}
use borrow.Author.Tests.{ltb-true, ltb-false}
use Rattle.std.proofs.lemmas.List.FromFn.{length-map-range_with_len, get_or-map-range_with_len}
use Rattle.engine_value.specs.Engine.{max_points}
use Rattle.engine_value.specs.declared.Engine.{Engine}
use Rattle.status_word.specs.View.{conditions_number}
use Rattle.position.specs.Position.{point_count}
use Rattle.position.specs.Standing.{standing_code}
use Rattle.call.specs.Shown.{standing_in, standings_in}
use Rattle.call.specs.View.{shown_view}
use Rattle.call.proofs.Rows.{standing_there, standing_past}
use Rattle.whole_list.specs.Values.{History, route_by}
use Rattle.whole_list.specs.WholeList.{ShownBy}
use Rattle.whole_list.proofs.Fields.{engine_of, stands_at}
use Rattle.whole_list.proofs.FieldsControl.{conditions-in}

-- ---- the standings one by one

module _ (e : Engine) where
  long : (n : ℕ) → length (standings_in e n) ≡ n
  unfolding standings_in
  long n = length-map-range_with_len (standing_in e) 0 n

  at : (n k : ℕ) → k < n → get_or (standings_in e n) k 0 ≡ standing_in e k
  unfolding standings_in
  at n k l = get_or-map-range_with_len (standing_in e) 0 n k k 0 l (omega arith)

pub shown_by : (h : History) → ShownBy (shown_view (engine_of h)) h
shown_by h = record {
  state = refl;
  request = refl;
  conditions = ap conditions_number (conditions-in h);
  count = refl;
  as_many = long e max_points;
  each = λ k l. at e max_points k (omega arith) ∙ sym (standing_there e k l) ∙ ap standing_code (stands_at h k l);
  no_point = λ k l. beyond k l _ refl;
}
  where
    e : Engine
    e = engine_of h

    beyond : (k : ℕ) → point_count (route_by h) ≤ k → (b : Bool) → ltb k max_points ≡ b → get_or (standings_in e max_points) k 0 ≡ 0
    beyond k l true q = at e max_points k (ltb-true k max_points q) ∙ sym (standing_past e k l)
    beyond k l false q = get_or-eq_default (standings_in e max_points) 0 (rw (long e max_points) (ltb-false k max_points q))
