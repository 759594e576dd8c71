-- Laws of a whole book: the loop over its records, which keeps the first 40, and its answer.
use Prim.Native.Nat.{ℕ, zero, suc, ◌+◌, ◌-◌, ◌≤◌, ◌<◌}
use mathlib.Core.Path.{◌≡◌, refl, sym, ap, ◌∙◌, subst}
use mathlib.Core.Logic.{inl, inr}
use mathlib.Core.List.{List, [], ◌∷◌, ◌++◌, map, append_assoc, append-nil}
use mathlib.Core.Bool.{Bool, true, false, cond, not, ◌||◌, or-true, or-false, false≢true}
use lib.ListN.{length, take, set, length-append}
use lib.Dec.{eqb, ltb}
use mir.Val.{bool_byte}
use native.Mathlib.Omega.{arith}
use borrow.Author.Tests.{eq-eqb, eqb-true, ne_eqb, lt-ltb, le-ltb, ltb-false}
use Rattle.std.specs.Prelude.{Some, option_map, find, min}
use Rattle.std.proofs.lemmas.Bool.{cases_lt}
use Rattle.std.proofs.lemmas.List.{take_all, take-append-le, length-take-le, length-map, map-append}
use Rattle.std.proofs.lemmas.Grind.{take-set_at}
use Rattle.wire.specs.Lists.{All, any, twice}
use Rattle.wire.specs.Judged.{then_judge, row}
use Rattle.wire.specs.Judged.Judged.{refuse, accept}
use Rattle.wire.proofs.ListLaws.{any_same}
use Rattle.fields.specs.Parse.{Parse, and_then}
use Rattle.fields.specs.Parse.Parse.{bad, good}
use Rattle.fields.proofs.ReaderLaws.{with_front}
use Rattle.fields.proofs.Sure.{sure_of}
use Rattle.engine_value.specs.Engine.{max_segments}
use Rattle.segment_record.specs.declared.BookPoint.{BookPoint}
use Rattle.segment_record.specs.declared.Entry.{Entry}
use Rattle.segment_record.specs.Record.{BookSegment, max_record_points, segment_record}
use Rattle.segment_record.specs.View.{entry_view}
use Rattle.segment_record.proofs.Accepted.{SegmentFits}
use Rattle.segment_record.proofs.Behind.{Leaves, segment_leaves}
use Rattle.book.specs.Book.{records}
use Rattle.book.specs.Table.{same_segment, nidtp_twice, book_of}
use Rattle.book.proofs.Accepted.{records_fit}
use Rattle.book.proofs.Pairs.{any_map}

-- ---- a test or a look-up in a list of values is one in the list

module _ {A B : Type 0} (f : A → B) where
  pub find-map : (p : B → Bool) (xs : List A) → option_map f (find (λ x. p (f x)) xs) ≡ find p (map f xs)
  find-map p [] = refl
  find-map p (x ∷ xs) = go (p (f x)) (find-map p xs)
    where
      go : (b : Bool) → option_map f (find (λ x. p (f x)) xs) ≡ find p (map f xs) → option_map f (cond b (Some x) (find (λ x. p (f x)) xs)) ≡ cond b (Some (f x)) (find p (map f xs))
      go true ih = refl
      go false ih = ih

  pub twice-map : (same : B → B → Bool) (xs : List A) → twice (λ a b. same (f a) (f b)) xs ≡ twice same (map f xs)
  twice-map same [] = refl
  twice-map same (x ∷ xs) = rw (any_map f (λ y. same y (f x)) xs, twice-map same xs)

-- ---- the loop

-- what was read of s when `rest` is left: all the records, of which the first 40 are kept
pub record Held (s rest : List ℕ) (kept : List BookSegment) (over : Bool) : Type 0 where
  pub seen : List BookSegment
  pub more : ℕ
  pub enough : length rest < more
  pub whole : with_front seen (records more rest) ≡ records (suc (length s)) s
  pub first : kept ≡ take max_segments seen
  pub past : over ≡ ltb max_segments (length seen)

pub begins : (s : List ℕ) → Held s s [] false
begins s = record { seen = []; more = suc (length s); enough = omega arith; whole = go (records (suc (length s)) s); first = refl; past = refl }
  where
    go : (p : Parse (List BookSegment)) → with_front [] p ≡ p
    go bad = refl
    go (good gs r) = refl

-- a record takes a byte at least
pub shorter : (rest : List ℕ) (g : BookSegment) (r : List ℕ) → 0 < length rest → good g r ≡ segment_record rest → length r < length rest
shorter rest g r l e = let k : length r ≤ length rest - 11 = subst (λ (p : Parse BookSegment). Leaves (length rest - 11) p) (sym e) (segment_leaves rest) in omega arith

module _ (s rest : List ℕ) (kept : List BookSegment) (over : Bool) (h : Held s rest kept over) where
  pub ends : 0 < length rest → bad ≡ segment_record rest → records (suc (length s)) s ≡ bad
  unfolding records
  ends l e = go h.more h.enough h.whole
    where
      go : (n : ℕ) → length rest < n → with_front h.seen (records n rest) ≡ records (suc (length s)) s → records (suc (length s)) s ≡ bad
      go zero m w = absurd (omega arith)
      go (suc n) m w = sym (rw (ne_eqb (length rest) 0 (omega arith), ← e) at w)

  pub refused : 0 < length rest → bad ≡ segment_record rest → refuse 7 ≡ book_of s
  unfolding book_of
  refused l e = rw (ends l e)

  step : (g : BookSegment) (r : List ℕ) → 0 < length rest → good g r ≡ segment_record rest
      → (m : ℕ) × (length r < m) × (with_front (h.seen ++ g ∷ []) (records m r) ≡ records (suc (length s)) s)
  unfolding records
  step g r l e = go h.more h.enough h.whole
    where
      moved : (p : Parse (List BookSegment)) → with_front (h.seen ++ g ∷ []) p ≡ with_front h.seen (and_then p (λ gs r₂. good (g ∷ gs) r₂))
      moved bad = refl
      moved (good gs r₂) = simp append_assoc

      go : (n : ℕ) → length rest < n → with_front h.seen (records n rest) ≡ records (suc (length s)) s
          → (m : ℕ) × (length r < m) × (with_front (h.seen ++ g ∷ []) (records m r) ≡ records (suc (length s)) s)
      go zero m w = absurd (omega arith)
      go (suc n) m w = let k = shorter rest g r l e in (n, omega arith, moved (records n r) ∙ rw (ne_eqb (length rest) 0 (omega arith), ← e) at w)

  pub goes_on : (g : BookSegment) (r : List ℕ) → 0 < length rest → good g r ≡ segment_record rest
      → (kept₂ : List BookSegment) (over₂ : Bool) → (length kept < max_segments → (kept₂ ≡ kept ++ g ∷ []) × (over₂ ≡ over)) → (max_segments ≤ length kept → (kept₂ ≡ kept) × (over₂ ≡ true))
      → Held s r kept₂ over₂
  goes_on g r l e kept₂ over₂ room full =
      let p = step g r l e in
      record { seen = h.seen ++ g ∷ []; more = p.0; enough = p.1; whole = p.2; first = both.0; past = both.1 }
    where
      long : length (h.seen ++ g ∷ []) ≡ length h.seen + 1
      long = length-append h.seen (g ∷ [])

      both : (kept₂ ≡ take max_segments (h.seen ++ g ∷ [])) × (over₂ ≡ ltb max_segments (length (h.seen ++ g ∷ [])))
      both =
          elim (cases_lt (length h.seen) max_segments) [
            | inl lt ↦
                let e : kept ≡ h.seen = h.first ∙ take_all max_segments h.seen (omega arith) in
                let n : length kept < max_segments = rw e lt in
                let t = room n in
                (t.0 ∙ rw (e, take_all max_segments (h.seen ++ g ∷ []) (omega (arith, long))), t.1 ∙ h.past ∙ rw (le-ltb max_segments (length h.seen) (omega arith), long, le-ltb max_segments (length h.seen + 1) (omega arith)))
            | inr le ↦
                let n : max_segments ≤ length kept = rw h.first (rw (length-take-le max_segments h.seen le) (omega arith)) in
                let t = full n in
                (t.0 ∙ h.first ∙ sym (take-append-le max_segments h.seen (g ∷ []) le), t.1 ∙ rw (long, lt-ltb max_segments (length h.seen + 1) (omega arith)))
          ]

-- ---- the answer

module _ (s rest : List ℕ) (kept : List BookSegment) (over : Bool) (h : Held s rest kept over) (end : length rest ≡ 0) where
  read : records (suc (length s)) s ≡ good h.seen rest
  unfolding records
  read = go h.more h.enough h.whole
    where
      go : (n : ℕ) → length rest < n → with_front h.seen (records n rest) ≡ records (suc (length s)) s → records (suc (length s)) s ≡ good h.seen rest
      go zero m w = absurd (omega arith)
      go (suc n) m w = sym (rw (eq-eqb (length rest) 0 end, append-nil) at w)

  pub answers : book_of s ≡ cond (over || (twice same_segment kept || any nidtp_twice kept)) (refuse 8) (accept kept)
  unfolding book_of
  answers = rw (read, ← h.past) (go over h.past)
    where
      a : Bool
      a = twice same_segment h.seen

      b : Bool
      b = any nidtp_twice h.seen

      last : (t : Bool) → then_judge (row 8 t) (λ u. accept h.seen) ≡ cond t (refuse 8) (accept h.seen)
      last true = refl
      last false = refl

      go : (t : Bool) → t ≡ ltb max_segments (length h.seen)
          → then_judge (row 8 (a || (b || t))) (λ u. accept h.seen) ≡ cond (t || (twice same_segment kept || any nidtp_twice kept)) (refuse 8) (accept kept)
      go true e = rw (or-true b, or-true a)
      go false e =
          let k : kept ≡ h.seen = h.first ∙ take_all max_segments h.seen (ltb-false max_segments (length h.seen) (sym e)) in
          rw (k, or-false b) (last (a || b))

  -- each record is in its ranges
  pub kept_fit : over ≡ false → All SegmentFits kept
  kept_fit e =
      let k : kept ≡ h.seen = h.first ∙ take_all max_segments h.seen (ltb-false max_segments (length h.seen) (sym h.past ∙ e)) in
      rw k (sure_of (All SegmentFits) (records (suc (length s)) s) h.seen rest read (records_fit (suc (length s)) s))

-- the first n of the array's entries, as they are read: one more, or none where it is full
pub record Kept (es : List Entry) (n : ℕ) (s rest : List ℕ) (over : Bool) : Type 0 where
  pub size : length es ≡ 40
  pub few : n ≤ 40
  pub held : Held s rest (map entry_view (take n es)) over

module _ (es : List Entry) (n : ℕ) (size : length es ≡ 40) (few : n ≤ 40) where
  pub kept_length : length (map entry_view (take n es)) ≡ n
  kept_length = length-map (take n es) entry_view ∙ length-take-le n es (omega (arith, size))

  pub kept_more : (e : Entry) → n < 40 → map entry_view (take (n + 1) (set es n e)) ≡ map entry_view (take n es) ++ entry_view e ∷ []
  kept_more e h = rw (take-set_at es n (n + 1) e refl (omega (arith, size))) (map-append entry_view (take n es) (e ∷ []))

module _ (es : List Entry) (n : ℕ) (s rest : List ℕ) (over : Bool) (k : Kept es n s rest over) where
  pub one_more : (e : Entry) (r : List ℕ) → 0 < length rest → good (entry_view e) r ≡ segment_record rest
      → (after : List Entry) (there : Bool) (m : ℕ) → length after ≡ 40 → (n < 40 → (after ≡ set es n e) × (there ≡ true)) → (40 ≤ n → (after ≡ es) × (there ≡ false)) → m ≡ bool_byte there
      → Kept after (n + m) s r (over || not there)
  one_more e r l read after there m size room full q =
      elim (cases_lt n 40) [
        | inl h ↦
            let t = room h in
            let one : m ≡ 1 = q ∙ ap bool_byte t.1 in
            record {
              size = size;
              few = omega (arith, one);
              held =
                  goes_on s rest (map entry_view (take n es)) over k.held (entry_view e) r l read _ _
                  (λ x. (rw (one, t.0) (kept_more es n k.size k.few e h), rw t.1 (or-false over)))
                  (λ x. absurd (omega (arith, x, kept_length es n k.size k.few)));
            }
        | inr h ↦
            let t = full h in
            let none : n + m ≡ n = let z : m ≡ 0 = q ∙ ap bool_byte t.1 in omega (arith, z) in
            record {
              size = size;
              few = omega (arith, none, k.few);
              held =
                  goes_on s rest (map entry_view (take n es)) over k.held (entry_view e) r l read _ _
                  (λ x. absurd (omega (arith, x, kept_length es n k.size k.few)))
                  (λ x. (rw (none, t.0), rw t.1 (or-true over)));
            }
      ]

-- a slice that is empty, or not
pub some_left : (n : ℕ) → false ≡ eqb n 0 → 0 < n
some_left zero e = absurd (false≢true e)
some_left (suc n) e = omega arith

-- the points of a record that was read are all among the first 16
pub points_kept : (g : BookSegment) → SegmentFits g → twice (λ (p q : BookPoint). eqb p.nidtp q.nidtp) (take max_record_points g.points) ≡ nidtp_twice g
points_kept g h = rw (take_all max_record_points g.points h.point_count) (twice-map (λ (p : BookPoint). p.nidtp) eqb g.points)

-- the entries that a full count takes in
pub taken_in : (es : List Entry) (n : ℕ) → n ≤ 40 → map entry_view (take (min 40 n) es) ≡ map entry_view (take n es)
taken_in es n h = let e : min 40 n ≡ n = omega arith in rw e

-- the tests of the row 8 on the entries that are kept
abbrev pub segments_named : List Entry → Bool
segments_named kept = twice (λ (x y : Entry). same_segment (entry_view x) (entry_view y)) kept

abbrev pub points_named : List Entry → Bool
points_named kept = any (λ x. twice (λ (p q : BookPoint). eqb p.nidtp q.nidtp) (take max_record_points (entry_view x).points)) kept

module _ (s rest : List ℕ) (kept : List Entry) (over : Bool) (h : Held s rest (map entry_view kept) over) (end : true ≡ eqb (length rest) 0) where
  points_same : over ≡ false → points_named kept ≡ any nidtp_twice (map entry_view kept)
  points_same e =
      sym (any_map entry_view (λ g. twice (λ (p q : BookPoint). eqb p.nidtp q.nidtp) (take max_record_points g.points)) kept)
      ∙ any_same SegmentFits _ nidtp_twice points_kept (map entry_view kept) (kept_fit s rest (map entry_view kept) over h (eqb-true (length rest) 0 (sym end)) e)

  answer : (o a b : Bool) → over ≡ o → a ≡ segments_named kept → b ≡ any nidtp_twice (map entry_view kept) → cond (o || (a || b)) (refuse 8) (accept (map entry_view kept)) ≡ book_of s
  answer o a b p q r =
      rw (← p, q, r, twice-map entry_view same_segment kept) (sym (answers s rest (map entry_view kept) over h (eqb-true (length rest) 0 (sym end))))

  pub over_refused : over ≡ true → refuse 8 ≡ book_of s
  over_refused e = answer true _ _ e refl refl

  pub segment_refused : true ≡ segments_named kept → refuse 8 ≡ book_of s
  segment_refused e = rw (or-true over) at (answer over true (any nidtp_twice (map entry_view kept)) refl e refl)

  pub point_refused : over ≡ false → true ≡ points_named kept → refuse 8 ≡ book_of s
  point_refused o e = rw (or-true (segments_named kept)) at (answer false (segments_named kept) true o refl (e ∙ points_same o))

  pub accepted : over ≡ false → false ≡ segments_named kept → false ≡ points_named kept → accept (map entry_view kept) ≡ book_of s
  accepted o e f = answer false false false o e (f ∙ points_same o)
