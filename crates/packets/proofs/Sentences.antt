-- The sentences of packets 68 and 64.
use mathlib.Core.Path.{◌≡◌, refl, sym, ap, ◌∙◌}
use mathlib.Core.Bool.{Bool, true, false, not, ◌&&◌, false≢true}
use mathlib.Core.List.{List, ◌∷◌, ◌++◌, append-nil}
use Prim.Native.Nat.{ℕ, ◌+◌, ◌*◌, ◌≤◌, ◌<◌}
use native.Mathlib.Omega.{arith}
use lib.Seq.{drop_at}
use lib.Dec.{eqb, leb, eqb-suc-zero}
use lib.ListN.{length, drop, length-map, length-append}
use borrow.Author.Tests.{le-leb, leb-true, eqb-false, ne_eqb}
use Rattle.wire.specs.Lists.{All, any}
use Rattle.wire.specs.Judged.{Judged, then_judge, row}
use Rattle.wire.specs.Judged.Judged.{refuse, accept}
use mathlib.Core.Logic.{◌↔◌}
use Rattle.adhesion.specs.Constraints.{constraints_body, constraints_of, reversed}
use Rattle.adhesion.specs.View.{constraint_view, constraints_values}
use Rattle.adhesion.specs.declared.TemporaryConstraint.{TemporaryConstraint}
use Rattle.adhesion.proofs.Laws.{remade, values_remade}
use Rattle.adhesion.specs.Ranges.{InRange, InOrder}
use Rattle.adhesion.proofs.Ranges.{rows_fit, rows_in_range, in_order, order_in}
use Rattle.packets.specs.Packet.{Packet}
use Rattle.packets.specs.declared.Header.{Header}
use Rattle.packets.proofs.RoundTrips.{TypedPacket, read-written, written_read, read_fits, read_typed}
use Rattle.wire.specs.Numbers.{number, bytes_of}
use Rattle.layout.specs.Layout.{bytes, fits}
use Rattle.layout.specs.Body.{body_at, body_fits}
use Rattle.wire.proofs.ListLaws.{and_left, and_right, tabulate-length}
use Rattle.status_word.specs.Word.{status_word}
use Rattle.status_word.specs.View.{conditions_view}
use Rattle.packets.specs.Layouts.{header_layout, kind64}
use Rattle.packets.specs.View.{header_view}
use Rattle.packets.specs.Packets.{value_bytes, packet_bytes, packet_fits, size_of, packet_at, judged_packet, packet_of}
use Rattle.packets.specs.Sentences.{Sentences, HeaderInRange}

-- ---- rows in their ranges

module _ (h : Header) (rows : List TemporaryConstraint) where
  rows_back : HeaderInRange h → length rows ≤ 31 → All InRange rows → All InOrder rows
      → packet_of (packet_bytes (Packet.AdhesionSystem h rows)) ≡ accept (Packet.AdhesionSystem h rows)
  rows_back k few each straight =
      let r = rows_fit rows each in
      let count : leb (length (constraints_values rows)) 31 ≡ true = le-leb _ 31 (omega (arith, few, length-map rows constraint_view)) in
      read-written (Packet.AdhesionSystem h rows)
      (rw (le-leb h.nidc 1023 k.nidc, le-leb h.offset 16777215 k.offset, count, r.0, remade rows, in_order rows straight) refl)
      ((tt, (k.nidsp, (tt, (k.speed, (k.operational, tt))))), r.1)

  abbrev head_fits : Bool
  head_fits = fits header_layout (header_view h)

  abbrev rows_fitting : Bool
  rows_fitting = body_fits constraints_body (constraints_values rows)

  in_ranges : packet_fits (Packet.AdhesionSystem h rows) ≡ true → TypedPacket (Packet.AdhesionSystem h rows)
      → HeaderInRange h × (length rows ≤ 31) × All InRange rows × All InOrder rows
  in_ranges f t =
      let both = and_left (head_fits && rows_fitting) _ f in
      let head = and_left head_fits _ both in
      let body = and_right head_fits _ both in
      let behind-nidc = and_right (leb h.nidc 1023) _ head in
      let count : length (constraints_values rows) ≤ 31 = leb-true _ _ (and_left (leb (length (constraints_values rows)) 31) _ body) in
      let each = and_right (leb (length (constraints_values rows)) 31) _ body in (
        record {
          nidc = leb-true _ _ (and_left (leb h.nidc 1023) _ head);
          nidsp = t.0.1.0;
          offset = leb-true _ _ (and_left (leb h.offset 16777215) _ behind-nidc);
          speed = t.0.1.1.1.0;
          operational = t.0.1.1.1.1.0;
        },
        omega (arith, count, length-map rows constraint_view),
        rows_in_range rows each t.1,
        order_in rows none,
      )
    where
      negated : (b : Bool) → not b ≡ true → b ≡ false
      negated true q = absurd (false≢true q)
      negated false q = refl

      none : any reversed rows ≡ false
      none = ap (any reversed) (sym (remade rows)) ∙ negated (any reversed (constraints_of (constraints_values rows))) (and_right (head_fits && rows_fitting) _ f)

-- ---- 17

module _ (rest : List ℕ) where
  abbrev whole : List ℕ
  whole = 64 ∷ rest

  abbrev there : Packet
  there = packet_at kind64 whole

  abbrev verdict : Bool → Bool → Judged Packet
  verdict a b = then_judge (row 17 (not a)) (λ t. then_judge (row 19 (not b)) (λ u. accept there))

  by_rows : packet_of whole ≡ verdict (eqb (length whole) (size_of there)) (packet_fits there)
  unfolding packet_of judged_packet
  by_rows = rw (eqb-suc-zero (length rest)) refl

  size_is : size_of there ≡ 18 + 16 * number 1 (drop 17 whole)
  size_is =
      let values = body_at constraints_body 17 whole in
      let m : length values ≡ number 1 (drop 17 whole) = tabulate-length (number 1 (drop 17 whole)) _ in
      let same : length (constraints_values (constraints_of values)) ≡ length values = ap length (values_remade values) in
      omega (arith, m, same)

  refused-17 : (a b : Bool) → verdict a b ≡ refuse 17 → a ≡ false
  refused-17 false b q = refl
  refused-17 true false q = let z : ◌≡◌ {A = ℕ} 19 17 = cc in absurd (omega arith)
  refused-17 true true q = let z : ◌≡◌ {A = ℕ} 0 1 = cc in absurd (omega arith)

  wrong_length : (packet_of whole ≡ refuse 17) ↔ (length whole ≡ 18 + 16 * number 1 (drop 17 whole) → ⊥)
  wrong_length = (λ q n. eqb-false _ _ (refused-17 _ _ (sym by_rows ∙ q)) (n ∙ sym size_is), λ h. by_rows ∙ rw (ne_eqb _ _ (λ n. h (n ∙ size_is))) refl)

module _ (header : List ℕ) (count : ℕ) (rest : List ℕ) (n : length header ≡ 16) where
  count_is : number 1 (drop 17 (64 ∷ header ++ (count ∷ rest))) ≡ count
  unfolding number
  count_is = ap (number 1) (drop_at header (count ∷ rest) 16 n) ∙ omega arith

  seventeen : (packet_of (64 ∷ header ++ (count ∷ rest)) ≡ refuse 17) ↔ (18 + length rest ≡ 18 + 16 * count → ⊥)
  seventeen =
      let w = wrong_length (header ++ (count ∷ rest)) in
      let m = length-append header (count ∷ rest) in
      (λ q e. w.0 q (omega (arith, e, m, n, count_is)), λ h. w.1 (λ e. h (omega (arith, e, m, n, count_is))))

below_18 : (rest : List ℕ) → 1 + length rest < 18 → packet_of (64 ∷ rest) ≡ refuse 17
below_18 rest h = (wrong_length rest).1 (λ e. omega (arith, e, h))

pub sentences : Sentences
unfolding value_bytes bytes
sentences = record {
  any_count = λ h rows k few each straight. rows_back h rows k few each straight;
  any_bytes = λ h rows s b e. written_read s (Packet.AdhesionSystem h rows) e b;
  no_others = λ h rows s b e. in_ranges h rows (read_fits s _ e) (read_typed s _ e b);
  seventeen = seventeen;
  below_18 = below_18;
  sixteen_bits = λ p.
      ap (λ (content : List ℕ). 68 ∷ bytes header_layout (header_view p.header) ++ content)
      (append-nil (bytes_of 2 (status_word p.state (conditions_view p.conditions))));
}
