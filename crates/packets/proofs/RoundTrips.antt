-- Writing and reading undo each other, in both orders; so no packet has two byte forms and no bytes have two readings.
use Rattle.std.specs.Prelude.{if◌then◌else◌}
use Prim.Native.Nat.{ℕ, zero, suc, ◌+◌, ◌≤◌}
use mathlib.Core.Path.{◌≡◌, refl, sym, ap, ◌∙◌, subst}
use mathlib.Core.List.{List, [], ◌∷◌, ◌++◌, append-nil}
use mathlib.Core.Bool.{Bool, true, false, not, ◌&&◌}
use native.Mathlib.Omega.{arith}
use lib.ListN.{length, get_or, take, drop, drop_of_length-le, take-append-drop}
use lib.Seq.{drop-cons, drop_at, take_at, length-take-le}
use lib.Dec.{eqb, ltb, lit<, eqb-suc-zero}
use borrow.Author.Tests.{eqb-true, eq-eqb, ltb-false}
use Rattle.wire.specs.Numbers.{Bytes}
use Rattle.wire.specs.Lists.{All}
use Rattle.wire.specs.Judged.{Judged, then_judge, row}
use Rattle.wire.specs.Judged.Judged.{accept}
use Rattle.wire.proofs.ListLaws.{and_left, and_right}
use Rattle.layout.specs.Layout.{Values, bytes, values_at, fits}
use Rattle.layout.specs.Body.{BodyValues, body_bytes, body_size, body_at, body_fits}
use Rattle.layout.proofs.LayoutLaws.{length-bytes, Typed, read-written as values-back, written_read as bytes_back, read_typed as values-typed}
use Rattle.layout.proofs.BodyLaws.{body_sound, BodyTyped, body_back, body_again, body_typed}
use Rattle.adhesion.proofs.Laws.{remade, values_remade}
use Rattle.packets.specs.Layouts.{PacketKind, header_layout, content_at, kind64, kinds}
use Rattle.packets.specs.View.{PacketValues, packet_values}
use Rattle.packets.specs.Packets.{value_bytes, values_size, packet_bytes, size_of, values_fit, packet_fits, kind_from, packet_at, judged_packet, packet_of, written_count, written_memory}
use Rattle.packets.proofs.PacketLaws.{length-values, written_all}
use Rattle.packets.specs.Packet.{Packet}

-- ---- each kind

-- the packet that a kind makes has that kind and the values it was made of
abbrev Made : PacketKind → Type 0
Made k = (h : Values header_layout) (c : BodyValues k.content) → packet_values (k.packet h c) ≡ record { kind = k; header = h; content = c }

made : All Made kinds
made = (λ h c. refl, (λ h c. refl, (λ h c. refl, (λ h c. refl, (λ h c i. record { kind = kind64; header = h; content = values_remade c i }, tt)))))

-- a packet is made of its values by its kind, which its number tells and whose layout holds its ranges
pub record Known (p : Packet) : Type 0 where
  pub remade : (packet_values p).kind.packet (packet_values p).header (packet_values p).content ≡ p
  pub told : kind_from kinds (packet_values p).kind.number ≡ accept (packet_values p).kind
  pub sound_content : body_sound (packet_values p).kind.content ≡ true

pub known : (p : Packet) → Known p
known (Packet.TimingPoint p) = record { remade = refl; told = refl; sound_content = refl }
known (Packet.JpReceived p) = record { remade = refl; told = refl; sound_content = refl }
known (Packet.AtoStatus p) = record { remade = refl; told = refl; sound_content = refl }
known (Packet.TractionBrake p) = record { remade = refl; told = refl; sound_content = refl }
known (Packet.AdhesionSystem h rows) = record { remade = ap (Packet.AdhesionSystem h) (remade rows); told = refl; sound_content = refl }

-- ---- what was written is read

-- the fields that are free are within their types
abbrev pub TypedValues : PacketValues → Type 0
TypedValues v = Typed header_layout v.header × BodyTyped v.kind.content v.content

abbrev pub TypedPacket : Packet → Type 0
TypedPacket p = TypedValues (packet_values p)

module _ (v : PacketValues) (f : values_fit v ≡ true) (t : TypedValues v) where
  both : (fits header_layout v.header && body_fits v.kind.content v.content) ≡ true
  both = and_left (fits header_layout v.header && body_fits v.kind.content v.content) _ f

  header_back : values_at header_layout 1 (value_bytes v) ≡ v.header
  unfolding value_bytes
  header_back = values-back header_layout v.header 1 (value_bytes v) (body_bytes v.kind.content v.content) refl (and_left (fits header_layout v.header) _ both) t.0 refl

  content_back : body_sound v.kind.content ≡ true → body_at v.kind.content content_at (value_bytes v) ≡ v.content
  unfolding value_bytes
  content_back o =
      body_back v.kind.content v.content content_at (value_bytes v) [] o (and_right (fits header_layout v.header) _ both) t.1
      (drop_at (v.kind.number ∷ bytes header_layout v.header) _ content_at (ap suc (length-bytes header_layout v.header)) ∙ sym (append-nil _))

packet-back : (p : Packet) → packet_fits p ≡ true → TypedPacket p → packet_at (packet_values p).kind (packet_bytes p) ≡ p
packet-back p f t =
    let v = packet_values p in
    (λ i. v.kind.packet (header_back v f t i) (content_back v f t (known p).sound_content i)) ∙ (known p).remade

-- reading a written packet gives it back
pub read-written : (p : Packet) → packet_fits p ≡ true → TypedPacket p → packet_of (packet_bytes p) ≡ accept p
unfolding packet_of judged_packet value_bytes
read-written p f t =
    let n : length (packet_bytes p) ≡ size_of p = length-values (packet_values p) in
    let some : eqb (length (packet_bytes p)) 0 ≡ false = eqb-suc-zero (length (bytes header_layout (packet_values p).header ++ body_bytes (packet_values p).kind.content (packet_values p).content)) in
    rw (some, (known p).told, packet-back p f t, eq-eqb _ _ n, f)

-- no bytes have two readings: packets with the same bytes are equal
pub one_reading : (p q : Packet) → packet_fits p ≡ true → TypedPacket p → packet_fits q ≡ true → TypedPacket q → packet_bytes p ≡ packet_bytes q → p ≡ q
one_reading p q f t g u e =
    let a : accept p ≡ accept q = sym (read-written p f t) ∙ ap packet_of e ∙ read-written q g u in
    cc

-- ---- what was read is written

abbrev values_in : PacketKind → List ℕ → PacketValues
values_in k s = record { kind = k; header = values_at header_layout 1 s; content = body_at k.content content_at s }

values_same : (k : PacketKind) (s : List ℕ) → body_sound k.content ≡ true → Bytes s → length s ≡ values_size (values_in k s) → get_or s 0 0 ≡ k.number → value_bytes (values_in k s) ≡ s
unfolding value_bytes
values_same k s o b n e =
    let end = content_at + body_size k.content (body_at k.content content_at s) in
    let all : drop end s ≡ [] = drop_of_length-le s {i = end} (omega arith) in
    let c : body_bytes k.content (body_at k.content content_at s) ≡ drop content_at s
    = sym (append-nil _) ∙ ap (λ (l : List ℕ). body_bytes k.content (body_at k.content content_at s) ++ l) (sym all) ∙ body_again k.content content_at s o b (omega arith) in
    rw (c, bytes_back header_layout 1 s refl b (omega arith), ← e) (sym (drop-cons s 0 0 (omega arith)))

-- what an accepted reading tells
record ReadAs (s : List ℕ) (p : Packet) : Type 0 where
  kind : PacketKind
  values : packet_values p ≡ values_in kind s
  number : get_or s 0 0 ≡ kind.number
  whole : length s ≡ values_size (values_in kind s)
  fit : packet_fits p ≡ true

judged-inv : (s : List ℕ) (k : PacketKind) (q p : Packet) → packet_values q ≡ values_in k s → get_or s 0 0 ≡ k.number → judged_packet (length s) q ≡ accept p → ReadAs s p
unfolding judged_packet
judged-inv s k q p v m = go _ refl _ refl
  where
    go : (a : Bool) → eqb (length s) (size_of q) ≡ a → (b : Bool) → packet_fits q ≡ b
        → then_judge (row 17 (not a)) (λ _. then_judge (row 19 (not b)) (λ _. accept q)) ≡ accept p → ReadAs s p
    go true n true f e =
        let same : q ≡ p = cc in
        subst (ReadAs s) same (record { kind = k; values = v; number = m; whole = eqb-true _ _ n ∙ ap values_size v; fit = f })
    go true n false f e = let z : ◌≡◌ {A = ℕ} 0 1 = cc in absurd (omega arith)
    go false n b f e = let z : ◌≡◌ {A = ℕ} 0 1 = cc in absurd (omega arith)

kind-inv : (ks : List PacketKind) (s : List ℕ) (p : Packet) → All Made ks → then_judge (kind_from ks (get_or s 0 0)) (λ k. judged_packet (length s) (packet_at k s)) ≡ accept p → ReadAs s p
kind-inv [] s p t e = let z : ◌≡◌ {A = ℕ} 0 1 = cc in absurd (omega arith)
kind-inv (k ∷ ks) s p t e = go _ refl e (kind-inv ks s p t.1)
  where
    after : Judged PacketKind → Judged Packet
    after j = then_judge j (λ k. judged_packet (length s) (packet_at k s))

    go : (a : Bool) → eqb (get_or s 0 0) k.number ≡ a → after (if a then accept k else kind_from ks (get_or s 0 0)) ≡ accept p
        → (after (kind_from ks (get_or s 0 0)) ≡ accept p → ReadAs s p) → ReadAs s p
    go true n e ih = judged-inv s k (packet_at k s) p (t.0 _ _) (eqb-true _ _ n) e
    go false n e ih = ih e

read-inv : (s : List ℕ) (p : Packet) → packet_of s ≡ accept p → ReadAs s p
unfolding packet_of
read-inv s p = go (eqb (length s) 0)
  where
    go : (a : Bool) → then_judge (row 17 a) (λ _. then_judge (kind_from kinds (get_or s 0 0)) (λ k. judged_packet (length s) (packet_at k s))) ≡ accept p → ReadAs s p
    go true e = let z : ◌≡◌ {A = ℕ} 0 1 = cc in absurd (omega arith)
    go false e = kind-inv kinds s p made e

module _ (s : List ℕ) (p : Packet) (e : packet_of s ≡ accept p) where
  -- writing a packet that was read gives its bytes back
  pub written_read : Bytes s → packet_bytes p ≡ s
  written_read b =
      let r = read-inv s p e in
      let sound-kind : body_sound r.kind.content ≡ true = ap (λ (v : PacketValues). body_sound v.kind.content) (sym r.values) ∙ (known p).sound_content in
      ap value_bytes r.values ∙ values_same r.kind s sound-kind b r.whole r.number

  -- a packet that was read is in its ranges and within its types, so the writer takes it
  pub read_fits : packet_fits p ≡ true
  read_fits = (read-inv s p e).fit

  pub read_typed : Bytes s → TypedPacket p
  read_typed b =
      let r = read-inv s p e in
      subst TypedValues (sym r.values) (values-typed header_layout 1 s b, body_typed r.kind.content content_at s b)

-- no packet has two byte forms
pub one_form : (s t : List ℕ) (p : Packet) → Bytes s → Bytes t → packet_of s ≡ accept p → packet_of t ≡ accept p → s ≡ t
one_form s t p b d e f = sym (written_read s p e b) ∙ written_read t p f d

-- ---- the writer itself

bytes_take : (n : ℕ) (l : List ℕ) → Bytes l → Bytes (take n l)
bytes_take zero l b i = lit< tt
bytes_take (suc n) [] b i = lit< tt
bytes_take (suc n) (x ∷ l) b zero = b 0
bytes_take (suc n) (x ∷ l) b (suc i) = bytes_take n l (λ j. b (suc j)) i

-- what an accepted writing tells
written_inv : (p : Packet) (memory : List ℕ) (n : ℕ) → written_count p memory ≡ accept n → (packet_fits p ≡ true) × (size_of p ≤ length memory) × (size_of p ≡ n)
unfolding written_count
written_inv p memory n = go _ refl _ refl
  where
    go : (a : Bool) → packet_fits p ≡ a → (b : Bool) → ltb (length memory) (size_of p) ≡ b
        → then_judge (row 19 (not a)) (λ _. then_judge (row 16 b) (λ _. accept (size_of p))) ≡ accept n → (packet_fits p ≡ true) × (size_of p ≤ length memory) × (size_of p ≡ n)
    go true f false r e = (f, ltb-false _ _ r, cc)
    go true f true r e = let z : ◌≡◌ {A = ℕ} 0 1 = cc in absurd (omega arith)
    go false f b r e = let z : ◌≡◌ {A = ℕ} 0 1 = cc in absurd (omega arith)

-- what the writer leaves in memory is read to the same packet
pub read_memory : (p : Packet) (memory : List ℕ) (n : ℕ) → TypedPacket p → written_count p memory ≡ accept n → packet_of (take n (written_memory p memory)) ≡ accept p
read_memory p memory n t e =
    let w = written_inv p memory n e in
    let front : take n (packet_bytes p ++ drop (size_of p) memory) ≡ packet_bytes p = take_at (packet_bytes p) _ n (length-values (packet_values p) ∙ w.2) in
    ap (λ (m : List ℕ). packet_of (take n m)) (written_all p memory w.0 w.1).1 ∙ ap packet_of front ∙ read-written p w.0 t

-- what was read and is written again restores its bytes, wherever there is room; the bytes behind are kept
pub write_read : (s memory : List ℕ) (p : Packet) → Bytes s → packet_of s ≡ accept p → length s ≤ length memory
    → (written_count p memory ≡ accept (length s)) × (written_memory p memory ≡ s ++ drop (length s) memory)
write_read s memory p b e h =
    let same : packet_bytes p ≡ s = written_read s p e b in
    let n : length s ≡ size_of p = ap length (sym same) ∙ length-values (packet_values p) in
    let w = written_all p memory (read_fits s p e) (omega arith) in
    (w.0 ∙ ap accept (sym n), w.1 ∙ rw (same, n))

-- written over the bytes that it was read from, it leaves the memory as it was
pub write_over : (memory : List ℕ) (n : ℕ) (p : Packet) → Bytes memory → n ≤ length memory → packet_of (take n memory) ≡ accept p
    → (written_count p memory ≡ accept n) × (written_memory p memory ≡ memory)
write_over memory n p b h e =
    let k : length (take n memory) ≡ n = length-take-le n memory h in
    let w = write_read (take n memory) memory p (bytes_take n memory b) e (omega arith) in
    (w.0 ∙ ap accept k, w.1 ∙ rw k (take-append-drop n memory))
