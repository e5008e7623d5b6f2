-- A deal of a plan that passes the questions: local gates keep held values right, and shares of keyed gates join.
use Rattle.std.proofs.Common.{◌≡◌, ℕ, ◌+◌, ◌*◌, ◌%◌, ◌^◌, ◌<◌, ◌≤◌, Bool, true, false, cond, ltb, leb, List, [], ◌∷◌, length, get_or, drop, sym, refl, ap, ◌∙◌, subst, ap₂, add-zero, mod-lt, arith, get_or-drop, pow_pos}
use lib.Bits.{bit_xor, xor_lt}
use Rattle.std.proofs.lemmas.Bool.{and_parts, ltb-true, leb-true, lt-ltb, false≢true}
use Rattle.expander.specs.Meaning.{Expansion}
use Rattle.expander.specs.declared.Seed.{Seed}
use Rattle.group.specs.Residues.{Residue}
use Rattle.group.specs.Flags.{flags}
use Rattle.key.specs.declared.BoxNumber.{BoxNumber}
use Rattle.key.specs.declared.BoxNumber.TheVariants.{Zero, One}
use Rattle.key.specs.Rows.{is_one}
use Rattle.joining.specs.Joining.{AllWide, dealt_answer}
use Rattle.interval.specs.Interval.{threshold, extra, masked, answer}
use Rattle.shares.specs.Words.{words as word_group, Word, word, quads, flag_word}
use Rattle.shares.specs.Splits.{part_of_flags, part_of_element}
use Rattle.shares.specs.Shifts.{low_threshold, low_payload, high_payload}
use Rattle.shares.specs.Plain.{plain_piece, plain_flag, plain_shift, plain_signed_shift, plain_product}
use Rattle.shares.proofs.Splits.{held_is_plain}
use Rattle.shares.proofs.Product.{product_joins}
use Rattle.shares.proofs.Keyed.{piece_is_plain, flag_is_plain, shift_is_plain, signed_shift_is_plain}
use Rattle.gates.specs.Piece.{piece_draws, payload_of}
use Rattle.gates.specs.Flag.{flag_draws}
use Rattle.gates.specs.Shift.{low_root0, low_root1, high_root0, high_root1}
use Rattle.gates.proofs.Meeting.{dealt_keys_join}
use Rattle.layout.specs.Bytes.{front}
use Rattle.runs.specs.Plans.{Wiring, Deal, Dealt, AllWithin, hide_all}
use Rattle.plan.specs.Gates.{GateBody}
use Rattle.plan.specs.declared.gates.Gate.TheVariants.{Sum, Scale, Product, Piece, Flag, Shift, SignedShift, Xor}
use Rattle.plan.specs.Plans.{Planned, wires, is_input, is_flag, row_at, gives_flag, is_keyed, reads, words_of, words_before}
use Rattle.plan.specs.Questions.{lower_number, lower_flag, reads_fit, fields_fit, interval_fits, below}
use Rattle.plan.specs.Meaning.{plain_gate}
use Rattle.plan.proofs.Accepted.{Accepted, accepted, gate_reads, gate_fields}
use Rattle.masks.specs.Masks.{gate_mask, masks, mask_of}
use Rattle.gatebytes.specs.Dealt.{dealt_gate}
use Rattle.sharing.specs.Laws.{DealsFit}
use Rattle.boxview.specs.Sharing.{gate_share, gate_local}
use Rattle.boxview.specs.Values.{values}
use Rattle.sharing.specs.Wirings.{own, wiring_of, deal_of}
use Rattle.sharing.proofs.Masks.{number_read, flag_read, mask_fine, gate_mask_is}
use Rattle.sharing.proofs.Groups.{sum_held, scale_held, xor_held}
use Rattle.sharing.proofs.Formed.{number_below, gate_place}

number_sum : (n : ℕ) (t : Bool) (x y : ℕ) → t ≡ false → (values n t).sum x y ≡ (x + y) % 2 ^ n
number_sum n true x y e = absurd (false≢true (sym e))
number_sum n false x y e = refl

flag_sum : (n : ℕ) (t : Bool) (x y : ℕ) → t ≡ true → (values n t).sum x y ≡ bit_xor x y
flag_sum n true x y e = refl
flag_sum n false x y e = absurd (false≢true e)

-- a gate's first word
first_word : (g : GateBody) (u : ℕ) (ws ms : List ℕ) (n : ℕ) → is_keyed g ≡ true
    → gate_mask n ms (get_or (front (words_of g) (drop u ws)) 0 0) g ≡ gate_mask n ms (get_or ws u 0) g
first_word g u ws ms n k = go g k
  where
    at : get_or (drop u ws) 0 0 ≡ get_or ws u 0
    at = get_or-drop u ws 0 0 ∙ ap (λ i. get_or ws i 0) (add-zero u)

    go : (g : GateBody) → is_keyed g ≡ true → gate_mask n ms (get_or (front (words_of g) (drop u ws)) 0 0) g ≡ gate_mask n ms (get_or ws u 0) g
    go (Sum a b) k = absurd (false≢true k)
    go (Scale a c d) k = absurd (false≢true k)
    go (Xor a b) k = absurd (false≢true k)
    go (Flag a p q t) k = ap (λ z. z % 2 ^ 32) at
    go g k = ap (λ z. z % 2 ^ n) at

module _ (d x y : Expansion) (wide : AllWide d) (ex : d ≡ x) (ey : d ≡ y)
    (p : Planned) (number : ℕ) (words : List ℕ) (b count : ℕ) (a : Accepted p b count) where
  n : ℕ
  n = p.width

  -- a number wire's mask is below N
  mask_low : (i : ℕ) → is_flag p i ≡ false → get_or (masks p words) i 0 < 2 ^ p.width
  mask_low i e = number_below p.width (is_flag p i) _ e (mask_fine p words b count a i)

  -- box b's share of a gate with the words w at held values
  part : BoxNumber → List ℕ → GateBody → List ℕ → ℕ
  part c w g hs = gate_share (own x y c) p.width (is_one c) (dealt_gate d p.width (is_one c) (masks p words) w g) hs

  Joined : List ℕ → GateBody → List ℕ → ℕ → Type 0
  Joined w g hs v =
      ((values p.width (gives_flag g)).sum (part Zero w g hs) (part One w g hs) ≡ (values p.width (gives_flag g)).sum v (gate_mask p.width (masks p words) (get_or w 0 0) g))
      × ((c : BoxNumber) → (values p.width (gives_flag g)).within (part c w g hs) ≡ true)

  product_joined : (w : List ℕ) (i j v u : ℕ) → is_flag p i ≡ false → is_flag p j ≡ false → v < 2 ^ p.width → u < 2 ^ p.width
      → Joined w (Product i j) (masked (2 ^ p.width) (get_or (masks p words) i 0) v ∷ masked (2 ^ p.width) (get_or (masks p words) j 0) u ∷ []) (plain_product (2 ^ p.width) v u)
  unfolding Joined part
  product_joined w i j v u ei ej hv hu =
      let N : ℕ = 2 ^ p.width in
      let r : ℕ = get_or (masks p words) i 0 in
      let s : ℕ = get_or (masks p words) j 0 in (
        product_joins N (masked N r v) (masked N s u) r s (get_or w 0 0 % N) (get_or w 1 0) (get_or w 2 0) (get_or w 3 0) (mask_low i ei) (mask_low j ej)
            ∙ ap₂ (λ (m k : ℕ). (plain_product N m k + get_or w 0 0 % N) % N) ((held_is_plain N r (mask_low i ei)).0 v hv) ((held_is_plain N s (mask_low j ej)).0 u hu),
        elim [ Zero ↦ lt-ltb _ _ (mod-lt _ (pow_pos p.width)) | One ↦ lt-ltb _ _ (mod-lt _ (pow_pos p.width)) ],
      )

  piece_joined : (w : List ℕ) (i l h : ℕ) (c : List ℕ) (v : ℕ) → is_flag p i ≡ false → l ≤ h → h < 2 ^ p.width → v < 2 ^ p.width
      → Joined w (Piece i l h c) (masked (2 ^ p.width) (get_or (masks p words) i 0) v ∷ [])
      (plain_piece (2 ^ p.width) l h (get_or c 0 0) (get_or c 1 0) (get_or c 2 0) (get_or c 3 0) v)
  unfolding Joined part
  piece_joined w i l h c v ei lh hh hv =
      let N : ℕ = 2 ^ p.width in
      let r : ℕ = get_or (masks p words) i 0 in (
        piece_is_plain p.width (masked N r v) r l h (get_or c 0 0) (get_or c 1 0) (get_or c 2 0) (get_or c 3 0) (get_or w 0 0 % N) (get_or w 13 0) a.few_bits
            (mod-lt _ (pow_pos p.width)) (mask_low i ei) lh hh (piece_draws w).payload1 (piece_draws w).extra1
            (dealt_answer quads d x p.width (threshold N r) (payload_of r c) (piece_draws w).roots.zero (piece_draws w).roots.one false (piece_draws w).roots.zero)
            (dealt_answer quads d y p.width (threshold N r) (payload_of r c) (piece_draws w).roots.zero (piece_draws w).roots.one true (piece_draws w).roots.one)
            (dealt_keys_join quads d x y p.width (threshold N r) (payload_of r c) (piece_draws w).roots.zero (piece_draws w).roots.one wide ex ey (mod-lt _ (pow_pos p.width)))
            ∙ ap (λ (m : ℕ). (plain_piece N l h (get_or c 0 0) (get_or c 1 0) (get_or c 2 0) (get_or c 3 0) m + get_or w 0 0 % N) % N) ((held_is_plain N r (mask_low i ei)).0 v hv),
        elim [ Zero ↦ lt-ltb _ _ (mod-lt _ (pow_pos p.width)) | One ↦ lt-ltb _ _ (mod-lt _ (pow_pos p.width)) ],
      )

  residue_low : (z : Residue (2 ^ 32)) → z.0 < 2 ^ 32
  residue_low z = let h = mod-lt z.0 (pow_pos 32) in let e = z.1 in subst (λ (k : ℕ). k < 2 ^ 32) e h

  part_low : (one : Bool) (out random : ℕ) → out < 2 ^ 32 → part_of_flags one out random < 2 ^ 32
  part_low true out random h = mod-lt random (pow_pos 32)
  part_low false out random h = xor_lt 32 out (random % 2 ^ 32) h (mod-lt random (pow_pos 32))

  flag_part_low : (z : Residue (2 ^ 32)) (one : Bool) (out random : ℕ) → out < 2 ^ 32 → ltb (bit_xor z.0 (part_of_flags one out random)) (2 ^ 32) ≡ true
  flag_part_low z one out random h = lt-ltb _ _ (xor_lt 32 z.0 (part_of_flags one out random) (residue_low z) (part_low one out random h))

  flag_joined : (w : List ℕ) (i l h t v : ℕ) → is_flag p i ≡ false → l ≤ h → h < 2 ^ p.width → t < 2 ^ 32 → v < 2 ^ p.width
      → Joined w (Flag i l h t) (masked (2 ^ p.width) (get_or (masks p words) i 0) v ∷ []) (plain_flag l h t v)
  unfolding Joined part
  flag_joined w i l h t v ei lh hh ht hv =
      let N : ℕ = 2 ^ p.width in
      let r : ℕ = get_or (masks p words) i 0 in
      let key : Expansion → Bool → Seed → ℕ → Residue (2 ^ 32)
      = λ z one root. dealt_answer flags d z p.width (threshold N r) (flag_word t) (flag_draws w).roots.zero (flag_draws w).roots.one one root in
      let said : Bool → (ℕ → Residue (2 ^ 32)) → Residue (2 ^ 32)
      = λ one k. answer flags N (masked N r v) l h (part_of_element flags one (flag_word t) (flag_draws w).payload1)
      (part_of_element flags one (extra flags N r l h (flag_word t)) (flag_draws w).extra1) k in
      let out : get_or w 0 0 % 2 ^ 32 < 2 ^ 32 = mod-lt (get_or w 0 0) (pow_pos 32) in (
        flag_is_plain N (masked N r v) r l h t (get_or w 0 0 % 2 ^ 32) (get_or w 7 0)
            (mod-lt _ (pow_pos p.width)) (mask_low i ei) lh hh ht (flag_draws w).payload1 (flag_draws w).extra1 (key x false (flag_draws w).roots.zero) (key y true (flag_draws w).roots.one)
            (dealt_keys_join flags d x y p.width (threshold N r) (flag_word t) (flag_draws w).roots.zero (flag_draws w).roots.one wide ex ey (mod-lt _ (pow_pos p.width)))
            ∙ ap (λ (m : ℕ). bit_xor (plain_flag l h t m) (get_or w 0 0 % 2 ^ 32)) ((held_is_plain N r (mask_low i ei)).0 v hv),
        elim [
          | Zero ↦ flag_part_low (said false (key x false (flag_draws w).roots.zero)) false (get_or w 0 0 % 2 ^ 32) (get_or w 7 0) out
          | One ↦ flag_part_low (said true (key y true (flag_draws w).roots.one)) true (get_or w 0 0 % 2 ^ 32) (get_or w 7 0) out
        ],
      )

  shift_joined : (w : List ℕ) (i s v : ℕ) → is_flag p i ≡ false → s < p.width → v < 2 ^ p.width
      → Joined w (Shift i s) (masked (2 ^ p.width) (get_or (masks p words) i 0) v ∷ []) (plain_shift (2 ^ s) v)
  unfolding Joined part
  shift_joined w i s v ei hs hv =
      let N : ℕ = 2 ^ p.width in
      let r : ℕ = get_or (masks p words) i 0 in
      let low : Expansion → Bool → Seed → ℕ → Word
      = λ z one root. dealt_answer word_group d z s (low_threshold (2 ^ s) r) (word low_payload) (low_root0 w) (low_root1 w) one root in
      let high : Expansion → Bool → Seed → ℕ → Word
      = λ z one root. dealt_answer word_group d z p.width r (word (high_payload N (2 ^ s))) (high_root0 w) (high_root1 w) one root in (
        shift_is_plain p.width s (masked N r v) r (get_or w 0 0 % N) (get_or w 9 0) (omega arith) a.few_bits (mod-lt _ (pow_pos p.width)) (mask_low i ei)
            (low x false (low_root0 w)) (low y true (low_root1 w)) (high x false (high_root0 w)) (high y true (high_root1 w)) (
              dealt_keys_join word_group d x y s (low_threshold (2 ^ s) r) (word low_payload) (low_root0 w) (low_root1 w) wide ex ey (mod-lt r (pow_pos s)),
              dealt_keys_join word_group d x y p.width r (word (high_payload N (2 ^ s))) (high_root0 w) (high_root1 w) wide ex ey (mask_low i ei),
            )
            ∙ ap (λ (m : ℕ). (plain_shift (2 ^ s) m + get_or w 0 0 % N) % N) ((held_is_plain N r (mask_low i ei)).0 v hv),
        elim [ Zero ↦ lt-ltb _ _ (mod-lt _ (pow_pos p.width)) | One ↦ lt-ltb _ _ (mod-lt _ (pow_pos p.width)) ],
      )

  signed_joined : (w : List ℕ) (i s v : ℕ) → is_flag p i ≡ false → s < p.width → v < 2 ^ p.width
      → Joined w (SignedShift i s) (masked (2 ^ p.width) (get_or (masks p words) i 0) v ∷ []) (plain_signed_shift (2 ^ p.width) (2 ^ s) v)
  unfolding Joined part
  signed_joined w i s v ei hs hv =
      let N : ℕ = 2 ^ p.width in
      let r : ℕ = get_or (masks p words) i 0 in
      let low : Expansion → Bool → Seed → ℕ → Word
      = λ z one root. dealt_answer word_group d z s (low_threshold (2 ^ s) r) (word low_payload) (low_root0 w) (low_root1 w) one root in
      let high : Expansion → Bool → Seed → ℕ → Word
      = λ z one root. dealt_answer word_group d z p.width r (word (high_payload N (2 ^ s))) (high_root0 w) (high_root1 w) one root in (
        signed_shift_is_plain p.width s (masked N r v) r (get_or w 0 0 % N) (get_or w 9 0) hs a.few_bits (mod-lt _ (pow_pos p.width)) (mask_low i ei)
            (low x false (low_root0 w)) (low y true (low_root1 w)) (high x false (high_root0 w)) (high y true (high_root1 w)) (
              dealt_keys_join word_group d x y s (low_threshold (2 ^ s) r) (word low_payload) (low_root0 w) (low_root1 w) wide ex ey (mod-lt r (pow_pos s)),
              dealt_keys_join word_group d x y p.width r (word (high_payload N (2 ^ s))) (high_root0 w) (high_root1 w) wide ex ey (mask_low i ei),
            )
            ∙ ap (λ (m : ℕ). (plain_signed_shift N (2 ^ s) m + get_or w 0 0 % N) % N) ((held_is_plain N r (mask_low i ei)).0 v hv),
        elim [ Zero ↦ lt-ltb _ _ (mod-lt _ (pow_pos p.width)) | One ↦ lt-ltb _ _ (mod-lt _ (pow_pos p.width)) ],
      )

  -- what a gate that reads one number wire, or two, is held at
  one_held : (w : List ℕ) (g : GateBody) (i x' v : ℕ) → is_flag p i ≡ false → Joined w g (masked (2 ^ p.width) (get_or (masks p words) i 0) x' ∷ []) v
      → Joined w g ((values p.width (is_flag p i)).sum x' (get_or (masks p words) i 0) ∷ []) v
  one_held w g i x' v e j = subst (λ (h : ℕ). Joined w g (h ∷ []) v) (sym (number_sum p.width (is_flag p i) x' (get_or (masks p words) i 0) e)) j

  -- shares of a keyed gate join, whatever values in range it reads
  keyed_body : (k : ℕ) (g : GateBody) (w vs : List ℕ) → is_keyed g ≡ true → reads_fit p k g ≡ true → fields_fit p.width g ≡ true
      → AllWithin (wiring_of p) (reads g) vs
      → Joined w g (hide_all (wiring_of p) (deal_of d x y p number words) (reads g) vs) (plain_gate p.width g vs)
  keyed_body k (Product i j) w [] e r f c = absurd c
  keyed_body k (Product i j) w (v ∷ []) e r f c = absurd c.1
  keyed_body k (Product i j) w (v ∷ u ∷ []) e r f c =
      let q = and_parts (lower_number p k i) (lower_number p k j) r in
      let ei = (number_read p k i q.0).1 in
      let ej = (number_read p k j q.1).1 in
      subst (λ (hs : List ℕ). Joined w (Product i j) hs (plain_product (2 ^ p.width) v u))
      (ap₂ (λ (h m : ℕ). h ∷ m ∷ []) (sym (number_sum p.width (is_flag p i) v (get_or (masks p words) i 0) ei))
      (sym (number_sum p.width (is_flag p j) u (get_or (masks p words) j 0) ej)))
      (product_joined w i j v u ei ej (number_below p.width (is_flag p i) v ei c.0) (number_below p.width (is_flag p j) u ej c.1.0))
  keyed_body k (Product i j) w (v ∷ u ∷ t ∷ vs) e r f c = absurd c.1.1
  keyed_body k (Piece i l h cs) w [] e r f c = absurd c
  keyed_body k (Piece i l h cs) w (v ∷ []) e r f c =
      let ei = (number_read p k i r).1 in
      let q = and_parts (leb l h) (below p.width h) (and_parts (interval_fits p.width l h) _ f).0 in
      one_held w (Piece i l h cs) i v _ ei
      (piece_joined w i l h cs v ei (leb-true l h q.0) (ltb-true h (2 ^ p.width) q.1) (number_below p.width (is_flag p i) v ei c.0))
  keyed_body k (Piece i l h cs) w (v ∷ u ∷ vs) e r f c = absurd c.1
  keyed_body k (Flag i l h t) w [] e r f c = absurd c
  keyed_body k (Flag i l h t) w (v ∷ []) e r f c =
      let ei = (number_read p k i r).1 in
      let s = and_parts (interval_fits p.width l h) (below 32 t) f in
      let q = and_parts (leb l h) (below p.width h) s.0 in
      one_held w (Flag i l h t) i v _ ei
      (flag_joined w i l h t v ei (leb-true l h q.0) (ltb-true h (2 ^ p.width) q.1) (ltb-true t (2 ^ 32) s.1)
      (number_below p.width (is_flag p i) v ei c.0))
  keyed_body k (Flag i l h t) w (v ∷ u ∷ vs) e r f c = absurd c.1
  keyed_body k (Shift i s) w [] e r f c = absurd c
  keyed_body k (Shift i s) w (v ∷ []) e r f c =
      let ei = (number_read p k i r).1 in
      one_held w (Shift i s) i v _ ei
      (shift_joined w i s v ei (ltb-true s p.width (and_parts (leb 1 s) (ltb s p.width) f).1) (number_below p.width (is_flag p i) v ei c.0))
  keyed_body k (Shift i s) w (v ∷ u ∷ vs) e r f c = absurd c.1
  keyed_body k (SignedShift i s) w [] e r f c = absurd c
  keyed_body k (SignedShift i s) w (v ∷ []) e r f c =
      let ei = (number_read p k i r).1 in
      one_held w (SignedShift i s) i v _ ei
      (signed_joined w i s v ei (ltb-true s p.width (and_parts (leb 1 s) (ltb s p.width) f).1) (number_below p.width (is_flag p i) v ei c.0))
  keyed_body k (SignedShift i s) w (v ∷ u ∷ vs) e r f c = absurd c.1
  keyed_body k g w vs e r f c = absurd (false≢true e)

  -- a local gate's held value is its plain meaning with its mask on
  local_body : (k : ℕ) (g : GateBody) (w vs : List ℕ) (u : ℕ) → is_keyed g ≡ false → reads_fit p k g ≡ true
      → AllWithin (wiring_of p) (reads g) vs
      → gate_local p.width (dealt_gate d p.width false (masks p words) w g) (hide_all (wiring_of p) (deal_of d x y p number words) (reads g) vs)
      ≡ (values p.width (gives_flag g)).sum (plain_gate p.width g vs) (gate_mask p.width (masks p words) u g)
  local_body k (Sum i j) w [] u e r c = absurd c
  local_body k (Sum i j) w (v ∷ []) u e r c = absurd c.1
  local_body k (Sum i j) w (v ∷ t ∷ vs) u e r c =
      let q = and_parts (lower_number p k i) (lower_number p k j) r in
      ap₂ (λ (h m : ℕ). (h + m) % 2 ^ p.width) (number_sum p.width (is_flag p i) v (get_or (masks p words) i 0) (number_read p k i q.0).1)
      (number_sum p.width (is_flag p j) t (get_or (masks p words) j 0) (number_read p k j q.1).1)
      ∙ sum_held (2 ^ p.width) v t (get_or (masks p words) i 0) (get_or (masks p words) j 0)
  local_body k (Scale i m z) w [] u e r c = absurd c
  local_body k (Scale i m z) w (v ∷ vs) u e r c =
      ap (λ (h : ℕ). (m * h + z) % 2 ^ p.width) (number_sum p.width (is_flag p i) v (get_or (masks p words) i 0) (number_read p k i r).1)
      ∙ scale_held (2 ^ p.width) m v z (get_or (masks p words) i 0)
  local_body k (Xor i j) w [] u e r c = absurd c
  local_body k (Xor i j) w (v ∷ []) u e r c = absurd c.1
  local_body k (Xor i j) w (v ∷ t ∷ vs) u e r c =
      let q = and_parts (lower_flag p k i) (lower_flag p k j) r in
      ap₂ bit_xor (flag_sum p.width (is_flag p i) v (get_or (masks p words) i 0) (flag_read p k i q.0).1)
      (flag_sum p.width (is_flag p j) t (get_or (masks p words) j 0) (flag_read p k j q.1).1)
      ∙ xor_held v t (get_or (masks p words) i 0) (get_or (masks p words) j 0)
  local_body k g w vs u e r c = absurd (false≢true (sym e))

  abbrev W : Wiring
  W = wiring_of p

  abbrev D : Deal
  D = deal_of d x y p number words

  abbrev gate_word : ℕ → List ℕ
  gate_word k = front (words_of (row_at p k).body) (drop (words_before p k) words)

  -- the same at a wire's place, where it is a gate's
  local_at : (k : ℕ) (vs : List ℕ) → length p.owners ≤ k → k < wires p → (input : Bool) → is_input p k ≡ input → cond input false (is_keyed (row_at p k).body) ≡ false
      → AllWithin W (cond input [] (reads (row_at p k).body)) vs
      → gate_local p.width (dealt_gate d p.width false (masks p words) (gate_word k) (row_at p k).body) (hide_all W D (cond input [] (reads (row_at p k).body)) vs)
      ≡ (values p.width (cond input false (gives_flag (row_at p k).body))).sum (plain_gate p.width (row_at p k).body vs) (mask_of p words k)
  local_at k vs l h true i e c = absurd (let t = ltb-true k (length p.owners) i in omega arith)
  local_at k vs l h false i e c =
      local_body k (row_at p k).body (gate_word k) vs (get_or words (words_before p k) 0) e (gate_reads p b count a k l h) c
      ∙ ap ((values p.width (gives_flag (row_at p k).body)).sum (plain_gate p.width (row_at p k).body vs)) (sym (gate_mask_is p words b count a k l h))

  abbrev JoinedAt : ℕ → List ℕ → Bool → Type 0
  JoinedAt k vs input =
      let g : GateBody = (row_at p k).body in
      let hs : List ℕ = hide_all W D (cond input [] (reads g)) vs in
      ((values p.width (cond input false (gives_flag g))).sum (part Zero (gate_word k) g hs) (part One (gate_word k) g hs)
      ≡ (values p.width (cond input false (gives_flag g))).sum (plain_gate p.width g vs) (mask_of p words k))
      × ((c : BoxNumber) → (values p.width (cond input false (gives_flag g))).within (part c (gate_word k) g hs) ≡ true)

  keyed_at : (k : ℕ) (vs : List ℕ) → length p.owners ≤ k → k < wires p → (input : Bool) → is_input p k ≡ input → cond input false (is_keyed (row_at p k).body) ≡ true
      → AllWithin W (cond input [] (reads (row_at p k).body)) vs → JoinedAt k vs input
  unfolding Joined
  keyed_at k vs l h true i e c = absurd (let t = ltb-true k (length p.owners) i in omega arith)
  keyed_at k vs l h false i e c =
      let g : GateBody = (row_at p k).body in
      let j = keyed_body k g (gate_word k) vs e (gate_reads p b count a k l h) (gate_fields p b count a k) c in (
        j.0
            ∙ ap ((values p.width (gives_flag g)).sum (plain_gate p.width g vs))
            (first_word g (words_before p k) words (masks p words) p.width e ∙ sym (gate_mask_is p words b count a k l h)),
        j.1,
      )

  pub dealt : number < 2 ^ 32 → Dealt W D
  unfolding part
  dealt small = record {
    numbered = small;
    masks = mask_fine p words b count a;
    local = λ k vs g e c. let q = gate_place p b count a k g in local_at k vs q.0 q.1 (is_input p k) refl e c;
    joins = λ k vs g e c. let q = gate_place p b count a k g in (keyed_at k vs q.0 q.1 (is_input p k) refl e c).0;
    shares = λ s k vs g e c. let q = gate_place p b count a k g in (keyed_at k vs q.0 q.1 (is_input p k) refl e c).1 s;
  }

pub deals_fit : DealsFit
deals_fit d x y wide ex ey p b number words count h small = dealt d x y wide ex ey p number words b count (accepted p b count h) small
