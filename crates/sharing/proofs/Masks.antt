-- The table of masks: each wire's own mask stands in it, in range for its wire.
use Rattle.std.proofs.Common.{◌≡◌, ℕ, zero, suc, ◌+◌, ◌*◌, ◌%◌, ◌^◌, ◌<◌, ◌≤◌, Bool, true, false, cond, not, ltb, List, length, get_or, sym, refl, ap, ◌∙◌, ap₂, inl, inr, arith, length-set, get_or-set_other, get_or-set_same}
use lib.Bits.{bit_xor}
use lib.ListN.{length-replicate}
use Rattle.std.proofs.lemmas.Bool.{and_parts, ltb-true, lt-ltb, le-ltb, cases_eq, false≢true}
use Rattle.plan.specs.Gates.{GateBody}
use Rattle.plan.specs.declared.gates.Gate.TheVariants.{Sum, Scale, Xor}
use Rattle.plan.specs.Plans.{Planned, wires, is_input, is_flag, row_at, words_before}
use Rattle.plan.specs.Questions.{lower_number, lower_flag, reads_fit}
use Rattle.plan.proofs.Accepted.{Accepted, gate_reads}
use Rattle.returned.proofs.Ranges.{mask_small}
use Rattle.masks.specs.Masks.{gate_mask, mask_at, masks_below, masks, mask_of}
use Rattle.boxview.specs.Values.{values}

-- a wire that is read as a number, or as flags
pub number_read : (p : Planned) (k w : ℕ) → lower_number p k w ≡ true → (w < k) × (is_flag p w ≡ false)
number_read p k w e =
    let c = and_parts (ltb w k) (not (is_flag p w)) e in
    let go : (b : Bool) → not b ≡ true → b ≡ false = elim [ true ↦ λ h. absurd (false≢true h) | false ↦ λ h. refl ] in
    (ltb-true w k c.0, go (is_flag p w) c.1)

pub flag_read : (p : Planned) (k w : ℕ) → lower_flag p k w ≡ true → (w < k) × (is_flag p w ≡ true)
flag_read p k w e = let c = and_parts (ltb w k) (is_flag p w) e in (ltb-true w k c.0, c.1)

module _ (p : Planned) (words : List ℕ) where
  word_at : ℕ → ℕ
  word_at k = get_or words (words_before p k) 0

  table_long : (k : ℕ) → length (masks_below p words k) ≡ 48
  table_long zero = length-replicate {A = ℕ} 48 0
  table_long (suc k) = length-set (masks_below p words k) k _ ∙ table_long k

  -- a place keeps what was put there
  table_at : (i k : ℕ) → k < i → get_or (masks_below p words i) k 0 ≡ get_or (masks_below p words (suc k)) k 0
  table_at zero k h = absurd (omega arith)
  table_at (suc i) k h = elim (cases_eq k i) [
    | inl e ↦ ap (λ j. get_or (masks_below p words (suc j)) k 0) (sym e)
    | inr ne ↦ get_or-set_other (masks_below p words i) i k _ 0 ne ∙ table_at i k (omega arith)
  ]

  put_there : (k : ℕ) → k < 48 → get_or (masks_below p words (suc k)) k 0 ≡ mask_at p (masks_below p words k) (word_at k) k
  unfolding word_at
  put_there k h = get_or-set_same (masks_below p words k) k _ 0 (let e = table_long k in omega arith)

  -- the mask of wire k, from the masks below it
  pub mask_is : (k : ℕ) → k < wires p → wires p ≤ 48 → mask_of p words k ≡ mask_at p (masks_below p words k) (get_or words (words_before p k) 0) k
  unfolding word_at
  mask_is k h few = table_at (wires p) k h ∙ put_there k (omega arith)

  -- the masks below wire k are those of the whole table
  pub lower_same : (k w : ℕ) → w < k → k ≤ wires p → get_or (masks_below p words k) w 0 ≡ get_or (masks p words) w 0
  lower_same k w h l = table_at k w h ∙ sym (table_at (wires p) w (omega arith))

module _ (p : Planned) (words : List ℕ) (b count : ℕ) (a : Accepted p b count) where
  few : wires p ≤ 48
  few = let x = a.few_inputs in let y = a.few_gates in omega arith

  is_in_range : (t : Bool) (m : ℕ) → m < 2 ^ cond t 32 p.width → (values p.width t).within m ≡ true
  is_in_range true m h = lt-ltb m (2 ^ 32) h
  is_in_range false m h = lt-ltb m (2 ^ p.width) h

  -- every mask is in range for its wire
  pub mask_fine : (k : ℕ) → (values p.width (is_flag p k)).within (mask_of p words k) ≡ true
  mask_fine k = is_in_range (is_flag p k) (mask_of p words k) (mask_small p words a.few_bits k)

  -- a gate's mask by the whole table
  pub gate_mask_is : (k : ℕ) → length p.owners ≤ k → k < wires p
      → mask_of p words k ≡ gate_mask p.width (masks p words) (get_or words (words_before p k) 0) (row_at p k).body
  gate_mask_is k l h =
      mask_is p words k h few ∙ ap (λ t. cond t (get_or words (words_before p k) 0 % 2 ^ p.width)
      (gate_mask p.width (masks_below p words k) (get_or words (words_before p k) 0) (row_at p k).body)) no_input
      ∙ same (row_at p k).body (gate_reads p b count a k l h)
    where
      no_input : is_input p k ≡ false
      no_input = le-ltb k (length p.owners) l

      at : (i : ℕ) → i < k → get_or (masks_below p words k) i 0 ≡ get_or (masks p words) i 0
      at i g = lower_same p words k i g (omega arith)

      same : (g : GateBody) → reads_fit p k g ≡ true
          → gate_mask p.width (masks_below p words k) (get_or words (words_before p k) 0) g
          ≡ gate_mask p.width (masks p words) (get_or words (words_before p k) 0) g
      same (Sum i j) r =
          let c = and_parts (lower_number p k i) (lower_number p k j) r in
          ap₂ (λ (x y : ℕ). (x + y) % 2 ^ p.width) (at i (number_read p k i c.0).0) (at j (number_read p k j c.1).0)
      same (Scale i c d) r = ap (λ (x : ℕ). c * x % 2 ^ p.width) (at i (number_read p k i r).0)
      same (Xor i j) r =
          let c = and_parts (lower_flag p k i) (lower_flag p k j) r in
          ap₂ bit_xor (at i (flag_read p k i c.0).0) (at j (flag_read p k j c.1).0)
      same g r = refl
