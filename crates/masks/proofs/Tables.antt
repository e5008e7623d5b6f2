-- One more wire: its words and its mask.
use Rattle.std.proofs.Common.{◌≡◌, ℕ, ◌+◌, ◌%◌, ◌^◌, Bool, true, false, cond, List, get_or, set, slice_index, sym, refl, ap, ◌∙◌, add-one}
use Rattle.plan.specs.declared.PlanWire.TheVariants.{Input, Gate}
use Rattle.plan.specs.Plans.{Planned, is_input, row_at, wire_at, wire_words, words_of, words_at, words_before}
use Rattle.masks.specs.Masks.{gate_mask, wire_mask, mask_at, masks_below}

pub words_more : (p : Planned) (k : ℕ) → words_before p (k + 1) ≡ words_before p k + words_at p k
words_more p k = ap (words_before p) (add-one k)

pub masks_turn : (p : Planned) (words : List ℕ) (k : ℕ) (ms : List ℕ) (u w m : ℕ)
    → ms ≡ masks_below p words k → u ≡ words_before p k → w ≡ get_or words u 0 → m ≡ mask_at p ms w k
    → set ms k m ≡ masks_below p words (k + 1)
masks_turn p words k ms u w m a b c d =
    ap (set ms k) (d ∙ ap (λ x. mask_at p ms x k) c)
    ∙ (λ i. set (a i) k (mask_at p (a i) (get_or words (b i) 0) k))
    ∙ sym (ap (masks_below p words) (add-one k))

-- by the wire itself
pub mask_of_wire : (p : Planned) (ms : List ℕ) (w k : ℕ) → wire_mask p.width ms w (wire_at p k) ≡ mask_at p ms w k
mask_of_wire p ms w k = pick (is_input p k)
  where
    pick : (b : Bool) → wire_mask p.width ms w (cond b (Input (slice_index p.owners k)) (Gate (row_at p k)))
        ≡ cond b (w % 2 ^ p.width) (gate_mask p.width ms w (row_at p k).body)
    pick true = refl
    pick false = refl

pub words_of_wire : (p : Planned) (k : ℕ) → wire_words (wire_at p k) ≡ words_at p k
words_of_wire p k = pick (is_input p k)
  where
    pick : (b : Bool) → wire_words (cond b (Input (slice_index p.owners k)) (Gate (row_at p k))) ≡ cond b 1 (words_of (row_at p k).body)
    pick true = refl
    pick false = refl
