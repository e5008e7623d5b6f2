-- What is written for a wire is the wire's body.
use Rattle.std.proofs.Common.{◌≡◌, ℕ, Bool, true, false, cond, eqb, List, get_or, drop, refl, ap, ◌∙◌}
use Rattle.expander.specs.Meaning.{Expansion}
use Rattle.plan.specs.declared.PlanWire.{PlanWire}
use Rattle.plan.specs.declared.PlanWire.TheVariants.{Input, Gate}
use Rattle.plan.specs.Plans.{Planned, is_input, row_at, wire_at, wire_words, words_of, words_at, words_before}
use Rattle.layout.specs.Wires.{gate, input, wire_bytes}
use Rattle.masks.specs.Masks.{masks, mask_of}
use Rattle.gatebytes.specs.Dealt.{dealt_gate}
use Rattle.dealer.specs.Book.{order, when, gate_words, dealt_wire, dealt_body, wire_for}

module _ (x : Expansion) (p : Planned) (b : ℕ) (words : List ℕ) (k : ℕ) where
  at_wire : wire_for x p.width (eqb b 1) (masks p words) b (mask_of p words k) (drop (words_before p k) words) (wire_at p k)
      ≡ dealt_wire x (order p b 0 words) k
  at_wire = pick (is_input p k)
    where
      pick : (i : Bool)
          → wire_for x p.width (eqb b 1) (masks p words) b (mask_of p words k) (drop (words_before p k) words)
          (cond i (Input (get_or p.owners k 0)) (Gate (row_at p k)))
          ≡ cond i (input (get_or p.owners k 0) (when (eqb (get_or p.owners k 0) b) (mask_of p words k)))
          (gate (when (row_at p k).shown (mask_of p words k))
          (dealt_gate x p.width (eqb b 1) (masks p words) (gate_words (order p b 0 words) k) (row_at p k).body))
      pick true = refl
      pick false = refl

  pub wire_is : (n : ℕ) (one : Bool) (ms : List ℕ) (m : ℕ) (w : List ℕ) (wire : PlanWire) → n ≡ p.width → one ≡ eqb b 1
      → ms ≡ masks p words → m ≡ get_or ms k 0 → w ≡ drop (words_before p k) words → wire ≡ wire_at p k
      → wire_bytes (wire_for x n one ms b m w wire) ≡ dealt_body x (order p b 0 words) k
  wire_is n one ms m w wire en eo es em ew is =
      let own : m ≡ mask_of p words k = em ∙ ap (λ t. get_or t k 0) es in
      (λ i. wire_bytes (wire_for x (en i) (eo i) (es i) b (own i) (ew i) (is i))) ∙ ap wire_bytes at_wire

-- the random words of a wire by what stands there
pub words_is : (p : Planned) (k : ℕ) → wire_words (wire_at p k) ≡ words_at p k
words_is p k = pick (is_input p k)
  where
    pick : (i : Bool) → wire_words (cond i (Input (get_or p.owners k 0)) (Gate (row_at p k))) ≡ cond i 1 (words_of (row_at p k).body)
    pick true = refl
    pick false = refl
