-- A plan's wires as the laws over runs read them, and what a deal gives two boxes.
use Rattle.std.specs.Prelude.{ℕ, false, cond, List, [], length, slice_index}
use Rattle.expander.specs.Meaning.{Expansion}
use Rattle.key.specs.declared.BoxNumber.{BoxNumber}
use Rattle.key.specs.declared.BoxNumber.TheVariants.{Zero, One}
use Rattle.key.specs.Rows.{is_one}
use Rattle.runs.specs.Plans.{Wiring, Deal}
use Rattle.plan.specs.Plans.{Planned, is_input, is_flag, row_at, is_keyed, reads}
use Rattle.plan.specs.Meaning.{plain_gate}
use Rattle.layout.specs.Wires.{Gate}
use Rattle.masks.specs.Masks.{masks, mask_of}
use Rattle.gatebytes.specs.Dealt.{dealt_gate}
use Rattle.dealer.specs.Book.{order, gate_words}
use Rattle.boxview.specs.Values.{values, box_of}
use Rattle.boxview.specs.Sharing.{gate_share, gate_local}

-- the wires that wire k is worked out from: none for an input
abbrev pub reads_at : Planned → ℕ → List ℕ
reads_at p k = cond (is_input p k) [] (reads (row_at p k).body)

abbrev pub wiring_of : Planned → Wiring
wiring_of p = record {
  inputs = length p.owners;
  gates = length p.rows;
  owner = λ k. box_of (slice_index p.owners k);
  reads = reads_at p;
  keyed = λ k. cond (is_input p k) false (is_keyed (row_at p k).body);
  shown = λ k. cond (is_input p k) false (row_at p k).shown;
  group = λ k. values p.width (is_flag p k);
  meaning = λ k vs. plain_gate p.width (row_at p k).body vs;
}

-- box b's gate at wire k, as a dealer whose expansion is d deals it
abbrev pub gate_of : Expansion → Planned → List ℕ → BoxNumber → ℕ → Gate
gate_of d p words b k =
    dealt_gate d p.width (is_one b) (masks p words) (gate_words (order p 0 0 words) k) (row_at p k).body

-- box 0's expansion is x, box 1's is y
abbrev pub own : Expansion → Expansion → BoxNumber → Expansion
own x y Zero = x
own x y One = y

abbrev pub deal_of : Expansion → Expansion → Expansion → Planned → ℕ → List ℕ → Deal
deal_of d x y p number words = record {
  number = number;
  mask = mask_of p words;
  locally = λ k hs. gate_local p.width (gate_of d p words Zero k) hs;
  share = λ b k hs. gate_share (own x y b) p.width (is_one b) (gate_of d p words b k) hs;
}
