-- The book that a dealer writes for a box, and what a deal answers and leaves.
use Rattle.std.specs.Prelude.{◌≡◌, ℕ, Bool, true, cond, List, [], ◌∷◌, ◌++◌, length, drop, Some, None, Ok, Err, Option, Result, ◌==◌, nat_le, slice_index}
use Rattle.refusal.specs.declared.Refusal.{Refusal}
use Rattle.refusal.specs.declared.Refusal.TheVariants.{DealRoom}
use Rattle.refusal.specs.Questions.{answered}
use Rattle.expander.specs.Meaning.{Expansion}
use Rattle.plan.specs.declared.PlanWire.{PlanWire}
use Rattle.plan.specs.declared.PlanWire.TheVariants.{Input, Gate}
use Rattle.plan.specs.Plans.{Planned, is_input, row_at, words_of, words_before}
use Rattle.plan.specs.Questions.{fields_fit, plan_asks}
use Rattle.layout.specs.Bytes.{front}
use Rattle.layout.specs.Wires.{Wire, input, gate, wire_bytes}
use Rattle.layout.specs.Books.{Header, book_length, laid_out}
use Rattle.masks.specs.Masks.{masks, mask_of}
use Rattle.gatebytes.specs.Dealt.{dealt_gate}

-- what a dealer is given: a plan, which box the book is for, a deal number and random words
pub record Order : Type 0 where
  pub plan : Planned
  pub box : ℕ
  pub deal : ℕ
  pub words : List ℕ

abbrev pub order : Planned → ℕ → ℕ → List ℕ → Order
order p b number words = record { plan = p; box = b; deal = number; words = words }

-- what the header states, for an expander of this kind
abbrev pub header_of : ℕ → Order → Header
header_of kind o = record {
  box = o.box;
  kind = kind;
  width = o.plan.width;
  deal = o.deal;
  inputs = length o.plan.owners;
  gates = length o.plan.rows;
}

-- a mask where it is given
abbrev pub when : Bool → ℕ → Option ℕ
when given m = cond given (Some m) None

-- the random words of the gate at wire k
abbrev pub gate_words : Order → ℕ → List ℕ
gate_words o k = front (words_of (row_at o.plan k).body) (drop (words_before o.plan k) o.words)

-- what the book of box b says of a wire with the mask m, from its own random words w on, for the table of masks ms:
-- an input's mask to its owner only, a gate's where it is shown
module _ (x : Expansion) (n : ℕ) (one : Bool) (ms : List ℕ) (b m : ℕ) (w : List ℕ) where
  abbrev pub wire_for : PlanWire → Wire
  wire_for (Input owner) = input owner (when (owner == b) m)
  wire_for (Gate row) = gate (when row.shown m) (dealt_gate x n one ms (front (words_of row.body) w) row.body)

-- a gate's fields are allowed at width n
abbrev pub WireFits : ℕ → PlanWire → Type 0
WireFits n (Input owner) = Unit {0}
WireFits n (Gate row) = fields_fit n row.body ≡ true

module _ (x : Expansion) (o : Order) where
  -- what the book says of wire k: an input's mask to its owner only, a gate's where it is shown
  abbrev pub dealt_wire : ℕ → Wire
  dealt_wire k = cond (is_input o.plan k)
      (input (slice_index o.plan.owners k) (when (slice_index o.plan.owners k == o.box) (mask_of o.plan o.words k)))
      (gate (when (row_at o.plan k).shown (mask_of o.plan o.words k))
      (dealt_gate x o.plan.width (o.box == 1) (masks o.plan o.words) (gate_words o k) (row_at o.plan k).body))

  -- its bytes
  abbrev pub dealt_body : ℕ → List ℕ
  dealt_body k = wire_bytes (dealt_wire k)

  abbrev pub header : Header
  header = header_of x.kind o

  unfoldable pub dealt_length : ℕ
  dealt_length = book_length header dealt_body

  unfoldable pub dealt_book : List ℕ
  dealt_book = laid_out header dealt_body

  -- the questions 1 to 7, for a buffer of so many bytes
  abbrev pub deal_asks : ℕ → List (Bool × Refusal)
  deal_asks room = plan_asks o.plan o.box (length o.words) ++ ((nat_le dealt_length room, DealRoom) ∷ [])

-- what a buffer holds after a deal: the book at its front, or what it held where the deal was refused
abbrev pub written : Result ℕ Refusal → List ℕ → List ℕ → List ℕ
written (Ok long) book out = book ++ drop long out
written (Err e) book out = out

-- the answer and the buffer
abbrev pub dealt : Expansion → Order → List ℕ → Result ℕ Refusal × List ℕ
dealt x o out =
    let r : Result ℕ Refusal = answered (deal_asks x o (length out)) (dealt_length x o) in (r, written r (dealt_book x o) out)
