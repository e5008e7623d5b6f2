-- A plan by its numbers: wires, what each gate reads and gives, and the random words that it takes.
use Rattle.std.specs.Prelude.{ℕ, zero, suc, ◌+◌, ◌-◌, Bool, false, cond, List, length, nat_lt, slice_index, slice_index_or}
use Rattle.std.specs.List.{sum_by}
use Rattle.plan.specs.declared.Plan.{Plan}
use Rattle.plan.specs.declared.PlanRow.{PlanRow}
use Rattle.plan.specs.declared.PlanWire.{PlanWire}
use Rattle.plan.specs.declared.PlanWire.TheVariants.{Input, Gate}
use Rattle.plan.specs.declared.gates.Gate.TheVariants.{Sum}
pub use Rattle.plan.specs.Gates.{gives_flag, is_keyed, reads, words_of}

-- the width, the owner of each input, and a row for each gate
pub record Planned : Type 0 where
  pub width : ℕ
  pub owners : List ℕ
  pub rows : List PlanRow

abbrev pub planned : ℕ → List ℕ → List PlanRow → Planned
planned n owners rows = record { width = n; owners = owners; rows = rows }

-- what a plan states
abbrev pub stated : Plan → Planned
stated p = planned p.width p.owners.now p.rows.now

-- inputs come first, then the gates
abbrev pub wires : Planned → ℕ
wires p = length p.owners + length p.rows

abbrev pub is_input : Planned → ℕ → Bool
is_input p k = nat_lt k (length p.owners)

-- what stands for a row that is not there
abbrev pub no_row : PlanRow
no_row = record { shown = false; body = Sum 0 0 }

-- the row of the gate at wire k
abbrev pub row_at : Planned → ℕ → PlanRow
row_at p k = slice_index_or p.rows (k - length p.owners) no_row

-- wire k, an input or a gate
abbrev pub wire_at : Planned → ℕ → PlanWire
wire_at p k = cond (is_input p k) (Input (slice_index p.owners k)) (Gate (row_at p k))

-- an input is a number wire
abbrev pub is_flag : Planned → ℕ → Bool
is_flag p k = cond (is_input p k) false (gives_flag (row_at p k).body)

abbrev pub words_of_rows : List PlanRow → ℕ
words_of_rows rows = sum_by (λ r. words_of r.body) rows

-- all random words of a plan: one for each input's mask, then those of the gates
abbrev pub words_needed : Planned → ℕ
words_needed p = length p.owners + words_of_rows p.rows

-- the random words of a wire: an input takes one for its mask
abbrev pub wire_words : PlanWire → ℕ
wire_words (Input owner) = 1
wire_words (Gate row) = words_of row.body

-- the random words of wire k, and of all wires below k
abbrev pub words_at : Planned → ℕ → ℕ
words_at p k = cond (is_input p k) 1 (words_of (row_at p k).body)

abbrev pub words_before : Planned → ℕ → ℕ
words_before p zero = 0
words_before p (suc k) = words_before p k + words_at p k
