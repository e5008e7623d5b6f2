-- The mask of every wire: inputs and keyed gates from their random word, local gates by the local rule.
use Rattle.std.specs.Prelude.{ℕ, zero, suc, ◌%◌, ◌^◌, cond, List, replicate, slice_index, slice_set}
use Rattle.shares.specs.Local.{sum_of, scale_mask, xor_of}
use Rattle.plan.specs.Gates.{GateBody}
use Rattle.plan.specs.declared.gates.Gate.TheVariants.{Sum, Scale, Product, Piece, Flag, Shift, SignedShift, Xor}
use Rattle.plan.specs.declared.PlanWire.{PlanWire}
use Rattle.plan.specs.declared.PlanWire.TheVariants.{Input, Gate}
use Rattle.plan.specs.Plans.{Planned, wires, is_input, row_at, words_before}

-- a gate's mask, from the table of the masks below it and its first random word
abbrev pub gate_mask : ℕ → List ℕ → ℕ → GateBody → ℕ
gate_mask n ms w (Sum a b) = sum_of (2 ^ n) (slice_index ms a) (slice_index ms b)
gate_mask n ms w (Scale a c d) = scale_mask (2 ^ n) c (slice_index ms a)
gate_mask n ms w (Product a b) = w % 2 ^ n
gate_mask n ms w (Piece a p q c) = w % 2 ^ n
gate_mask n ms w (Flag a p q t) = w % 2 ^ 32
gate_mask n ms w (Shift a s) = w % 2 ^ n
gate_mask n ms w (SignedShift a s) = w % 2 ^ n
gate_mask n ms w (Xor a b) = xor_of (slice_index ms a) (slice_index ms b)

-- and a wire's
abbrev pub wire_mask : ℕ → List ℕ → ℕ → PlanWire → ℕ
wire_mask n ms w (Input owner) = w % 2 ^ n
wire_mask n ms w (Gate row) = gate_mask n ms w row.body

abbrev pub mask_at : Planned → List ℕ → ℕ → ℕ → ℕ
mask_at p ms w k = cond (is_input p k) (w % 2 ^ p.width) (gate_mask p.width ms w (row_at p k).body)

-- a table of 48 places with the masks of the wires below k
abbrev pub masks_below : Planned → List ℕ → ℕ → List ℕ
masks_below p words zero = replicate 48 0
masks_below p words (suc k) =
    let ms : List ℕ = masks_below p words k in slice_set ms k (mask_at p ms (slice_index words (words_before p k)) k)

-- the masks of all wires, and that of one
abbrev pub masks : Planned → List ℕ → List ℕ
masks p words = masks_below p words (wires p)

abbrev pub mask_of : Planned → List ℕ → ℕ → ℕ
mask_of p words k = slice_index (masks p words) k
