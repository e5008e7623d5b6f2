-- What each gate of a plan means on the plain values of the wires that it reads.
use Rattle.std.specs.Prelude.{ℕ, ◌^◌, List, slice_index}
use Rattle.shares.specs.Plain.{plain_sum, plain_scale, plain_product, plain_piece, plain_flag, plain_xor, plain_shift, plain_signed_shift}
use Rattle.plan.specs.Gates.{GateBody}
use Rattle.plan.specs.declared.gates.Gate.TheVariants.{Sum, Scale, Product, Piece, Flag, Shift, SignedShift, Xor}

-- at width n; the values stand in the order in which the gate reads its wires
abbrev pub plain_gate : ℕ → GateBody → List ℕ → ℕ
plain_gate n (Sum a b) vs = plain_sum (2 ^ n) (slice_index vs 0) (slice_index vs 1)
plain_gate n (Scale a c d) vs = plain_scale (2 ^ n) c d (slice_index vs 0)
plain_gate n (Product a b) vs = plain_product (2 ^ n) (slice_index vs 0) (slice_index vs 1)
plain_gate n (Piece a p q c) vs = plain_piece (2 ^ n) p q (slice_index c 0) (slice_index c 1) (slice_index c 2) (slice_index c 3) (slice_index vs 0)
plain_gate n (Flag a p q t) vs = plain_flag p q t (slice_index vs 0)
plain_gate n (Shift a s) vs = plain_shift (2 ^ s) (slice_index vs 0)
plain_gate n (SignedShift a s) vs = plain_signed_shift (2 ^ n) (2 ^ s) (slice_index vs 0)
plain_gate n (Xor a b) vs = plain_xor (slice_index vs 0) (slice_index vs 1)
