-- The job that a gate's order asks for, as its width and its body with the masks below N.
use Rattle.std.specs.Prelude.{ℕ, ◌%◌, ◌^◌, Bool, true, ◌&&◌, List, [], ◌∷◌, Result, nat_le, nat_lt}
use Rattle.refusal.specs.declared.Refusal.{Refusal}
use Rattle.refusal.specs.declared.Refusal.TheVariants.{PlanFields}
use Rattle.refusal.specs.Questions.{answered}
use Rattle.masking.specs.Masking.{allowed}
use Rattle.gatekeys.specs.declared.keyed.Sign.{Sign}
use Rattle.gatekeys.specs.declared.keyed.Sign.TheVariants.{Unsigned, Signed}
use Rattle.orders.specs.Grammar.{and_then}
use Rattle.orders.specs.declared.types.GateBody.{GateBody}
use Rattle.orders.specs.declared.types.GateBody.TheVariants as gate
use Rattle.orders.specs.declared.types.GateOrder.{GateOrder}
use Rattle.jobs.specs.declared.Job.{Job}
use Rattle.jobs.specs.declared.Job.TheVariants.{Piece, Flag, Shift, Product, Local}
use Rattle.jobs.specs.declared.LocalJob.TheVariants.{Sum, Scale, Xor}

-- a shift, written as a body
abbrev pub shift_body : Sign → ℕ → ℕ → List ℕ → GateBody
shift_body Unsigned mask by words = gate.Shift mask by words
shift_body Signed mask by words = gate.Signed mask by words

-- a job, written as a width and a body
abbrev pub job_view : Job → ℕ × GateBody
job_view (Piece j) =
    (j.interval.width.bits, gate.Piece j.mask j.interval.low j.interval.high j.coefficients j.words)
job_view (Flag j) =
    (j.interval.width.bits, gate.Flag j.mask j.interval.low j.interval.high j.pattern j.words)
job_view (Shift j) = (j.shift.width.bits, shift_body j.sign j.mask j.shift.by j.words)
job_view (Product j) = (j.width.bits, gate.Product j.mask_a j.mask_b j.words)
job_view (Local (Sum w a b)) = (w.bits, gate.Sum a b)
job_view (Local (Scale w a c d)) = (w.bits, gate.Scale a c d)
job_view (Local (Xor w a b)) = (w.bits, gate.Xor a b)

-- are a gate's parameters allowed at the width n?
abbrev pub allowed_at : ℕ → GateBody → Bool
allowed_at n (gate.Piece mask low high coefficients words) = nat_le low high && nat_lt high (2 ^ n)
allowed_at n (gate.Flag mask low high pattern words) = nat_le low high && nat_lt high (2 ^ n)
allowed_at n (gate.Shift mask by words) = nat_le 1 by && nat_lt by n
allowed_at n (gate.Signed mask by words) = nat_le 1 by && nat_lt by n
allowed_at n (gate.Product mask mask2 words) = true
allowed_at n (gate.Sum mask mask2) = true
allowed_at n (gate.Scale mask c d) = true
allowed_at n (gate.Xor mask mask2) = true

-- a body with its masks below N; flags are masked by all 32 bits
abbrev pub below : ℕ → GateBody → GateBody
below n (gate.Piece mask low high coefficients words) = gate.Piece (mask % 2 ^ n) low high coefficients words
below n (gate.Flag mask low high pattern words) = gate.Flag (mask % 2 ^ n) low high pattern words
below n (gate.Shift mask by words) = gate.Shift (mask % 2 ^ n) by words
below n (gate.Signed mask by words) = gate.Signed (mask % 2 ^ n) by words
below n (gate.Product mask mask2 words) = gate.Product (mask % 2 ^ n) (mask2 % 2 ^ n) words
below n (gate.Sum mask mask2) = gate.Sum (mask % 2 ^ n) (mask2 % 2 ^ n)
below n (gate.Scale mask c d) = gate.Scale (mask % 2 ^ n) c d
below n (gate.Xor mask mask2) = gate.Xor mask mask2

-- a body's job at an allowed width
abbrev pub body_answer : ℕ → GateBody → Result (ℕ × GateBody) Refusal
body_answer n body = answered ((allowed_at n body, PlanFields) ∷ []) (n, below n body)

-- an order's job: the width is asked first, then the parameters
abbrev pub job_answer : GateOrder → Result (ℕ × GateBody) Refusal
job_answer order = and_then (allowed order.width) (λ n. body_answer n order.body)
