-- What each gate means on plain values.
use Rattle.std.specs.Prelude.{ℕ, ◌+◌, ◌-◌, ◌*◌, ◌/◌, ◌%◌, cond, ℤ, pos, negsuc, bit_xor, nat_lt}
use Rattle.std.proofs.Math.IntN.{sub_ℕ}
use Rattle.std.specs.Int.Signed.{shr_z}
use Rattle.interval.specs.Interval.{inside}
use Rattle.shares.specs.Piece.{curve}

abbrev pub plain_sum : ℕ → ℕ → ℕ → ℕ
plain_sum N v w = (v + w) % N

abbrev pub plain_scale : ℕ → ℕ → ℕ → ℕ → ℕ
plain_scale N c d v = (c * v + d) % N

abbrev pub plain_product : ℕ → ℕ → ℕ → ℕ
plain_product N v w = v * w % N

-- the cubic from p to q, zero elsewhere
abbrev pub plain_piece : ℕ → ℕ → ℕ → ℕ → ℕ → ℕ → ℕ → ℕ → ℕ
plain_piece N p q c0 c1 c2 c3 v = cond (inside p q v) (curve c0 c1 c2 c3 v % N) 0

-- the pattern from p to q, zero elsewhere
abbrev pub plain_flag : ℕ → ℕ → ℕ → ℕ → ℕ
plain_flag p q pattern v = cond (inside p q v) pattern 0

abbrev pub plain_xor : ℕ → ℕ → ℕ
plain_xor v w = bit_xor v w

-- floor(v / S)
abbrev pub plain_shift : ℕ → ℕ → ℕ
plain_shift S v = v / S

-- v as a signed number: from N/2 up it counts as v − N
abbrev pub signed : ℕ → ℕ → ℤ
signed N v = cond (nat_lt v (N / 2)) (pos v) (sub_ℕ v N)

-- an integer modulo N
abbrev pub remainder : ℤ → ℕ → ℕ
remainder (pos a) N = a % N
remainder (negsuc a) N = N - 1 - a % N

-- the signed number by S, rounded down, modulo N
abbrev pub plain_signed_shift : ℕ → ℕ → ℕ → ℕ
plain_signed_shift N S v = remainder (shr_z (signed N v) S) N
