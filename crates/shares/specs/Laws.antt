-- What holds of the gates: two boxes' shares join to the plain meaning under the output mask.
use Rattle.std.specs.Prelude.{◌≡◌, ℕ, ◌+◌, ◌-◌, ◌/◌, ◌%◌, ◌^◌, ◌<◌, ◌≤◌, Bool, true, false, cond, bit_xor, nat_lt}
use Rattle.group.specs.Groups.{OutputGroup}
use Rattle.interval.specs.Interval.{plain, masked, inside}
use Rattle.shares.specs.Splits.{part_of_number, part_of_flags, part_of_element}
use Rattle.shares.specs.Local.{sum_of, scale_of, scale_mask, xor_of, plain_flags}
use Rattle.shares.specs.Product.{part_a, part_b, part_c, product_share}
use Rattle.shares.specs.Piece.{curve, moved0, moved1, moved2, piece_share}
use Rattle.shares.specs.Flag.{flag_share}
use Rattle.shares.specs.Shifts.{low_threshold, low_payload, high_threshold, high_payload, low_point, shift_rest, shift_share, signed_held, signed_share}
use Rattle.shares.specs.Plain.{plain_sum, plain_scale, plain_product, plain_piece, plain_flag, plain_xor, plain_shift, plain_signed_shift}

-- the parts of a value make it up
abbrev pub NumbersSplit : Type 0
NumbersSplit =
    (N all random : ℕ) → 0 < N → (part_of_number false N all random + part_of_number true N all random) % N ≡ all % N

abbrev pub FlagsSplit : Type 0
FlagsSplit = (all random : ℕ) → bit_xor (part_of_flags false all random) (part_of_flags true all random) ≡ all

abbrev pub ElementsSplit : {M : Type 0} → OutputGroup M → Type 0
ElementsSplit {M} g = (all random : M) → g.sum (part_of_element g false all random) (part_of_element g true all random) ≡ all

-- a held value gives back its plain value, and a plain value its held value
abbrev pub HeldIsPlain : Type 0
HeldIsPlain =
    (N r : ℕ) → r < N
    → ((v : ℕ) → v < N → plain N r (masked N r v) ≡ v)
    × ((m : ℕ) → m < N → masked N r (plain N r m) ≡ m)

-- a local gate's held value, under the gate's mask, is the plain meaning of the inputs' plain values
abbrev pub SumIsPlain : Type 0
SumIsPlain =
    (N m k r s : ℕ) → r < N → s < N
    → plain N (sum_of N r s) (sum_of N m k) ≡ plain_sum N (plain N r m) (plain N s k)

abbrev pub ScaleIsPlain : Type 0
ScaleIsPlain =
    (N c d m r : ℕ) → r < N
    → plain N (scale_mask N c r) (scale_of N c d m) ≡ plain_scale N c d (plain N r m)

abbrev pub XorIsPlain : Type 0
XorIsPlain =
    (m k r s : ℕ) → plain_flags (xor_of r s) (xor_of m k) ≡ plain_xor (plain_flags r m) (plain_flags s k)

-- both boxes' shares of a product, from their parts of the masks
abbrev pub ProductJoins : Type 0
ProductJoins =
    (N m k r s out random-a random-b random-c : ℕ) → r < N → s < N
    → (product_share false N m k (part_a false N r random-a) (part_b false N s random-b) (part_c false N r s out random-c)
    + product_share true N m k (part_a true N r random-a) (part_b true N s random-b) (part_c true N r s out random-c)) % N
    ≡ (plain_product N (plain N r m) (plain N s k) + out) % N

-- the moved coefficients give at v + r what the cubic gives at v
abbrev pub CurveMoves : Type 0
CurveMoves =
    (r c0 c1 c2 c3 v : ℕ)
    → curve (moved0 r c0 c1 c2 c3) (moved1 r c1 c2 c3) (moved2 r c2 c3) c3 (v + r) % 2 ^ 64 ≡ curve c0 c1 c2 c3 v % 2 ^ 64

-- both boxes' shares of a piece, from answers a and b that join word by word to the moved coefficients inside the interval
abbrev pub PieceJoins : Type 0
PieceJoins =
    (n m r p q c0 c1 c2 c3 out random a0 a1 a2 a3 b0 b1 b2 b3 : ℕ) → n ≤ 32 → r < 2 ^ n
    → (let in-it : Bool = inside p q (plain (2 ^ n) r m) in
    (a0 + b0) % 2 ^ 64 ≡ cond in-it (moved0 r c0 c1 c2 c3) 0
    → (a1 + b1) % 2 ^ 64 ≡ cond in-it (moved1 r c1 c2 c3) 0
    → (a2 + b2) % 2 ^ 64 ≡ cond in-it (moved2 r c2 c3) 0
    → (a3 + b3) % 2 ^ 64 ≡ cond in-it (c3 % 2 ^ 64) 0
    → (piece_share (2 ^ n) m a0 a1 a2 a3 (part_of_number false (2 ^ n) out random)
    + piece_share (2 ^ n) m b0 b1 b2 b3 (part_of_number true (2 ^ n) out random)) % 2 ^ n
    ≡ (plain_piece (2 ^ n) p q c0 c1 c2 c3 (plain (2 ^ n) r m) + out) % 2 ^ n)

-- both boxes' shares of a flag gate, from answers a and b that join to the pattern inside the interval
abbrev pub FlagJoins : Type 0
FlagJoins =
    (p q pattern v out random a b : ℕ)
    → bit_xor a b ≡ plain_flag p q pattern v
    → bit_xor (flag_share a (part_of_flags false out random)) (flag_share b (part_of_flags true out random))
    ≡ bit_xor (plain_flag p q pattern v) out

-- both boxes' shares of a shift, from key answers that join as the comparison says
abbrev pub ShiftJoins : Type 0
ShiftJoins =
    (n s m r out random low0 low1 high0 high1 : ℕ) → s ≤ n → n ≤ 32 → m < 2 ^ n → r < 2 ^ n
    → (low0 + low1) % 2 ^ 64 ≡ cond (nat_lt (low_point (2 ^ s) m) (low_threshold (2 ^ s) r)) low_payload 0
    → (high0 + high1) % 2 ^ 64 ≡ cond (nat_lt m (high_threshold r)) (high_payload (2 ^ n) (2 ^ s)) 0
    → (shift_share false (2 ^ n) (2 ^ s) m low0 high0 (part_of_number false (2 ^ n) (shift_rest (2 ^ n) (2 ^ s) r out) random)
    + shift_share true (2 ^ n) (2 ^ s) m low1 high1 (part_of_number true (2 ^ n) (shift_rest (2 ^ n) (2 ^ s) r out) random)) % 2 ^ n
    ≡ (plain_shift (2 ^ s) (plain (2 ^ n) r m) + out) % 2 ^ n

-- the same for a signed shift
abbrev pub SignedShiftJoins : Type 0
SignedShiftJoins =
    (n s m r out random low0 low1 high0 high1 : ℕ) → s < n → n ≤ 32 → m < 2 ^ n → r < 2 ^ n
    → (low0 + low1) % 2 ^ 64 ≡ cond (nat_lt (low_point (2 ^ s) (signed_held (2 ^ n) m)) (low_threshold (2 ^ s) r)) low_payload 0
    → (high0 + high1) % 2 ^ 64 ≡ cond (nat_lt (signed_held (2 ^ n) m) (high_threshold r)) (high_payload (2 ^ n) (2 ^ s)) 0
    → (signed_share false (2 ^ n) (2 ^ s) m low0 high0 (part_of_number false (2 ^ n) (shift_rest (2 ^ n) (2 ^ s) r out) random)
    + signed_share true (2 ^ n) (2 ^ s) m low1 high1 (part_of_number true (2 ^ n) (shift_rest (2 ^ n) (2 ^ s) r out) random)) % 2 ^ n
    ≡ (plain_signed_shift (2 ^ n) (2 ^ s) (plain (2 ^ n) r m) + out) % 2 ^ n

-- the quotients that the shifts use are powers of two
abbrev pub ShiftPowers : Type 0
ShiftPowers =
    ((n s : ℕ) → s ≤ n → high_payload (2 ^ n) (2 ^ s) ≡ 2 ^ (n - s))
    × ((n s : ℕ) → s < n → 2 ^ n / 2 / 2 ^ s ≡ 2 ^ (n - 1 - s))
