-- The flag gate: a box's share.
use Rattle.std.specs.Prelude.{ℕ, bit_xor}

-- the interval's answer XOR the box's part of the output mask
abbrev pub flag_share : ℕ → ℕ → ℕ
flag_share answer out = bit_xor answer out
