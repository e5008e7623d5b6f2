-- The gates that a box works out alone, on held values and on masks.
use Rattle.std.specs.Prelude.{ℕ, ◌+◌, ◌*◌, ◌%◌, bit_xor}

-- the sum of two held values, and of their masks
abbrev pub sum_of : ℕ → ℕ → ℕ → ℕ
sum_of N a b = (a + b) % N

-- c × a + d at the held value a
abbrev pub scale_of : ℕ → ℕ → ℕ → ℕ → ℕ
scale_of N c d a = (c * a + d) % N

-- the mask of c × a + d, where a has the mask r
abbrev pub scale_mask : ℕ → ℕ → ℕ → ℕ
scale_mask N c r = c * r % N

-- the XOR of two held flag values, and of their masks
abbrev pub xor_of : ℕ → ℕ → ℕ
xor_of a b = bit_xor a b

-- the plain value of held flags under the mask r
abbrev pub plain_flags : ℕ → ℕ → ℕ
plain_flags r m = bit_xor m r
