-- The product of two held values m and k with the masks r and s.
use Rattle.std.specs.Prelude.{ℕ, ◌+◌, ◌-◌, ◌*◌, ◌%◌, Bool, cond}
use Rattle.shares.specs.Splits.{part_of_number}

-- a box's part A of the mask of m
abbrev pub part_a : Bool → ℕ → ℕ → ℕ → ℕ
part_a one N r random = part_of_number one N r random

-- a box's part B of the mask of k
abbrev pub part_b : Bool → ℕ → ℕ → ℕ → ℕ
part_b one N s random = part_of_number one N s random

-- a box's part C of the masks' product plus the output mask
abbrev pub part_c : Bool → ℕ → ℕ → ℕ → ℕ → ℕ → ℕ
part_c one N r s out random = part_of_number one N (r * s + out) random

-- a box's share: C − m × B − k × A, to which box 1 adds m × k
abbrev pub product_share : Bool → ℕ → ℕ → ℕ → ℕ → ℕ → ℕ → ℕ
product_share one N m k a b c = (c + cond one (m * k) 0 % N + (N - m * b % N) + (N - k * a % N)) % N
