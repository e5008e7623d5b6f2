-- Splitting a value between the boxes: box 1 gets what is random, box 0 the difference. `one` says that the box is box 1.
use Rattle.std.specs.Prelude.{ℕ, ◌+◌, ◌-◌, ◌%◌, ◌^◌, Bool, cond, bit_xor}
use Rattle.group.specs.Groups.{OutputGroup, minus}

-- a box's part of a number modulo N
abbrev pub part_of_number : Bool → ℕ → ℕ → ℕ → ℕ
part_of_number one N all random = cond one (random % N) ((all % N + (N - random % N)) % N)

-- a box's part of 32 flags
abbrev pub part_of_flags : Bool → ℕ → ℕ → ℕ
part_of_flags one all random = cond one (random % 2 ^ 32) (bit_xor all (random % 2 ^ 32))

-- a box's part of a group element
abbrev pub part_of_element : {M : Type 0} → OutputGroup M → Bool → M → M → M
part_of_element g one all random = cond one random (minus g all random)
