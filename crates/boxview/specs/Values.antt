-- What the values of a wire are, and boxes by their number.
use Rattle.std.specs.Prelude.{ℕ, ◌+◌, ◌-◌, ◌%◌, ◌^◌, Bool, true, false, cond, ◌==◌, nat_lt}
use Rattle.std.specs.Int.Bits.{bit_xor}
use Rattle.key.specs.declared.BoxNumber.{BoxNumber}
use Rattle.key.specs.declared.BoxNumber.TheVariants.{Zero, One}
use Rattle.runs.specs.Plans.{Group}

-- numbers below N, added modulo N
abbrev pub numbers : ℕ → Group
numbers N = record { within = λ a. nat_lt a N; sum = λ a b. (a + b) % N; inv = λ b. N - b }

-- 32 flags under XOR
abbrev pub flag_values : Group
flag_values = record { within = λ a. nat_lt a (2 ^ 32); sum = bit_xor; inv = λ b. b }

-- the values of a number wire at width n, or of a flag wire
abbrev pub values : ℕ → Bool → Group
values n true = flag_values
values n false = numbers (2 ^ n)

-- a box by its number
abbrev pub box_of : ℕ → BoxNumber
box_of o = cond (o == 1) One Zero
