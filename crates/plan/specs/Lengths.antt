-- How many bytes a gate's parts have in a book.
use Rattle.std.specs.Prelude.{ℕ, ◌+◌, ◌*◌}
use Rattle.plan.specs.declared.gates.Gate.{Gate}
use Rattle.plan.specs.declared.gates.Gate.TheVariants.{Sum, Scale, Product, Piece, Flag, Shift, SignedShift, Xor}

-- a comparison key of n rows whose elements have so many bytes: root, rows, final element
abbrev pub compared_long : ℕ → ℕ → ℕ
compared_long size n = 16 + n * (17 + size) + size

module _ {C T : Type 0} where
  -- how many bytes the parameters have
  abbrev pub parameters_long : Gate C T → ℕ
  parameters_long (Sum a b) = 0
  parameters_long (Scale a c d) = 8
  parameters_long (Product a b) = 0
  parameters_long (Piece a p q c) = 8
  parameters_long (Flag a p q t) = 8
  parameters_long (Shift a s) = 1
  parameters_long (SignedShift a s) = 1
  parameters_long (Xor a b) = 0

  -- how many bytes the key has: payload, E part and mask share follow an interval's comparison key, the rest's share a shift's two
  abbrev pub key_long : ℕ → Gate C T → ℕ
  key_long n (Sum a b) = 0
  key_long n (Scale a c d) = 0
  key_long n (Product a b) = 12
  key_long n (Piece a p q c) = compared_long 32 n + 68
  key_long n (Flag a p q t) = compared_long 4 n + 12
  key_long n (Shift a s) = compared_long 8 s + compared_long 8 n + 4
  key_long n (SignedShift a s) = compared_long 8 s + compared_long 8 n + 4
  key_long n (Xor a b) = 0
