-- What the fields of a wire may be.
use Rattle.std.specs.Prelude.{◌≡◌, ℕ, ◌^◌, ◌<◌, Bool, true, cond, length, Some, None, Option, ◌≢◌}
use Rattle.layout.specs.Wires as wire
use Rattle.layout.specs.Wires.{Gate}
use Rattle.plan.specs.Gates.{GateHead}
use Rattle.plan.specs.declared.gates.Gate.TheVariants.{Sum, Scale, Product, Piece, Flag, Shift, SignedShift, Xor}
use Rattle.bodies.specs.Heads.{gives_flag, numbers_fit}

-- a gate without its key
abbrev pub head : Gate → GateHead
head (wire.sum a b) = Sum a b
head (wire.scale a c d) = Scale a c d
head (wire.product a b x y z) = Product a b
head (wire.piece a p q k β e o) = Piece a p q tt
head (wire.flag a p q k β e o) = Flag a p q tt
head (wire.shift a s l h r) = Shift a s
head (wire.signed_shift a s l h r) = SignedShift a s
head (wire.xor a b) = Xor a b

-- a comparison key has a row for each bit, of the width or of the shift; shares are below N, flags below 2^32
abbrev pub key_allowed : ℕ → Gate → Type 0
key_allowed n (wire.sum a b) = Unit {0}
key_allowed n (wire.scale a c d) = Unit {0}
key_allowed n (wire.product a b x y z) = (x < 2 ^ n) × (y < 2 ^ n) × (z < 2 ^ n)
key_allowed n (wire.piece a p q k β e o) = (length k.rows ≡ n) × (o < 2 ^ n)
key_allowed n (wire.flag a p q k β e o) = (length k.rows ≡ n) × (o < 2 ^ 32)
key_allowed n (wire.shift a s l h r) = (length l.rows ≡ s) × (length h.rows ≡ n) × (r < 2 ^ n)
key_allowed n (wire.signed_shift a s l h r) = (length l.rows ≡ s) × (length h.rows ≡ n) × (r < 2 ^ n)
key_allowed n (wire.xor a b) = Unit {0}

-- the mask of a number wire is below N, that of a flag wire below 2^32
abbrev pub mask_allowed : ℕ → Bool → Option ℕ → Type 0
mask_allowed n flag None = Unit {0}
mask_allowed n flag (Some m) = m < 2 ^ cond flag 32 n

-- a gate at width n, but for the wires that it reads
pub record GateAllowed (n : ℕ) (shown : Option ℕ) (g : Gate) : Type 0 where
  pub mask : mask_allowed n (gives_flag (head g)) shown
  pub fields : numbers_fit n (head g) ≡ true
  pub key : key_allowed n g

-- an input in the book of box b: its mask stands there exactly where b is the owner
abbrev pub input_allowed : ℕ → ℕ → ℕ → Option ℕ → Type 0
input_allowed b n owner None = (owner < 2) × (owner ≢ b)
input_allowed b n owner (Some m) = (owner < 2) × (owner ≡ b) × (m < 2 ^ n)
