-- Gates: what each kind is called by number, gives, reads and takes, and which numbers may stand in one.
use Rattle.std.specs.Prelude.{◌≡◌, ℕ, ◌^◌, ◌<◌, Bool, true, false, not, ◌&&◌, ◌⊎◌, List, [], ◌∷◌, Result, MatchResult, nat_le, nat_lt}
use Rattle.plan.specs.declared.gates.GateKind.{GateKind}
use Rattle.plan.specs.declared.gates.GateKind.TheVariants as kind
use Rattle.plan.specs.declared.gates.UnknownKind.{UnknownKind}
use Rattle.plan.specs.declared.gates.Gate.{Gate}
use Rattle.plan.specs.declared.gates.Gate.TheVariants.{Sum, Scale, Product, Piece, Flag, Shift, SignedShift, Xor}

-- a gate of a plan has the coefficients of a piece and the pattern of a flag; a book's reader leaves both out
abbrev pub GateBody : Type 0
GateBody = Gate (List ℕ) ℕ

abbrev pub GateHead : Type 0
GateHead = Gate Unit Unit

-- the number by which a book names a kind
abbrev pub number_of : GateKind → ℕ
number_of kind.Sum = 1
number_of kind.Scale = 2
number_of kind.Product = 3
number_of kind.Piece = 4
number_of kind.Flag = 5
number_of kind.Shift = 6
number_of kind.SignedShift = 7
number_of kind.Xor = 8

-- the answer is the kind with this number, or an error where no kind has it
abbrev pub IsNumbered : ℕ → Result GateKind UnknownKind → Type 0
IsNumbered n r = MatchResult r (λ kind. number_of kind ≡ n) (λ e. (e.0 ≡ n) × ((n ≡ 0) ⊎ (8 < n)))

-- flag and xor give flag wires, all other gates number wires
abbrev pub kind_gives_flag : GateKind → Bool
kind_gives_flag kind.Sum = false
kind_gives_flag kind.Scale = false
kind_gives_flag kind.Product = false
kind_gives_flag kind.Piece = false
kind_gives_flag kind.Flag = true
kind_gives_flag kind.Shift = false
kind_gives_flag kind.SignedShift = false
kind_gives_flag kind.Xor = true

-- sum, scale and xor are worked without a key
abbrev pub kind_is_keyed : GateKind → Bool
kind_is_keyed kind.Sum = false
kind_is_keyed kind.Scale = false
kind_is_keyed kind.Product = true
kind_is_keyed kind.Piece = true
kind_is_keyed kind.Flag = true
kind_is_keyed kind.Shift = true
kind_is_keyed kind.SignedShift = true
kind_is_keyed kind.Xor = false

-- the random words that a gate takes, its mask's first
abbrev pub kind_words : GateKind → ℕ
kind_words kind.Sum = 0
kind_words kind.Scale = 0
kind_words kind.Product = 4
kind_words kind.Piece = 14
kind_words kind.Flag = 8
kind_words kind.Shift = 10
kind_words kind.SignedShift = 10
kind_words kind.Xor = 0

-- is a number below N?
abbrev pub below : ℕ → ℕ → Bool
below n x = nat_lt x (2 ^ n)

-- is p at most q, and q below N?
abbrev pub interval_fits : ℕ → ℕ → ℕ → Bool
interval_fits n p q = nat_le p q && below n q

-- is the shift 1 to n − 1?
abbrev pub shift_fits : ℕ → ℕ → Bool
shift_fits n s = nat_le 1 s && nat_lt s n

module _ {C T : Type 0} where
  abbrev pub kind_of : Gate C T → GateKind
  kind_of (Sum a b) = kind.Sum
  kind_of (Scale a c d) = kind.Scale
  kind_of (Product a b) = kind.Product
  kind_of (Piece a p q c) = kind.Piece
  kind_of (Flag a p q t) = kind.Flag
  kind_of (Shift a s) = kind.Shift
  kind_of (SignedShift a s) = kind.SignedShift
  kind_of (Xor a b) = kind.Xor

  abbrev pub gives_flag : Gate C T → Bool
  gives_flag g = kind_gives_flag (kind_of g)

  abbrev pub is_keyed : Gate C T → Bool
  is_keyed g = kind_is_keyed (kind_of g)

  abbrev pub words_of : Gate C T → ℕ
  words_of g = kind_words (kind_of g)

  -- the wires that a gate reads
  abbrev pub reads : Gate C T → List ℕ
  reads (Sum a b) = a ∷ b ∷ []
  reads (Scale a c d) = a ∷ []
  reads (Product a b) = a ∷ b ∷ []
  reads (Piece a p q c) = a ∷ []
  reads (Flag a p q t) = a ∷ []
  reads (Shift a s) = a ∷ []
  reads (SignedShift a s) = a ∷ []
  reads (Xor a b) = a ∷ b ∷ []

  -- are a gate's numbers below N, p at most q, and the shift 1 to n − 1?
  abbrev pub numbers_fit : ℕ → Gate C T → Bool
  numbers_fit n (Sum a b) = true
  numbers_fit n (Scale a c d) = below n c && below n d
  numbers_fit n (Product a b) = true
  numbers_fit n (Piece a p q c) = interval_fits n p q
  numbers_fit n (Flag a p q t) = interval_fits n p q
  numbers_fit n (Shift a s) = shift_fits n s
  numbers_fit n (SignedShift a s) = shift_fits n s
  numbers_fit n (Xor a b) = true

-- which wires carry flags, and a wire k
module _ (is_flag : ℕ → Bool) (k : ℕ) where
  -- a wire below k that carries a number, and one that carries flags
  abbrev pub lower_number : ℕ → Bool
  lower_number w = nat_lt w k && not (is_flag w)

  abbrev pub lower_flag : ℕ → Bool
  lower_flag w = nat_lt w k && is_flag w

  -- does the gate of wire k read lower wires of the right kind?
  abbrev pub reads_fit : {C T : Type 0} → Gate C T → Bool
  reads_fit (Sum a b) = lower_number a && lower_number b
  reads_fit (Scale a c d) = lower_number a
  reads_fit (Product a b) = lower_number a && lower_number b
  reads_fit (Piece a p q c) = lower_number a
  reads_fit (Flag a p q t) = lower_number a
  reads_fit (Shift a s) = lower_number a
  reads_fit (SignedShift a s) = lower_number a
  reads_fit (Xor a b) = lower_flag a && lower_flag b
