-- What one box's book says of a wire, and the bytes of it.
use Rattle.std.specs.Prelude.{ℕ, ◌^◌, List, [], ◌∷◌, ◌++◌, Some, None, Option}
use Rattle.group.specs.Residues.{Residue}
use Rattle.stored.specs.Forms.{four_bytes}
use Rattle.shares.specs.Words.{Word, Quad}
use Rattle.layout.specs.Keys.{Compared, compared_bytes, word_bytes, flag_bytes, quad_bytes}

-- a gate with the wires that it reads, its parameters, and the box's key; `out` is the box's part of the output mask
pub data Gate : Type 0 where
  sum : (a b : ℕ) → Gate
  scale : (a c d : ℕ) → Gate
  product : (a b part_a part_b part_c : ℕ) → Gate
  piece : (a p q : ℕ) (key : Compared Quad) (payload extra : Quad) (out : ℕ) → Gate
  flag : (a p q : ℕ) (key : Compared (Residue (2 ^ 32))) (payload extra : Residue (2 ^ 32)) (out : ℕ) → Gate
  shift : (a s : ℕ) (low high : Compared Word) (rest : ℕ) → Gate
  signed_shift : (a s : ℕ) (low high : Compared Word) (rest : ℕ) → Gate
  xor : (a b : ℕ) → Gate

-- an input has its mask in its owner's book only, a gate where it is shown
pub data Wire : Type 0 where
  input : (owner : ℕ) (mask : Option ℕ) → Wire
  gate : (shown : Option ℕ) (body : Gate) → Wire

-- the kind byte
abbrev pub kind : Gate → ℕ
kind (sum a b) = 1
kind (scale a c d) = 2
kind (product a b x y z) = 3
kind (piece a p q k β e o) = 4
kind (flag a p q k β e o) = 5
kind (shift a s l h r) = 6
kind (signed_shift a s l h r) = 7
kind (xor a b) = 8

abbrev pub first : Gate → ℕ
first (sum a b) = a
first (scale a c d) = a
first (product a b x y z) = a
first (piece a p q k β e o) = a
first (flag a p q k β e o) = a
first (shift a s l h r) = a
first (signed_shift a s l h r) = a
first (xor a b) = a

-- 0 where only one wire is read
abbrev pub second : Gate → ℕ
second (sum a b) = b
second (scale a c d) = 0
second (product a b x y z) = b
second (piece a p q k β e o) = 0
second (flag a p q k β e o) = 0
second (shift a s l h r) = 0
second (signed_shift a s l h r) = 0
second (xor a b) = b

-- c, d; or p, q; or s
abbrev pub parameter_bytes : Gate → List ℕ
parameter_bytes (sum a b) = []
parameter_bytes (scale a c d) = four_bytes c ++ four_bytes d
parameter_bytes (product a b x y z) = []
parameter_bytes (piece a p q k β e o) = four_bytes p ++ four_bytes q
parameter_bytes (flag a p q k β e o) = four_bytes p ++ four_bytes q
parameter_bytes (shift a s l h r) = s ∷ []
parameter_bytes (signed_shift a s l h r) = s ∷ []
parameter_bytes (xor a b) = []

-- a box's key of an interval gate: comparison key, payload part, E part, output mask part
abbrev pub interval_bytes : {M : Type 0} → (M → List ℕ) → Compared M → M → M → ℕ → List ℕ
interval_bytes form k β e o = compared_bytes form k ++ (form β ++ (form e ++ four_bytes o))

-- a box's key of a shift: the low key, the high key, the part of the rest
abbrev pub shift_bytes : Compared Word → Compared Word → ℕ → List ℕ
shift_bytes l h r = compared_bytes word_bytes l ++ (compared_bytes word_bytes h ++ four_bytes r)

abbrev pub gate_key_bytes : Gate → List ℕ
gate_key_bytes (sum a b) = []
gate_key_bytes (scale a c d) = []
gate_key_bytes (product a b x y z) = four_bytes x ++ (four_bytes y ++ four_bytes z)
gate_key_bytes (piece a p q k β e o) = interval_bytes quad_bytes k β e o
gate_key_bytes (flag a p q k β e o) = interval_bytes flag_bytes k β e o
gate_key_bytes (shift a s l h r) = shift_bytes l h r
gate_key_bytes (signed_shift a s l h r) = shift_bytes l h r
gate_key_bytes (xor a b) = []

-- a mask where it is given
abbrev pub mask_bytes : Option ℕ → List ℕ
mask_bytes None = []
mask_bytes (Some m) = four_bytes m

-- whether it is given, as a byte
abbrev pub given : Option ℕ → ℕ
given None = 0
given (Some m) = 1

-- the body of a wire
abbrev pub wire_bytes : Wire → List ℕ
wire_bytes (input owner mask) = owner ∷ mask_bytes mask
wire_bytes (gate shown body) =
    (kind body ∷ first body ∷ second body ∷ given shown ∷ [])
    ++ (mask_bytes shown ++ (parameter_bytes body ++ gate_key_bytes body))
