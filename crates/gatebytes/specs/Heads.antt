-- What a gate's body says before its key.
use Rattle.std.specs.Prelude.{ℕ, List, [], ◌∷◌, ◌++◌, Option}
use Rattle.stored.specs.Forms.{four_bytes}
use Rattle.plan.specs.Gates.{GateBody, number_of, kind_of}
use Rattle.plan.specs.declared.gates.Gate.TheVariants.{Sum, Scale, Product, Piece, Flag, Shift, SignedShift, Xor}
use Rattle.layout.specs.Wires.{mask_bytes, given}

-- kind, the wires that are read, whether it is shown, and the mask where it is
abbrev pub head_bytes : ℕ → ℕ → ℕ → Option ℕ → List ℕ
head_bytes kind a b shown = (kind ∷ a ∷ b ∷ given shown ∷ []) ++ mask_bytes shown

-- the wires that are read; 0 in the second place where only one is
abbrev pub places : GateBody → ℕ × ℕ
places (Sum a b) = (a, b)
places (Scale a c d) = (a, 0)
places (Product a b) = (a, b)
places (Piece a p q c) = (a, 0)
places (Flag a p q t) = (a, 0)
places (Shift a s) = (a, 0)
places (SignedShift a s) = (a, 0)
places (Xor a b) = (a, b)

-- the parameters: c, d; or p, q; or s
abbrev pub parameters : GateBody → List ℕ
parameters (Sum a b) = []
parameters (Scale a c d) = four_bytes c ++ four_bytes d
parameters (Product a b) = []
parameters (Piece a p q c) = four_bytes p ++ four_bytes q
parameters (Flag a p q t) = four_bytes p ++ four_bytes q
parameters (Shift a s) = s ∷ []
parameters (SignedShift a s) = s ∷ []
parameters (Xor a b) = []

-- the head and the parameters
abbrev pub before_key : Option ℕ → GateBody → List ℕ
before_key shown b = head_bytes (number_of (kind_of b)) (places b).0 (places b).1 shown ++ parameters b
