-- A gate as its body names it, without the key.
use Rattle.std.specs.Prelude.{ℕ, cond, List, Some, None, Option, ◌==◌, slice_index}
use Rattle.layout.specs.Bytes.{number_at}
use Rattle.plan.specs.Gates.{GateHead}
use Rattle.plan.specs.declared.gates.Gate.TheVariants.{Sum, Scale, Product, Piece, Flag, Shift, SignedShift, Xor}
pub use Rattle.plan.specs.Gates.{gives_flag, numbers_fit, lower_number, lower_flag, reads_fit}
pub use Rattle.plan.specs.Lengths.{compared_long, parameters_long, key_long}

-- a gate that reads one wire: its second place holds 0
abbrev pub lone : ℕ → GateHead → Option GateHead
lone b g = cond (b == 0) (Some g) None

-- the gate by its kind byte, the places a and b, and what follows the mask; nothing where the kind is not known
abbrev pub head_of : ℕ → ℕ → ℕ → List ℕ → Option GateHead
head_of kind a b rest =
    cond (kind == 1) (Some (Sum a b))
    (cond (kind == 2) (lone b (Scale a (number_at rest 0) (number_at rest 4)))
    (cond (kind == 3) (Some (Product a b))
    (cond (kind == 4) (lone b (Piece a (number_at rest 0) (number_at rest 4) tt))
    (cond (kind == 5) (lone b (Flag a (number_at rest 0) (number_at rest 4) tt))
    (cond (kind == 6) (lone b (Shift a (slice_index rest 0)))
    (cond (kind == 7) (lone b (SignedShift a (slice_index rest 0)))
    (cond (kind == 8) (Some (Xor a b)) None)))))))
