-- How long the parts of a book are, known before it is written.
use Rattle.std.specs.Prelude.{◌≡◌, ℕ, zero, suc, ◌+◌, ◌*◌, ◌≤◌, true, cond, List, ◌++◌, length, ◌==◌, slice_index}
use Rattle.stored.specs.Forms.{four_bytes}
use Rattle.plan.specs.Gates.{GateBody}
use Rattle.plan.specs.declared.gates.Gate.TheVariants.{Sum, Scale, Product, Piece, Flag, Shift, SignedShift, Xor}
use Rattle.plan.specs.Plans.{Planned, wires, is_input, row_at}
use Rattle.plan.specs.Questions.{all_fields_fit}

-- what of questions 1 to 5 the lengths rest on
pub record Allowed (p : Planned) : Type 0 where
  pub least : 1 ≤ p.width
  pub most : p.width ≤ 32
  pub inputs : length p.owners ≤ 16
  pub gates : length p.rows ≤ 32
  pub fields : all_fields_fit p.width p.rows ≡ true

-- a gate's parameters and key at width n
abbrev pub rest_length : ℕ → GateBody → ℕ
rest_length n (Sum a b) = 0
rest_length n (Scale a c d) = 8
rest_length n (Product a b) = 12
rest_length n (Piece a p q c) = 124 + 49 * n
rest_length n (Flag a p q t) = 40 + 21 * n
rest_length n (Shift a s) = 53 + 25 * s + 25 * n
rest_length n (SignedShift a s) = 53 + 25 * s + 25 * n
rest_length n (Xor a b) = 0

-- the body of wire k in box b's book
abbrev pub body_length : Planned → ℕ → ℕ → ℕ
body_length p b k = cond (is_input p k)
    (1 + cond (slice_index p.owners k == b) 4 0)
    (4 + cond (row_at p k).shown 4 0 + rest_length p.width (row_at p k).body)

-- the bodies below wire k
abbrev pub lengths_below : Planned → ℕ → ℕ → ℕ
lengths_below p b zero = 0
lengths_below p b (suc k) = lengths_below p b k + body_length p b k

-- where the body of wire k begins
abbrev pub place : Planned → ℕ → ℕ → ℕ
place p b k = 16 + 8 * wires p + lengths_below p b k

-- wire k in the contents
abbrev pub entry : Planned → ℕ → ℕ → List ℕ
entry p b k = four_bytes (place p b k) ++ four_bytes (body_length p b k)
