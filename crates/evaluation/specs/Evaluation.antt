-- What one box's evaluation of a comparison key means.
use Rattle.std.specs.Prelude.{ℕ, ◌/◌, ◌%◌, ◌^◌, Bool, true, false, cond, List, [], ◌∷◌, length, ◌==◌}
use Rattle.group.specs.Groups.{OutputGroup}
use Rattle.expander.specs.Meaning.{Expansion}
use Rattle.expander.specs.Seeds.{xor_seeds}
use Rattle.expander.specs.declared.Seed.{Seed}
use Rattle.expander.specs.declared.Branches.{Branches}
use Rattle.key.specs.declared.Row.{Row}
use Rattle.key.specs.Rows.{row_bit}
use Rattle.expander.specs.declared.Side.{Side}
use Rattle.evaluation.specs.declared.Walk.{Walk}

-- the XOR of two bits
abbrev pub differ : Bool → Bool → Bool
differ true b = cond b false true
differ false b = b

-- the left side of a branch, or the right
abbrev pub side_of : Branches → Bool → Side
side_of b true = b.right
side_of b false = b.left

-- bit k of a number, counted from the lowest
abbrev pub bit_at : ℕ → ℕ → Bool
bit_at m k = m / 2 ^ k % 2 == 1

-- a walk by what its sum means
abbrev pub walk_mean : {G M : Type 0} → (G → M) → Walk G → Walk M
walk_mean mean w = record { seed = w.seed; control = w.control; sum = mean w.sum }

-- at the root: box 1 begins with its control bit set, and nothing is added yet
abbrev pub begun : {M : Type 0} → OutputGroup M → Bool → Seed → Walk M
begun g one root = record { seed = root; control = one; sum = g.zero }

module _ {G M : Type 0} (x : Expansion) (g : OutputGroup M) (mean : G → M) where
  -- the element drawn from a seed; keys draw from word 0 on
  abbrev pub drawn_from : Seed → M
  drawn_from s = g.drawn (x.draw s) 0

  -- past a row on one side of the branch: the row's word, bit and element count where the control bit is set
  abbrev pub moved : Row G → Side → Bool → Walk M → Walk M
  moved r side right w = cond w.control
      (record {
        seed = xor_seeds side.seed r.word;
        control = differ side.bit (row_bit r right);
        sum = g.sum (g.sum w.sum (drawn_from side.value)) (mean r.element);
      })
      (record { seed = side.seed; control = side.bit; sum = g.sum w.sum (drawn_from side.value) })

  abbrev pub stepped : Row G → Bool → Walk M → Walk M
  stepped r right w = moved r (side_of (x.branch w.seed) right) right w

  -- past all rows, by the point's bits, the highest first
  abbrev pub walked : List (Row G) → ℕ → Walk M → Walk M
  walked [] m w = w
  walked (r ∷ rs) m w = walked rs m (stepped r (bit_at m (length rs)) w)

  -- the final sum; box 1 inverts it
  abbrev pub ended : G → Bool → Walk M → M
  ended last one w =
      let all : M = cond w.control (g.sum (g.sum w.sum (drawn_from w.seed)) (mean last)) (g.sum w.sum (drawn_from w.seed)) in
      cond one (g.inverse all) all

  -- a box's answer at the point m
  abbrev pub evaluated : Bool → Seed → List (Row G) → G → ℕ → M
  evaluated one root rows last m = ended last one (walked rows m (begun g one root))
