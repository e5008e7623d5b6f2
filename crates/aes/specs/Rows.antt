-- The four tables of the rounds, one for each row of a column.
use Rattle.std.specs.Prelude.{ℕ, zero, suc, ◌+◌, ◌*◌, List, [], ◌∷◌, map, bit_xor, slice_index}
use Rattle.standards.specs.Fips197.{x_times, s_box_table}

-- a word of four bytes, the first highest
abbrev pub joined : List ℕ → ℕ
joined w = slice_index w 0 * 16777216 + slice_index w 1 * 65536 + slice_index w 2 * 256 + slice_index w 3

-- four bytes, each moved k places down, and from the last place to the first
abbrev pub moved_down : ℕ → List ℕ → List ℕ
moved_down zero w = w
moved_down (suc k) w = let v = moved_down k w in slice_index v 3 ∷ slice_index v 0 ∷ slice_index v 1 ∷ slice_index v 2 ∷ []

-- a byte times the numbers 2, 1, 1 and 3, the first column of the matrix of MixColumns
abbrev pub mixed : ℕ → List ℕ
mixed s = x_times s ∷ s ∷ s ∷ bit_xor (x_times s) s ∷ []

-- table k: what each byte, substituted, adds to a mixed column from its row k
abbrev pub row_table : ℕ → List ℕ
row_table k = map (λ s. joined (moved_down k (mixed s))) s_box_table
