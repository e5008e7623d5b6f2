-- Bytes in a row: a fixed number of them, and numbers written lowest byte first.
use Rattle.std.specs.Prelude.{ℕ, zero, suc, ◌+◌, ◌*◌, List, [], ◌∷◌, ◌++◌, drop, slice_index}

-- the first n of a list, always n: 0 past its end
abbrev pub front : ℕ → List ℕ → List ℕ
front zero xs = []
front (suc n) xs = slice_index xs 0 ∷ front n (drop 1 xs)

-- the number that four bytes write from a place on
abbrev pub number_at : List ℕ → ℕ → ℕ
number_at bytes at =
    slice_index bytes at + slice_index bytes (at + 1) * 256 + slice_index bytes (at + 2) * 65536 + slice_index bytes (at + 3) * 16777216

-- parts one after another, made from a function of the index: those below n
abbrev pub joined : (ℕ → List ℕ) → ℕ → List ℕ
joined f zero = []
joined f (suc n) = joined f n ++ f n
