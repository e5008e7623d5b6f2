-- Parts of a list of bytes.
use Rattle.std.specs.Prelude.{ℕ, ◌+◌, ◌<◌, cond, List, [], length, take, drop, nat_le, slice_index}

-- the n bytes from `at` on; none where they are not all there
abbrev pub part : List ℕ → ℕ → ℕ → List ℕ
part bytes at n = cond (nat_le (at + n) (length bytes)) (take n (drop at bytes)) []

-- each element is a byte
abbrev pub Bytes : List ℕ → Type 0
Bytes xs = (i : ℕ) → slice_index xs i < 256
