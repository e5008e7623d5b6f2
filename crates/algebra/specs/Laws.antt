-- One law from each solver.
use Rattle.std.specs.Prelude.{◌≡◌, ℕ, ◌+◌, ◌-◌, ◌*◌, ◌%◌, ◌≤◌}
use Rattle.group.specs.Groups.{OutputGroup, minus}

-- the square of a difference modulo N
abbrev pub SquareOfDifference : Type 0
SquareOfDifference =
    (N a b : ℕ) → b ≤ N → ((a + (N - b)) % N * ((a + (N - b)) % N) + 2 * a * b) % N ≡ (a * a + b * b) % N

-- sums of differences are differences of sums
abbrev pub DifferencesAdd : {M : Type 0} → OutputGroup M → Type 0
DifferencesAdd {M} g =
    (a b c d : M) → g.sum (minus g a b) (minus g c d) ≡ minus g (g.sum a c) (g.sum b d)
