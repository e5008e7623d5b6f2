-- When a plan counts one value as smaller than another, and the three gates that tell it.
use Rattle.std.specs.Prelude.{◌≡◌, ℕ, ◌+◌, ◌-◌, ◌/◌, ◌%◌, ◌^◌, ◌<◌, Bool, cond, [], ◌∷◌, nat_le}
use Rattle.plan.specs.declared.gates.Gate.TheVariants.{Sum, Scale, Flag}
use Rattle.plan.specs.Meaning.{plain_gate}

-- (a − b) mod N lies in N/2 to N − 1
abbrev pub counts_smaller : ℕ → ℕ → ℕ → Bool
counts_smaller N a b = nat_le (N / 2) ((a + (N - b)) % N)

-- a and b on wires 0 and 1: −b by a scale by N − 1, a − b by a sum, and a flag on N/2 to N − 1 of that
abbrev pub told_smaller : ℕ → ℕ → ℕ → ℕ → ℕ
told_smaller n pattern a b =
    let negated : ℕ = plain_gate n (Scale 1 (2 ^ n - 1) 0) (b ∷ []) in
    let apart : ℕ = plain_gate n (Sum 0 2) (a ∷ negated ∷ []) in
    plain_gate n (Flag 3 (2 ^ n / 2) (2 ^ n - 1) pattern) (apart ∷ [])

-- the flag's pattern rises exactly where a counts as smaller than b
abbrev pub SmallerIsTold : Type 0
SmallerIsTold =
    (n pattern a b : ℕ) → a < 2 ^ n → b < 2 ^ n
    → told_smaller n pattern a b ≡ cond (counts_smaller (2 ^ n) a b) pattern 0
