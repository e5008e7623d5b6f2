-- What the workloads compute.
use Rattle.std.specs.Prelude.{ℕ, zero, suc, ◌*◌, ◌%◌, ◌^◌, [], ◌∷◌, slice_index}
use Rattle.expander.specs.Meaning.{Expansion}
use Rattle.expander.specs.Seeds.{xor_seeds}
use Rattle.expander.specs.declared.Seed.{Seed}
use Rattle.gatekeys.specs.Random.{root_of}
use Rattle.group.specs.Groups.{OutputGroup}

-- the bytes first, 1, 2 and so on
abbrev pub root : ℕ → Seed
root first = record { bytes = first ∷ 1 ∷ 2 ∷ 3 ∷ 4 ∷ 5 ∷ 6 ∷ 7 ∷ 8 ∷ 9 ∷ 10 ∷ 11 ∷ 12 ∷ 13 ∷ 14 ∷ 15 ∷ [] }

-- one level: the left seed XOR the first two words that the left value seed draws
abbrev pub level : Expansion → Seed → Seed
level x seed =
    let b = x.branch seed in
    let words = x.draw b.left.value in
    xor_seeds b.left.seed (root_of (slice_index words 0) (slice_index words 1))

-- n levels
abbrev pub levels : Expansion → ℕ → Seed → Seed
levels x zero seed = seed
levels x (suc n) seed = level x (levels x n seed)

-- threshold or point number i
abbrev pub place : ℕ → ℕ
place i = (i * 2654435761) % 2 ^ 32

-- the sum of f at 0 to n − 1
abbrev pub sum_of : {M : Type 0} → OutputGroup M → (ℕ → M) → ℕ → M
sum_of g f zero = g.zero
sum_of g f (suc n) = g.sum (sum_of g f n) (f n)
