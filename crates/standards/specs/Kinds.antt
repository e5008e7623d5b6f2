-- What an expander of kind 1, AES-128, and one of kind 2, ChaCha20, make of a seed.
use Rattle.std.specs.Prelude.{ℕ, ◌+◌, ◌*◌, ◌%◌, ◌^◌, Bool, List, [], ◌∷◌, ◌++◌, eqb, get_or, take, drop}
use Rattle.expander.specs.declared.Seed.{Seed}
use Rattle.expander.specs.declared.Branches.{Branches}
use Rattle.expander.specs.Meaning.{Expansion}
use Rattle.standards.specs.Fips197.{cipher}
use Rattle.standards.specs.Rfc8439.{block}

-- the lowest bit of a byte
unfoldable pub lowest_bit : ℕ → Bool
lowest_bit byte = eqb (byte % 2) 1

-- the lowest bit of byte i
abbrev pub bit_at : ℕ → List ℕ → Bool
bit_at i b = lowest_bit (get_or b i 0)

-- the word in the eight bytes from byte i on, the lowest byte first
abbrev pub long_at : ℕ → List ℕ → ℕ
long_at i b =
    get_or b i 0 + get_or b (i + 1) 0 * 2 ^ 8 + get_or b (i + 2) 0 * 2 ^ 16 + get_or b (i + 3) 0 * 2 ^ 24 + get_or b (i + 4) 0 * 2 ^ 32 +
    get_or b (i + 5) 0 * 2 ^ 40 + get_or b (i + 6) 0 * 2 ^ 48 + get_or b (i + 7) 0 * 2 ^ 56

-- the seed in the sixteen bytes from byte i on
abbrev pub seed_at : ℕ → List ℕ → Seed
seed_at i b = record { bytes = take 16 (drop i b) }

-- the number j, below 256, in sixteen bytes, the highest first
abbrev pub number : ℕ → List ℕ
number j = 0 ∷ 0 ∷ 0 ∷ 0 ∷ 0 ∷ 0 ∷ 0 ∷ 0 ∷ 0 ∷ 0 ∷ 0 ∷ 0 ∷ 0 ∷ 0 ∷ 0 ∷ j ∷ []

-- kind 1, block j: the number j encrypted with the seed as the key
abbrev pub block1 : Seed → ℕ → List ℕ
block1 seed j = cipher seed.bytes (number j)

-- kind 1: blocks 0 to 3 are the seeds, and block 4 has the bits
abbrev pub branch1 : Seed → Branches
branch1 seed =
    record {
      left = record {
        seed = record { bytes = block1 seed 0 };
        value = record { bytes = block1 seed 1 };
        bit = bit_at 0 (block1 seed 4);
      };
      right = record {
        seed = record { bytes = block1 seed 2 };
        value = record { bytes = block1 seed 3 };
        bit = bit_at 1 (block1 seed 4);
      };
    }

-- kind 1: blocks 5 to 8 are the words, two in each
abbrev pub draw1 : Seed → List ℕ
draw1 seed =
    long_at 0 (block1 seed 5) ∷ long_at 8 (block1 seed 5) ∷ long_at 0 (block1 seed 6) ∷ long_at 8 (block1 seed 6) ∷
    long_at 0 (block1 seed 7) ∷ long_at 8 (block1 seed 7) ∷ long_at 0 (block1 seed 8) ∷ long_at 8 (block1 seed 8) ∷ []

abbrev pub kind1 : Expansion
kind1 = record { kind = 1; branch = branch1; draw = draw1 }

-- the nonce of kind 2
abbrev pub zero_nonce : List ℕ
zero_nonce = 0 ∷ 0 ∷ 0 ∷ 0 ∷ 0 ∷ 0 ∷ 0 ∷ 0 ∷ 0 ∷ 0 ∷ 0 ∷ 0 ∷ []

-- kind 2, the block at a counter: the seed twice is the key, and the nonce is zero
abbrev pub block2 : Seed → ℕ → List ℕ
block2 seed counter = block (seed.bytes ++ seed.bytes) counter zero_nonce

-- kind 2: counter 0 gives the seeds, and counter 1 the bits
abbrev pub branch2 : Seed → Branches
branch2 seed =
    record {
      left = record {
        seed = seed_at 0 (block2 seed 0);
        value = seed_at 16 (block2 seed 0);
        bit = bit_at 0 (block2 seed 1);
      };
      right = record {
        seed = seed_at 32 (block2 seed 0);
        value = seed_at 48 (block2 seed 0);
        bit = bit_at 1 (block2 seed 1);
      };
    }

-- kind 2: counter 2 gives the words
abbrev pub draw2 : Seed → List ℕ
draw2 seed =
    long_at 0 (block2 seed 2) ∷ long_at 8 (block2 seed 2) ∷ long_at 16 (block2 seed 2) ∷ long_at 24 (block2 seed 2) ∷
    long_at 32 (block2 seed 2) ∷ long_at 40 (block2 seed 2) ∷ long_at 48 (block2 seed 2) ∷ long_at 56 (block2 seed 2) ∷ []

abbrev pub kind2 : Expansion
kind2 = record { kind = 2; branch = branch2; draw = draw2 }
