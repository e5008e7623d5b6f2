-- Words and blocks as bytes, and what the code makes of a column and of a key.
use Rattle.std.specs.Prelude.{◌≡◌, ℕ, ◌/◌, ◌%◌, ◌<◌, List, [], ◌∷◌, ◌++◌, slice_index, slice_index_or}
use Rattle.aes.specs.declared.block.Block.{Block}
use Rattle.standards.specs.Fips197.{s_box, mix_column, round_key}

-- the four bytes of a word, the highest first
abbrev pub word_bytes : ℕ → List ℕ
word_bytes w = (w / 16777216 % 256) ∷ (w / 65536 % 256) ∷ (w / 256 % 256) ∷ (w % 256) ∷ []

-- the sixteen bytes of a block
unfoldable pub block_bytes : Block → List ℕ
block_bytes b =
    word_bytes (slice_index b.0 0) ++ (word_bytes (slice_index b.0 1) ++ (word_bytes (slice_index b.0 2) ++ word_bytes (slice_index b.0 3)))

-- the first byte of one word, the second of the next, and so on: a column after ShiftRows
abbrev pub shifted_column : ℕ → ℕ → ℕ → ℕ → List ℕ
shifted_column a b c d = (a / 16777216 % 256) ∷ (b / 65536 % 256) ∷ (c / 256 % 256) ∷ (d % 256) ∷ []

-- such a column after SubBytes and MixColumns
abbrev pub mixed_column : ℕ → ℕ → ℕ → ℕ → List ℕ
mixed_column a b c d =
    mix_column (s_box (a / 16777216 % 256)) (s_box (b / 65536 % 256)) (s_box (c / 256 % 256)) (s_box (d % 256))

-- the bytes of block i of a list
abbrev pub key_at : List Block → ℕ → List ℕ
key_at keys i = block_bytes (slice_index_or keys i (record { 0 = [] }))

-- each of the eleven blocks is a round key of the first
abbrev pub Scheduled : List Block → Type 0
Scheduled keys = (i : ℕ) → i < 11 → key_at keys i ≡ round_key i (key_at keys 0)
