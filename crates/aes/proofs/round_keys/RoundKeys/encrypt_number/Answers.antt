use Rattle.std.proofs.Common.{◌≡◌, ℕ, ◌<◌, List, [], ◌∷◌, ◌++◌, ap, ◌∙◌, arith}
use Rattle.aes.specs.Blocks.{word_bytes, block_bytes}
use Rattle.aes.specs.Keys.{key_of}
use Rattle.standards.specs.Fips197.{cipher}
use Rattle.standards.specs.Kinds.{number}
use Rattle.aes.proofs.Bytes.{four_bytes}
use Rattle.aes.proofs.round_keys.RoundKeys.encrypt_number.Goals as goal

small : (j : ℕ) → j < 256 → word_bytes j ≡ 0 ∷ 0 ∷ 0 ∷ j ∷ []
small j h = four_bytes _ _ _ _ _ _ _ _ (omega arith) (omega arith) (omega arith) (omega arith)

number_bytes : (j : ℕ) → j < 256 → block_bytes (record { 0 = 0 ∷ 0 ∷ 0 ∷ j ∷ [] }) ≡ number j
unfolding block_bytes
number_bytes j h = ap (λ (l : List ℕ). word_bytes 0 ++ (word_bytes 0 ++ (word_bytes 0 ++ l))) (small j h)

pub returns : goal.returns
returns c =
    c.to_bytes.ensures ∙ c.encrypt_block.ensures
    ∙ ap (λ (l : List ℕ). cipher (key_of c.args.self.now) l) (number_bytes c.args.j (omega arith))
