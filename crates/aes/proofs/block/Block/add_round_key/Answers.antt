use Rattle.std.proofs.Common.{◌≡◌, ℕ, List, length, get_or, sym, subst, rules}
use lib.Bits.{bit_xor}
use lib.Lanes.{zip2}
use Rattle.standards.proofs.Written.{written, written_out}
use Rattle.standards.specs.Fips197.{add_round_key}
use Rattle.aes.specs.Blocks.{block_bytes}
use Rattle.aes.proofs.Bytes.{bytes_of_xor, four_words}
use Rattle.aes.proofs.block.Block.add_round_key.Goals as goal

Adds : List ℕ → List ℕ → Type 0
Adds a b = block_bytes (record { 0 = zip2 bit_xor a b }) ≡ add_round_key (block_bytes (record { 0 = a })) (block_bytes (record { 0 = b }))

adds : (a b : List ℕ) → length a ≡ 4 → length b ≡ 4 → Adds a b
unfolding Adds block_bytes add_round_key
adds a b ha hb =
    let written_adds : Adds (written 4 a) (written 4 b) =
    four_words _ _ _ _ _ _ _ _
    (bytes_of_xor (get_or a 0 0) (get_or b 0 0)) (bytes_of_xor (get_or a 1 0) (get_or b 1 0))
    (bytes_of_xor (get_or a 2 0) (get_or b 2 0)) (bytes_of_xor (get_or a 3 0) (get_or b 3 0)) in
    subst (λ (l : List ℕ). Adds l b) (sym (written_out 4 a ha)) (subst (λ (l : List ℕ). Adds (written 4 a) l) (sym (written_out 4 b hb)) written_adds)

pub returns : goal.returns
unfolding Adds
returns c =
    let ha : length c.args.self.0 ≡ 4 = search rules in
    let hb : length c.args.key.0 ≡ 4 = search rules in
    adds c.args.self.0 c.args.key.0 ha hb
