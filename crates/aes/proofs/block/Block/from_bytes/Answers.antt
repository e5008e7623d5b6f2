use Rattle.std.proofs.Common.{rules, ◌≡◌, ℕ, List, ◌++◌, length, take, drop, get_or, refl, sym, subst, ◌∙◌}
use Rattle.standards.proofs.Written.{written_out}
use Rattle.aes.specs.Blocks.{block_bytes, word_bytes}
use Rattle.aes.proofs.Bytes.{four_words}
use Rattle.aes.proofs.block.Block.from_bytes.Goals as goal

parts : List ℕ → List ℕ
parts l = take 4 (drop 0 l) ++ (take 4 (drop 4 l) ++ (take 4 (drop 8 l) ++ take 4 (drop 12 l)))

whole : (l : List ℕ) → length l ≡ 16 → parts l ≡ l
unfolding parts
whole l h = subst (λ (k : List ℕ). parts k ≡ k) (sym (written_out 16 l h)) refl

pub returns : goal.returns
unfolding block_bytes parts
returns c =
    let made = c.from_fn.result in
    let bytes = c.args.bytes.now in
    let w0 : word_bytes (get_or made 0 0) ≡ take 4 (drop 0 bytes) = search rules in
    let w1 : word_bytes (get_or made 1 0) ≡ take 4 (drop 4 bytes) = search rules in
    let w2 : word_bytes (get_or made 2 0) ≡ take 4 (drop 8 bytes) = search rules in
    let w3 : word_bytes (get_or made 3 0) ≡ take 4 (drop 12 bytes) = search rules in
    four_words _ _ _ _ _ _ _ _ w0 w1 w2 w3
    ∙ whole bytes c.told-bytes
