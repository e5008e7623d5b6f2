use Rattle.std.proofs.Common.{◌≡◌, ℕ, List, get_or, refl, ap, ◌∙◌}
use Rattle.aes.specs.Blocks.{word_bytes, shifted_column}
use Rattle.standards.specs.Fips197.{s_box, sub_word}
use Rattle.aes.proofs.Bytes.{xor_of_known, bytes_of_join, four_bytes}
use Rattle.aes.proofs.rounds.last_column.Goals as goal

pub returns : goal.returns
returns c =
    let p = sub_word (shifted_column c.args.a c.args.b c.args.c c.args.d) in
    let h = bytes_of_join c.substituted.result c.substituted-2.result c.substituted-3.result c.substituted-4.result
    c.substituted.type_inv c.substituted-2.type_inv c.substituted-3.type_inv c.substituted-4.type_inv in
    let at : (k : ℕ) → List ℕ → ℕ = λ k l. s_box (get_or l k 0) in
    let e : word_bytes c.from_be_bytes.result ≡ p = ap word_bytes c.from_be_bytes.ensures ∙ h ∙
    four_bytes _ _ _ _ _ _ _ _
    (c.substituted.ensures ∙ ap (at 0) c.to_be_bytes.ensures)
    (c.substituted-2.ensures ∙ ap (at 1) c.to_be_bytes-2.ensures)
    (c.substituted-3.ensures ∙ ap (at 2) c.to_be_bytes-3.ensures)
    (c.substituted-4.ensures ∙ ap (at 3) c.to_be_bytes-4.ensures) in
    xor_of_known c.from_be_bytes.result c.args.key p (word_bytes c.args.key) e refl
