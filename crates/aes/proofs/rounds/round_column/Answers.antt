use Rattle.std.proofs.Common.{◌≡◌, ℕ, ◌/◌, ◌%◌, ◌<◌, List, get_or, refl, ap, ◌∙◌, arith}
use lib.Bits.{bit_xor}
use Rattle.aes.specs.Blocks.{word_bytes}
use Rattle.aes.specs.Rows.{row_table}
use Rattle.standards.specs.Fips197.{mix_column, s_box, xor}
use Rattle.aes.proofs.Bytes.{xor_of_known}
use Rattle.aes.proofs.Rows.{mixed_row, row_entry}
use Rattle.aes.proofs.rounds.round_column.Goals as goal

-- what row k adds, at byte k of the word
row : (k r y : ℕ) (w bytes : List ℕ) → k < 4 → y < 256 → r ≡ get_or (row_table k) (get_or w k 0) 0 → w ≡ bytes → get_or bytes k 0 ≡ y
    → word_bytes r ≡ mixed_row k (s_box y)
row k r y w bytes hk hy h e f =
    ap word_bytes (h ∙ ap (λ (n : ℕ). get_or (row_table k) n 0) (ap (λ (l : List ℕ). get_or l k 0) e ∙ f)) ∙ row_entry k y hk hy

pub returns : goal.returns
unfolding mix_column
returns c =
    let a : ℕ = c.mixed_row.result in
    let b : ℕ = c.mixed_row-2.result in
    let d : ℕ = c.mixed_row-3.result in
    let e : ℕ = c.mixed_row-4.result in
    let p : List ℕ = mixed_row 0 (s_box (c.args.a / 16777216 % 256)) in
    let q : List ℕ = mixed_row 1 (s_box (c.args.b / 65536 % 256)) in
    let r : List ℕ = mixed_row 2 (s_box (c.args.c / 256 % 256)) in
    let s : List ℕ = mixed_row 3 (s_box (c.args.d % 256)) in
    let ha : word_bytes a ≡ p = row 0 a _ _ _ (omega arith) (omega arith) c.mixed_row.ensures c.to_be_bytes.ensures refl in
    let hb : word_bytes b ≡ q = row 1 b _ _ _ (omega arith) (omega arith) c.mixed_row-2.ensures c.to_be_bytes-2.ensures refl in
    let hd : word_bytes d ≡ r = row 2 d _ _ _ (omega arith) (omega arith) c.mixed_row-3.ensures c.to_be_bytes-3.ensures refl in
    let he : word_bytes e ≡ s = row 3 e _ _ _ (omega arith) (omega arith) c.mixed_row-4.ensures c.to_be_bytes-4.ensures refl in
    let two = xor_of_known a b p q ha hb in
    let three = xor_of_known (bit_xor a b) d (xor p q) r two hd in
    let four = xor_of_known (bit_xor (bit_xor a b) d) e (xor (xor p q) r) s three he in
    xor_of_known (bit_xor (bit_xor (bit_xor a b) d) e) c.args.key (xor (xor (xor p q) r) s) (word_bytes c.args.key) four refl
