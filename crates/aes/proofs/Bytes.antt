-- The bytes of words: of an XOR, of a word made of four bytes, and of four words in a row.
use Rattle.std.proofs.Common.{◌≡◌, ℕ, ◌+◌, ◌*◌, ◌/◌, ◌%◌, ◌<◌, List, [], ◌∷◌, ◌++◌, ap, ◌∙◌, arith}
use lib.Bits.{bit_xor, xor_shr, xor_mod}
use Rattle.aes.specs.Blocks.{word_bytes}
use Rattle.standards.specs.Fips197.{xor}

pub bytes_of_xor : (a b : ℕ) → word_bytes (bit_xor a b) ≡ xor (word_bytes a) (word_bytes b)
bytes_of_xor a b =
    let x = ap (λ (n : ℕ). n % 256) (xor_shr a b 24) ∙ xor_mod (a / 16777216) (b / 16777216) 8 in
    let y = ap (λ (n : ℕ). n % 256) (xor_shr a b 16) ∙ xor_mod (a / 65536) (b / 65536) 8 in
    let z = ap (λ (n : ℕ). n % 256) (xor_shr a b 8) ∙ xor_mod (a / 256) (b / 256) 8 in
    let w = xor_mod a b 8 in
    cc

-- the same, where the bytes of both words are known
pub xor_of_known : (a b : ℕ) (p q : List ℕ) → word_bytes a ≡ p → word_bytes b ≡ q → word_bytes (bit_xor a b) ≡ xor p q
xor_of_known a b p q ha hb = bytes_of_xor a b ∙ ap (λ (l : List ℕ). xor l (word_bytes b)) ha ∙ ap (λ (l : List ℕ). xor p l) hb

pub bytes_of_join : (a b c d : ℕ) → a < 256 → b < 256 → c < 256 → d < 256
    → word_bytes (a * 16777216 + b * 65536 + c * 256 + d) ≡ a ∷ b ∷ c ∷ d ∷ []
bytes_of_join a b c d ha hb hc hd =
    let n : ℕ = a * 16777216 + b * 65536 + c * 256 + d in
    let x : n / 16777216 % 256 ≡ a = omega arith in
    let y : n / 65536 % 256 ≡ b = omega arith in
    let z : n / 256 % 256 ≡ c = omega arith in
    let w : n % 256 ≡ d = omega arith in
    cc

pub four_words : (a b c d p q r s : List ℕ) → a ≡ p → b ≡ q → c ≡ r → d ≡ s → a ++ (b ++ (c ++ d)) ≡ p ++ (q ++ (r ++ s))
four_words a b c d p q r s ha hb hc hd = cc

pub four_bytes : (a b c d p q r s : ℕ) → a ≡ p → b ≡ q → c ≡ r → d ≡ s → a ∷ b ∷ c ∷ d ∷ [] ≡ p ∷ q ∷ r ∷ s ∷ []
four_bytes a b c d p q r s ha hb hc hd = cc
