-- Worked figures of keys and gates, and what each of them says.
use Rattle.std.specs.Prelude.{◌≡◌, ℕ, zero, suc, ◌+◌, ◌%◌, ◌^◌, Bool, true, false, cond, List, [], ◌∷◌}
use Rattle.expander.specs.Meaning.{Expansion}
use Rattle.expander.specs.declared.Seed.{Seed}
use Rattle.joining.specs.Joining.{AllWide, dealt_answer}
use Rattle.interval.specs.Interval as rule
use Rattle.shares.specs.Words.{Word, word, words}
use Rattle.shares.specs.Keyed.{interval_answer, dealt_shift, dealt_signed_shift}
use Rattle.shares.specs.Product.{part_a, part_b, part_c, product_share}
use Rattle.shares.specs.Shifts.{low_threshold, low_payload, high_threshold, high_payload}

-- a row of the table; its last field is what comes out
pub data Figure : Type 0 where
  -- a comparison key at a point
  key : (width threshold payload point result : ℕ) → Figure
  -- the threshold of the key that an interval has
  threshold : (width mask result : ℕ) → Figure
  -- how often E takes the payload
  extra : (width low high mask result : ℕ) → Figure
  -- an interval at a plain value
  interval : (width low high mask payload value result : ℕ) → Figure
  -- a shift of a plain value, and a signed one
  shift : (width by mask value result : ℕ) → Figure
  signed_shift : (width by mask value result : ℕ) → Figure
  -- a product of two plain values, with the output mask on it
  product : (width mask-a mask-b mask-out value-a value-b result : ℕ) → Figure

-- keys with the thresholds 5 and 0; the intervals 2 to 5 and 0 to 7; shifts by 2; 4 × 6
abbrev pub figures : List Figure
figures =
    key 3 5 1 4 1 ∷ key 3 5 1 5 0
    ∷ key 3 0 1 0 0 ∷ key 3 0 1 1 0 ∷ key 3 0 1 2 0 ∷ key 3 0 1 3 0
    ∷ key 3 0 1 4 0 ∷ key 3 0 1 5 0 ∷ key 3 0 1 6 0 ∷ key 3 0 1 7 0
    ∷ threshold 3 6 5
    ∷ extra 3 2 5 6 0 ∷ extra 3 0 7 0 1
    ∷ interval 3 2 5 6 1 1 0 ∷ interval 3 2 5 6 1 2 1 ∷ interval 3 2 5 6 1 5 1 ∷ interval 3 2 5 6 1 6 0
    ∷ shift 4 2 11 6 1 ∷ shift 4 2 11 13 3
    ∷ signed_shift 4 2 11 13 15 ∷ signed_shift 4 2 11 8 14
    ∷ product 4 3 5 2 4 6 10
    ∷ []

-- a word k times
abbrev pub many : ℕ → Word → Word
many zero β = words.zero
many (suc k) β = words.sum β (many k β)

-- a box's answers from its dealt key for words, with the width n, the threshold α and the payload β
abbrev pub dealt : Expansion → ℕ → ℕ → ℕ → Seed → Seed → Bool → ℕ → Word
dealt x n α β root0 root1 one = dealt_answer words x x n α (word β) root0 root1 one (cond one root1 root0)

-- a box's answers from the low key of a shift by s with the mask r, and from the high key
abbrev pub low_dealt : Expansion → ℕ → ℕ → Seed → Seed → Bool → ℕ → Word
low_dealt x s r = dealt x s (low_threshold (2 ^ s) r) low_payload

abbrev pub high_dealt : Expansion → ℕ → ℕ → ℕ → Seed → Seed → Bool → ℕ → Word
high_dealt x n s r = dealt x n (high_threshold r) (high_payload (2 ^ n) (2 ^ s))

-- what a figure says, for every expander, all roots and all random words; a shift's also for every output mask
abbrev pub Holds : Figure → Type 0
Holds (key n α β m j) =
    (x : Expansion) → AllWide x → (root0 root1 : Seed)
    → words.sum (dealt x n α β root0 root1 false m) (dealt x n α β root0 root1 true m) ≡ word j
Holds (threshold n r α) = rule.threshold (2 ^ n) r ≡ α
Holds (extra n p q r k) = (β : Word) → rule.extra words (2 ^ n) r p q β ≡ many k β
Holds (interval n p q r β v j) =
    (x : Expansion) → AllWide x → (root0 root1 : Seed) (random-β random-E : Word)
    → (let at : Bool → Word = λ one.
    interval_answer words one (2 ^ n) (rule.masked (2 ^ n) r v) r p q (word β) random-β random-E
    (dealt x n (rule.threshold (2 ^ n) r) β root0 root1 one) in
    words.sum (at false) (at true) ≡ word j)
Holds (shift n s r v j) =
    (x : Expansion) → AllWide x → (low0 low1 high0 high1 : Seed) (out random : ℕ)
    → (let at : Bool → ℕ = λ one.
    dealt_shift one (2 ^ n) (2 ^ s) (rule.masked (2 ^ n) r v) r out random
    (low_dealt x s r low0 low1 one) (high_dealt x n s r high0 high1 one) in
    (at false + at true) % 2 ^ n ≡ (j + out) % 2 ^ n)
Holds (signed_shift n s r v j) =
    (x : Expansion) → AllWide x → (low0 low1 high0 high1 : Seed) (out random : ℕ)
    → (let at : Bool → ℕ = λ one.
    dealt_signed_shift one (2 ^ n) (2 ^ s) (rule.masked (2 ^ n) r v) r out random
    (low_dealt x s r low0 low1 one) (high_dealt x n s r high0 high1 one) in
    (at false + at true) % 2 ^ n ≡ (j + out) % 2 ^ n)
Holds (product n r s out v w j) =
    (random-a random-b random-c : ℕ)
    → (let at : Bool → ℕ = λ one.
    product_share one (2 ^ n) (rule.masked (2 ^ n) r v) (rule.masked (2 ^ n) s w)
    (part_a one (2 ^ n) r random-a) (part_b one (2 ^ n) s random-b) (part_c one (2 ^ n) r s out random-c) in
    (at false + at true) % 2 ^ n ≡ j)

-- P holds of all in a list
abbrev pub Each : {A : Type 0} → (A → Type 0) → List A → Type 0
Each P [] = Unit {0}
Each P (a ∷ rest) = P a × Each P rest
