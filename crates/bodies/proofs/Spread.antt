-- Bytes, and the number that they write, the lowest first.
use Rattle.std.proofs.Common.{◌≡◌, ℕ, zero, suc, ◌+◌, ◌*◌, ◌/◌, ◌%◌, ◌^◌, ◌<◌, ◌≤◌, List, [], ◌∷◌, ◌++◌, length, get_or, take, drop, sym, refl, ap, ◌∙◌, arith, length-drop, take-append-drop}
use native.Mathlib.Nat.{mod-mod}
use Rattle.std.proofs.lemmas.Nat.{shr-shr}
use Rattle.std.proofs.lemmas.List.{get_or-drop, length-take-le, append_assoc, nil_from_length}
use Rattle.group.specs.Residues.{Residue}
use Rattle.stored.specs.Forms.{four_bytes, eight_bytes}
use Rattle.stored.specs.Bytes.{four_same, eight_same}
use Rattle.shares.specs.Words.{Word, word, Quad, flag_word}
use Rattle.layout.specs.Bytes.{front, number_at}
use Rattle.layout.specs.Keys.{word_bytes, flag_bytes, quad_bytes}
use Rattle.bodies.specs.Parts.{Bytes}

pub take_bytes : (n : ℕ) (xs : List ℕ) → Bytes xs → Bytes (take n xs)
take_bytes zero xs f i = omega arith
take_bytes (suc n) [] f i = f i
take_bytes (suc n) (x ∷ xs) f zero = f zero
take_bytes (suc n) (x ∷ xs) f (suc i) = take_bytes n xs (λ j. f (suc j)) i

pub drop_bytes : (n : ℕ) (xs : List ℕ) → Bytes xs → Bytes (drop n xs)
drop_bytes zero xs f i = f i
drop_bytes (suc n) [] f i = f i
drop_bytes (suc n) (x ∷ xs) f i = drop_bytes n xs (λ j. f (suc j)) i

pub front_all : (n : ℕ) (xs : List ℕ) → length xs ≡ n → front n xs ≡ xs
front_all zero xs e = sym (nil_from_length xs e)
front_all (suc n) [] e = absurd (omega arith)
front_all (suc n) (x ∷ xs) e = ap (λ t. x ∷ t) (front_all n xs (omega arith))

-- the number that bytes write
abbrev pub value : List ℕ → ℕ
value [] = 0
value (x ∷ xs) = x + 256 * value xs

-- so many bytes of a number
abbrev spread : ℕ → ℕ → List ℕ
spread zero v = []
spread (suc n) v = (v % 256) ∷ spread n (v / 256)

low_byte : (x w : ℕ) → x < 256 → (x + 256 * w) % 256 ≡ x
low_byte x w h = omega arith

high_bytes : (x w : ℕ) → x < 256 → (x + 256 * w) / 256 ≡ w
high_bytes x w h = omega arith

spread_back : (xs : List ℕ) → Bytes xs → spread (length xs) (value xs) ≡ xs
spread_back [] f = refl
spread_back (x ∷ xs) f =
    let a = low_byte x (value xs) (f zero) in
    let b = high_bytes x (value xs) (f zero) in
    let c = spread_back xs (λ i. f (suc i)) in
    (λ i. a i ∷ spread (length xs) (b i)) ∙ ap (λ t. x ∷ t) c

four_spread : (v : ℕ) → four_bytes v ≡ spread 4 v
four_spread v =
    let d2 : v / 256 / 256 ≡ v / 65536 = shr-shr v 8 8 in
    let d3 : v / 256 / 256 / 256 ≡ v / 16777216 = ap (λ t. t / 256) d2 ∙ shr-shr v 16 8 in
    sym (λ i. (v % 256) ∷ (v / 256 % 256) ∷ (d2 i % 256) ∷ (d3 i % 256) ∷ [])

eight_spread : (v : ℕ) → eight_bytes v ≡ spread 8 v
eight_spread v =
    let d2 : v / 256 / 256 ≡ v / 65536 = shr-shr v 8 8 in
    let d3 : v / 256 / 256 / 256 ≡ v / 16777216 = ap (λ t. t / 256) d2 ∙ shr-shr v 16 8 in
    let d4 : v / 256 / 256 / 256 / 256 ≡ v / 4294967296 = ap (λ t. t / 256) d3 ∙ shr-shr v 24 8 in
    let d5 : v / 256 / 256 / 256 / 256 / 256 ≡ v / 1099511627776 = ap (λ t. t / 256) d4 ∙ shr-shr v 32 8 in
    let d6 : v / 256 / 256 / 256 / 256 / 256 / 256 ≡ v / 281474976710656 = ap (λ t. t / 256) d5 ∙ shr-shr v 40 8 in
    let d7 : v / 256 / 256 / 256 / 256 / 256 / 256 / 256 ≡ v / 72057594037927936 = ap (λ t. t / 256) d6 ∙ shr-shr v 48 8 in
    sym (λ i. (v % 256) ∷ (v / 256 % 256) ∷ (d2 i % 256) ∷ (d3 i % 256) ∷ (d4 i % 256) ∷ (d5 i % 256) ∷ (d6 i % 256) ∷ (d7 i % 256) ∷ [])

-- four and eight bytes are those of the number that they write
pub four_back : (xs : List ℕ) → length xs ≡ 4 → Bytes xs → four_bytes (value xs) ≡ xs
four_back xs l f = four_spread (value xs) ∙ ap (λ n. spread n (value xs)) (sym l) ∙ spread_back xs f

pub eight_back : (xs : List ℕ) → length xs ≡ 8 → Bytes xs → eight_bytes (value xs) ≡ xs
eight_back xs l f = eight_spread (value xs) ∙ ap (λ n. spread n (value xs)) (sym l) ∙ spread_back xs f

-- elements from their bytes
abbrev pub word_from : List ℕ → Word
word_from xs = word (value xs)

abbrev pub flag_from : List ℕ → Residue (2 ^ 32)
flag_from xs = flag_word (value xs)

abbrev pub quad_from : List ℕ → Quad
quad_from xs = (
  (word_from (take 8 xs), word_from (take 8 (drop 8 xs))),
  (word_from (take 8 (drop 8 (drop 8 xs))), word_from (drop 8 (drop 8 (drop 8 xs)))),
)

pub word_back : (xs : List ℕ) → length xs ≡ 8 → Bytes xs → word_bytes (word_from xs) ≡ xs
word_back xs l f = eight_same (value xs % 18446744073709551616) (value xs) (mod-mod (value xs) 18446744073709551616) ∙ eight_back xs l f

pub flag_back : (xs : List ℕ) → length xs ≡ 4 → Bytes xs → flag_bytes (flag_from xs) ≡ xs
flag_back xs l f = four_same (value xs % 4294967296) (value xs) (mod-mod (value xs) 4294967296) ∙ four_back xs l f

pub quad_back : (xs : List ℕ) → length xs ≡ 32 → Bytes xs → quad_bytes (quad_from xs) ≡ xs
quad_back xs l f =
    let x1 = drop 8 xs in
    let x2 = drop 8 x1 in
    let x3 = drop 8 x2 in
    let f1 : Bytes x1 = drop_bytes 8 xs f in
    let f2 : Bytes x2 = drop_bytes 8 x1 f1 in
    let f3 : Bytes x3 = drop_bytes 8 x2 f2 in
    let l1 : length x1 ≡ 24 = omega (arith, length-drop 8 xs) in
    let l2 : length x2 ≡ 16 = omega (arith, length-drop 8 x1) in
    let l3 : length x3 ≡ 8 = omega (arith, length-drop 8 x2) in
    let a = word_back (take 8 xs) (length-take-le 8 xs (omega arith)) (take_bytes 8 xs f) in
    let b = word_back (take 8 x1) (length-take-le 8 x1 (omega arith)) (take_bytes 8 x1 f1) in
    let c = word_back (take 8 x2) (length-take-le 8 x2 (omega arith)) (take_bytes 8 x2 f2) in
    let d = word_back x3 l3 f3 in
    (λ i. (a i ++ b i) ++ (c i ++ d i))
    ∙ append_assoc (take 8 xs) (take 8 x1) (take 8 x2 ++ x3)
    ∙ ap (λ t. take 8 xs ++ (take 8 x1 ++ t)) (take-append-drop 8 x2)
    ∙ ap (λ t. take 8 xs ++ t) (take-append-drop 8 x1)
    ∙ take-append-drop 8 xs

-- the number at the front of a list, and what follows it
pub number_first : (xs : List ℕ) → 4 ≤ length xs → number_at xs 0 ≡ value (take 4 xs)
number_first [] h = absurd (omega arith)
number_first (a ∷ []) h = absurd (omega arith)
number_first (a ∷ b ∷ []) h = absurd (omega arith)
number_first (a ∷ b ∷ c ∷ []) h = absurd (omega arith)
number_first (a ∷ b ∷ c ∷ d ∷ xs) h = omega arith

pub number_split : (xs : List ℕ) → 4 ≤ length xs → Bytes xs → xs ≡ four_bytes (number_at xs 0) ++ drop 4 xs
number_split xs h f =
    sym (take-append-drop 4 xs)
    ∙ ap (λ t. t ++ drop 4 xs) (sym (four_back (take 4 xs) (length-take-le 4 xs h) (take_bytes 4 xs f)) ∙ ap four_bytes (sym (number_first xs h)))

pub number_drop : (n : ℕ) (xs : List ℕ) (i : ℕ) → number_at (drop n xs) i ≡ number_at xs (n + i)
number_drop n xs i =
    let a = get_or-drop n xs i 0 in
    let b = get_or-drop n xs (i + 1) 0 ∙ ap (λ k. get_or xs k 0) (next n i 1) in
    let c = get_or-drop n xs (i + 2) 0 ∙ ap (λ k. get_or xs k 0) (next n i 2) in
    let d = get_or-drop n xs (i + 3) 0 ∙ ap (λ k. get_or xs k 0) (next n i 3) in
    λ k. a k + b k * 256 + c k * 65536 + d k * 16777216
  where
    next : (n i j : ℕ) → n + (i + j) ≡ n + i + j
    next n i j = omega arith

-- four bytes write a number below 2^32
pub number_small : (xs : List ℕ) (i : ℕ) → Bytes xs → number_at xs i < 2 ^ 32
number_small xs i f = let a = f i in let b = f (i + 1) in let c = f (i + 2) in let d = f (i + 3) in omega arith
