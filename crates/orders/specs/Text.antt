-- Texts as lists of bytes: cut in pieces and words, and read as decimal and hex numbers.
use Rattle.std.specs.Prelude.{◌≡◌, ℕ, ◌+◌, ◌-◌, ◌*◌, ◌^◌, ◌<◌, Bool, cond, ◌&&◌, ◌||◌, List, [], ◌∷◌, length, Ok, Err, Result, ◌==◌, nat_le, nat_lt, slice_index, slice_index_or, filter, not}
use Rattle.std.specs.List.{slice_split, list_all}
use Rattle.expander.specs.declared.Seed.{Seed}
use Rattle.orders.specs.declared.types.Wrong.{Wrong}
use Rattle.orders.specs.declared.types.Wrong.TheVariants.{NotNumber, TooLarge, NotHex, SeedLength}

-- a text cut at every byte c: one piece more than there are such bytes
abbrev pub pieces : ℕ → List ℕ → List (List ℕ)
pieces c text = slice_split (λ b. b == c) text

-- the pieces that are not empty
abbrev pub filled : List (List ℕ) → List (List ℕ)
filled ps = filter (λ p. not (length p == 0)) ps

-- the words of a line, with spaces between them
abbrev pub words : List ℕ → List (List ℕ)
words line = filled (pieces 32 line)

-- word number n, counted from 1; empty where there is none
abbrev pub nth : List (List ℕ) → ℕ → List ℕ
nth ws n = slice_index_or ([] ∷ ws) n []

abbrev pub digit : ℕ → Bool
digit c = nat_le 48 c && nat_le c 57

abbrev pub digits : List ℕ → Bool
digits w = list_all digit w

-- the number that decimal digits write: each digit times the power of ten of its place
abbrev pub value : List ℕ → ℕ
value [] = 0
value (c ∷ cs) = (c - 48) * 10 ^ length cs + value cs

-- one or more digits
abbrev pub numeral : List ℕ → Bool
numeral w = nat_lt 0 (length w) && digits w

-- a number that is at most `most`, as a type holds it
abbrev pub bounded : {A : Type 0} → (ℕ → A) → ℕ → ℕ → Result A Wrong
bounded held most n = cond (nat_le n most) (Ok (held n)) (Err TooLarge)

unfoldable pub number_of : {A : Type 0} → (ℕ → A) → ℕ → List ℕ → Result A Wrong
number_of held most w = cond (numeral w) (bounded held most (value w)) (Err NotNumber)

-- a text as a decimal number that is at most `most`
abbrev pub decimal_of : ℕ → List ℕ → Result ℕ Wrong
decimal_of most w = number_of (λ n. n) most w

-- 0 to 9, a to f, A to F
abbrev pub hex : ℕ → Bool
hex c = digit c || (nat_le 97 c && nat_le c 102) || (nat_le 65 c && nat_le c 70)

abbrev pub hexes : List ℕ → Bool
hexes w = list_all hex w

abbrev pub hex_value : ℕ → ℕ
hex_value c = cond (nat_le 97 c) (c - 87) (cond (nat_le 65 c) (c - 55) (c - 48))

abbrev pub hex_of : ℕ → Result ℕ Wrong
hex_of c = cond (hex c) (Ok (hex_value c)) (Err NotHex)

-- what was read, or 0
abbrev pub or_zero : Result ℕ Wrong → ℕ
or_zero (Ok number) = number
or_zero (Err what) = 0

-- the byte that two hex digits write, the high one first
abbrev pub byte_of : ℕ → ℕ → ℕ
byte_of high low = 16 * or_zero (hex_of high) + or_zero (hex_of low)

-- two hex digits to a byte, the high one first
abbrev pub hex_bytes : List ℕ → List ℕ
hex_bytes [] = []
hex_bytes (h ∷ []) = []
hex_bytes (h ∷ l ∷ cs) = (16 * hex_value h + hex_value l) ∷ hex_bytes cs

-- byte i of 16 is 16 times digit 2i and digit 2i + 1
abbrev pub HexBytes : List ℕ → List ℕ → Type 0
HexBytes w bytes = (i : ℕ) → i < 16 → slice_index bytes i ≡ 16 * hex_value (slice_index w (2 * i)) + hex_value (slice_index w (2 * i + 1))

-- 32 hex digits as a seed
unfoldable pub seed_from : List ℕ → Result Seed Wrong
seed_from w =
    cond (length w == 32) (cond (hexes w) (Ok (record { bytes = hex_bytes w })) (Err NotHex)) (Err SeedLength)
