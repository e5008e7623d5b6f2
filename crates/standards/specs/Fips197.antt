-- FIPS 197, AES-128: a key, a block and the state are lists of 16 bytes, and column c of the state is its bytes
-- 4c to 4c + 3. The numbers are the sections of the edition of 2023.
use Rattle.std.specs.Prelude.{ℕ, zero, suc, ◌+◌, ◌-◌, ◌*◌, ◌/◌, ◌%◌, ◌^◌, List, [], ◌∷◌, ◌++◌, map, cond, eqb, get_or}
use Rattle.std.specs.Int.Bits.{bit_xor}
use Rattle.std.specs.Simd.Lanes.{zip2}

-- 4.1: the sum of bytes, place by place
abbrev pub xor : List ℕ → List ℕ → List ℕ
xor = zip2 bit_xor

-- 4.2: xTimes, the product with x modulo x^8 + x^4 + x^3 + x + 1
abbrev pub x_times : ℕ → ℕ
x_times b = bit_xor (b * 2 % 256) (b / 128 * 27)

-- 4.2: the product of a and the lowest k bits of b
abbrev pub times_bits : ℕ → ℕ → ℕ → ℕ
times_bits zero a b = 0
times_bits (suc k) a b = bit_xor (b % 2 * a) (times_bits k (x_times a) (b / 2))

-- 4.2: the product of two bytes
unfoldable pub times : ℕ → ℕ → ℕ
times a b = times_bits 8 a b

-- 4.4: the largest of the numbers 1 to k whose product with a is 1, and 0 if there is none
abbrev pub inverse_up_to : ℕ → ℕ → ℕ
inverse_up_to zero a = 0
inverse_up_to (suc k) a = cond (eqb (times a (suc k)) 1) (suc k) (inverse_up_to k a)

-- 4.4: the multiplicative inverse of a byte, and 0 for 0, which has none
unfoldable pub inverse : ℕ → ℕ
inverse a = inverse_up_to 255 a

-- a byte's bits, rotated k places towards the highest
abbrev pub rotated : ℕ → ℕ → ℕ
rotated k b = b * 2 ^ k % 256 + b / 2 ^ (8 - k)

-- 5.1.1: bit i is the sum of the bits i, i + 4, i + 5, i + 6 and i + 7 modulo 8 of b, and of bit i of the constant 0x63
unfoldable pub affine : ℕ → ℕ
affine b = bit_xor (bit_xor (bit_xor (bit_xor (bit_xor b (rotated 1 b)) (rotated 2 b)) (rotated 3 b)) (rotated 4 b)) 0x63

-- 5.1.1: SBox, the inverse and then the affine step
unfoldable pub s_box : ℕ → ℕ
s_box b = affine (inverse b)

-- 5.1.1: the table of SBox, as printed
abbrev pub s_box_table : List ℕ
s_box_table =
    0x63 ∷ 0x7c ∷ 0x77 ∷ 0x7b ∷ 0xf2 ∷ 0x6b ∷ 0x6f ∷ 0xc5 ∷ 0x30 ∷ 0x01 ∷ 0x67 ∷ 0x2b ∷ 0xfe ∷ 0xd7 ∷ 0xab ∷ 0x76 ∷
    0xca ∷ 0x82 ∷ 0xc9 ∷ 0x7d ∷ 0xfa ∷ 0x59 ∷ 0x47 ∷ 0xf0 ∷ 0xad ∷ 0xd4 ∷ 0xa2 ∷ 0xaf ∷ 0x9c ∷ 0xa4 ∷ 0x72 ∷ 0xc0 ∷
    0xb7 ∷ 0xfd ∷ 0x93 ∷ 0x26 ∷ 0x36 ∷ 0x3f ∷ 0xf7 ∷ 0xcc ∷ 0x34 ∷ 0xa5 ∷ 0xe5 ∷ 0xf1 ∷ 0x71 ∷ 0xd8 ∷ 0x31 ∷ 0x15 ∷
    0x04 ∷ 0xc7 ∷ 0x23 ∷ 0xc3 ∷ 0x18 ∷ 0x96 ∷ 0x05 ∷ 0x9a ∷ 0x07 ∷ 0x12 ∷ 0x80 ∷ 0xe2 ∷ 0xeb ∷ 0x27 ∷ 0xb2 ∷ 0x75 ∷
    0x09 ∷ 0x83 ∷ 0x2c ∷ 0x1a ∷ 0x1b ∷ 0x6e ∷ 0x5a ∷ 0xa0 ∷ 0x52 ∷ 0x3b ∷ 0xd6 ∷ 0xb3 ∷ 0x29 ∷ 0xe3 ∷ 0x2f ∷ 0x84 ∷
    0x53 ∷ 0xd1 ∷ 0x00 ∷ 0xed ∷ 0x20 ∷ 0xfc ∷ 0xb1 ∷ 0x5b ∷ 0x6a ∷ 0xcb ∷ 0xbe ∷ 0x39 ∷ 0x4a ∷ 0x4c ∷ 0x58 ∷ 0xcf ∷
    0xd0 ∷ 0xef ∷ 0xaa ∷ 0xfb ∷ 0x43 ∷ 0x4d ∷ 0x33 ∷ 0x85 ∷ 0x45 ∷ 0xf9 ∷ 0x02 ∷ 0x7f ∷ 0x50 ∷ 0x3c ∷ 0x9f ∷ 0xa8 ∷
    0x51 ∷ 0xa3 ∷ 0x40 ∷ 0x8f ∷ 0x92 ∷ 0x9d ∷ 0x38 ∷ 0xf5 ∷ 0xbc ∷ 0xb6 ∷ 0xda ∷ 0x21 ∷ 0x10 ∷ 0xff ∷ 0xf3 ∷ 0xd2 ∷
    0xcd ∷ 0x0c ∷ 0x13 ∷ 0xec ∷ 0x5f ∷ 0x97 ∷ 0x44 ∷ 0x17 ∷ 0xc4 ∷ 0xa7 ∷ 0x7e ∷ 0x3d ∷ 0x64 ∷ 0x5d ∷ 0x19 ∷ 0x73 ∷
    0x60 ∷ 0x81 ∷ 0x4f ∷ 0xdc ∷ 0x22 ∷ 0x2a ∷ 0x90 ∷ 0x88 ∷ 0x46 ∷ 0xee ∷ 0xb8 ∷ 0x14 ∷ 0xde ∷ 0x5e ∷ 0x0b ∷ 0xdb ∷
    0xe0 ∷ 0x32 ∷ 0x3a ∷ 0x0a ∷ 0x49 ∷ 0x06 ∷ 0x24 ∷ 0x5c ∷ 0xc2 ∷ 0xd3 ∷ 0xac ∷ 0x62 ∷ 0x91 ∷ 0x95 ∷ 0xe4 ∷ 0x79 ∷
    0xe7 ∷ 0xc8 ∷ 0x37 ∷ 0x6d ∷ 0x8d ∷ 0xd5 ∷ 0x4e ∷ 0xa9 ∷ 0x6c ∷ 0x56 ∷ 0xf4 ∷ 0xea ∷ 0x65 ∷ 0x7a ∷ 0xae ∷ 0x08 ∷
    0xba ∷ 0x78 ∷ 0x25 ∷ 0x2e ∷ 0x1c ∷ 0xa6 ∷ 0xb4 ∷ 0xc6 ∷ 0xe8 ∷ 0xdd ∷ 0x74 ∷ 0x1f ∷ 0x4b ∷ 0xbd ∷ 0x8b ∷ 0x8a ∷
    0x70 ∷ 0x3e ∷ 0xb5 ∷ 0x66 ∷ 0x48 ∷ 0x03 ∷ 0xf6 ∷ 0x0e ∷ 0x61 ∷ 0x35 ∷ 0x57 ∷ 0xb9 ∷ 0x86 ∷ 0xc1 ∷ 0x1d ∷ 0x9e ∷
    0xe1 ∷ 0xf8 ∷ 0x98 ∷ 0x11 ∷ 0x69 ∷ 0xd9 ∷ 0x8e ∷ 0x94 ∷ 0x9b ∷ 0x1e ∷ 0x87 ∷ 0xe9 ∷ 0xce ∷ 0x55 ∷ 0x28 ∷ 0xdf ∷
    0x8c ∷ 0xa1 ∷ 0x89 ∷ 0x0d ∷ 0xbf ∷ 0xe6 ∷ 0x42 ∷ 0x68 ∷ 0x41 ∷ 0x99 ∷ 0x2d ∷ 0x0f ∷ 0xb0 ∷ 0x54 ∷ 0xbb ∷ 0x16 ∷ []

-- 5.1.1: SubBytes
unfoldable pub sub_bytes : List ℕ → List ℕ
sub_bytes state = map s_box state

-- 5.1.2: ShiftRows, which turns row r of the state r places to the left
unfoldable pub shift_rows : List ℕ → List ℕ
shift_rows state =
    map (λ k. get_or state k 0) (0 ∷ 5 ∷ 10 ∷ 15 ∷ 4 ∷ 9 ∷ 14 ∷ 3 ∷ 8 ∷ 13 ∷ 2 ∷ 7 ∷ 12 ∷ 1 ∷ 6 ∷ 11 ∷ [])

-- the sum of four bytes
abbrev pub sum_of_four : ℕ → ℕ → ℕ → ℕ → ℕ
sum_of_four a b c d = bit_xor (bit_xor (bit_xor a b) c) d

-- 5.1.3: one column times the matrix with the rows 2 3 1 1, 1 2 3 1, 1 1 2 3 and 3 1 1 2
unfoldable pub mix_column : ℕ → ℕ → ℕ → ℕ → List ℕ
mix_column a b c d =
    sum_of_four (times 2 a) (times 3 b) c d ∷
    sum_of_four a (times 2 b) (times 3 c) d ∷
    sum_of_four a b (times 2 c) (times 3 d) ∷
    sum_of_four (times 3 a) b c (times 2 d) ∷ []

-- the column of the state whose first byte is byte i, mixed
abbrev pub mix_column_at : ℕ → List ℕ → List ℕ
mix_column_at i state = mix_column (get_or state i 0) (get_or state (i + 1) 0) (get_or state (i + 2) 0) (get_or state (i + 3) 0)

-- 5.1.3: MixColumns
unfoldable pub mix_columns : List ℕ → List ℕ
mix_columns state = mix_column_at 0 state ++ (mix_column_at 4 state ++ (mix_column_at 8 state ++ mix_column_at 12 state))

-- 5.1.4: AddRoundKey
unfoldable pub add_round_key : List ℕ → List ℕ → List ℕ
add_round_key state round_key = xor state round_key

-- word i of a round key, its bytes 4i to 4i + 3
abbrev pub word : ℕ → List ℕ → List ℕ
word i k = get_or k (4 * i) 0 ∷ get_or k (4 * i + 1) 0 ∷ get_or k (4 * i + 2) 0 ∷ get_or k (4 * i + 3) 0 ∷ []

-- 5.2: RotWord
abbrev pub rot_word : List ℕ → List ℕ
rot_word w = get_or w 1 0 ∷ get_or w 2 0 ∷ get_or w 3 0 ∷ get_or w 0 0 ∷ []

-- 5.2: SubWord
abbrev pub sub_word : List ℕ → List ℕ
sub_word w = map s_box w

-- 5.2: the first byte of the round constant Rcon[i + 1], which is x to the power i; its other bytes are 0
abbrev pub rcon : ℕ → ℕ
rcon zero = 1
rcon (suc i) = x_times (rcon i)

-- 5.2: the first bytes of the round constants, as printed
abbrev pub rcon_table : List ℕ
rcon_table = 0x01 ∷ 0x02 ∷ 0x04 ∷ 0x08 ∷ 0x10 ∷ 0x20 ∷ 0x40 ∷ 0x80 ∷ 0x1b ∷ 0x36 ∷ []

-- 5.2: SubWord of RotWord of a word, with a round constant added
unfoldable pub schedule_core : ℕ → List ℕ → List ℕ
schedule_core constant w = xor (sub_word (rot_word w)) (constant ∷ 0 ∷ 0 ∷ 0 ∷ [])

-- 5.2: the next four words of KeyExpansion, from the last four and a round constant
unfoldable pub next_round_key : ℕ → List ℕ → List ℕ
next_round_key constant k =
    let a = xor (word 0 k) (schedule_core constant (word 3 k)) in
    let b = xor (word 1 k) a in
    let c = xor (word 2 k) b in
    let d = xor (word 3 k) c in
    a ++ (b ++ (c ++ d))

-- 5.2: round key i of KeyExpansion, its words 4i to 4i + 3
unfoldable pub round_key : ℕ → List ℕ → List ℕ
round_key zero key = key
round_key (suc i) key = next_round_key (rcon i) (round_key i key)

-- 5.2: KeyExpansion, the round keys 0 to 10
abbrev pub key_expansion : List ℕ → List (List ℕ)
key_expansion key = map (λ i. round_key i key) (0 ∷ 1 ∷ 2 ∷ 3 ∷ 4 ∷ 5 ∷ 6 ∷ 7 ∷ 8 ∷ 9 ∷ 10 ∷ [])

-- 5.1: a round, and the last one, which does not mix the columns
unfoldable pub full_round : List ℕ → List ℕ → List ℕ
full_round round_key state = add_round_key (mix_columns (shift_rows (sub_bytes state))) round_key

unfoldable pub last_round : List ℕ → List ℕ → List ℕ
last_round round_key state = add_round_key (shift_rows (sub_bytes state)) round_key

-- 5.1: the state after rounds 1 to n
unfoldable pub full_rounds : ℕ → List ℕ → List ℕ → List ℕ
full_rounds zero key state = state
full_rounds (suc n) key state = full_round (round_key (suc n) key) (full_rounds n key state)

-- 5.1: Cipher, with the ten rounds of AES-128
abbrev pub cipher : List ℕ → List ℕ → List ℕ
cipher key block = last_round (round_key 10 key) (full_rounds 9 key (add_round_key block (round_key 0 key)))
