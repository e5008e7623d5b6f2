-- RFC 8439, the ChaCha20 block function: the state is a list of sixteen 32-bit words, a key is 32 bytes and a nonce 12.
-- The numbers are the document's sections.
use Rattle.std.specs.Prelude.{ℕ, zero, suc, ◌+◌, ◌-◌, ◌*◌, ◌/◌, ◌%◌, ◌^◌, List, [], ◌∷◌, get_or, set}
use Rattle.std.specs.Int.Bits.{bit_xor, bit_or}
use Rattle.std.specs.Simd.Lanes.{zip2}

-- 2.1: the sum of two words modulo 2^32
abbrev pub plus : ℕ → ℕ → ℕ
plus a b = (a + b) % 2 ^ 32

-- 2.1: a word rotated to the left by n bits, n below 32
abbrev pub rotate_left : ℕ → ℕ → ℕ
rotate_left w n = bit_or ((w * 2 ^ (n % 32)) % 2 ^ 32) (w / 2 ^ ((32 - n % 32) % 32))

-- 2.1: one line of the quarter round, a += b; d ^= a; d <<<= n: what it makes of a and d
unfoldable pub add_xor_rotate : ℕ → ℕ → ℕ → ℕ → ℕ × ℕ
add_xor_rotate n a b d = (plus a b, rotate_left (bit_xor d (plus a b)) n)

-- 2.1: the quarter round
abbrev pub quarter_round : ℕ → ℕ → ℕ → ℕ → ℕ × ℕ × ℕ × ℕ
quarter_round a b c d =
    let line1 = add_xor_rotate 16 a b d in
    let line2 = add_xor_rotate 12 c line1.1 b in
    let line3 = add_xor_rotate 8 line1.0 line2.1 line1.1 in
    let line4 = add_xor_rotate 7 line2.0 line3.1 line2.1 in
    (line3.0, line4.1, line4.0, line3.1)

-- 2.2: the quarter round on the words x, y, z and w of the state
unfoldable pub quarter_round_at : ℕ → ℕ → ℕ → ℕ → List ℕ → List ℕ
quarter_round_at x y z w state =
    let q = quarter_round (get_or state x 0) (get_or state y 0) (get_or state z 0) (get_or state w 0) in
    set (set (set (set state x q.0) y q.1) z q.2) w q.3

-- 2.3: two rounds, the four columns and then the four diagonals
unfoldable pub double_round : List ℕ → List ℕ
double_round state =
    quarter_round_at 3 4 9 14 (quarter_round_at 2 7 8 13 (quarter_round_at 1 6 11 12 (quarter_round_at 0 5 10 15
    (quarter_round_at 3 7 11 15 (quarter_round_at 2 6 10 14 (quarter_round_at 1 5 9 13 (quarter_round_at 0 4 8 12 state)))))))

-- 2.3: n double rounds
abbrev pub double_rounds : ℕ → List ℕ → List ℕ
double_rounds zero state = state
double_rounds (suc n) state = double_round (double_rounds n state)

-- 2.3: the word in the four bytes from byte i on, the lowest byte first
abbrev pub word_at : ℕ → List ℕ → ℕ
word_at i b = get_or b i 0 + get_or b (i + 1) 0 * 2 ^ 8 + get_or b (i + 2) 0 * 2 ^ 16 + get_or b (i + 3) 0 * 2 ^ 24

-- 2.3: the state at the start: four constants, the eight words of the key, the block counter, the three words of the nonce
abbrev pub start : List ℕ → ℕ → List ℕ → List ℕ
start key counter nonce =
    0x61707865 ∷ 0x3320646e ∷ 0x79622d32 ∷ 0x6b206574 ∷
    word_at 0 key ∷ word_at 4 key ∷ word_at 8 key ∷ word_at 12 key ∷
    word_at 16 key ∷ word_at 20 key ∷ word_at 24 key ∷ word_at 28 key ∷
    counter ∷ word_at 0 nonce ∷ word_at 4 nonce ∷ word_at 8 nonce ∷ []

-- 2.3: the words of a block: twenty rounds, and the start added to what they leave
unfoldable pub block_words : List ℕ → ℕ → List ℕ → List ℕ
block_words key counter nonce = let s = start key counter nonce in zip2 plus (double_rounds 10 s) s

-- 2.3: words as bytes, the lowest byte of each first
abbrev pub serialized : List ℕ → List ℕ
serialized [] = []
serialized (w ∷ ws) = (w % 2 ^ 8) ∷ (w / 2 ^ 8 % 2 ^ 8) ∷ (w / 2 ^ 16 % 2 ^ 8) ∷ (w / 2 ^ 24 % 2 ^ 8) ∷ serialized ws

-- 2.3: the block, 64 bytes
unfoldable pub block : List ℕ → ℕ → List ℕ → List ℕ
block key counter nonce = serialized (block_words key counter nonce)
