-- The keyed gates from what the dealer deals: keys that join as the comparison says, and parts of what is split.
use Rattle.std.specs.Prelude.{◌≡◌, ℕ, ◌+◌, ◌%◌, ◌^◌, ◌<◌, ◌≤◌, Bool, true, false, bit_xor}
use Rattle.group.specs.Groups.{OutputGroup}
use Rattle.group.specs.Residues.{Residue}
use Rattle.group.specs.Flags.{flags}
use Rattle.interval.specs.Interval.{plain, inside, threshold, taken, extra, answer, KeysJoin}
use Rattle.shares.specs.Words.{Word, word, words, Quad, quads, flag_word}
use Rattle.shares.specs.Splits.{part_of_number, part_of_flags, part_of_element}
use Rattle.shares.specs.Piece.{piece_payload, piece_share_of}
use Rattle.shares.specs.Flag.{flag_share}
use Rattle.shares.specs.Shifts.{low_threshold, low_payload, high_threshold, high_payload, low_point, shift_rest, shift_share, signed_held, signed_share}
use Rattle.shares.specs.Plain.{plain_piece, plain_flag, plain_shift, plain_signed_shift}

-- a box's answer at the held value m, where the payload β and E are split by what is random
abbrev pub interval_answer : {M : Type 0} → OutputGroup M → Bool → ℕ → ℕ → ℕ → ℕ → ℕ → M → M → M → (ℕ → M) → M
interval_answer g one N m r p q β random-β random-E key =
    answer g N m p q (part_of_element g one β random-β) (part_of_element g one (extra g N r p q β) random-E) key

-- the answers join to the payload if the plain value is in the interval, and otherwise to zero
abbrev pub AnswersJoin : {M : Type 0} → OutputGroup M → Type 0
AnswersJoin {M} g =
    (N m r p q : ℕ) → m < N → r < N → p ≤ q → q < N
    → (β random-β random-E : M) (key0 key1 : ℕ → M)
    → KeysJoin g N (threshold N r) β key0 key1
    → g.sum (interval_answer g false N m r p q β random-β random-E key0) (interval_answer g true N m r p q β random-β random-E key1)
    ≡ taken g (inside p q (plain N r m)) β

-- a box's share of a piece
abbrev pub dealt_piece : Bool → ℕ → ℕ → ℕ → ℕ → ℕ → ℕ → ℕ → ℕ → ℕ → ℕ → Quad → Quad → ℕ → (ℕ → Quad) → ℕ
dealt_piece one N m r p q c0 c1 c2 c3 out random-β random-E random key =
    piece_share_of N m (interval_answer quads one N m r p q (piece_payload r c0 c1 c2 c3) random-β random-E key) (part_of_number one N out random)

-- both boxes' shares of a piece make its plain meaning plus the output mask
abbrev pub PieceIsPlain : Type 0
PieceIsPlain =
    (n m r p q c0 c1 c2 c3 out random : ℕ) → n ≤ 32 → m < 2 ^ n → r < 2 ^ n → p ≤ q → q < 2 ^ n
    → (random-β random-E : Quad) (key0 key1 : ℕ → Quad)
    → KeysJoin quads (2 ^ n) (threshold (2 ^ n) r) (piece_payload r c0 c1 c2 c3) key0 key1
    → (dealt_piece false (2 ^ n) m r p q c0 c1 c2 c3 out random-β random-E random key0
    + dealt_piece true (2 ^ n) m r p q c0 c1 c2 c3 out random-β random-E random key1) % 2 ^ n
    ≡ (plain_piece (2 ^ n) p q c0 c1 c2 c3 (plain (2 ^ n) r m) + out) % 2 ^ n

-- a box's share of a flag gate
abbrev pub dealt_flag : Bool → ℕ → ℕ → ℕ → ℕ → ℕ → ℕ → ℕ → Residue (2 ^ 32) → Residue (2 ^ 32) → ℕ → (ℕ → Residue (2 ^ 32)) → ℕ
dealt_flag one N m r p q pattern out random-β random-E random key =
    flag_share (interval_answer flags one N m r p q (flag_word pattern) random-β random-E key).0 (part_of_flags one out random)

-- both boxes' shares of a flag gate make its plain meaning XOR the output mask
abbrev pub FlagIsPlain : Type 0
FlagIsPlain =
    (N m r p q pattern out random : ℕ) → m < N → r < N → p ≤ q → q < N → pattern < 2 ^ 32
    → (random-β random-E : Residue (2 ^ 32)) (key0 key1 : ℕ → Residue (2 ^ 32))
    → KeysJoin flags N (threshold N r) (flag_word pattern) key0 key1
    → bit_xor (dealt_flag false N m r p q pattern out random-β random-E random key0) (dealt_flag true N m r p q pattern out random-β random-E random key1)
    ≡ bit_xor (plain_flag p q pattern (plain N r m)) out

-- a box's share of a shift, and of a signed shift
abbrev pub dealt_shift : Bool → ℕ → ℕ → ℕ → ℕ → ℕ → ℕ → (ℕ → Word) → (ℕ → Word) → ℕ
dealt_shift one N S m r out random low high =
    shift_share one N S m (low (low_point S m)).0 (high m).0 (part_of_number one N (shift_rest N S r out) random)

abbrev pub dealt_signed_shift : Bool → ℕ → ℕ → ℕ → ℕ → ℕ → ℕ → (ℕ → Word) → (ℕ → Word) → ℕ
dealt_signed_shift one N S m r out random low high =
    signed_share one N S m (low (low_point S (signed_held N m))).0 (high (signed_held N m)).0 (part_of_number one N (shift_rest N S r out) random)

-- the two keys of a shift join as the comparison says
abbrev pub ShiftKeysJoin : ℕ → ℕ → ℕ → (ℕ → Word) → (ℕ → Word) → (ℕ → Word) → (ℕ → Word) → Type 0
ShiftKeysJoin N S r low0 low1 high0 high1 =
    KeysJoin words S (low_threshold S r) (word low_payload) low0 low1
    × KeysJoin words N (high_threshold r) (word (high_payload N S)) high0 high1

-- both boxes' shares of a shift make its plain meaning plus the output mask
abbrev pub ShiftIsPlain : Type 0
ShiftIsPlain =
    (n s m r out random : ℕ) → s ≤ n → n ≤ 32 → m < 2 ^ n → r < 2 ^ n
    → (low0 low1 high0 high1 : ℕ → Word)
    → ShiftKeysJoin (2 ^ n) (2 ^ s) r low0 low1 high0 high1
    → (dealt_shift false (2 ^ n) (2 ^ s) m r out random low0 high0 + dealt_shift true (2 ^ n) (2 ^ s) m r out random low1 high1) % 2 ^ n
    ≡ (plain_shift (2 ^ s) (plain (2 ^ n) r m) + out) % 2 ^ n

abbrev pub SignedShiftIsPlain : Type 0
SignedShiftIsPlain =
    (n s m r out random : ℕ) → s < n → n ≤ 32 → m < 2 ^ n → r < 2 ^ n
    → (low0 low1 high0 high1 : ℕ → Word)
    → ShiftKeysJoin (2 ^ n) (2 ^ s) r low0 low1 high0 high1
    → (dealt_signed_shift false (2 ^ n) (2 ^ s) m r out random low0 high0
    + dealt_signed_shift true (2 ^ n) (2 ^ s) m r out random low1 high1) % 2 ^ n
    ≡ (plain_signed_shift (2 ^ n) (2 ^ s) (plain (2 ^ n) r m) + out) % 2 ^ n
