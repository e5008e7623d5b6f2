-- The orders: what each word of a line must be. The first fault, in the order of the words, decides.
use Rattle.std.specs.Prelude.{ℕ, Bool, true, cond, List, [], ◌∷◌, length, Some, None, Ok, Err, codes, Result, ◌==◌, slice_index_or}
use Rattle.std.specs.Str.{bytes_eq}
use Rattle.orders.specs.declared.types.DealOrder.{DealOrder}
use Rattle.orders.specs.declared.types.Fault.{Fault}
use Rattle.orders.specs.declared.types.GateBody.{GateBody}
use Rattle.orders.specs.declared.types.GateBody.TheVariants as gate
use Rattle.orders.specs.declared.types.GateName.{GateName}
use Rattle.orders.specs.declared.types.GateName.TheVariants.{Piece, Flag, Shift, Signed, Product, Sum, Scale, Xor}
use Rattle.orders.specs.declared.types.GateOrder.{GateOrder}
use Rattle.orders.specs.declared.types.Group.{Group}
use Rattle.orders.specs.declared.types.Group.TheVariants.{Words, Flags, Pair, Quad}
use Rattle.orders.specs.declared.types.Kind.{Kind}
use Rattle.orders.specs.declared.types.Kind.TheVariants.{Aes, ChaCha, Zero}
use Rattle.orders.specs.declared.types.Order.{Order}
use Rattle.orders.specs.declared.types.Order.TheVariants.{Nothing, Deal, At, Gate, Hold}
use Rattle.orders.specs.declared.types.Payload.{Payload}
use Rattle.orders.specs.declared.types.Payload.TheVariants as payload
use Rattle.orders.specs.declared.types.Wrong.{Wrong}
use Rattle.orders.specs.declared.types.Wrong.TheVariants.{UnknownOrder, MissingWord, ExtraWord, UnknownKind, UnknownGroup, PayloadParts}
use Rattle.orders.specs.declared.types.Wrong.TheVariants.{UnknownGate, CoefficientCount, WordCount}
use Rattle.orders.specs.Text.{pieces, words, nth, number_of, decimal_of, seed_from}

abbrev pub and_then : {A B E : Type 0} → Result A E → (A → Result B E) → Result B E
and_then (Ok x) f = f x
and_then (Err e) f = Err e

abbrev pub kind_of : List ℕ → Result Kind Wrong
kind_of w =
    cond (bytes_eq w (codes "1")) (Ok Aes)
    (cond (bytes_eq w (codes "2")) (Ok ChaCha)
    (cond (bytes_eq w (codes "3")) (Ok Zero) (Err UnknownKind)))

abbrev pub group_of : List ℕ → Result Group Wrong
group_of w =
    cond (bytes_eq w (codes "words")) (Ok Words)
    (cond (bytes_eq w (codes "flags")) (Ok Flags)
    (cond (bytes_eq w (codes "pair")) (Ok Pair)
    (cond (bytes_eq w (codes "quad")) (Ok Quad) (Err UnknownGroup))))

-- how many numbers a payload has
abbrev pub parts : Group → ℕ
parts Words = 1
parts Flags = 1
parts Pair = 2
parts Quad = 4

-- number k of a payload: 64 bits, or the 32 bits of flags
abbrev pub word_part : List (List ℕ) → ℕ → Result ℕ Wrong
word_part ps k = decimal_of 18446744073709551615 (slice_index_or ps k [])

abbrev pub flags_part : List (List ℕ) → ℕ → Result ℕ Wrong
flags_part ps k = decimal_of 4294967295 (slice_index_or ps k [])

abbrev pub payload_from : Group → List (List ℕ) → Result Payload Wrong
payload_from Words ps = and_then (word_part ps 0) (λ a. Ok (payload.Words a))
payload_from Flags ps = and_then (flags_part ps 0) (λ a. Ok (payload.Flags a))
payload_from Pair ps = and_then (word_part ps 0) (λ a. and_then (flags_part ps 1) (λ b. Ok (payload.Pair a b)))
payload_from Quad ps =
    and_then (word_part ps 0) (λ a. and_then (word_part ps 1) (λ b.
    and_then (word_part ps 2) (λ c. and_then (word_part ps 3) (λ d. Ok (payload.Quad a b c d)))))

-- numbers with commas between them
abbrev pub payload_of : Group → List ℕ → Result Payload Wrong
payload_of group w =
    cond (length (pieces 44 w) == parts group) (payload_from group (pieces 44 w)) (Err PayloadParts)

abbrev pub gate_name_of : List ℕ → Result GateName Wrong
gate_name_of w =
    cond (bytes_eq w (codes "piece")) (Ok Piece)
    (cond (bytes_eq w (codes "flag")) (Ok Flag)
    (cond (bytes_eq w (codes "shift")) (Ok Shift)
    (cond (bytes_eq w (codes "signed")) (Ok Signed)
    (cond (bytes_eq w (codes "product")) (Ok Product)
    (cond (bytes_eq w (codes "sum")) (Ok Sum)
    (cond (bytes_eq w (codes "scale")) (Ok Scale)
    (cond (bytes_eq w (codes "xor")) (Ok Xor) (Err UnknownGate))))))))

-- each text as a number that is at most `most`
abbrev pub numbers_from : {A : Type 0} → (ℕ → A) → ℕ → List (List ℕ) → Result (List A) Wrong
numbers_from held most [] = Ok []
numbers_from held most (p ∷ ps) =
    and_then (number_of held most p) (λ a. and_then (numbers_from held most ps) (λ rest. Ok (a ∷ rest)))

-- so many numbers with commas between them
abbrev pub numbers_of : {A : Type 0} → (ℕ → A) → ℕ → ℕ → Wrong → List ℕ → Result (List A) Wrong
numbers_of held most count wrong w =
    cond (length (pieces 44 w) == count) (numbers_from held most (pieces 44 w)) (Err wrong)

-- four numbers of 32 bits
abbrev pub coefficients_of : List ℕ → Result (List ℕ) Wrong
coefficients_of w = numbers_of (λ n. n) 4294967295 4 CoefficientCount w

-- random words of 64 bits
abbrev pub random_words_of : ℕ → List ℕ → Result (List ℕ) Wrong
random_words_of count w = numbers_of (λ n. n) 18446744073709551615 count WordCount w

abbrev pub fault : Wrong → ℕ → Fault
fault what n = record { what = what; word = n }

abbrev pub numbered : {A : Type 0} → ℕ → Result A Wrong → Result A Fault
numbered n (Ok x) = Ok x
numbered n (Err what) = Err (fault what n)

-- what was read of word number n, w, which is empty where the word is missing
abbrev pub placed : {A : Type 0} → List ℕ → ℕ → Result A Wrong → Result A Fault
placed w n read = cond (length w == 0) (Err (fault MissingWord n)) (numbered n read)

abbrev pub field : {A : Type 0} → (List ℕ → Result A Wrong) → List (List ℕ) → ℕ → Result A Fault
field read ws n = placed (nth ws n) n (read (nth ws n))

-- no word number n
abbrev pub ended : {A : Type 0} → List (List ℕ) → ℕ → A → Result A Fault
ended ws n x = cond (length (nth ws n) == 0) (Ok x) (Err (fault ExtraWord n))

-- deal KIND GROUP WIDTH THRESHOLD PAYLOAD ROOT0 ROOT1
abbrev pub deal_of : List (List ℕ) → Result DealOrder Fault
deal_of ws =
    and_then (field kind_of ws 2) (λ kind.
    and_then (field group_of ws 3) (λ group.
    and_then (field (decimal_of 255) ws 4) (λ width.
    and_then (field (decimal_of 4294967295) ws 5) (λ threshold.
    and_then (field (payload_of group) ws 6) (λ amount.
    and_then (field seed_from ws 7) (λ root0.
    and_then (field seed_from ws 8) (λ root1.
    ended ws 9 (record { kind = kind; width = width; threshold = threshold; payload = amount; root0 = root0; root1 = root1 }))))))))

-- at POINT
abbrev pub point_of : List (List ℕ) → Result ℕ Fault
point_of ws = and_then (field (decimal_of 4294967295) ws 2) (λ point. ended ws 3 point)

-- word number n as a number of 32 bits
abbrev pub short_field : List (List ℕ) → ℕ → Result ℕ Fault
short_field ws n = field (decimal_of 4294967295) ws n

-- word number n as a number of 8 bits
abbrev pub byte_field : List (List ℕ) → ℕ → Result ℕ Fault
byte_field ws n = field (decimal_of 255) ws n

-- MASK MASK2
abbrev pub two_masks_of : List (List ℕ) → Result (ℕ × ℕ) Fault
two_masks_of ws = and_then (short_field ws 5) (λ mask. and_then (short_field ws 6) (λ mask2. ended ws 7 (mask, mask2)))

-- MASK BY WORDS
abbrev pub shift_of : List (List ℕ) → Result (ℕ × ℕ × List ℕ) Fault
shift_of ws =
    and_then (short_field ws 5) (λ mask.
    and_then (byte_field ws 6) (λ by.
    and_then (field (random_words_of 10) ws 7) (λ random.
    ended ws 8 (mask, by, random))))

-- the words from number 5 on
abbrev pub body_of : GateName → List (List ℕ) → Result GateBody Fault
-- MASK LOW HIGH C0,C1,C2,C3 WORDS
body_of Piece ws =
    and_then (short_field ws 5) (λ mask.
    and_then (short_field ws 6) (λ low.
    and_then (short_field ws 7) (λ high.
    and_then (field coefficients_of ws 8) (λ coefficients.
    and_then (field (random_words_of 14) ws 9) (λ random.
    ended ws 10 (gate.Piece mask low high coefficients random))))))
-- MASK LOW HIGH PATTERN WORDS
body_of Flag ws =
    and_then (short_field ws 5) (λ mask.
    and_then (short_field ws 6) (λ low.
    and_then (short_field ws 7) (λ high.
    and_then (short_field ws 8) (λ pattern.
    and_then (field (random_words_of 8) ws 9) (λ random.
    ended ws 10 (gate.Flag mask low high pattern random))))))
body_of Shift ws = and_then (shift_of ws) (λ s. Ok (gate.Shift s.0 s.1 s.2))
body_of Signed ws = and_then (shift_of ws) (λ s. Ok (gate.Signed s.0 s.1 s.2))
-- MASK MASK2 WORDS
body_of Product ws =
    and_then (short_field ws 5) (λ mask.
    and_then (short_field ws 6) (λ mask2.
    and_then (field (random_words_of 4) ws 7) (λ random.
    ended ws 8 (gate.Product mask mask2 random))))
body_of Sum ws = and_then (two_masks_of ws) (λ m. Ok (gate.Sum m.0 m.1))
-- MASK C D
body_of Scale ws =
    and_then (short_field ws 5) (λ mask.
    and_then (short_field ws 6) (λ c.
    and_then (short_field ws 7) (λ d.
    ended ws 8 (gate.Scale mask c d))))
body_of Xor ws = and_then (two_masks_of ws) (λ m. Ok (gate.Xor m.0 m.1))

-- gate KIND GATE WIDTH and what the gate takes
abbrev pub gate_of : List (List ℕ) → Result GateOrder Fault
gate_of ws =
    and_then (field kind_of ws 2) (λ kind.
    and_then (field gate_name_of ws 3) (λ name.
    and_then (byte_field ws 4) (λ width.
    and_then (body_of name ws) (λ body. Ok (record { kind = kind; width = width; body = body })))))

-- hold M, or hold M K
abbrev pub hold_of : List (List ℕ) → Result Order Fault
hold_of ws =
    and_then (short_field ws 2) (λ m.
    cond (length (nth ws 3) == 0) (Ok (Hold m None))
    (and_then (short_field ws 3) (λ k. ended ws 4 (Hold m (Some k)))))

-- nothing, or a comment
abbrev pub idle : List ℕ → Bool
idle [] = true
idle (b ∷ bs) = b == 35

abbrev pub order_of : List (List ℕ) → Result Order Fault
order_of ws =
    cond (idle (nth ws 1)) (Ok Nothing)
    (cond (bytes_eq (nth ws 1) (codes "deal")) (and_then (deal_of ws) (λ order. Ok (Deal order)))
    (cond (bytes_eq (nth ws 1) (codes "at")) (and_then (point_of ws) (λ point. Ok (At point)))
    (cond (bytes_eq (nth ws 1) (codes "gate")) (and_then (gate_of ws) (λ order. Ok (Gate order)))
    (cond (bytes_eq (nth ws 1) (codes "hold")) (hold_of ws)
    (Err (fault UnknownOrder 1))))))

abbrev pub parsed : List ℕ → Result Order Fault
parsed line = order_of (words line)
