-- The lines about plans and books: what each word must be. The first fault, in the order of the words, decides.
use Rattle.std.specs.Prelude.{ℕ, ◌+◌, ◌*◌, ◌/◌, ◌%◌, Bool, true, false, cond, List, [], ◌∷◌, length, Ok, Err, Some, None, codes, Option, Result, ◌==◌, nat_lt, slice_index}
use Rattle.std.specs.Option.{option_transpose}
use Rattle.std.specs.Str.{bytes_eq}
use Rattle.orders.specs.declared.types.Fault.{Fault}
use Rattle.orders.specs.declared.types.GateName.{GateName}
use Rattle.orders.specs.declared.types.GateName.TheVariants.{Piece, Flag, Shift, Signed, Product, Sum, Scale, Xor}
use Rattle.orders.specs.declared.types.Wrong.{Wrong}
use Rattle.orders.specs.declared.types.Wrong.TheVariants.{NotHex}
use Rattle.orders.specs.Grammar.{and_then, field, short_field, byte_field, numbered, ended, kind_of, gate_name_of, coefficients_of}
use Rattle.orders.specs.Text.{pieces, words, nth, decimal_of, hex_of, byte_of}
use Rattle.plan.specs.Gates.{GateBody}
use Rattle.plan.specs.declared.gates.Gate.TheVariants as gate
use Rattle.planlines.specs.declared.types.PlanLine.{PlanLine}
use Rattle.planlines.specs.declared.types.PlanLine.TheVariants.{Begin, Gate, Words, Books, Book}

-- whether all can be read, or what is wrong with the first that cannot
abbrev pub all_read : {A : Type 0} → (A → Result ℕ Wrong) → List A → Result Unit Wrong
all_read read [] = Ok tt
all_read read (x ∷ xs) = and_then (read x) (λ number. all_read read xs)

-- how many numbers there are, with commas between them
abbrev pub numbers_in : ℕ → List ℕ → Result ℕ Wrong
numbers_in most w = and_then (all_read (decimal_of most) (pieces 44 w)) (λ all. Ok (length (pieces 44 w)))

-- how many bytes are written in hex, two digits to a byte
abbrev pub hex_in : List ℕ → Result ℕ Wrong
hex_in w = and_then (all_read hex_of w) (λ all. cond (length w % 2 == 0) (Ok (length w / 2)) (Err NotHex))

-- byte i; 0 past the end
abbrev pub hex_byte : List ℕ → ℕ → ℕ
hex_byte w i = cond (nat_lt i (length w / 2)) (byte_of (slice_index w (2 * i)) (slice_index w (2 * i + 1))) 0

-- owners, none where the word is missing
abbrev pub owners_field : List (List ℕ) → ℕ → Result ℕ Fault
owners_field ws n = cond (length (nth ws n) == 0) (Ok 0) (numbered n (numbers_in 255 (nth ws n)))

-- the length of the buffer, that of the longest book where the word is missing
abbrev pub room_field : List (List ℕ) → ℕ → Result ℕ Fault
room_field ws n = cond (length (nth ws n) == 0) (Ok 54880) (field (decimal_of 54880) ws n)

-- bytes in hex, none where the word is missing
abbrev pub hex_field : List (List ℕ) → ℕ → Result ℕ Fault
hex_field ws n = numbered n (hex_in (nth ws n))

-- plan WIDTH, or plan WIDTH OWNERS
abbrev pub begin_of : List (List ℕ) → Result PlanLine Fault
begin_of ws = and_then (byte_field ws 2) (λ width. and_then (owners_field ws 3) (λ owners. ended ws 4 (Begin width owners)))

-- two bytes
abbrev pub two_bytes_of : List (List ℕ) → Result (ℕ × ℕ) Fault
two_bytes_of ws = and_then (byte_field ws 3) (λ a. and_then (byte_field ws 4) (λ b. ended ws 5 (a, b)))

-- what a gate takes: the words from number 3 on
abbrev pub body_of : GateName → List (List ℕ) → Result GateBody Fault
-- A B
body_of Sum ws = and_then (two_bytes_of ws) (λ n. Ok (gate.Sum n.0 n.1))
-- A C D
body_of Scale ws =
    and_then (byte_field ws 3) (λ a.
    and_then (short_field ws 4) (λ c.
    and_then (short_field ws 5) (λ d.
    ended ws 6 (gate.Scale a c d))))
-- A B
body_of Product ws = and_then (two_bytes_of ws) (λ n. Ok (gate.Product n.0 n.1))
-- A P Q C0,C1,C2,C3
body_of Piece ws =
    and_then (byte_field ws 3) (λ a.
    and_then (short_field ws 4) (λ p.
    and_then (short_field ws 5) (λ q.
    and_then (field coefficients_of ws 6) (λ c.
    ended ws 7 (gate.Piece a p q c)))))
-- A P Q PATTERN
body_of Flag ws =
    and_then (byte_field ws 3) (λ a.
    and_then (short_field ws 4) (λ p.
    and_then (short_field ws 5) (λ q.
    and_then (short_field ws 6) (λ pattern.
    ended ws 7 (gate.Flag a p q pattern)))))
-- A S
body_of Shift ws = and_then (two_bytes_of ws) (λ n. Ok (gate.Shift n.0 n.1))
-- A S
body_of Signed ws = and_then (two_bytes_of ws) (λ n. Ok (gate.SignedShift n.0 n.1))
-- A B
body_of Xor ws = and_then (two_bytes_of ws) (λ n. Ok (gate.Xor n.0 n.1))

-- hidden GATE .. or shown GATE ..
abbrev pub row_of : Bool → List (List ℕ) → Result PlanLine Fault
row_of shown ws =
    and_then (field gate_name_of ws 2) (λ name.
    and_then (body_of name ws) (λ body. Ok (Gate (record { shown = shown; body = body }))))

-- words W,W,..
abbrev pub words_of : List (List ℕ) → Result PlanLine Fault
words_of ws = and_then (field (numbers_in 18446744073709551615) ws 2) (λ count. ended ws 3 (Words count))

-- books KIND DEAL, or books KIND DEAL ROOM; outline is read alike
abbrev pub books_of : Bool → List (List ℕ) → Result PlanLine Fault
books_of whole ws =
    and_then (field kind_of ws 2) (λ kind.
    and_then (short_field ws 3) (λ deal.
    and_then (room_field ws 4) (λ room.
    ended ws 5 (Books kind deal room whole))))

-- book KIND, or book KIND HEX
abbrev pub book_of : List (List ℕ) → Result PlanLine Fault
book_of ws = and_then (field kind_of ws 2) (λ kind. and_then (hex_field ws 3) (λ bytes. ended ws 4 (Book kind bytes)))

-- what a line says, by its first word; nothing, where it is none of these lines
abbrev pub said_of : List ℕ → List (List ℕ) → Option (Result PlanLine Fault)
said_of w ws =
    cond (bytes_eq w (codes "plan")) (Some (begin_of ws))
    (cond (bytes_eq w (codes "hidden")) (Some (row_of false ws))
    (cond (bytes_eq w (codes "shown")) (Some (row_of true ws))
    (cond (bytes_eq w (codes "words")) (Some (words_of ws))
    (cond (bytes_eq w (codes "books")) (Some (books_of true ws))
    (cond (bytes_eq w (codes "outline")) (Some (books_of false ws))
    (cond (bytes_eq w (codes "book")) (Some (book_of ws))
    None))))))

abbrev pub line_of : List (List ℕ) → Result (Option PlanLine) Fault
line_of ws = option_transpose (said_of (nth ws 1) ws)

abbrev pub parsed : List ℕ → Result (Option PlanLine) Fault
parsed line = line_of (words line)
