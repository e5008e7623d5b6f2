-- The questions about a book, for a box whose expander has one kind.
use Rattle.std.specs.Prelude.{ℕ, zero, suc, ◌+◌, ◌*◌, Bool, false, cond, ◌&&◌, List, [], ◌∷◌, length, Some, None, Option, Result, ◌==◌, nat_le, nat_lt, slice_index}
use Rattle.std.specs.List.{list_all, range_with_len}
use Rattle.refusal.specs.declared.Refusal.{Refusal}
use Rattle.refusal.specs.declared.Refusal.TheVariants.{BookLength, BookHeader, BookKind, BookCounts, BookContents, BookBodies}
use Rattle.refusal.specs.Questions.{answered}
use Rattle.plan.specs.Questions.{within}
use Rattle.layout.specs.Bytes.{number_at}
use Rattle.layout.specs.Books.{wire_count, bodies_start}
use Rattle.plan.specs.Gates.{GateHead}
use Rattle.bodies.specs.Heads.{reads_fit}
use Rattle.bodies.specs.Bodies.{head_in, gate_fits, input_fits}
use Rattle.reader.specs.Reading.{header_in, body_in, flag_in}

-- has the book 16 bytes or more, and the length that it states?
abbrev pub length_fits : List ℕ → Bool
length_fits book = nat_le 16 (length book) && number_at book 12 == length book

-- is the edition 1, the box 0 or 1, and each reserved byte 0?
abbrev pub header_fits : List ℕ → Bool
header_fits book = slice_index book 0 == 1 && (nat_lt (slice_index book 1) 2 && (slice_index book 10 == 0 && slice_index book 11 == 0))

-- are the width and the counts allowed?
abbrev pub counts_fit : List ℕ → Bool
counts_fit book = within 1 32 (slice_index book 3) && (within 1 16 (slice_index book 8) && within 1 32 (slice_index book 9))

-- does the body of wire k begin at `at`, and end within the book?
abbrev pub entry_fits : List ℕ → ℕ → ℕ → Bool
entry_fits book k at = number_at book (16 + 8 * k) == at && nat_le (at + number_at book (20 + 8 * k)) (length book)

-- where it ends then
abbrev pub body_end : List ℕ → ℕ → ℕ → Option ℕ
body_end book k at =
    cond (nat_le (24 + 8 * k) (length book) && entry_fits book k at) (Some (at + number_at book (20 + 8 * k))) None

-- does each of the n bodies from wire k on begin where the one before ends, the first at `at`, and the last end the book?
abbrev pub gapless : List ℕ → ℕ → ℕ → ℕ → Bool
gapless book zero k at = at == length book
gapless book (suc n) k at = entry_fits book k at && gapless book n (k + 1) (at + number_at book (20 + 8 * k))

-- are the contents whole, and the bodies without gaps to the end?
abbrev pub contents_fit : List ℕ → Bool
contents_fit book =
    nat_le (bodies_start (header_in book)) (length book)
    && gapless book (wire_count (header_in book)) 0 (bodies_start (header_in book))

-- does the gate of wire k read lower wires of the right kind?
abbrev pub reads_in : List ℕ → ℕ → Option GateHead → Bool
reads_in book k None = false
reads_in book k (Some g) = reads_fit (flag_in book) k g

-- is the body of wire k of its layout, and are its fields allowed?
abbrev pub wire_fits : List ℕ → ℕ → Bool
wire_fits book k =
    cond (nat_lt k (slice_index book 8))
    (input_fits (slice_index book 1) (slice_index book 3) (body_in book k))
    (gate_fits (slice_index book 3) (body_in book k) && reads_in book k (head_in (body_in book k)))

-- the n wires from wire k on
abbrev pub wires_fit : List ℕ → ℕ → ℕ → Bool
wires_fit book n k = list_all (wire_fits book) (range_with_len k n)

-- the questions 11 to 16
abbrev pub book_asks : ℕ → List ℕ → List (Bool × Refusal)
book_asks kind book =
    (length_fits book, BookLength)
    ∷ (header_fits book, BookHeader)
    ∷ ((slice_index book 2 == kind), BookKind)
    ∷ (counts_fit book, BookCounts)
    ∷ (contents_fit book, BookContents)
    ∷ (wires_fit book (wire_count (header_in book)) 0, BookBodies)
    ∷ []

-- what a box answers
abbrev pub book_answer : ℕ → List ℕ → Result Unit Refusal
book_answer kind book = answered (book_asks kind book) tt
