-- A book's bytes: a header, contents, and the body of each wire.
use Rattle.std.specs.Prelude.{ℕ, ◌+◌, ◌*◌, List, [], ◌∷◌, ◌++◌, length}
use Rattle.stored.specs.Forms.{four_bytes}
use Rattle.layout.specs.Bytes.{joined}

-- what a header states beside the lengths
pub record Header : Type 0 where
  pub box : ℕ
  pub kind : ℕ
  pub width : ℕ
  pub deal : ℕ
  pub inputs : ℕ
  pub gates : ℕ

abbrev pub wire_count : Header → ℕ
wire_count h = h.inputs + h.gates

-- where the bodies begin
abbrev pub bodies_start : Header → ℕ
bodies_start h = 16 + 8 * wire_count h

-- edition 1, box, expander kind, width, deal number, inputs, gates, two zeros, book length
abbrev pub header_bytes : Header → ℕ → List ℕ
header_bytes h long =
    (1 ∷ h.box ∷ h.kind ∷ h.width ∷ [])
    ++ (four_bytes h.deal ++ ((h.inputs ∷ h.gates ∷ 0 ∷ 0 ∷ []) ++ four_bytes long))

module _ (h : Header) (body : ℕ → List ℕ) where
  -- where the body of wire k begins
  abbrev pub offset : ℕ → ℕ
  offset k = bodies_start h + length (joined body k)

  -- a wire's place in the contents: offset and length of its body
  abbrev pub entry_bytes : ℕ → List ℕ
  entry_bytes k = four_bytes (offset k) ++ four_bytes (length (body k))

  abbrev pub book_length : ℕ
  book_length = offset (wire_count h)

  -- the book whose wire k has the body `body k`
  abbrev pub laid_out : List ℕ
  laid_out = header_bytes h book_length ++ (joined entry_bytes (wire_count h) ++ joined body (wire_count h))
