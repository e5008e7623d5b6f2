-- What a reader finds in a book: its header, the body of each wire, and what that says.
use Rattle.std.specs.Prelude.{ℕ, ◌+◌, ◌*◌, Bool, cond, not, ◌&&◌, ◌||◌, List, [], length, Some, Option, ◌==◌, nat_le, nat_lt, slice_index}
use Rattle.layout.specs.Bytes.{number_at}
use Rattle.layout.specs.Wires.{Wire, input, gate}
use Rattle.layout.specs.Books.{Header}
use Rattle.bodies.specs.declared.WireBody.{WireBody}
use Rattle.bodies.specs.declared.WireBody.TheVariants.{Input, Gate}
use Rattle.bodies.specs.Parts.{part}
use Rattle.bodies.specs.Bodies.{gate_in, input_in}
use Rattle.bodies.specs.Allowed.{head}
use Rattle.reader.specs.declared.BookHeader.{BookHeader}

abbrev pub header_in : List ℕ → Header
header_in book = record {
  box = slice_index book 1;
  kind = slice_index book 2;
  width = slice_index book 3;
  deal = number_at book 4;
  inputs = slice_index book 8;
  gates = slice_index book 9;
}

-- a header that was read, as the layout has it
abbrev pub headed : BookHeader → Header
headed h = record {
  box = h.number;
  kind = h.kind;
  width = h.width;
  deal = h.deal;
  inputs = h.inputs;
  gates = h.gates;
}

-- the body of wire k, where its entry in the contents says; nothing where either is not whole
abbrev pub body_in : List ℕ → ℕ → List ℕ
body_in book k =
    cond (nat_le (24 + 8 * k) (length book)) (part book (number_at book (16 + 8 * k)) (number_at book (20 + 8 * k))) []

-- does a gate of this kind byte give flags?
abbrev pub flag_kind : ℕ → Bool
flag_kind kind = kind == 5 || kind == 8

-- does wire k carry flags?
abbrev pub flag_in : List ℕ → ℕ → Bool
flag_in book k = not (nat_lt k (slice_index book 8)) && flag_kind (slice_index (body_in book k) 0)

-- what the body of wire k says
abbrev pub wire_in : List ℕ → ℕ → Option WireBody
wire_in book k = cond (nat_lt k (slice_index book 8)) (Some (input_in (slice_index book 1) (body_in book k))) (gate_in (body_in book k))

-- what is to be read of a wire
abbrev pub said : Wire → WireBody
said (input owner mask) = Input owner mask
said (gate shown g) = Gate shown (head g)
