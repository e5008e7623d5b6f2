-- Which lists of bytes are books, and that the questions tell them exactly.
use Rattle.std.specs.Prelude.{◌≡◌, ℕ, ◌^◌, ◌<◌, ◌≤◌, Bool, true, false, List, Ok, Result}
use Rattle.refusal.specs.declared.Refusal.{Refusal}
use Rattle.layout.specs.Wires.{Wire, input, gate, wire_bytes}
use Rattle.layout.specs.Books.{Header, wire_count, laid_out}
use Rattle.bodies.specs.Heads.{gives_flag, reads_fit}
use Rattle.bodies.specs.Allowed.{head, GateAllowed, input_allowed}

-- does a wire carry flags?
abbrev pub flag_wire : Wire → Bool
flag_wire (input owner mask) = false
flag_wire (gate shown g) = gives_flag (head g)

-- what the header of a book may state, for a box whose expander has this kind
pub record HeaderAllowed (kind : ℕ) (h : Header) : Type 0 where
  pub box : h.box < 2
  pub own : h.kind ≡ kind
  pub width : (1 ≤ h.width) × (h.width ≤ 32)
  pub deal : h.deal < 2 ^ 32
  pub inputs : (1 ≤ h.inputs) × (h.inputs ≤ 16)
  pub gates : (1 ≤ h.gates) × (h.gates ≤ 32)

-- what a book may say of wire k: an input first, then gates that read lower wires of the right kind
abbrev pub wire_allowed : Header → (ℕ → Bool) → ℕ → Wire → Type 0
wire_allowed h is_flag k (input owner mask) = (k < h.inputs) × input_allowed h.box h.width owner mask
wire_allowed h is_flag k (gate shown g) = (h.inputs ≤ k) × GateAllowed h.width shown g × (reads_fit is_flag k (head g) ≡ true)

-- a header and wires that are allowed, and the book laid out from them
pub record BookOf (kind : ℕ) (book : List ℕ) : Type 0 where
  pub header : Header
  pub wires : ℕ → Wire
  pub stated : HeaderAllowed kind header
  pub allowed : (k : ℕ) → k < wire_count header → wire_allowed header (λ j. flag_wire (wires j)) k (wires k)
  pub laid : book ≡ laid_out header (λ k. wire_bytes (wires k))

-- an answer tells books: it is yes exactly for them
abbrev pub Tells : ℕ → List ℕ → Result Unit Refusal → Type 0
Tells kind book answer = (answer ≡ Ok tt → BookOf kind book) × (BookOf kind book → answer ≡ Ok tt)
