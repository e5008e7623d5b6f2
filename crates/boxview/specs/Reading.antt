-- What a box's book says of its wires, as the laws over runs read it.
use Rattle.std.specs.Prelude.{◌≡◌, ℕ, ◌^◌, Bool, true, false, cond, List, [], ◌∷◌, length, Some, None, Option, ◌==◌, nat_lt, slice_index}
use Rattle.expander.specs.Meaning.{Expansion}
use Rattle.expander.specs.declared.Seed.{Seed}
use Rattle.key.specs.declared.Row.{Row}
use Rattle.key.specs.declared.BoxNumber.{BoxNumber}
use Rattle.key.specs.declared.BoxNumber.TheVariants.{Zero}
use Rattle.shares.specs.Local.{sum_of, scale_of, xor_of}
use Rattle.runs.specs.Plans.{Wiring, Deal, is_gate}
use Rattle.layout.specs.Keys.{Compared}
use Rattle.layout.specs.Wires as wire
use Rattle.layout.specs.Wires.{Gate, gate_key_bytes}
use Rattle.layout.specs.Books.{wire_count}
use Rattle.bodies.specs.declared.WireBody.{WireBody}
use Rattle.bodies.specs.declared.WireBody.TheVariants as body
use Rattle.plan.specs.Gates.{GateHead, gives_flag, reads, is_keyed}
use Rattle.plan.specs.declared.gates.Gate.TheVariants.{Sum, Scale, Product, Piece, Flag, Shift, SignedShift, Xor}
use Rattle.bodies.specs.Bodies.{head_in, key_in}
use Rattle.bodies.specs.Allowed.{head, key_allowed}
use Rattle.reader.specs.Reading.{header_in, body_in, wire_in}
use Rattle.boxview.specs.Values.{values, box_of}
use Rattle.boxview.specs.Sharing.{gate_share}

-- what stands for a wire that is not there
abbrev pub no_wire : WireBody
no_wire = body.Gate None (Sum 0 0)

abbrev pub or_none : Option WireBody → WireBody
or_none None = no_wire
or_none (Some w) = w

-- what the book says of wire k
abbrev pub wire_of : List ℕ → ℕ → WireBody
wire_of book k = cond (nat_lt k (wire_count (header_in book))) (or_none (wire_in book k)) no_wire

abbrev pub owner_of : WireBody → BoxNumber
owner_of (body.Input owner mask) = box_of owner
owner_of (body.Gate shown g) = Zero

-- the held value of a local gate, from the held values that it reads
abbrev pub head_local : ℕ → GateHead → List ℕ → ℕ
head_local n (Sum a b) hs = sum_of (2 ^ n) (slice_index hs 0) (slice_index hs 1)
head_local n (Scale a c d) hs = scale_of (2 ^ n) c d (slice_index hs 0)
head_local n (Product a b) hs = 0
head_local n (Piece a p q _) hs = 0
head_local n (Flag a p q _) hs = 0
head_local n (Shift a s) hs = 0
head_local n (SignedShift a s) hs = 0
head_local n (Xor a b) hs = xor_of (slice_index hs 0) (slice_index hs 1)

-- an input reads nothing, has no key and is not shown
abbrev pub reads_of : WireBody → List ℕ
reads_of (body.Input owner mask) = []
reads_of (body.Gate shown g) = reads g

abbrev pub keyed_of : WireBody → Bool
keyed_of (body.Input owner mask) = false
keyed_of (body.Gate shown g) = is_keyed g

abbrev pub given : Option ℕ → Bool
given None = false
given (Some m) = true

abbrev pub shown_of : WireBody → Bool
shown_of (body.Input owner mask) = false
shown_of (body.Gate shown g) = given shown

abbrev pub flag_of : WireBody → Bool
flag_of (body.Input owner mask) = false
flag_of (body.Gate shown g) = gives_flag g

abbrev pub number_or_zero : Option ℕ → ℕ
number_or_zero None = 0
number_or_zero (Some m) = m

-- the mask where the book has it, otherwise 0
abbrev pub mask_of : WireBody → ℕ
mask_of (body.Input owner mask) = number_or_zero mask
mask_of (body.Gate shown g) = number_or_zero shown

abbrev pub local_of : ℕ → WireBody → List ℕ → ℕ
local_of n (body.Input owner mask) hs = 0
local_of n (body.Gate shown g) hs = head_local n g hs

-- the wires of a book; what gates mean on plain values stands in no book
abbrev pub wiring_in : List ℕ → Wiring
wiring_in book = record {
  inputs = (header_in book).inputs;
  gates = (header_in book).gates;
  owner = λ k. owner_of (wire_of book k);
  reads = λ k. reads_of (wire_of book k);
  keyed = λ k. keyed_of (wire_of book k);
  shown = λ k. shown_of (wire_of book k);
  group = λ k. values (header_in book).width (flag_of (wire_of book k));
  meaning = λ k vs. 0;
}

-- the deal as one box knows it: its number, the masks in its book, and its shares
abbrev pub deal_in : List ℕ → (ℕ → List ℕ → ℕ) → Deal
deal_in book share = record {
  number = (header_in book).deal;
  mask = λ k. mask_of (wire_of book k);
  locally = λ k hs. local_of (header_in book).width (wire_of book k) hs;
  share = λ b k hs. share k hs;
}

-- seeds of 16 bytes
abbrev pub WholeSeed : Seed → Type 0
WholeSeed s = length s.bytes ≡ 16

abbrev pub WholeRows : {M : Type 0} → List (Row M) → Type 0
WholeRows [] = Unit {0}
WholeRows (r ∷ rs) = WholeSeed r.word × WholeRows rs

abbrev pub WholeKey : {M : Type 0} → Compared M → Type 0
WholeKey k = WholeSeed k.root × WholeRows k.rows

abbrev pub WholeGate : Gate → Type 0
WholeGate (wire.sum a b) = Unit {0}
WholeGate (wire.scale a c d) = Unit {0}
WholeGate (wire.product a b x y z) = Unit {0}
WholeGate (wire.piece a p q k β e o) = WholeKey k
WholeGate (wire.flag a p q k β e o) = WholeKey k
WholeGate (wire.shift a s l h r) = WholeKey l × WholeKey h
WholeGate (wire.signed_shift a s l h r) = WholeKey l × WholeKey h
WholeGate (wire.xor a b) = Unit {0}

-- wire k is a gate's, and its body in the book is that of the gate g
pub record HoldsGate (book : List ℕ) (k : ℕ) (g : Gate) : Type 0 where
  pub place : is_gate (wiring_in book) k ≡ true
  pub names : head_in (body_in book k) ≡ Some (head g)
  pub key : gate_key_bytes g ≡ key_in (body_in book k) (head g)
  pub rows : key_allowed (header_in book).width g
  pub whole : WholeGate g

-- `share` gives a box's shares: at every wire that of the gate that the book holds
abbrev pub SharesOf : Expansion → List ℕ → (ℕ → List ℕ → ℕ) → Type 0
SharesOf x book share =
    (k : ℕ) (g : Gate) → HoldsGate book k g → (hs : List ℕ)
    → share k hs ≡ gate_share x (header_in book).width ((header_in book).box == 1) g hs
