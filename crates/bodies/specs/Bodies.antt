-- What a reader finds in the body of a wire, and whether it is of its layout with allowed fields.
use Rattle.std.specs.Prelude.{ℕ, zero, suc, ◌+◌, ◌*◌, Bool, true, false, cond, ◌&&◌, List, length, drop, Some, None, Option, ◌==◌, nat_le, nat_lt, slice_index}
use Rattle.plan.specs.Questions.{below}
use Rattle.layout.specs.Bytes.{number_at}
use Rattle.plan.specs.Gates.{GateHead}
use Rattle.plan.specs.declared.gates.Gate.TheVariants.{Sum, Scale, Product, Piece, Flag, Shift, SignedShift, Xor}
use Rattle.bodies.specs.declared.WireBody.{WireBody}
use Rattle.bodies.specs.declared.WireBody.TheVariants.{Input, Gate}
use Rattle.bodies.specs.Heads.{head_of, gives_flag, numbers_fit, parameters_long, compared_long, key_long}

-- a mask where it is given
abbrev pub when : Bool → ℕ → Option ℕ
when given m = cond given (Some m) None

-- a shown gate's mask
abbrev pub shown_in : List ℕ → Option ℕ
shown_in body = when (slice_index body 3 == 1) (number_at body 4)

-- what follows the mask: parameters and key
abbrev pub rest_in : List ℕ → List ℕ
rest_in body = drop (4 + 4 * slice_index body 3) body

abbrev pub head_in : List ℕ → Option GateHead
head_in body = head_of (slice_index body 0) (slice_index body 1) (slice_index body 2) (rest_in body)

-- the bytes of the gate's key
abbrev pub key_in : List ℕ → GateHead → List ℕ
key_in body g = drop (parameters_long g) (rest_in body)

-- a gate's body, where its kind is known
abbrev pub gate_of : Option ℕ → Option GateHead → Option WireBody
gate_of shown None = None
gate_of shown (Some g) = Some (Gate shown g)

abbrev pub gate_in : List ℕ → Option WireBody
gate_in body = gate_of (shown_in body) (head_in body)

-- an input's body in the book of box b
abbrev pub input_in : ℕ → List ℕ → WireBody
input_in b body = Input (slice_index body 0) (when (slice_index body 0 == b) (number_at body 1))

-- is the byte of bits at most 3 in each of n rows from `at` on, whose elements have so many bytes?
abbrev pub rows_fit : ℕ → List ℕ → ℕ → ℕ → Bool
rows_fit size key zero at = true
rows_fit size key (suc n) at = nat_le (slice_index key (at + 16)) 3 && rows_fit size key n (at + (17 + size))

-- a shift's rows, of the low and the high key, and its share
abbrev pub shift_key_fits : ℕ → ℕ → List ℕ → Bool
shift_key_fits n s key =
    rows_fit 8 key s 16
    && (rows_fit 8 key n (compared_long 8 s + 16) && below n (number_at key (compared_long 8 s + compared_long 8 n)))

-- are a key's bits at most 3 and its shares below N? Words and flags are free
abbrev pub key_fits : ℕ → GateHead → List ℕ → Bool
key_fits n (Sum a b) key = true
key_fits n (Scale a c d) key = true
key_fits n (Product a b) key = below n (number_at key 0) && (below n (number_at key 4) && below n (number_at key 8))
key_fits n (Piece a p q _) key = rows_fit 32 key n 16 && below n (number_at key (compared_long 32 n + 64))
key_fits n (Flag a p q _) key = rows_fit 4 key n 16
key_fits n (Shift a s) key = shift_key_fits n s key
key_fits n (SignedShift a s) key = shift_key_fits n s key
key_fits n (Xor a b) key = true

-- is the mask of a number wire below N? That of a flag wire is free
abbrev pub mask_fits : ℕ → Bool → Option ℕ → Bool
mask_fits n true mask = true
mask_fits n false None = true
mask_fits n false (Some m) = below n m

-- has what follows the mask its length, and are its fields allowed?
abbrev pub rest_fits : ℕ → Option ℕ → Option GateHead → List ℕ → Bool
rest_fits n mask None rest = false
rest_fits n mask (Some g) rest =
    mask_fits n (gives_flag g) mask
    && (numbers_fit n g && (length rest == parameters_long g + key_long n g && key_fits n g (drop (parameters_long g) rest)))

-- is a gate's body of its layout, and are its fields allowed, but for the wires that it reads?
abbrev pub gate_fits : ℕ → List ℕ → Bool
gate_fits n body =
    nat_lt (slice_index body 3) 2
    && (nat_le (4 + 4 * slice_index body 3) (length body) && rest_fits n (shown_in body) (head_in body) (rest_in body))

-- is an input's body of its layout in the book of box b: an owner 0 or 1, and a mask exactly in the owner's book?
abbrev pub input_fits : ℕ → ℕ → List ℕ → Bool
input_fits b n body =
    nat_lt (slice_index body 0) 2
    && cond (slice_index body 0 == b) (length body == 5 && below n (number_at body 1)) (length body == 1)
