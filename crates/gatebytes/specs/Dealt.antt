-- What the dealer gives a box of each gate: its comparison keys and its parts of what is split.
use Rattle.std.specs.Prelude.{ℕ, ◌%◌, ◌^◌, Bool, cond, List, slice_index}
use Rattle.expander.specs.Meaning.{Expansion}
use Rattle.expander.specs.declared.Seed.{Seed}
use Rattle.group.specs.Groups.{OutputGroup}
use Rattle.group.specs.Residues.{Residue}
use Rattle.group.specs.Flags.{flags}
use Rattle.dealing.specs.Dealing.{start, dealt_rows, dealt_last}
use Rattle.interval.specs.Interval.{threshold, extra}
use Rattle.shares.specs.Words.{Word, word, words, Quad, quads, flag_word}
use Rattle.shares.specs.Splits.{part_of_number, part_of_flags, part_of_element}
use Rattle.shares.specs.Product.{part_a, part_b, part_c}
use Rattle.shares.specs.Shifts.{low_threshold, low_payload, high_threshold, high_payload, shift_rest}
use Rattle.gates.specs.Piece.{piece_draws, payload_of}
use Rattle.gates.specs.Flag.{flag_draws}
use Rattle.gates.specs.Shift.{low_root0, low_root1, high_root0, high_root1}
use Rattle.plan.specs.Gates.{GateBody}
use Rattle.plan.specs.declared.gates.Gate.TheVariants.{Sum, Scale, Product, Piece, Flag, Shift, SignedShift, Xor}
use Rattle.layout.specs.Keys.{Compared}
use Rattle.layout.specs.Wires as wire
use Rattle.layout.specs.Wires.{Gate}

module _ (x : Expansion) (n : ℕ) (one : Bool) where
  -- a box's comparison key with so many rows, for a threshold and a payload, from both roots
  abbrev pub compared : {M : Type 0} → OutputGroup M → ℕ → ℕ → M → Seed → Seed → Compared M
  compared g rows α β root0 root1 = record {
    root = cond one root1 root0;
    rows = dealt_rows x g β α rows (start g root0 root1);
    last = dealt_last x g β α rows (start g root0 root1);
  }

  -- a shift's low key on s bits and its high key on n bits, for the mask r and the gate's words w
  abbrev pub low_key : ℕ → ℕ → List ℕ → Compared Word
  low_key s r w = compared words s (low_threshold (2 ^ s) r) (word low_payload) (low_root0 w) (low_root1 w)

  abbrev pub high_key : ℕ → ℕ → List ℕ → Compared Word
  high_key s r w = compared words n (high_threshold r) (word (high_payload (2 ^ n) (2 ^ s))) (high_root0 w) (high_root1 w)

  -- a box's part of a shift's rest
  abbrev pub rest_part : ℕ → ℕ → List ℕ → ℕ
  rest_part s r w = part_of_number one (2 ^ n) (shift_rest (2 ^ n) (2 ^ s) r (slice_index w 0 % 2 ^ n)) (slice_index w 9)

  -- a gate from the table of masks ms and the gate's own random words w; word 0 is its output mask
  abbrev pub dealt_gate : List ℕ → List ℕ → GateBody → Gate
  dealt_gate ms w (Sum a b) = wire.sum a b
  dealt_gate ms w (Scale a c d) = wire.scale a c d
  dealt_gate ms w (Product a b) =
      wire.product a b (part_a one (2 ^ n) (slice_index ms a) (slice_index w 1)) (part_b one (2 ^ n) (slice_index ms b) (slice_index w 2))
      (part_c one (2 ^ n) (slice_index ms a) (slice_index ms b) (slice_index w 0 % 2 ^ n) (slice_index w 3))
  dealt_gate ms w (Piece a p q c) =
      let r : ℕ = slice_index ms a in
      let β : Quad = payload_of r c in
      wire.piece a p q (compared quads n (threshold (2 ^ n) r) β (piece_draws w).roots.zero (piece_draws w).roots.one)
      (part_of_element quads one β (piece_draws w).payload1)
      (part_of_element quads one (extra quads (2 ^ n) r p q β) (piece_draws w).extra1)
      (part_of_number one (2 ^ n) (slice_index w 0 % 2 ^ n) (slice_index w 13))
  dealt_gate ms w (Flag a p q t) =
      let r : ℕ = slice_index ms a in
      let β : Residue (2 ^ 32) = flag_word t in
      wire.flag a p q (compared flags n (threshold (2 ^ n) r) β (flag_draws w).roots.zero (flag_draws w).roots.one)
      (part_of_element flags one β (flag_draws w).payload1)
      (part_of_element flags one (extra flags (2 ^ n) r p q β) (flag_draws w).extra1)
      (part_of_flags one (slice_index w 0 % 2 ^ 32) (slice_index w 7))
  dealt_gate ms w (Shift a s) =
      let r : ℕ = slice_index ms a in wire.shift a s (low_key s r w) (high_key s r w) (rest_part s r w)
  dealt_gate ms w (SignedShift a s) =
      let r : ℕ = slice_index ms a in wire.signed_shift a s (low_key s r w) (high_key s r w) (rest_part s r w)
  dealt_gate ms w (Xor a b) = wire.xor a b
