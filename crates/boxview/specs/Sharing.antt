-- What a box works out of a gate in its book at held values: its share of a keyed gate, or a local gate's held value.
use Rattle.std.specs.Prelude.{ℕ, ◌^◌, Bool, List, slice_index}
use Rattle.expander.specs.Meaning.{Expansion}
use Rattle.group.specs.Groups.{OutputGroup}
use Rattle.group.specs.Flags.{flags}
use Rattle.evaluation.specs.Evaluation.{evaluated}
use Rattle.interval.specs.Interval.{answer}
use Rattle.shares.specs.Words.{words, quads}
use Rattle.shares.specs.Local.{sum_of, scale_of, xor_of}
use Rattle.shares.specs.Product.{product_share}
use Rattle.shares.specs.Piece.{piece_share_of}
use Rattle.shares.specs.Flag.{flag_share}
use Rattle.shares.specs.Shifts.{low_point, shift_share, signed_held, signed_share}
use Rattle.layout.specs.Keys.{Compared}
use Rattle.layout.specs.Wires.{Gate, sum, scale, product, piece, flag, shift, signed_shift, xor}

module _ (x : Expansion) (n : ℕ) (one : Bool) where
  -- a comparison key's answer at a point
  abbrev pub key_answer : {M : Type 0} → OutputGroup M → Compared M → ℕ → M
  key_answer {M} g k m = evaluated x g (λ (v : M). v) one k.root k.rows k.last m

  -- the box's share of a keyed gate at the held values of the wires that it reads, in their order
  abbrev pub gate_share : Gate → List ℕ → ℕ
  gate_share (sum a b) hs = 0
  gate_share (scale a c d) hs = 0
  gate_share (product a b u v w) hs = product_share one (2 ^ n) (slice_index hs 0) (slice_index hs 1) u v w
  gate_share (piece a p q k β e o) hs =
      piece_share_of (2 ^ n) (slice_index hs 0) (answer quads (2 ^ n) (slice_index hs 0) p q β e (key_answer quads k)) o
  gate_share (flag a p q k β e o) hs = flag_share (answer flags (2 ^ n) (slice_index hs 0) p q β e (key_answer flags k)).0 o
  gate_share (shift a s l h r) hs =
      shift_share one (2 ^ n) (2 ^ s) (slice_index hs 0) (key_answer words l (low_point (2 ^ s) (slice_index hs 0))).0 (key_answer words h (slice_index hs 0)).0 r
  gate_share (signed_shift a s l h r) hs =
      let m : ℕ = signed_held (2 ^ n) (slice_index hs 0) in
      signed_share one (2 ^ n) (2 ^ s) (slice_index hs 0) (key_answer words l (low_point (2 ^ s) m)).0 (key_answer words h m).0 r
  gate_share (xor a b) hs = 0

-- the held value of a local gate
abbrev pub gate_local : ℕ → Gate → List ℕ → ℕ
gate_local n (sum a b) hs = sum_of (2 ^ n) (slice_index hs 0) (slice_index hs 1)
gate_local n (scale a c d) hs = scale_of (2 ^ n) c d (slice_index hs 0)
gate_local n (product a b u v w) hs = 0
gate_local n (piece a p q k β e o) hs = 0
gate_local n (flag a p q k β e o) hs = 0
gate_local n (shift a s l h r) hs = 0
gate_local n (signed_shift a s l h r) hs = 0
gate_local n (xor a b) hs = xor_of (slice_index hs 0) (slice_index hs 1)
