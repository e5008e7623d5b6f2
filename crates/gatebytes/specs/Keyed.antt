-- The bytes of dealt gate keys.
use Rattle.std.specs.Prelude.{◌≡◌, ℕ, List}
use Rattle.expander.specs.Meaning.{Expansion}
use Rattle.key.specs.declared.Row.{Row}
use Rattle.key.specs.declared.BoxNumber.{BoxNumber}
use Rattle.gatekeys.specs.declared.ranges.Interval.{Interval}
use Rattle.gatekeys.specs.declared.ranges.Shift.{Shift}
use Rattle.gates.specs.declared.interval_key.IntervalKey.{IntervalKey}
use Rattle.gates.specs.declared.shift.ShiftKey.{ShiftKey}
use Rattle.gates.specs.declared.product.ProductKey.{ProductKey}
use Rattle.gates.specs.Piece.{dealt_piece_key, piece_rows}
use Rattle.gates.specs.Flag.{dealt_flag_key, flag_rows}
use Rattle.gates.specs.Shift.{dealt_shift_key, low_rows_of, high_rows_of}
use Rattle.layout.specs.Keys.{word_bytes, flag_bytes, quad_bytes}
use Rattle.layout.specs.Wires.{interval_bytes}
use Rattle.buffers.specs.declared.Writer.{Writer}
use Rattle.buffers.specs.Forms.{Put, Room}
use Rattle.keyform.specs.GateKeys.{interval_key, low_key, high_key, two_keys_bytes, three_numbers}

-- a key for an interval with its rows: comparison key, payload part, E part, output mask part
unfoldable pub interval_key_bytes : {M : Type 0} → (M → List ℕ) → IntervalKey M → List (Row M) → List ℕ
interval_key_bytes form k rows =
    interval_bytes form (interval_key rows k.parts) k.parts.payload k.parts.extra k.parts.out

-- a key of a shift with its rows: the low key, the high key, the part of the rest
unfoldable pub shift_key_bytes : {M : Type 0} → (M → List ℕ) → ShiftKey M → List (Row M) → List (Row M) → List ℕ
shift_key_bytes form k low high = two_keys_bytes form (low_key low k.parts) (high_key high k.parts) k.parts.rest

-- A, B, C
abbrev pub parts_bytes : ProductKey → List ℕ
parts_bytes k = three_numbers k.parts.a k.parts.b k.parts.c

-- elements have bytes `form` in memory and `stored` by what they mean
module _ {G M : Type 0} (form : G → List ℕ) (mean : G → M) (w : Writer) (k : IntervalKey M) (rows : List (Row M)) where
  -- that there is room for the bytes of a key by its meaning
  pub record HasRoom : Type 0 where
    pub stored : M → List ℕ
    pub same : (e : G) → form e ≡ stored (mean e)
    pub room : Room w (interval_key_bytes stored k rows)

  -- that the bytes of a key by its meaning are written
  abbrev pub IsPut : Writer → Type 0
  IsPut w' = (stored : M → List ℕ) → ((e : G) → form e ≡ stored (mean e)) → Put w (interval_key_bytes stored k rows) w'

module _ (x : Expansion) (b : BoxNumber) where
  -- a box's dealt key of a piece, of a flag gate and of a shift, for the mask r and the gate's words w
  abbrev pub piece_bytes : Interval → ℕ → List ℕ → List ℕ → List ℕ
  piece_bytes i r c w =
      interval_key_bytes quad_bytes (dealt_piece_key x b i r c w i.width.bits) (piece_rows x i r c w i.width.bits)

  abbrev pub flag_gate_bytes : Interval → ℕ → ℕ → List ℕ → List ℕ
  flag_gate_bytes i r pattern w =
      interval_key_bytes flag_bytes (dealt_flag_key x b i r pattern w i.width.bits)
      (flag_rows x i r pattern w i.width.bits)

  abbrev pub shift_gate_bytes : Shift → ℕ → List ℕ → List ℕ
  shift_gate_bytes s r w =
      shift_key_bytes word_bytes (dealt_shift_key x b s r w s.by s.width.bits) (low_rows_of x s r w s.by)
      (high_rows_of x s r w s.width.bits)
