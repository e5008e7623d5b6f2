-- What the bytes of a gate's key hold, and what reading them gives.
use Rattle.std.specs.Prelude.{◌≡◌, ℕ, List, ◌++◌, length, Some, None, Option}
use Rattle.key.specs.declared.Row.{Row}
use Rattle.stored.specs.Forms.{four_bytes}
use Rattle.layout.specs.Keys.{Compared, compared_bytes}
use Rattle.layout.specs.Wires.{interval_bytes}
use Rattle.keyform.specs.Reads.{Whole, WholeRows, KeyIn}
use Rattle.keyform.specs.declared.gate_keys.IntervalParts.{IntervalParts}
use Rattle.keyform.specs.declared.gate_keys.ShiftParts.{ShiftParts}

-- what follows the comparison key of an interval gate: payload part, E part, mask part
abbrev pub tail_bytes : {M : Type 0} → (M → List ℕ) → M → M → ℕ → List ℕ
tail_bytes form payload extra out = form payload ++ (form extra ++ four_bytes out)

pub record TailIn {M : Type 0} (form : M → List ℕ) (bytes : List ℕ) : Type 0 where
  pub front : List ℕ
  pub payload : M
  pub extra : M
  pub out : ℕ
  pub same : front ++ tail_bytes form payload extra out ≡ bytes

-- the tail, and what stands before it
pub record TailRead {M : Type 0} (form : M → List ℕ) (bytes front : List ℕ) (payload extra : M) (out : ℕ)
    : Type 0 where
  pub same : front ++ tail_bytes form payload extra out ≡ bytes

-- a comparison key from its rows and the rest
abbrev pub interval_key : {M : Type 0} → List (Row M) → IntervalParts M → Compared M
interval_key rows p = record { root = p.ends.root; rows = rows; last = p.ends.last }

abbrev pub low_key : {M : Type 0} → List (Row M) → ShiftParts M → Compared M
low_key rows p = record { root = p.low.root; rows = rows; last = p.low.last }

abbrev pub high_key : {M : Type 0} → List (Row M) → ShiftParts M → Compared M
high_key rows p = record { root = p.high.root; rows = rows; last = p.high.last }

-- some key of an interval gate, of n rows, with these bytes
pub record IntervalIn {M : Type 0} (form : M → List ℕ) (n : ℕ) (bytes : List ℕ) : Type 0 where
  pub key : Compared M
  pub payload : M
  pub extra : M
  pub out : ℕ
  pub count : length key.rows ≡ n
  pub same : interval_bytes form key payload extra out ≡ bytes

pub record IntervalRead {M : Type 0} (form : M → List ℕ) (n : ℕ) (bytes : List ℕ) (rows : List (Row M))
    (p : IntervalParts M) : Type 0 where
  pub count : length rows ≡ n
  pub same : interval_bytes form (interval_key rows p) p.payload p.extra p.out ≡ bytes
  pub whole : Whole p.ends.root
  pub words : WholeRows rows

-- the table's rows become those of the bytes, or no key has the bytes and the rows stay
abbrev pub IntervalOrKept : {M : Type 0} → (M → List ℕ) → List ℕ → List (Row M) → List (Row M) → Option (IntervalParts M)
    → Type 0
IntervalOrKept form bytes old new None = (IntervalIn form (length old) bytes → ⊥) × (new ≡ old)
IntervalOrKept form bytes old new (Some p) = IntervalRead form (length old) bytes new p

-- the bytes of a shift's key: low key, high key, part of the rest
abbrev pub two_keys_bytes : {M : Type 0} → (M → List ℕ) → Compared M → Compared M → ℕ → List ℕ
two_keys_bytes form low high rest = compared_bytes form low ++ (compared_bytes form high ++ four_bytes rest)

-- some two comparison keys, of n and m rows, with these bytes
pub record TwoIn {M : Type 0} (form : M → List ℕ) (n m : ℕ) (bytes : List ℕ) : Type 0 where
  pub low : Compared M
  pub high : Compared M
  pub low_count : length low.rows ≡ n
  pub high_count : length high.rows ≡ m
  pub same : compared_bytes form low ++ compared_bytes form high ≡ bytes

-- the bytes of one such key and of the other
pub record TwoRead {M : Type 0} (form : M → List ℕ) (n m : ℕ) (bytes low high : List ℕ) : Type 0 where
  pub same : low ++ high ≡ bytes
  pub low_in : KeyIn form n low
  pub high_in : KeyIn form m high

-- some key of a shift, of n and m rows, with these bytes
pub record ShiftIn {M : Type 0} (form : M → List ℕ) (n m : ℕ) (bytes : List ℕ) : Type 0 where
  pub low : Compared M
  pub high : Compared M
  pub rest : ℕ
  pub low_count : length low.rows ≡ n
  pub high_count : length high.rows ≡ m
  pub same : two_keys_bytes form low high rest ≡ bytes

pub record ShiftRead {M : Type 0} (form : M → List ℕ) (n m : ℕ) (bytes : List ℕ) (low high : List (Row M))
    (p : ShiftParts M) : Type 0 where
  pub low_count : length low ≡ n
  pub high_count : length high ≡ m
  pub same : two_keys_bytes form (low_key low p) (high_key high p) p.rest ≡ bytes
  pub low_whole : Whole p.low.root
  pub low_words : WholeRows low
  pub high_whole : Whole p.high.root
  pub high_words : WholeRows high

abbrev pub ShiftOrKept : {M : Type 0} → (M → List ℕ) → List ℕ → (low high low' high' : List (Row M))
    → Option (ShiftParts M) → Type 0
ShiftOrKept form bytes low high low' high' None =
    (ShiftIn form (length low) (length high) bytes → ⊥) × (low' ≡ low) × (high' ≡ high)
ShiftOrKept form bytes low high low' high' (Some p) = ShiftRead form (length low) (length high) bytes low' high' p

-- the bytes of a product's key: A, B, C
abbrev pub three_numbers : ℕ → ℕ → ℕ → List ℕ
three_numbers a b c = four_bytes a ++ (four_bytes b ++ four_bytes c)

pub record ProductIn (bytes : List ℕ) : Type 0 where
  pub a : ℕ
  pub b : ℕ
  pub c : ℕ
  pub same : three_numbers a b c ≡ bytes
