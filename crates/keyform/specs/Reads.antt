-- What bytes hold, and what reading them gives.
use Rattle.std.specs.Prelude.{◌≡◌, ℕ, List, [], ◌∷◌, ◌++◌, length, Some, None, Option}
use Rattle.expander.specs.declared.Seed.{Seed}
use Rattle.key.specs.declared.Row.{Row}
use Rattle.key.specs.declared.KeyEnds.{KeyEnds}
use Rattle.layout.specs.Keys.{seed_bytes, row_bytes, rows_bytes, key_bytes}

-- a seed of 16 bytes
abbrev pub Whole : Seed → Type 0
Whole s = length s.bytes ≡ 16

-- rows with whole seed words
abbrev pub WholeRows : {M : Type 0} → List (Row M) → Type 0
WholeRows [] = Unit {0}
WholeRows (r ∷ rs) = Whole r.word × WholeRows rs

-- some row with these bytes
pub record RowIn {M : Type 0} (form : M → List ℕ) (bytes : List ℕ) : Type 0 where
  pub row : Row M
  pub same : row_bytes form row ≡ bytes

-- some element at the end of these bytes
pub record LastIn {M : Type 0} (form : M → List ℕ) (bytes : List ℕ) : Type 0 where
  pub front : List ℕ
  pub last : M
  pub same : front ++ form last ≡ bytes

-- the element at the end, and what stands before it
pub record LastRead {M : Type 0} (form : M → List ℕ) (bytes front : List ℕ) (last : M) : Type 0 where
  pub same : front ++ form last ≡ bytes

-- some seed and element at the two ends of these bytes
pub record EndsIn {M : Type 0} (form : M → List ℕ) (bytes : List ℕ) : Type 0 where
  pub root : Seed
  pub between : List ℕ
  pub last : M
  pub same : seed_bytes root ++ (between ++ form last) ≡ bytes

-- the seed and the element at the two ends, and what stands between
pub record EndsRead {M : Type 0} (form : M → List ℕ) (bytes between : List ℕ) (ends : KeyEnds M) : Type 0 where
  pub same : seed_bytes ends.root ++ (between ++ form ends.last) ≡ bytes
  pub whole : Whole ends.root

-- some n rows with these bytes
pub record RowsIn {M : Type 0} (form : M → List ℕ) (n : ℕ) (bytes : List ℕ) : Type 0 where
  pub rows : List (Row M)
  pub count : length rows ≡ n
  pub same : rows_bytes form rows ≡ bytes

-- some key of n rows with these bytes
pub record KeyIn {M : Type 0} (form : M → List ℕ) (n : ℕ) (bytes : List ℕ) : Type 0 where
  pub root : Seed
  pub rows : List (Row M)
  pub last : M
  pub count : length rows ≡ n
  pub same : key_bytes form root rows last ≡ bytes

-- a row read from these bytes
pub record RowRead {M : Type 0} (form : M → List ℕ) (bytes : List ℕ) (row : Row M) : Type 0 where
  pub same : row_bytes form row ≡ bytes
  pub whole : Whole row.word

-- rows read from these bytes, n of them
pub record RowsRead {M : Type 0} (form : M → List ℕ) (n : ℕ) (bytes : List ℕ) (rows : List (Row M)) : Type 0 where
  pub count : length rows ≡ n
  pub same : rows_bytes form rows ≡ bytes
  pub whole : WholeRows rows

-- a key read from these bytes, of n rows
pub record KeyRead {M : Type 0} (form : M → List ℕ) (n : ℕ) (bytes : List ℕ) (root : Seed) (rows : List (Row M))
    (last : M) : Type 0 where
  pub count : length rows ≡ n
  pub same : key_bytes form root rows last ≡ bytes
  pub whole : Whole root
  pub words : WholeRows rows

-- the outcome: the table's rows become those of the bytes, or no key has the bytes and the rows stay
abbrev pub ReadOrKept : {M : Type 0} → (M → List ℕ) → List ℕ → List (Row M) → List (Row M) → Option (KeyEnds M) → Type 0
ReadOrKept form bytes old new None = (KeyIn form (length old) bytes → ⊥) × (new ≡ old)
ReadOrKept form bytes old new (Some k) = KeyRead form (length old) bytes k.root new k.last
