-- The bytes of a comparison key, for elements whose bytes `form` gives.
use Rattle.std.specs.Prelude.{ℕ, ◌+◌, ◌*◌, ◌^◌, Bool, cond, List, [], ◌∷◌, ◌++◌}
use Rattle.expander.specs.declared.Seed.{Seed}
use Rattle.key.specs.declared.Row.{Row}
use Rattle.group.specs.Residues.{Residue}
use Rattle.stored.specs.Forms.{four_bytes, eight_bytes}
use Rattle.shares.specs.Words.{Word, Quad}
use Rattle.layout.specs.Bytes.{front}

-- one box's comparison key: its root, the rows and the final element
pub record Compared (M : Type 0) : Type 0 where
  pub root : Seed
  pub rows : List (Row M)
  pub last : M

-- a seed's 16 bytes
abbrev pub seed_bytes : Seed → List ℕ
seed_bytes s = front 16 s.bytes

-- a row's byte of bits: left + 2 × right
abbrev pub bits : Bool → Bool → ℕ
bits left right = cond left 1 0 + 2 * cond right 1 0

module _ {M : Type 0} (form : M → List ℕ) where
  -- seed word, bits, element
  abbrev pub row_bytes : Row M → List ℕ
  row_bytes r = seed_bytes r.word ++ (bits r.left r.right ∷ form r.element)

  abbrev pub rows_bytes : List (Row M) → List ℕ
  rows_bytes [] = []
  rows_bytes (r ∷ rs) = row_bytes r ++ rows_bytes rs

  -- root, rows, final element
  abbrev pub key_bytes : Seed → List (Row M) → M → List ℕ
  key_bytes root rows last = seed_bytes root ++ (rows_bytes rows ++ form last)

  abbrev pub compared_bytes : Compared M → List ℕ
  compared_bytes k = key_bytes k.root k.rows k.last

-- a word is 8 bytes, flags are 4, a quad is its four words
abbrev pub word_bytes : Word → List ℕ
word_bytes w = eight_bytes w.0

abbrev pub flag_bytes : Residue (2 ^ 32) → List ℕ
flag_bytes f = four_bytes f.0

abbrev pub quad_bytes : Quad → List ℕ
quad_bytes q =
    (word_bytes q.0.0 ++ word_bytes q.0.1) ++ (word_bytes q.1.0 ++ word_bytes q.1.1)
