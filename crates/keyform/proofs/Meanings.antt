-- The bytes of a key in memory are the bytes of what the key means.
use Rattle.std.proofs.Common.{◌≡◌, ℕ, ◌%◌, ◌^◌, List, [], ◌∷◌, ◌++◌, map, sym, refl, ap, ◌∙◌}
use native.Mathlib.Nat.{mod-mod}
use Rattle.expander.specs.declared.Seed.{Seed}
use Rattle.group.specs.declared.Flags.{Flags}
use Rattle.group.specs.declared.Pair.{Pair}
use Rattle.group.specs.declared.Word as code
use Rattle.key.specs.declared.Row.{Row}
use Rattle.key.specs.Rows.{row_mean}
use Rattle.stored.specs.Bytes.{four_same, eight_same}
use Rattle.shares.specs.Words.{word, Quad, quad, flag_word}
use Rattle.layout.specs.Keys.{bits, seed_bytes, row_bytes, rows_bytes, key_bytes, word_bytes, flag_bytes, quad_bytes}
use Rattle.keyform.specs.Forms.{word_form, flag_form, quad_form}

module _ {G M : Type 0} (form : G → List ℕ) (stored : M → List ℕ) (mean : G → M)
    (same : (e : G) → form e ≡ stored (mean e)) where
  pub row_means : (r : Row G) → row_bytes form r ≡ row_bytes stored (row_mean mean r)
  row_means r = ap (λ t. seed_bytes r.word ++ (bits r.left r.right ∷ t)) (same r.element)

  pub rows_means : (rows : List (Row G)) → rows_bytes form rows ≡ rows_bytes stored (map (row_mean mean) rows)
  rows_means [] = refl
  rows_means (r ∷ rs) = ap (λ t. t ++ rows_bytes form rs) (row_means r)
      ∙ ap (λ t. row_bytes stored (row_mean mean r) ++ t) (rows_means rs)

  pub key_means : (root : Seed) (rows : List (Row G)) (last : G)
      → key_bytes form root rows last ≡ key_bytes stored root (map (row_mean mean) rows) (mean last)
  key_means root rows last =
      ap (λ t. seed_bytes root ++ (t ++ form last)) (rows_means rows)
      ∙ ap (λ t. seed_bytes root ++ (rows_bytes stored (map (row_mean mean) rows) ++ t)) (same last)

-- a word's bytes are those of its remainder modulo 2^64
pub word_means : (w : code.Word) → word_form w ≡ word_bytes (word w.0)
word_means w = eight_same w.0 (w.0 % 2 ^ 64) (sym (mod-mod w.0 (2 ^ 64)))

pub flag_means : (f : Flags) → flag_form f ≡ flag_bytes (flag_word f.0)
flag_means f = four_same f.0 (f.0 % 2 ^ 32) (sym (mod-mod f.0 (2 ^ 32)))

pub quad_means : (q : Pair (Pair code.Word code.Word) (Pair code.Word code.Word))
    → quad_form q ≡ quad_bytes (quad q.left.left.0 q.left.right.0 q.right.left.0 q.right.right.0)
quad_means q =
    let a = word_means q.left.left in
    let b = word_means q.left.right in
    let c = word_means q.right.left in
    let d = word_means q.right.right in
    cc

-- keys of words, flags and quads
pub word_key_means : (root : Seed) (rows : List (Row code.Word)) (last : code.Word)
    → key_bytes word_form root rows last ≡ key_bytes word_bytes root (map (row_mean (λ w. word w.0)) rows) (word last.0)
word_key_means = key_means word_form word_bytes (λ w. word w.0) word_means

pub flag_key_means : (root : Seed) (rows : List (Row Flags)) (last : Flags)
    → key_bytes flag_form root rows last ≡ key_bytes flag_bytes root (map (row_mean (λ f. flag_word f.0)) rows)
    (flag_word last.0)
flag_key_means = key_means flag_form flag_bytes (λ f. flag_word f.0) flag_means

abbrev pub quad_meant : Pair (Pair code.Word code.Word) (Pair code.Word code.Word) → Quad
quad_meant q = quad q.left.left.0 q.left.right.0 q.right.left.0 q.right.right.0

pub quad_key_means : (root : Seed) (rows : List (Row (Pair (Pair code.Word code.Word) (Pair code.Word code.Word))))
    (last : Pair (Pair code.Word code.Word) (Pair code.Word code.Word))
    → key_bytes quad_form root rows last ≡ key_bytes quad_bytes root (map (row_mean quad_meant) rows) (quad_meant last)
quad_key_means = key_means quad_form quad_bytes quad_meant quad_means
