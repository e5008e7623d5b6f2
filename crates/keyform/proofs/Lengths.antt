-- How many bytes a comparison key has, where every element has `z`.
use Rattle.std.proofs.Common.{◌≡◌, ℕ, ◌+◌, ◌*◌, List, [], ◌∷◌, length, sym, refl, suc-mul, zero-mul, arith, length-append}
use Rattle.expander.specs.declared.Seed.{Seed}
use Rattle.key.specs.declared.Row.{Row}
use Rattle.layout.specs.Keys.{seed_bytes, row_bytes, rows_bytes, key_bytes}

pub seed_long : (s : Seed) → length (seed_bytes s) ≡ 16
seed_long s = refl

module _ {M : Type 0} (form : M → List ℕ) (z : ℕ) (sized : (a : M) → length (form a) ≡ z) where
  pub row_long : (r : Row M) → length (row_bytes form r) ≡ 17 + z
  row_long r = let s = sized r.element in omega arith

  pub rows_long : (rows : List (Row M)) → length (rows_bytes form rows) ≡ length rows * (17 + z)
  rows_long [] = sym (zero-mul (17 + z))
  rows_long (r ∷ rs) =
      let a = length-append (row_bytes form r) (rows_bytes form rs) in
      let b = row_long r in
      let c = rows_long rs in
      let m = suc-mul (length rs) (17 + z) in
      omega arith

  pub key_long : (root : Seed) (rows : List (Row M)) (last : M)
      → length (key_bytes form root rows last) ≡ 16 + length rows * (17 + z) + z
  key_long root rows last =
      let a = length-append (rows_bytes form rows) (form last) in
      let b = rows_long rows in
      let c = sized last in
      omega arith
