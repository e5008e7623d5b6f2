-- The bytes of a comparison key: how many there are, and the rows' bits among them.
use Rattle.std.proofs.Common.{◌≡◌, ℕ, ◌+◌, ◌*◌, Bool, true, false, ◌&&◌, leb, List, [], ◌∷◌, ◌++◌, length, get_or, sym, refl, ap, ◌∙◌, append_assoc, arith, length-append}
use Rattle.key.specs.declared.Row.{Row}
use Rattle.layout.specs.Keys.{Compared, seed_bytes, bits, row_bytes, rows_bytes, compared_bytes}
use Rattle.bodies.specs.Heads.{compared_long}
use Rattle.bodies.specs.Bodies.{rows_fit}
use Rattle.bodies.proofs.Numbers.{byte_at}

bits_small : (l r : Bool) → leb (bits l r) 3 ≡ true
bits_small true true = refl
bits_small true false = refl
bits_small false true = refl
bits_small false false = refl

module _ {M : Type 0} (form : M → List ℕ) (size : ℕ) (sized : (m : M) → length (form m) ≡ size) where
  row_long : (r : Row M) → length (row_bytes form r) ≡ 17 + size
  row_long r = let s = sized r.element in omega arith

  pub rows_long : (rows : List (Row M)) → length (rows_bytes form rows) ≡ length rows * (17 + size)
  rows_long [] = omega arith
  rows_long (r ∷ rs) =
      let a = length-append (row_bytes form r) (rows_bytes form rs) in
      let b = row_long r in
      let c = rows_long rs in
      omega arith

  pub compared_is_long : (k : Compared M) → length (compared_bytes form k) ≡ compared_long size (length k.rows)
  compared_is_long k =
      let a = length-append (rows_bytes form k.rows) (form k.last) in
      let b = rows_long k.rows in
      let c = sized k.last in
      omega arith

  -- rows that were written have bits of at most 3
  rows_written : (rows : List (Row M)) (key pre post : List ℕ) (n at : ℕ) → key ≡ pre ++ (rows_bytes form rows ++ post) → length rows ≡ n → length pre ≡ at
      → rows_fit size key n at ≡ true
  rows_written [] key pre post n at e l p = ap (λ m. rows_fit size key m at) (sym l)
  rows_written (r ∷ rs) key pre post n at e l p =
      let f : key ≡ pre ++ (row_bytes form r ++ (rows_bytes form rs ++ post)) = e ∙ ap (λ t. pre ++ t) (append_assoc (row_bytes form r) (rows_bytes form rs) post) in
      let b : get_or key (at + 16) 0 ≡ bits r.left r.right
      = byte_at key pre (row_bytes form r) (rows_bytes form rs ++ post) f (at + 16) 16 (omega arith) (omega (arith, row_long r)) in
      let g : key ≡ (pre ++ row_bytes form r) ++ (rows_bytes form rs ++ post) = f ∙ sym (append_assoc pre (row_bytes form r) (rows_bytes form rs ++ post)) in
      let q : length (pre ++ row_bytes form r) ≡ at + (17 + size) = omega (arith, length-append pre (row_bytes form r), row_long r) in
      let t = rows_written rs key (pre ++ row_bytes form r) post (length rs) (at + (17 + size)) g refl q in
      ap (λ m. rows_fit size key m at) (sym l) ∙ (λ i. (ap (λ v. leb v 3) b ∙ bits_small r.left r.right) i && t i)

  -- the rows of a comparison key within a key
  pub key_rows_fit : (k : Compared M) (key pre post : List ℕ) (n at : ℕ) → key ≡ pre ++ (compared_bytes form k ++ post) → length k.rows ≡ n → length pre + 16 ≡ at
      → rows_fit size key n at ≡ true
  key_rows_fit k key pre post n at e l p =
      let root = seed_bytes k.root in
      let rows = rows_bytes form k.rows in
      let last = form k.last in
      let f : key ≡ (pre ++ root) ++ (rows ++ (last ++ post))
      = e ∙ ap (λ t. pre ++ t) (append_assoc root (rows ++ last) post ∙ ap (λ t. root ++ t) (append_assoc rows last post))
      ∙ sym (append_assoc pre root (rows ++ (last ++ post))) in
      rows_written k.rows key (pre ++ root) (last ++ post) n at f l (omega (arith, length-append pre root))
