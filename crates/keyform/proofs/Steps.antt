-- Bytes of a row in their parts, and bytes of rows one row at a time.
use Rattle.std.proofs.Common.{Bor, Option, Some, None, IfSome, ◌≡◌, ℕ, zero, suc, ◌+◌, ◌*◌, ◌<◌, ◌≤◌, min, Bool, true, false, List, [], ◌∷◌, ◌++◌, length, get_or, take, drop, set, sym, refl, ap, ◌∙◌, subst, append_assoc, append-nil, suc-mul, zero-mul, arith, lit≤, length-append, length-drop, take-append-drop, drop-drop, take_at, drop_at}
use Rattle.std.proofs.lemmas.List.{drop_more, take_more_set}
use Rattle.std.specs.List.{IsSubsliceAt}
use Rattle.expander.specs.declared.Seed.{Seed}
use Rattle.key.specs.declared.Row.{Row}
use Rattle.layout.specs.Keys.{bits, seed_bytes, row_bytes, rows_bytes}
use Rattle.keyform.specs.Reads.{Whole, WholeRows, RowIn, RowsIn, RowRead}
use Rattle.keyform.proofs.Lengths.{row_long, rows_long}

-- a byte of bits is 3 at most
pub bits_few : (left right : Bool) → bits left right ≤ 3
bits_few true true = lit≤ tt
bits_few true false = lit≤ tt
bits_few false true = lit≤ tt
bits_few false false = lit≤ tt

module _ {M : Type 0} (form : M → List ℕ) where
  pub row_not_short : (bytes : List ℕ) → RowIn form bytes → 17 ≤ length bytes
  row_not_short bytes i = omega (arith, ap length i.same)

  pub row_bits : (bytes : List ℕ) → RowIn form bytes → get_or bytes 16 0 ≤ 3
  row_bits bytes i =
      let b : get_or bytes 16 0 ≡ bits i.row.left i.row.right = ap (λ t. get_or t 16 0) (sym i.same) in
      omega (arith, b, bits_few i.row.left i.row.right)

  pub row_element : (bytes : List ℕ) (i : RowIn form bytes) → form i.row.element ≡ drop 17 bytes
  row_element bytes i = sym (ap (drop 17) (sym i.same))

  -- a row from its parts
  pub row_read : (bytes : List ℕ) (word : Seed) (left right : Bool) (element : M) → 17 ≤ length bytes
      → seed_bytes word ≡ take 16 bytes → Whole word
      → bits left right ≡ get_or bytes 16 0 → form element ≡ drop 17 bytes
      → RowRead form bytes (record { word = word; left = left; right = right; element = element })
  row_read bytes word left right element long s whole b e = record {
    same = ap (λ t. t ++ (bits left right ∷ form element)) s
        ∙ ap (λ t. take 16 bytes ++ (t ∷ form element)) b
        ∙ ap (λ t. take 16 bytes ++ (get_or bytes 16 0 ∷ t)) e
        ∙ ap (λ t. take 16 bytes ++ t) (sym (drop_more bytes 16 0 (omega arith)))
        ∙ take-append-drop 16 bytes;
    whole = whole;
  }

  -- no rows have no bytes
  pub rows_none : (bytes : List ℕ) → length bytes ≡ 0 → RowsIn form 0 bytes
  rows_none [] h = record { rows = []; count = refl; same = refl }
  rows_none (b ∷ bs) h = absurd (omega arith)

  pub rows_none_long : (bytes : List ℕ) → RowsIn form 0 bytes → length bytes ≡ 0
  rows_none_long bytes t = none t.rows t.count t.same
    where
      none : (rows : List (Row M)) → length rows ≡ 0 → rows_bytes form rows ≡ bytes → length bytes ≡ 0
      none [] c s = sym (ap length s)
      none (r ∷ rs) c s = absurd (omega arith)

  -- a row, then m rows
  pub rows_more : (m n w : ℕ) (rest : List ℕ) → n ≡ suc m → RowIn form (take w rest) → RowsIn form m (drop w rest)
      → RowsIn form n rest
  rows_more m n w rest e i t = record {
    rows = i.row ∷ t.rows;
    count = ap suc t.count ∙ sym e;
    same = ap (λ a. a ++ rows_bytes form t.rows) i.same ∙ ap (λ a. take w rest ++ a) t.same
        ∙ take-append-drop w rest;
  }

module _ {M : Type 0} (form : M → List ℕ) (z : ℕ) (sized : (a : M) → length (form a) ≡ z) where
  -- the first row and what follows it
  pub rows_first : (m n : ℕ) (rest : List ℕ) → n ≡ suc m → RowsIn form n rest
      → (17 + z ≤ length rest) × (RowIn form (take (17 + z) rest) × RowsIn form m (drop (17 + z) rest))
  rows_first m n rest e t = first t.rows (t.count ∙ e) t.same
    where
      first : (rows : List (Row M)) → length rows ≡ suc m → rows_bytes form rows ≡ rest
          → (17 + z ≤ length rest) × (RowIn form (take (17 + z) rest) × RowsIn form m (drop (17 + z) rest))
      first [] c s = absurd (omega arith)
      first (r ∷ rs) c s =
          let long = row_long form z sized r in (
            omega (arith, ap length s, length-append (row_bytes form r) (rows_bytes form rs)),
            (
              record {
                row = r;
                same = sym (take_at (row_bytes form r) (rows_bytes form rs) (17 + z) long)
                    ∙ ap (take (17 + z)) s;
              },
              record {
                rows = rs;
                count = omega arith;
                same = sym
                    (drop_at (row_bytes form r) (rows_bytes form rs) (17 + z) long) ∙ ap (drop (17 + z)) s;
              },
            ),
          )

  -- a row size w that may stop at a bound `max` of the length
  pub size_there : (m n w max : ℕ) (rest : List ℕ) → n ≡ suc m → w ≡ min (17 + z) max → length rest ≤ max
      → RowsIn form n rest → w ≡ 17 + z
  size_there m n w max rest e is few t = let f = (rows_first m n rest e t).0 in omega arith

  -- no chunk of w bytes is left
  pub chunk_there : (m n w max : ℕ) (rest : List ℕ) → n ≡ suc m → w ≡ min (17 + z) max → RowsIn form n rest
      → w ≤ length rest
  chunk_there m n w max rest e is t = let f = (rows_first m n rest e t).0 in omega arith

  -- the first chunk of w bytes and what follows it
  pub chunk_first : (m n w max : ℕ) (rest chunk more : List ℕ) → n ≡ suc m → w ≡ min (17 + z) max → length rest ≤ max
      → rest ≡ chunk ++ more → length chunk ≡ w → RowsIn form n rest → RowIn form chunk × RowsIn form m more
  chunk_first m n w max rest chunk more e is few s long t =
      let f = rows_first m n rest e t in
      let size : length chunk ≡ 17 + z = long ∙ size_there m n w max rest e is few t in
      let c : take (17 + z) rest ≡ chunk = ap (take (17 + z)) s ∙ take_at chunk more (17 + z) size in
      let d : drop (17 + z) rest ≡ more = ap (drop (17 + z)) s ∙ drop_at chunk more (17 + z) size in
      (subst (RowIn form) c f.1.0, subst (RowsIn form m) d f.1.1)

  -- so many bytes have n rows
  pub chunks_long : (n w max : ℕ) (bytes : List ℕ) → w ≡ min (17 + z) max → length bytes ≤ max → RowsIn form n bytes
      → length bytes ≡ n * w
  chunks_long zero w max bytes is few t = rows_none_long form bytes t ∙ sym (zero-mul w)
  chunks_long (suc n) w max bytes is few t =
      let size : 17 + z ≡ w = sym (size_there n (suc n) w max bytes refl is few t) in
      sym (ap length t.same) ∙ rows_long form z sized t.rows ∙ (λ i. t.count i * size i)

  -- chunk k of w bytes
  pub chunk_row : (n k w max : ℕ) (bytes : List ℕ) → 0 < w → k * w + w ≤ length bytes → w ≡ min (17 + z) max
      → length bytes ≤ max → RowsIn form n bytes → RowIn form (take w (drop (k * w) bytes))
  chunk_row zero k w max bytes pos l is few t = absurd (omega (arith, rows_none_long form bytes t))
  chunk_row (suc n) zero w max bytes pos l is few t =
      let i = (rows_first n (suc n) bytes refl t).1.0 in
      let size : 17 + z ≡ w = sym (size_there n (suc n) w max bytes refl is few t) in
      let place : bytes ≡ drop (zero * w) bytes = ap (λ j. drop j bytes) (sym (zero-mul w)) in
      subst (λ j. RowIn form (take j (drop (zero * w) bytes))) size (subst (λ b. RowIn form (take (17 + z) b)) place i)
  chunk_row (suc n) (suc k) w max bytes pos l is few t =
      let size : 17 + z ≡ w = sym (size_there n (suc n) w max bytes refl is few t) in
      let more : RowsIn form n (drop w bytes) = subst (λ j. RowsIn form n (drop j bytes)) size
      (rows_first n (suc n) bytes refl t).1.1 in
      let i = chunk_row n k w max (drop w bytes) pos (omega (arith, length-drop w bytes, suc-mul k w)) is
      (omega (arith, length-drop w bytes)) more in
      let place : drop (k * w) (drop w bytes) ≡ drop (suc k * w) bytes = drop-drop (k * w) w bytes
      ∙ ap (λ j. drop j bytes) (omega (arith, suc-mul k w)) in
      subst (λ b. RowIn form (take w b)) place i

-- chunk k where it is there
pub chunk_told : (o : Option (Bor (List ℕ))) (k n w : ℕ) (xs bytes : List ℕ) → n ≡ w → xs ≡ bytes
    → IfSome o (λ x. (length x.now ≡ n) × (k * n + n ≤ length xs) × IsSubsliceAt n xs (k * n) x.now)
    → IfSome o (λ x. (k * w + w ≤ length bytes) × (x.now ≡ take w (drop (k * w) bytes)))
chunk_told None k n w xs bytes z e h = tt
chunk_told (Some x) k n w xs bytes z e h =
    let a : length xs ≡ length bytes = ap length e in
    let f : k * n + n ≡ k * w + w = ap (λ j. k * j + j) z in
    let b : k * n + n ≤ length xs = h.1 in
    (omega arith, h.2.0 ∙ (λ j. take (z j) (drop (k * z j) (e j))))

module _ {M : Type 0} (form : M → List ℕ) where
  -- n chunks of w bytes that are rows
  pub chunks_rows : (n w : ℕ) (bytes : List ℕ) → length bytes ≡ n * w
      → ((k : ℕ) → k < n → RowIn form (take w (drop (k * w) bytes))) → RowsIn form n bytes
  chunks_rows zero w bytes long f = rows_none form bytes (long ∙ zero-mul w)
  chunks_rows (suc n) w bytes long f =
      let first : RowIn form (take w bytes) = subst (λ j. RowIn form (take w (drop j bytes))) (zero-mul w) (f 0 (omega arith)) in
      let more = chunks_rows n w (drop w bytes) (omega (arith, length-drop w bytes, suc-mul n w)) (λ k l.
      let place : drop (suc k * w) bytes ≡ drop (k * w) (drop w bytes) = ap (λ j. drop j bytes) (omega (arith, suc-mul k w))
      ∙ sym (drop-drop (k * w) w bytes) in
      subst (λ b. RowIn form (take w b)) place (f (suc k) (omega arith))) in
      rows_more form n (suc n) w bytes refl first more

  -- one row more at the end
  pub rows_push : (rows : List (Row M)) (r : Row M)
      → rows_bytes form (rows ++ r ∷ []) ≡ rows_bytes form rows ++ row_bytes form r
  rows_push [] r = append-nil (row_bytes form r)
  rows_push (q ∷ qs) r = ap (λ t. row_bytes form q ++ t) (rows_push qs r)
      ∙ sym (append_assoc (row_bytes form q) (rows_bytes form qs) (row_bytes form r))

  pub rows_put : (rows : List (Row M)) (i : ℕ) (row : Row M) (rest chunk more bytes : List ℕ) → i < length rows
      → rows_bytes form (take i rows) ++ rest ≡ bytes → rest ≡ chunk ++ more → RowRead form chunk row
      → rows_bytes form (take (i + 1) (set rows i row)) ++ more ≡ bytes
  rows_put rows i row rest chunk more bytes h e s t =
      let done = rows_bytes form (take i rows) in
      ap (λ a. rows_bytes form a ++ more) (take_more_set rows i row h)
      ∙ ap (λ a. a ++ more) (rows_push (take i rows) row)
      ∙ ap (λ a. (done ++ a) ++ more) t.same
      ∙ append_assoc done chunk more
      ∙ ap (λ a. done ++ a) (sym s)
      ∙ e

whole_push : {M : Type 0} (rows : List (Row M)) (r : Row M) → WholeRows rows → Whole r.word → WholeRows (rows ++ r ∷ [])
whole_push [] r h k = (k, tt)
whole_push (q ∷ qs) r h k = (h.0, whole_push qs r h.1 k)

pub whole_put : {M : Type 0} (rows : List (Row M)) (i : ℕ) (row : Row M) → i < length rows → WholeRows (take i rows)
    → Whole row.word
    → WholeRows (take (i + 1) (set rows i row))
whole_put rows i row h t k = subst WholeRows (sym (take_more_set rows i row h)) (whole_push (take i rows) row t k)
