-- A key's bytes tell its parts: keys with as many rows and the same bytes are alike.
use Rattle.std.proofs.Common.{◌≡◌, ℕ, ◌+◌, ◌*◌, Bool, true, false, List, [], ◌∷◌, ◌++◌, map, length, get_or, take, drop, sym, refl, ap, ◌∙◌, arith}
use Rattle.std.proofs.lemmas.List.{take_at, drop_at}
use Rattle.expander.specs.declared.Seed.{Seed}
use Rattle.key.specs.declared.Row.{Row}
use Rattle.key.specs.Rows.{row_mean}
use Rattle.layout.specs.Keys.{bits, seed_bytes, row_bytes, rows_bytes, key_bytes}
use Rattle.keyform.specs.Reads.{Whole, WholeRows}
use Rattle.keyform.proofs.Fronts.{front_all}
use Rattle.keyform.proofs.Lengths.{row_long, rows_long}

-- two lists in two parts, the first ones equally long
pub same_front : (a b c d : List ℕ) → length a ≡ length c → a ++ b ≡ c ++ d → a ≡ c
same_front a b c d h e = sym (take_at a b (length a) refl) ∙ ap (take (length a)) e ∙ take_at c d (length a) (sym h)

pub same_back : (a b c d : List ℕ) → length a ≡ length c → a ++ b ≡ c ++ d → b ≡ d
same_back a b c d h e = sym (drop_at a b (length a) refl) ∙ ap (drop (length a)) e ∙ drop_at c d (length a) (sym h)

pub bits_left : (l r l' r' : Bool) → bits l r ≡ bits l' r' → l ≡ l'
bits_left true r true r' e = refl
bits_left false r false r' e = refl
bits_left true true false true e = absurd (omega arith)
bits_left true true false false e = absurd (omega arith)
bits_left true false false true e = absurd (omega arith)
bits_left true false false false e = absurd (omega arith)
bits_left false true true true e = absurd (omega arith)
bits_left false true true false e = absurd (omega arith)
bits_left false false true true e = absurd (omega arith)
bits_left false false true false e = absurd (omega arith)

pub bits_right : (l r l' r' : Bool) → bits l r ≡ bits l' r' → r ≡ r'
bits_right l true l' true e = refl
bits_right l false l' false e = refl
bits_right true true true false e = absurd (omega arith)
bits_right true true false false e = absurd (omega arith)
bits_right false true true false e = absurd (omega arith)
bits_right false true false false e = absurd (omega arith)
bits_right true false true true e = absurd (omega arith)
bits_right true false false true e = absurd (omega arith)
bits_right false false true true e = absurd (omega arith)
bits_right false false false true e = absurd (omega arith)

-- seeds of 16 bytes with the same bytes are one seed
pub seed_told : (s t : Seed) → Whole s → Whole t → seed_bytes s ≡ seed_bytes t → s ≡ t
seed_told s t hs ht e =
    let b : s.bytes ≡ t.bytes = sym (front_all 16 s.bytes hs) ∙ e ∙ front_all 16 t.bytes ht in
    ap (λ bytes. record { bytes = bytes }) b

-- what a row's bytes tell
pub record RowAlike {M : Type 0} (form : M → List ℕ) (r q : Row M) : Type 0 where
  pub word : seed_bytes r.word ≡ seed_bytes q.word
  pub left : r.left ≡ q.left
  pub right : r.right ≡ q.right
  pub element : form r.element ≡ form q.element

abbrev pub RowsAlike : {M : Type 0} → (M → List ℕ) → List (Row M) → List (Row M) → Type 0
RowsAlike form [] [] = Unit {0}
RowsAlike form [] (q ∷ qs) = ⊥
RowsAlike form (r ∷ rs) [] = ⊥
RowsAlike form (r ∷ rs) (q ∷ qs) = RowAlike form r q × RowsAlike form rs qs

pub row_told : {M : Type 0} (form : M → List ℕ) (r q : Row M) → row_bytes form r ≡ row_bytes form q → RowAlike form r q
row_told form r q e =
    let rest : bits r.left r.right ∷ form r.element ≡ bits q.left q.right ∷ form q.element = ap
    (drop 16) e in
    let byte : bits r.left r.right ≡ bits q.left q.right = ap (λ t. get_or t 0 0) rest in
    record {
      word = ap (take 16) e;
      left = bits_left r.left r.right q.left q.right byte;
      right = bits_right r.left r.right q.left q.right byte;
      element = ap (drop 1) rest;
    }

module _ {M : Type 0} (form : M → List ℕ) (z : ℕ) (sized : (a : M) → length (form a) ≡ z) where
  pub rows_told : (rows others : List (Row M)) → length rows ≡ length others
      → rows_bytes form rows ≡ rows_bytes form others → RowsAlike form rows others
  rows_told [] [] h e = tt
  rows_told [] (q ∷ qs) h e = absurd (omega arith)
  rows_told (r ∷ rs) [] h e = absurd (omega arith)
  rows_told (r ∷ rs) (q ∷ qs) h e =
      let long : length (row_bytes form r) ≡ length (row_bytes form q) = row_long form z sized r
      ∙ sym (row_long form z sized q) in (
        row_told form r q (same_front (row_bytes form r) (rows_bytes form rs) (row_bytes form q) (rows_bytes form qs) long e),
        rows_told rs qs (omega arith) (same_back (row_bytes form r) (rows_bytes form rs) (row_bytes form q)
            (rows_bytes form qs) long e),
      )

  -- keys with as many rows and the same bytes
  pub key_told : (root other-root : Seed) (rows others : List (Row M)) (last other_last : M) → length rows ≡ length others
      → key_bytes form root rows last ≡ key_bytes form other-root others other_last
      → (seed_bytes root ≡ seed_bytes other-root) × RowsAlike form rows others × (form last ≡ form other_last)
  key_told root root' rows rows' last last' h e =
      let s = seed_bytes root in
      let s' = seed_bytes root' in
      let r = rows_bytes form rows in
      let r' = rows_bytes form rows' in
      let f = form last in
      let f' = form last' in
      let rest : r ++ f ≡ r' ++ f' = same_back s (r ++ f) s' (r' ++ f') refl e in
      let long : length r ≡ length r' = rows_long form z sized rows ∙ ap (λ n. n * (17 + z)) h
      ∙ sym (rows_long form z sized rows') in (
        same_front s (r ++ f) s' (r' ++ f') refl e,
        rows_told rows rows' h (same_front r f r' f' long rest),
        same_back r f r' f' long rest,
      )

-- rows that are alike and have whole seed words mean the same, where forms tell meanings
pub alike_mean : {M N : Type 0} (form : M → List ℕ) (mean : M → N) → ((a b : M) → form a ≡ form b → mean a ≡ mean b)
    → (rows others : List (Row M))
    → WholeRows rows → WholeRows others → RowsAlike form rows others → map (row_mean mean) rows ≡ map (row_mean mean) others
alike_mean form mean told [] [] h k a = refl
alike_mean form mean told [] (q ∷ qs) h k a = absurd a
alike_mean form mean told (r ∷ rs) [] h k a = absurd a
alike_mean form mean told (r ∷ rs) (q ∷ qs) h k a =
    let w = seed_told r.word q.word h.0 k.0 a.0.word in
    let l = a.0.left in
    let t = a.0.right in
    let e = told r.element q.element a.0.element in
    let first : row_mean mean r ≡ row_mean mean q = cc in
    ap (λ x. x ∷ map (row_mean mean) rs) first ∙ ap (λ xs. row_mean mean q ∷ xs)
    (alike_mean form mean told rs qs h.1 k.1 a.1)
