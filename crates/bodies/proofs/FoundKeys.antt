-- A comparison key, an interval gate's key and a shift's key, from bytes of their layout.
use Rattle.std.proofs.Common.{◌≡◌, ℕ, zero, suc, ◌+◌, ◌*◌, ◌≤◌, Bool, true, ◌&&◌, ◌||◌, eqb, leb, List, [], ◌∷◌, ◌++◌, length, get_or, take, drop, sym, refl, ap, ◌∙◌, append_assoc, append-nil, arith, length-drop, take-append-drop}
use Rattle.std.proofs.lemmas.List.{get_or-drop, drop-drop, drop_more, length-take-le, nil_from_length}
use Rattle.std.proofs.lemmas.Bool.{and_parts, leb-true}
use Rattle.key.specs.declared.Row.{Row}
use Rattle.shares.specs.Words.{Word}
use Rattle.stored.specs.Forms.{four_bytes}
use Rattle.layout.specs.Bytes.{front, number_at}
use Rattle.layout.specs.Keys.{Compared, bits, row_bytes, rows_bytes, compared_bytes, word_bytes}
use Rattle.layout.specs.Wires.{interval_bytes, shift_bytes}
use Rattle.bodies.specs.Parts.{Bytes}
use Rattle.bodies.specs.Heads.{compared_long}
use Rattle.bodies.specs.Bodies.{rows_fit}
use Rattle.bodies.proofs.Spread.{take_bytes, drop_bytes, front_all, number_split, number_drop, word_from, word_back}

-- the two bits of a row
abbrev left_in : ℕ → Bool
left_in v = eqb v 1 || eqb v 3

abbrev right_in : ℕ → Bool
right_in v = leb 2 v

bits_back : (v : ℕ) → v ≤ 3 → bits (left_in v) (right_in v) ≡ v
bits_back zero h = refl
bits_back (suc zero) h = refl
bits_back (suc (suc zero)) h = refl
bits_back (suc (suc (suc zero))) h = refl
bits_back (suc (suc (suc (suc v)))) h = absurd (omega arith)

-- what is left of a list is its rows too
rows_drop : (size : ℕ) (xs : List ℕ) (k n at : ℕ) → rows_fit size (drop k xs) n at ≡ rows_fit size xs n (k + at)
rows_drop size xs k zero at = refl
rows_drop size xs k (suc n) at =
    let e : k + (at + 16) ≡ k + at + 16 = omega arith in
    let f : k + (at + (17 + size)) ≡ k + at + (17 + size) = omega arith in
    let a : get_or (drop k xs) (at + 16) 0 ≡ get_or xs (k + at + 16) 0 = get_or-drop k xs (at + 16) 0 ∙ ap (λ i. get_or xs i 0) e in
    let b : rows_fit size (drop k xs) n (at + (17 + size)) ≡ rows_fit size xs n (k + at + (17 + size))
    = rows_drop size xs k n (at + (17 + size)) ∙ ap (rows_fit size xs n) f in
    λ i. leb (a i) 3 && b i

module _ {M : Type 0} (form : M → List ℕ) (size : ℕ) (from : List ℕ → M) (back : (xs : List ℕ) → length xs ≡ size → Bytes xs → form (from xs) ≡ xs) where
  -- an element and what follows it
  pub element_split : (xs : List ℕ) → size ≤ length xs → Bytes xs → xs ≡ form (from (take size xs)) ++ drop size xs
  element_split xs h f =
      sym (take-append-drop size xs) ∙ ap (λ t. t ++ drop size xs) (sym (back (take size xs) (length-take-le size xs h) (take_bytes size xs f)))

  abbrev row_from : List ℕ → Row M
  row_from xs = record {
    word = record { bytes = take 16 xs };
    left = left_in (get_or xs 16 0);
    right = right_in (get_or xs 16 0);
    element = from (take size (drop 17 xs));
  }

  row_split : (xs : List ℕ) → 17 + size ≤ length xs → Bytes xs → get_or xs 16 0 ≤ 3 → xs ≡ row_bytes form (row_from xs) ++ drop (17 + size) xs
  row_split xs h f b =
      let seed : front 16 (take 16 xs) ≡ take 16 xs = front_all 16 (take 16 xs) (length-take-le 16 xs (omega arith)) in
      let rest = drop 17 xs in
      let value = form (from (take size rest)) in
      let a : rest ≡ value ++ drop (17 + size) xs
      = element_split rest (omega (arith, length-drop 17 xs)) (drop_bytes 17 xs f) ∙ ap (λ t. value ++ t) (drop-drop size 17 xs) in
      let v = bits_back (get_or xs 16 0) b in
      let tail : drop 16 xs ≡ bits (left_in (get_or xs 16 0)) (right_in (get_or xs 16 0)) ∷ (value ++ drop (17 + size) xs)
      = drop_more xs 16 0 (omega arith) ∙ (λ i. sym v i ∷ a i) in
      sym (take-append-drop 16 xs) ∙ (λ i. sym seed i ++ tail i)
      ∙ sym (append_assoc (front 16 (take 16 xs)) (bits (left_in (get_or xs 16 0)) (right_in (get_or xs 16 0)) ∷ value) (drop (17 + size) xs))

  -- so many rows at the front of a list
  pub record RowsAt (n : ℕ) (xs : List ℕ) : Type 0 where
    pub rows : List (Row M)
    pub count : length rows ≡ n
    pub split : xs ≡ rows_bytes form rows ++ drop (n * (17 + size)) xs

  rows_found : (n : ℕ) (xs : List ℕ) → n * (17 + size) ≤ length xs → Bytes xs → rows_fit size xs n 0 ≡ true → RowsAt n xs
  rows_found zero xs h f t =
      let e : 0 * (17 + size) ≡ 0 = omega arith in
      record { rows = []; count = refl; split = ap (λ k. drop k xs) (sym e) }
  rows_found (suc n) xs h f t =
      let u = and_parts (leb (get_or xs 16 0) 3) (rows_fit size xs n (0 + (17 + size))) t in
      let m : suc n * (17 + size) ≡ 17 + size + n * (17 + size) = omega arith in
      let r = row_split xs (omega arith) f (leb-true (get_or xs 16 0) 3 u.0) in
      let rest = drop (17 + size) xs in
      let z : 17 + size + 0 ≡ 0 + (17 + size) = omega arith in
      let q = rows_found n rest (omega (arith, length-drop (17 + size) xs)) (drop_bytes (17 + size) xs f)
      (rows_drop size xs (17 + size) n 0 ∙ ap (rows_fit size xs n) z ∙ u.1) in
      let past : drop (n * (17 + size)) rest ≡ drop (suc n * (17 + size)) xs = drop-drop (n * (17 + size)) (17 + size) xs ∙ ap (λ k. drop k xs) (sym m) in
      record {
        rows = row_from xs ∷ q.rows;
        count = ap suc q.count;
        split = r ∙ ap (λ t. row_bytes form (row_from xs) ++ t) (q.split ∙ ap (λ t. rows_bytes form q.rows ++ t) past)
            ∙ sym (append_assoc (row_bytes form (row_from xs)) (rows_bytes form q.rows) (drop (suc n * (17 + size)) xs));
      }

  -- a comparison key at the front of a list
  pub record ComparedAt (n : ℕ) (xs : List ℕ) : Type 0 where
    pub key : Compared M
    pub count : length key.rows ≡ n
    pub split : xs ≡ compared_bytes form key ++ drop (compared_long size n) xs

  pub compared_found : (n : ℕ) (xs : List ℕ) → compared_long size n ≤ length xs → Bytes xs → rows_fit size xs n 16 ≡ true → ComparedAt n xs
  compared_found n xs h f t =
      let x1 = drop 16 xs in
      let f1 : Bytes x1 = drop_bytes 16 xs f in
      let r = rows_found n x1 (omega (arith, length-drop 16 xs)) f1 (rows_drop size xs 16 n 0 ∙ t) in
      let x2 = drop (n * (17 + size)) x1 in
      let last = from (take size x2) in
      let l2 : size ≤ length x2 = omega (arith, length-drop 16 xs, length-drop (n * (17 + size)) x1) in
      let e = element_split x2 l2 (drop_bytes (n * (17 + size)) x1 f1) in
      let seed : front 16 (take 16 xs) ≡ take 16 xs = front_all 16 (take 16 xs) (length-take-le 16 xs (omega arith)) in
      let past : drop size x2 ≡ drop (compared_long size n) xs
      = ap (drop size) (drop-drop (n * (17 + size)) 16 xs) ∙ drop-drop size (16 + n * (17 + size)) xs in
      let rs = rows_bytes form r.rows in
      record {
        key = record { root = record { bytes = take 16 xs }; rows = r.rows; last = last };
        count = r.count;
        split = sym (take-append-drop 16 xs)
            ∙ (λ i. sym seed i ++ (r.split ∙ ap (λ t. rs ++ t) (e ∙ ap (λ t. form last ++ t) past)) i)
            ∙ ap (λ t. front 16 (take 16 xs) ++ t) (sym (append_assoc rs (form last) (drop (compared_long size n) xs)))
            ∙ sym (append_assoc (front 16 (take 16 xs)) (rs ++ form last) (drop (compared_long size n) xs));
      }

  -- an interval gate's key
  pub record IntervalAt (n : ℕ) (xs : List ℕ) : Type 0 where
    pub key : Compared M
    pub payload : M
    pub extra : M
    pub count : length key.rows ≡ n
    pub is : interval_bytes form key payload extra (number_at xs (compared_long size n + (size + size))) ≡ xs

  pub interval_found : (n : ℕ) (xs : List ℕ) → length xs ≡ compared_long size n + (size + size + 4) → Bytes xs → rows_fit size xs n 16 ≡ true → IntervalAt n xs
  interval_found n xs l f t =
      let k = compared_found n xs (omega arith) f t in
      let long = compared_long size n in
      let x1 = drop long xs in
      let f1 : Bytes x1 = drop_bytes long xs f in
      let l1 : length x1 ≡ size + size + 4 = omega (arith, length-drop long xs) in
      let x2 = drop size x1 in
      let f2 : Bytes x2 = drop_bytes size x1 f1 in
      let l2 : length x2 ≡ size + 4 = omega (arith, length-drop size x1) in
      let x3 = drop size x2 in
      let f3 : Bytes x3 = drop_bytes size x2 f2 in
      let l3 : length x3 ≡ 4 = omega (arith, length-drop size x2) in
      let a = element_split x1 (omega arith) f1 in
      let b = element_split x2 (omega arith) f2 in
      let o = number_split x3 (omega arith) f3 in
      let none : drop 4 x3 ≡ [] = nil_from_length (drop 4 x3) (omega (arith, length-drop 4 x3)) in
      let at : x3 ≡ drop (long + (size + size)) xs
      = ap (drop size) (drop-drop size long xs) ∙ drop-drop size (long + size) xs ∙ (let e : long + size + size ≡ long + (size + size) = omega arith in ap (λ m. drop m xs) e) in
      let share : number_at x3 0 ≡ number_at xs (long + (size + size))
      = ap (λ y. number_at y 0) at ∙ number_drop (long + (size + size)) xs 0 ∙ (let e : long + (size + size) + 0 ≡ long + (size + size) = omega arith in ap (number_at xs) e) in
      let end : x3 ≡ four_bytes (number_at xs (long + (size + size)))
      = o ∙ ap (λ t. four_bytes (number_at x3 0) ++ t) none ∙ append-nil (four_bytes (number_at x3 0)) ∙ ap four_bytes share in
      let β = form (from (take size x1)) in
      let e = form (from (take size x2)) in
      record {
        key = k.key;
        payload = from (take size x1);
        extra = from (take size x2);
        count = k.count;
        is = sym (k.split ∙ ap (λ t. compared_bytes form k.key ++ t) (a ∙ ap (λ t. β ++ t) (b ∙ ap (λ t. e ++ t) end)));
      }

-- a shift's key
pub record ShiftAt (n s : ℕ) (xs : List ℕ) : Type 0 where
  pub low : Compared Word
  pub high : Compared Word
  pub low_count : length low.rows ≡ s
  pub high_count : length high.rows ≡ n
  pub is : shift_bytes low high (number_at xs (compared_long 8 s + compared_long 8 n)) ≡ xs

pub shift_found : (n s : ℕ) (xs : List ℕ) → length xs ≡ compared_long 8 s + compared_long 8 n + 4 → Bytes xs → rows_fit 8 xs s 16 ≡ true
    → rows_fit 8 xs n (compared_long 8 s + 16) ≡ true → ShiftAt n s xs
shift_found n s xs l f t u =
    let k = compared_found word_bytes 8 word_from word_back s xs (omega arith) f t in
    let ls = compared_long 8 s in
    let ln = compared_long 8 n in
    let x1 = drop ls xs in
    let f1 : Bytes x1 = drop_bytes ls xs f in
    let l1 : length x1 ≡ ln + 4 = omega (arith, length-drop ls xs) in
    let h = compared_found word_bytes 8 word_from word_back n x1 (omega arith) f1 (rows_drop 8 xs ls n 16 ∙ u) in
    let x2 = drop ln x1 in
    let f2 : Bytes x2 = drop_bytes ln x1 f1 in
    let l2 : length x2 ≡ 4 = omega (arith, length-drop ln x1) in
    let o = number_split x2 (omega arith) f2 in
    let none : drop 4 x2 ≡ [] = nil_from_length (drop 4 x2) (omega (arith, length-drop 4 x2)) in
    let share : number_at x2 0 ≡ number_at xs (ls + ln)
    = ap (λ y. number_at y 0) (drop-drop ln ls xs) ∙ number_drop (ls + ln) xs 0 ∙ (let e : ls + ln + 0 ≡ ls + ln = omega arith in ap (number_at xs) e) in
    let end : x2 ≡ four_bytes (number_at xs (ls + ln))
    = o ∙ ap (λ t. four_bytes (number_at x2 0) ++ t) none ∙ append-nil (four_bytes (number_at x2 0)) ∙ ap four_bytes share in
    record {
      low = k.key;
      high = h.key;
      low_count = k.count;
      high_count = h.count;
      is = sym (k.split ∙ ap (λ t. compared_bytes word_bytes k.key ++ t) (h.split ∙ ap (λ t. compared_bytes word_bytes h.key ++ t) end));
    }
