-- A list of bytes that passes the questions about header and contents is laid out from what a reader finds in it.
use Rattle.std.proofs.Common.{◌≡◌, ℕ, zero, suc, ◌+◌, ◌*◌, ◌<◌, ◌≤◌, Bool, true, false, cond, ◌&&◌, eqb, ltb, leb, List, [], ◌∷◌, ◌++◌, length, get_or, take, drop, sym, refl, ap, ◌∙◌, subst, inl, inr, append_assoc, append-nil, add-one, arith, length-drop, take-append-drop}
use Rattle.std.proofs.lemmas.List.{drop-drop, drop_all, get_or-drop, length-take-le}
use Rattle.std.proofs.lemmas.Bool.{and_parts, cases_eq, eqb-true, leb-true, le-leb}
use Rattle.stored.specs.Forms.{four_bytes}
use Rattle.layout.specs.Bytes.{number_at, joined}
use Rattle.layout.specs.Books.{Header, wire_count, header_bytes, offset, entry_bytes, book_length, laid_out}
use Rattle.bodies.specs.Parts.{part, Bytes}
use Rattle.bodies.proofs.Spread.{take_bytes, drop_bytes, number_split, number_drop}
use Rattle.bodies.proofs.FoundGates.{numbers_split}
use Rattle.reader.specs.Reading.{header_in, body_in}
use Rattle.reader.specs.Questions.{length_fits, header_fits, contents_fit, entry_fits, gapless}
use Rattle.reader.proofs.Laid.{joined_more}

-- a body's bytes are bytes
pub body_bytes : (book : List ℕ) (k : ℕ) → Bytes book → Bytes (body_in book k)
body_bytes book k f = pick (leb (24 + 8 * k) (length book)) (leb (number_at book (16 + 8 * k) + number_at book (20 + 8 * k)) (length book))
  where
    none : Bytes []
    none i = omega arith

    pick : (a b : Bool) → Bytes (cond a (cond b (take (number_at book (20 + 8 * k)) (drop (number_at book (16 + 8 * k)) book)) []) [])
    pick true true = take_bytes (number_at book (20 + 8 * k)) (drop (number_at book (16 + 8 * k)) book) (drop_bytes (number_at book (16 + 8 * k)) book f)
    pick true false = none
    pick false b = none

-- four bytes one by one
four_split : (xs : List ℕ) → 4 ≤ length xs → xs ≡ (get_or xs 0 0 ∷ get_or xs 1 0 ∷ get_or xs 2 0 ∷ get_or xs 3 0 ∷ []) ++ drop 4 xs
four_split [] h = absurd (omega arith)
four_split (a ∷ []) h = absurd (omega arith)
four_split (a ∷ b ∷ []) h = absurd (omega arith)
four_split (a ∷ b ∷ c ∷ []) h = absurd (omega arith)
four_split (a ∷ b ∷ c ∷ d ∷ xs) h = refl

module _ (book : List ℕ) (f : Bytes book) (q1 : length_fits book ≡ true) (q2 : header_fits book ≡ true) (q5 : contents_fit book ≡ true) where
  abbrev h : Header
  h = header_in book

  abbrev body : ℕ → List ℕ
  body = body_in book

  long : 16 ≤ length book
  long = leb-true 16 (length book) (and_parts (leb 16 (length book)) (eqb (number_at book 12) (length book)) q1).0

  stated : number_at book 12 ≡ length book
  stated = eqb-true (number_at book 12) (length book) (and_parts (leb 16 (length book)) (eqb (number_at book 12) (length book)) q1).1

  room : 16 + 8 * wire_count h ≤ length book
  room = leb-true (16 + 8 * wire_count h) (length book)
      (and_parts (leb (16 + 8 * wire_count h) (length book)) (gapless book (wire_count h) 0 (16 + 8 * wire_count h)) q5).0

  -- what the contents say of wire k
  record Entry (k : ℕ) : Type 0 where
    offset_is : number_at book (16 + 8 * k) ≡ offset h body k
    length_is : number_at book (20 + 8 * k) ≡ length (body k)
    split : drop (offset h body k) book ≡ body k ++ drop (offset h body (k + 1)) book

  entry : (k : ℕ) → k < wire_count h → number_at book (16 + 8 * k) ≡ offset h body k → offset h body k + number_at book (20 + 8 * k) ≤ length book → Entry k
  entry k l o e =
      let at = offset h body k in
      let n = number_at book (20 + 8 * k) in
      let r = room in
      let is : body k ≡ take n (drop at book)
      = ap (λ c. cond c (part book (number_at book (16 + 8 * k)) n) []) (le-leb (24 + 8 * k) (length book) (omega arith))
      ∙ ap (λ x. part book x n) o
      ∙ ap (λ c. cond c (take n (drop at book)) []) (le-leb (at + n) (length book) e) in
      let m : length (body k) ≡ n = ap length is ∙ length-take-le n (drop at book) (omega (arith, length-drop at book)) in
      let next : at + n ≡ offset h body (k + 1) = omega (arith, joined_more body k) in
      record {
        offset_is = o;
        length_is = sym m;
        split = sym (take-append-drop n (drop at book)) ∙ (λ i. sym is i ++ (drop-drop n at book ∙ ap (λ x. drop x book) next) i);
      }

  -- every entry, and the end
  entries_from : (m k : ℕ) → m + k ≡ wire_count h → gapless book m k (offset h body k) ≡ true
      → ((j : ℕ) → k ≤ j → j < wire_count h → Entry j) × (offset h body (wire_count h) ≡ length book)
  entries_from zero k e g =
      let s : k ≡ wire_count h = omega arith in
      (λ j a b. absurd (omega arith), ap (offset h body) (sym s) ∙ eqb-true (offset h body k) (length book) g)
  entries_from (suc m) k e g =
      let at = offset h body k in
      let n = number_at book (20 + 8 * k) in
      let rest = gapless book m (k + 1) (at + n) in
      let a = and_parts (entry_fits book k at) rest g in
      let b = and_parts (eqb (number_at book (16 + 8 * k)) at) (leb (at + n) (length book)) a.0 in
      let here = entry k (omega arith) (eqb-true (number_at book (16 + 8 * k)) at b.0) (leb-true (at + n) (length book) b.1) in
      let li = here.length_is in
      let next : at + n ≡ offset h body (k + 1) = omega (arith, joined_more body k) in
      let r = entries_from m (k + 1) (omega arith) (ap (gapless book m (k + 1)) (sym next) ∙ a.1) in
      (λ j p q. elim (cases_eq j k) [ inl s ↦ subst Entry (sym s) here | inr s ↦ r.0 j (omega arith) q ], r.1)

  all_entries : ((j : ℕ) → 0 ≤ j → j < wire_count h → Entry j) × (offset h body (wire_count h) ≡ length book)
  all_entries =
      let g = (and_parts (leb (16 + 8 * wire_count h) (length book)) (gapless book (wire_count h) 0 (16 + 8 * wire_count h)) q5).1 in
      let z : offset h body 0 ≡ 16 + 8 * wire_count h = omega arith in
      entries_from (wire_count h) 0 (omega arith) (ap (gapless book (wire_count h) 0) z ∙ g)

  -- the bodies below k, then what is left
  bodies_to : (k : ℕ) → k ≤ wire_count h → drop (16 + 8 * wire_count h) book ≡ joined body k ++ drop (offset h body k) book
  bodies_to zero l = let z : 16 + 8 * wire_count h ≡ offset h body 0 = omega arith in ap (λ x. drop x book) z
  bodies_to (suc k) l =
      let e = (all_entries.0 k (omega arith) (omega arith)).split in
      bodies_to k (omega arith) ∙ ap (λ t. joined body k ++ t) (e ∙ ap (λ x. body k ++ drop (offset h body x) book) (add-one k))
      ∙ sym (append_assoc (joined body k) (body k) (drop (offset h body (suc k)) book))

  bodies_are : drop (16 + 8 * wire_count h) book ≡ joined body (wire_count h)
  bodies_are =
      let o = all_entries.1 in
      bodies_to (wire_count h) (omega arith) ∙ ap (λ t. joined body (wire_count h) ++ t) (drop_all (offset h body (wire_count h)) book (omega arith))
      ∙ append-nil (joined body (wire_count h))

  -- the entries below k, then what is left
  entries_to : (k : ℕ) → k ≤ wire_count h → drop 16 book ≡ joined (entry_bytes h body) k ++ drop (16 + 8 * k) book
  entries_to zero l = refl
  entries_to (suc k) l =
      let e = all_entries.0 k (omega arith) (omega arith) in
      let at = 16 + 8 * k in
      let r = room in
      let p : number_at (drop at book) 0 ≡ offset h body k
      = number_drop at book 0 ∙ (let z : at + 0 ≡ at = omega arith in ap (number_at book) z) ∙ e.offset_is in
      let q : number_at (drop at book) 4 ≡ length (body k)
      = number_drop at book 4 ∙ (let z : at + 4 ≡ 20 + 8 * k = omega arith in ap (number_at book) z) ∙ e.length_is in
      let s = numbers_split (drop at book) (offset h body k) (length (body k)) (omega (arith, length-drop at book)) (drop_bytes at book f) p q in
      let next : drop 8 (drop at book) ≡ drop (16 + 8 * suc k) book
      = drop-drop 8 at book ∙ (let z : at + 8 ≡ 16 + 8 * suc k = omega arith in ap (λ x. drop x book) z) in
      let four = four_bytes (offset h body k) ++ four_bytes (length (body k)) in
      entries_to k (omega arith)
      ∙ ap (λ t. joined (entry_bytes h body) k ++ t) (s ∙ ap (λ t. four ++ t) next)
      ∙ sym (append_assoc (joined (entry_bytes h body) k) (entry_bytes h body k) (drop (16 + 8 * suc k) book))

  -- the header, then what is left
  header_is : book ≡ header_bytes h (book_length h body) ++ drop 16 book
  header_is =
      let t1 = and_parts (eqb (get_or book 0 0) 1) (ltb (get_or book 1 0) 2 && (eqb (get_or book 10 0) 0 && eqb (get_or book 11 0) 0)) q2 in
      let t2 = and_parts (ltb (get_or book 1 0) 2) (eqb (get_or book 10 0) 0 && eqb (get_or book 11 0) 0) t1.1 in
      let t3 = and_parts (eqb (get_or book 10 0) 0) (eqb (get_or book 11 0) 0) t2.1 in
      let b0 = eqb-true (get_or book 0 0) 1 t1.0 in
      let b10 = eqb-true (get_or book 10 0) 0 t3.0 in
      let b11 = eqb-true (get_or book 11 0) 0 t3.1 in
      let l = long in
      let x4 = drop 4 book in
      let x8 = drop 8 book in
      let x12 = drop 12 book in
      let s0 = four_split book (omega arith) in
      let s4 : x4 ≡ four_bytes (number_at book 4) ++ x8
      = number_split x4 (omega (arith, length-drop 4 book)) (drop_bytes 4 book f) ∙ (λ i. four_bytes (number_drop 4 book 0 i) ++ drop-drop 4 4 book i) in
      let s8 : x8 ≡ (get_or book 8 0 ∷ get_or book 9 0 ∷ get_or book 10 0 ∷ get_or book 11 0 ∷ []) ++ x12
      = four_split x8 (omega (arith, length-drop 8 book))
      ∙ (λ i. (get_or-drop 8 book 0 0 i ∷ get_or-drop 8 book 1 0 i ∷ get_or-drop 8 book 2 0 i ∷ get_or-drop 8 book 3 0 i ∷ []) ++ drop-drop 4 8 book i) in
      let ls : number_at book 12 ≡ book_length h body = stated ∙ sym all_entries.1 in
      let s12 : x12 ≡ four_bytes (book_length h body) ++ drop 16 book
      = number_split x12 (omega (arith, length-drop 12 book)) (drop_bytes 12 book f)
      ∙ (λ i. four_bytes ((number_drop 12 book 0 ∙ ls) i) ++ drop-drop 4 12 book i) in
      s0 ∙ (λ i. (b0 i ∷ get_or book 1 0 ∷ get_or book 2 0 ∷ get_or book 3 0 ∷ [])
      ++ (s4 ∙ ap (λ t. four_bytes (number_at book 4) ++ t) (s8 ∙ (λ j. (get_or book 8 0 ∷ get_or book 9 0 ∷ b10 j ∷ b11 j ∷ []) ++ s12 j))) i)

  -- the whole book
  pub whole : book ≡ laid_out h body
  whole = header_is ∙ ap (λ t. header_bytes h (book_length h body) ++ t)
      (entries_to (wire_count h) (omega arith) ∙ ap (λ t. joined (entry_bytes h body) (wire_count h) ++ t) bodies_are)
