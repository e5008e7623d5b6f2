-- What a reader finds in a book that was laid out: the header, each body, and contents without gaps.
use Rattle.std.proofs.Common.{◌≡◌, ℕ, zero, suc, ◌+◌, ◌*◌, ◌^◌, ◌<◌, ◌≤◌, true, cond, ◌&&◌, eqb, leb, List, [], ◌++◌, length, get_or, sym, refl, ap, ◌∙◌, inl, inr, append_assoc, append-nil, add-one, arith, length-append}
use Rattle.std.proofs.lemmas.Bool.{cases_eq, le-leb, eq-eqb}
use Rattle.stored.specs.Forms.{four_bytes}
use Rattle.layout.specs.Bytes.{number_at, joined}
use Rattle.layout.specs.Books.{Header, wire_count, bodies_start, header_bytes, offset, entry_bytes, book_length, laid_out}
use Rattle.bodies.specs.Parts.{part}
use Rattle.bodies.proofs.Numbers.{number_four, number_from, part_at}
use Rattle.reader.specs.Reading.{header_in, body_in}
use Rattle.reader.specs.Questions.{gapless, length_fits, contents_fit}

-- a list of parts at the part k
pub joined_split : (f : ℕ → List ℕ) (k n : ℕ) → k < n → (post : List ℕ) × (joined f n ≡ joined f k ++ (f k ++ post))
joined_split f k zero h = absurd (omega arith)
joined_split f k (suc n) h =
    elim (cases_eq k n) [
      | inl e ↦ ([], ap (λ i. joined f i ++ f i) (sym e) ∙ ap (λ t. joined f k ++ t) (sym (append-nil (f k))))
      | inr ne ↦
          (let r = joined_split f k n (omega arith) in
          (r.0 ++ f n, ap (λ t. t ++ f n) r.1 ∙ append_assoc (joined f k) (f k ++ r.0) (f n) ∙ ap (λ t. joined f k ++ t) (append_assoc (f k) r.0 (f n))))
    ]

pub joined_more : (f : ℕ → List ℕ) (k : ℕ) → length (joined f (k + 1)) ≡ length (joined f k) + length (f k)
joined_more f k = ap (λ n. length (joined f n)) (add-one k) ∙ length-append (joined f k) (f k)

pub joined_same : (f g : ℕ → List ℕ) (n : ℕ) → ((k : ℕ) → k < n → f k ≡ g k) → joined f n ≡ joined g n
joined_same f g zero e = refl
joined_same f g (suc n) e = let a = joined_same f g n (λ k h. e k (omega arith)) in let b = e n (omega arith) in λ i. a i ++ b i

pub entries_long : (h : Header) (body : ℕ → List ℕ) (k : ℕ) → length (joined (entry_bytes h body) k) ≡ 8 * k
entries_long h body zero = refl
entries_long h body (suc k) =
    let a = length-append (joined (entry_bytes h body) k) (entry_bytes h body k) in
    let b = entries_long h body k in
    omega arith

-- only the bodies of the wires matter
pub laid_same : (h : Header) (f g : ℕ → List ℕ) → ((k : ℕ) → k < wire_count h → f k ≡ g k) → laid_out h f ≡ laid_out h g
laid_same h f g e =
    let n = wire_count h in
    let to : (k : ℕ) → k ≤ n → joined f k ≡ joined g k = λ k l. joined_same f g k (λ j m. e j (omega arith)) in
    let entry : (k : ℕ) → k < n → entry_bytes h f k ≡ entry_bytes h g k
    = λ k l i. four_bytes (bodies_start h + length (to k (omega arith) i)) ++ four_bytes (length (e k l i)) in
    let bodies = to n (omega arith) in
    let entries = joined_same (entry_bytes h f) (entry_bytes h g) n entry in
    λ i. header_bytes h (bodies_start h + length (bodies i)) ++ (entries i ++ bodies i)

module _ (h : Header) (body : ℕ → List ℕ) (book : List ℕ) (is : book ≡ laid_out h body) where
  pub book_long : length book ≡ book_length h body
  book_long =
      let n = wire_count h in
      let a = length-append (joined (entry_bytes h body) n) (joined body n) in
      let b = entries_long h body n in
      ap length is ∙ omega arith

  -- the entry of wire k, and its body, within the book
  entry_at : (k : ℕ) → k < wire_count h
      → (post : List ℕ) × (book ≡ (header_bytes h (book_length h body) ++ joined (entry_bytes h body) k) ++ (entry_bytes h body k ++ post))
  entry_at k l =
      let n = wire_count h in
      let f = entry_bytes h body in
      let hb = header_bytes h (book_length h body) in
      let bs = joined body n in
      let r = joined_split f k n l in (
        r.0 ++ bs,
        is ∙ ap (λ t. hb ++ (t ++ bs)) r.1
            ∙ ap (λ t. hb ++ t) (append_assoc (joined f k) (f k ++ r.0) bs ∙ ap (λ t. joined f k ++ t) (append_assoc (f k) r.0 bs))
            ∙ sym (append_assoc hb (joined f k) (f k ++ (r.0 ++ bs))),
      )

  body_at : (k : ℕ) → k < wire_count h
      → (post : List ℕ) × (book ≡ ((header_bytes h (book_length h body) ++ joined (entry_bytes h body) (wire_count h)) ++ joined body k) ++ (body k ++ post))
  body_at k l =
      let n = wire_count h in
      let hb = header_bytes h (book_length h body) in
      let es = joined (entry_bytes h body) n in
      let r = joined_split body k n l in (
        r.0,
        is ∙ ap (λ t. hb ++ (es ++ t)) r.1
            ∙ sym (append_assoc hb es (joined body k ++ (body k ++ r.0)))
            ∙ sym (append_assoc (hb ++ es) (joined body k) (body k ++ r.0)),
      )

  -- a body ends within the book
  body_ends : (k : ℕ) → k < wire_count h → offset h body k + length (body k) ≤ book_length h body
  body_ends k l =
      let r = joined_split body k (wire_count h) l in
      let a = ap length r.1 ∙ length-append (joined body k) (body k ++ r.0) in
      let b = length-append (body k) r.0 in
      omega arith

  module _ (short : book_length h body < 2 ^ 32) where
    offset_back : (k : ℕ) → k < wire_count h → number_at book (16 + 8 * k) ≡ offset h body k
    offset_back k l =
        let r = entry_at k l in
        let hb = header_bytes h (book_length h body) in
        let es = joined (entry_bytes h body) k in
        let a : length (hb ++ es) ≡ 16 + 8 * k = omega (arith, length-append hb es, entries_long h body k) in
        number_from book (hb ++ es) (entry_bytes h body k) r.0 r.1 (16 + 8 * k) 0 (omega arith) (omega arith)
        ∙ number_four (offset h body k) (omega (arith, body_ends k l))

    length_back : (k : ℕ) → k < wire_count h → number_at book (20 + 8 * k) ≡ length (body k)
    length_back k l =
        let r = entry_at k l in
        let hb = header_bytes h (book_length h body) in
        let es = joined (entry_bytes h body) k in
        let a : length (hb ++ es) ≡ 16 + 8 * k = omega (arith, length-append hb es, entries_long h body k) in
        number_from book (hb ++ es) (entry_bytes h body k) r.0 r.1 (20 + 8 * k) 4 (omega arith) (omega arith)
        ∙ number_four (length (body k)) (omega (arith, body_ends k l))

    -- each body is found where it was laid
    pub body_back : (k : ℕ) → k < wire_count h → body_in book k ≡ body k
    body_back k l =
        let r = body_at k l in
        let hb = header_bytes h (book_length h body) in
        let es = joined (entry_bytes h body) (wire_count h) in
        let a : length ((hb ++ es) ++ joined body k) ≡ offset h body k
        = omega (arith, length-append (hb ++ es) (joined body k), length-append hb es, entries_long h body (wire_count h)) in
        let b : leb (24 + 8 * k) (length book) ≡ true = le-leb (24 + 8 * k) (length book) (omega (arith, book_long)) in
        let p = offset_back k l in
        let q = length_back k l in
        ap (λ c. cond c (part book (number_at book (16 + 8 * k)) (number_at book (20 + 8 * k))) []) b
        ∙ (λ i. part book (p i) (q i))
        ∙ part_at book ((hb ++ es) ++ joined body k) (body k) r.0 r.1 (offset h body k) (length (body k)) a refl

    gapless_from : (n k : ℕ) → n + k ≡ wire_count h → gapless book n k (offset h body k) ≡ true
    gapless_from zero k e =
        let l = book_long in
        let kw : k ≡ wire_count h = omega arith in
        let w : offset h body k ≡ book_length h body = ap (offset h body) kw in
        eq-eqb (offset h body k) (length book) (w ∙ sym l)
    gapless_from (suc n) k e =
        let l : k < wire_count h = omega arith in
        let o = offset_back k l in
        let m = length_back k l in
        let next : offset h body k + number_at book (20 + 8 * k) ≡ offset h body (k + 1)
        = ap (λ x. offset h body k + x) m ∙ omega (arith, joined_more body k) in
        let r : gapless book n (k + 1) (offset h body k + number_at book (20 + 8 * k)) ≡ true
        = ap (λ x. gapless book n (k + 1) x) next ∙ gapless_from n (k + 1) (omega arith) in
        let a : eqb (number_at book (16 + 8 * k)) (offset h body k) ≡ true = eq-eqb (number_at book (16 + 8 * k)) (offset h body k) o in
        let b : leb (offset h body k + number_at book (20 + 8 * k)) (length book) ≡ true
        = le-leb (offset h body k + number_at book (20 + 8 * k)) (length book) (omega (arith, body_ends k l, book_long, m)) in
        λ i. (a i && b i) && r i

    pub length_stated : length_fits book ≡ true
    length_stated =
        let l : number_at book 12 ≡ length book = ap (λ b. number_at b 12) is ∙ number_four (book_length h body) short ∙ sym book_long in
        let a : leb 16 (length book) ≡ true = le-leb 16 (length book) (omega (arith, book_long)) in
        let b = eq-eqb (number_at book 12) (length book) l in
        λ i. a i && b i

    -- the header reads back
    pub header_back : h.deal < 2 ^ 32 → header_in book ≡ h
    header_back d =
        let e : number_at book 4 ≡ h.deal = ap (λ b. number_at b 4) is ∙ number_four h.deal d in
        ap (λ x. record { box = get_or book 1 0; kind = get_or book 2 0; width = get_or book 3 0; deal = x; inputs = get_or book 8 0; gates = get_or book 9 0 }) e
        ∙ ap (λ b. record { box = get_or b 1 0; kind = get_or b 2 0; width = get_or b 3 0; deal = h.deal; inputs = get_or b 8 0; gates = get_or b 9 0 }) is

    pub contents_whole : contents_fit book ≡ true
    contents_whole =
        let n = wire_count h in
        let e : get_or book 8 0 + get_or book 9 0 ≡ n = ap (λ b. get_or b 8 0 + get_or b 9 0) is in
        let a : leb (16 + 8 * n) (length book) ≡ true = le-leb (16 + 8 * n) (length book) (omega (arith, book_long)) in
        let z : 16 + 8 * n ≡ offset h body 0 = omega arith in
        let g : gapless book n 0 (16 + 8 * n) ≡ true = ap (gapless book n 0) z ∙ gapless_from n 0 (omega arith) in
        ap (λ m. leb (16 + 8 * m) (length book) && gapless book m 0 (16 + 8 * m)) e ∙ (λ i. a i && g i)
