-- Every book passes the questions, and is short.
use Rattle.std.proofs.Common.{◌≡◌, ℕ, zero, suc, ◌+◌, ◌-◌, ◌*◌, ◌^◌, ◌<◌, ◌≤◌, min, Bool, true, false, cond, not, ◌&&◌, eqb, ltb, ◌⊎◌, List, [], ◌∷◌, length, get_or, Some, Ok, refl, ap, ◌∙◌, inl, inr, arith, length-append}
use Rattle.std.proofs.lemmas.Bool.{lt-ltb, le-ltb, le-leb, eq-eqb, ltb-true}
use Rattle.refusal.specs.declared.Refusal.TheVariants.{BookLength, BookHeader, BookKind, BookCounts, BookContents, BookBodies}
use Rattle.refusal.specs.Questions.{answered}
use Rattle.layout.specs.Bytes.{joined}
use Rattle.layout.specs.Wires as wire
use Rattle.layout.specs.Wires.{Wire, Gate, input, gate, wire_bytes}
use Rattle.layout.specs.Books.{Header, wire_count, book_length, laid_out}
use Rattle.plan.specs.Gates.{GateHead}
use Rattle.plan.specs.declared.gates.Gate.TheVariants.{Sum, Scale, Product, Piece, Flag, Shift, SignedShift, Xor}
use Rattle.bodies.specs.Heads.{gives_flag, lower_number, lower_flag, reads_fit}
use Rattle.bodies.specs.Bodies.{head_in, gate_of, gate_in, input_in, gate_fits, input_fits}
use Rattle.bodies.specs.Allowed.{head}
use Rattle.bodies.proofs.Written.{gate_written, head_in_back, shown_back, input_written, input_back}
use Rattle.bodies.proofs.Longest.{gate_short, input_short}
use Rattle.reader.specs.Reading.{body_in, flag_kind, flag_in, wire_in, said}
use Rattle.reader.specs.Questions.{header_fits, counts_fit, reads_in, wire_fits, wires_fit, book_answer}
use Rattle.reader.specs.Law.{flag_wire, HeaderAllowed, wire_allowed, BookOf}
use Rattle.reader.proofs.Laid.{book_long, body_back, length_stated, contents_whole}

-- parts of at most 5 bytes below m, and of at most 1,700 from m on
joined_short : (f : ℕ → List ℕ) (m n : ℕ) → ((k : ℕ) → k < n → (length (f k) ≤ 5) ⊎ ((m ≤ k) × (length (f k) ≤ 1700)))
    → length (joined f n) ≤ 5 * min n m + 1700 * (n - m)
joined_short f m zero h = omega arith
joined_short f m (suc n) h =
    let a = length-append (joined f n) (f n) in
    let b = joined_short f m n (λ k l. h k (omega arith)) in
    let c = h n (omega arith) in
    elim c [ inl p ↦ omega arith | inr p ↦ (let q = p.0 in let r = p.1 in omega arith) ]

-- the kind byte tells whether a gate gives flags
kind_tells : (g : Gate) → flag_kind (wire.kind g) ≡ gives_flag (head g)
kind_tells (wire.sum a b) = refl
kind_tells (wire.scale a c d) = refl
kind_tells (wire.product a b x y z) = refl
kind_tells (wire.piece a p q k β e o) = refl
kind_tells (wire.flag a p q k β e o) = refl
kind_tells (wire.shift a s l h r) = refl
kind_tells (wire.signed_shift a s l h r) = refl
kind_tells (wire.xor a b) = refl

-- only the wires below k matter to the gate of wire k
module _ (f g : ℕ → Bool) (k : ℕ) (same : (j : ℕ) → j < k → f j ≡ g j) where
  below_same : (a : ℕ) (F : Bool → Bool) → (ltb a k && F (f a)) ≡ (ltb a k && F (g a))
  below_same a F = pick (ltb a k) refl
    where
      pick : (b : Bool) → ltb a k ≡ b → (b && F (f a)) ≡ (b && F (g a))
      pick true e = ap F (same a (ltb-true a k e))
      pick false e = refl

  number_same : (a : ℕ) → lower_number f k a ≡ lower_number g k a
  number_same a = below_same a not

  flag_same : (a : ℕ) → lower_flag f k a ≡ lower_flag g k a
  flag_same a = below_same a (λ b. b)

  pub reads_same : (h : GateHead) → reads_fit f k h ≡ reads_fit g k h
  reads_same (Sum a b) = λ i. number_same a i && number_same b i
  reads_same (Scale a c d) = number_same a
  reads_same (Product a b) = λ i. number_same a i && number_same b i
  reads_same (Piece a p q _) = number_same a
  reads_same (Flag a p q _) = number_same a
  reads_same (Shift a s) = number_same a
  reads_same (SignedShift a s) = number_same a
  reads_same (Xor a b) = λ i. flag_same a i && flag_same b i

-- the book tells whether a wire that stands in it carries flags
pub flag_placed : (h : Header) (is_flag : ℕ → Bool) (book : List ℕ) (k : ℕ) (w : Wire) → get_or book 8 0 ≡ h.inputs → body_in book k ≡ wire_bytes w
    → wire_allowed h is_flag k w → flag_in book k ≡ flag_wire w
flag_placed h is_flag book k (input owner mask) e b a =
    (λ i. not (ltb k (e i)) && flag_kind (get_or (b i) 0 0)) ∙ ap (λ c. not c && flag_kind owner) (lt-ltb k h.inputs a.0)
flag_placed h is_flag book k (gate shown g) e b a =
    (λ i. not (ltb k (e i)) && flag_kind (get_or (b i) 0 0)) ∙ ap (λ c. not c && flag_kind (wire.kind g)) (le-ltb k h.inputs a.0) ∙ kind_tells g

module _ (kind : ℕ) (h : Header) (wires : ℕ → Wire) (stated : HeaderAllowed kind h)
    (allowed : (k : ℕ) → k < wire_count h → wire_allowed h (λ j. flag_wire (wires j)) k (wires k)) where
  abbrev body_of : ℕ → List ℕ
  body_of k = wire_bytes (wires k)

  wire_short : (k : ℕ) (w : Wire) → wire_allowed h (λ j. flag_wire (wires j)) k w → (length (wire_bytes w) ≤ 5) ⊎ ((h.inputs ≤ k) × (length (wire_bytes w) ≤ 1700))
  wire_short k (input owner mask) a =
      inl (input_short h.box h.width (wire_bytes (input owner mask)) (input_written h.box h.width owner mask stated.width.1 a.1))
  wire_short k (gate shown g) a =
      inr (a.0, gate_short h.width (wire_bytes (gate shown g)) stated.width.1 (gate_written h.width shown g stated.width.1 a.1))

  pub short : book_length h body_of ≤ 54880
  short =
      let a = joined_short body_of h.inputs (wire_count h) (λ k l. wire_short k (wires k) (allowed k l)) in
      let b = stated.inputs.1 in
      let c = stated.gates.1 in
      omega arith

  module _ (book : List ℕ) (is : book ≡ laid_out h body_of) where
    fits : book_length h body_of < 2 ^ 32
    fits = let s = short in omega arith

    e1 : get_or book 1 0 ≡ h.box
    e1 = ap (λ b. get_or b 1 0) is

    e3 : get_or book 3 0 ≡ h.width
    e3 = ap (λ b. get_or b 3 0) is

    e8 : get_or book 8 0 ≡ h.inputs
    e8 = ap (λ b. get_or b 8 0) is

    e9 : get_or book 9 0 ≡ h.gates
    e9 = ap (λ b. get_or b 9 0) is

    -- the book tells which wires carry flags
    flag_told : (k : ℕ) → k < wire_count h → flag_in book k ≡ flag_wire (wires k)
    flag_told k l = flag_placed h (λ j. flag_wire (wires j)) book k (wires k) e8 (body_back h body_of book is fits k l) (allowed k l)

    wire_taken : (k : ℕ) → k < wire_count h → wire_fits book k ≡ true
    wire_taken k l =
        let bb = body_back h body_of book is fits k l in
        (λ i. cond (ltb k (e8 i)) (input_fits (e1 i) (e3 i) (bb i)) (gate_fits (e3 i) (bb i) && reads_in book k (head_in (bb i))))
        ∙ pick (wires k) (allowed k l)
      where
        pick : (w : Wire) → wire_allowed h (λ j. flag_wire (wires j)) k w
            → cond (ltb k h.inputs) (input_fits h.box h.width (wire_bytes w)) (gate_fits h.width (wire_bytes w) && reads_in book k (head_in (wire_bytes w))) ≡ true
        pick (input owner mask) a =
            let bytes = wire_bytes (input owner mask) in
            ap (λ b. cond b (input_fits h.box h.width bytes) (gate_fits h.width bytes && reads_in book k (head_in bytes))) (lt-ltb k h.inputs a.0)
            ∙ input_written h.box h.width owner mask stated.width.1 a.1
        pick (gate shown g) a =
            let p = gate_written h.width shown g stated.width.1 a.1 in
            let q : reads_in book k (head_in (wire_bytes (gate shown g))) ≡ true
            = ap (reads_in book k) (head_in_back h.width shown g stated.width.1 a.1)
            ∙ reads_same (flag_in book) (λ j. flag_wire (wires j)) k (λ j m. flag_told j (omega arith)) (head g) ∙ a.2 in
            let bytes = wire_bytes (gate shown g) in
            ap (λ b. cond b (input_fits h.box h.width bytes) (gate_fits h.width bytes && reads_in book k (head_in bytes))) (le-ltb k h.inputs a.0)
            ∙ (λ i. p i && q i)

    -- what the book says of each wire reads back
    pub wire_back : (k : ℕ) → k < wire_count h → wire_in book k ≡ Some (said (wires k))
    wire_back k l =
        let bb = body_back h body_of book is fits k l in
        (λ i. cond (ltb k (e8 i)) (Some (input_in (e1 i) (bb i))) (gate_in (bb i))) ∙ pick (wires k) (allowed k l)
      where
        pick : (w : Wire) → wire_allowed h (λ j. flag_wire (wires j)) k w → cond (ltb k h.inputs) (Some (input_in h.box (wire_bytes w))) (gate_in (wire_bytes w)) ≡ Some (said w)
        pick (input owner mask) a =
            let bytes = wire_bytes (input owner mask) in
            ap (λ b. cond b (Some (input_in h.box bytes)) (gate_in bytes)) (lt-ltb k h.inputs a.0)
            ∙ ap Some (input_back h.box h.width owner mask stated.width.1 a.1)
        pick (gate shown g) a =
            let bytes = wire_bytes (gate shown g) in
            let p = shown_back h.width shown g stated.width.1 a.1 in
            let q = head_in_back h.width shown g stated.width.1 a.1 in
            ap (λ b. cond b (Some (input_in h.box bytes)) (gate_in bytes)) (le-ltb k h.inputs a.0) ∙ (λ i. gate_of (p i) (q i))

    all_taken : (n k : ℕ) → n + k ≡ wire_count h → wires_fit book n k ≡ true
    all_taken zero k e = refl
    all_taken (suc n) k e = let a = wire_taken k (omega arith) in let b = all_taken n (k + 1) (omega arith) in λ i. a i && b i

    pub taken : book_answer kind book ≡ Ok tt
    taken =
        let n : get_or book 8 0 + get_or book 9 0 ≡ wire_count h = λ i. e8 i + e9 i in
        let q1 = length_stated h body_of book is fits in
        let b : ltb h.box 2 ≡ true = lt-ltb h.box 2 stated.box in
        let q2 : header_fits book ≡ true = ap header_fits is ∙ ap (λ b. b && true) b in
        let q3 : eqb (get_or book 2 0) kind ≡ true = eq-eqb (get_or book 2 0) kind (ap (λ b. get_or b 2 0) is ∙ stated.own) in
        let w0 = le-leb 1 h.width stated.width.0 in
        let w1 = le-leb h.width 32 stated.width.1 in
        let i0 = le-leb 1 h.inputs stated.inputs.0 in
        let i1 = le-leb h.inputs 16 stated.inputs.1 in
        let g0 = le-leb 1 h.gates stated.gates.0 in
        let g1 = le-leb h.gates 32 stated.gates.1 in
        let q4 : counts_fit book ≡ true = ap counts_fit is ∙ (λ i. (w0 i && w1 i) && ((i0 i && i1 i) && (g0 i && g1 i))) in
        let q5 = contents_whole h body_of book is fits in
        let q6 : wires_fit book (get_or book 8 0 + get_or book 9 0) 0 ≡ true = ap (λ m. wires_fit book m 0) n ∙ all_taken (wire_count h) 0 (omega arith) in
        λ i. answered ((q1 i, BookLength) ∷ (q2 i, BookHeader) ∷ (q3 i, BookKind) ∷ (q4 i, BookCounts) ∷ (q5 i, BookContents) ∷ (q6 i, BookBodies) ∷ []) tt

pub book_taken : (kind : ℕ) (book : List ℕ) → BookOf kind book → book_answer kind book ≡ Ok tt
book_taken kind book b = taken kind b.header b.wires b.stated b.allowed book b.laid

pub book_short : (kind : ℕ) (book : List ℕ) → BookOf kind book → length book ≤ 54880
book_short kind book b =
    let s = short kind b.header b.wires b.stated b.allowed in
    omega (arith, book_long b.header (λ k. wire_bytes (b.wires k)) book b.laid)
