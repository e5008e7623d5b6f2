-- A book that was dealt passes every question, and is read back.
use Rattle.std.proofs.Common.{◌≡◌, ℕ, ◌^◌, ◌<◌, ◌≤◌, Bool, true, false, cond, eqb, List, length, get_or, sym, refl, ap, ◌∙◌, arith}
use Rattle.std.proofs.lemmas.Bool.{and_parts, ltb-true, ltb-false, eqb-true, eqb-false}
use Rattle.expander.specs.Meaning.{Expansion}
use Rattle.plan.specs.Gates.{GateBody}
use Rattle.plan.specs.declared.gates.Gate.TheVariants.{Sum, Scale, Product, Piece, Flag, Shift, SignedShift, Xor}
use Rattle.plan.specs.Plans as plan
use Rattle.plan.specs.Plans.{Planned, wires, is_input, is_flag, row_at}
use Rattle.plan.specs.Questions as plan_asks
use Rattle.plan.specs.Questions.{plan_asks, within, owners_fit, interval_fits, all_below}
use Rattle.layout.specs.Wires.{Gate, input, gate, wire_bytes}
use Rattle.layout.specs.Books.{laid_out}
use Rattle.bodies.specs.Heads.{gives_flag, numbers_fit, reads_fit}
use Rattle.bodies.specs.Allowed.{head, mask_allowed, GateAllowed, input_allowed}
use Rattle.masks.specs.Masks.{masks, mask_of}
use Rattle.gatebytes.specs.Dealt.{dealt_gate}
use Rattle.dealer.specs.Book.{Order, when, gate_words, dealt_wire, header, dealt_book}
use Rattle.reader.specs.Law.{flag_wire, HeaderAllowed, wire_allowed, BookOf}
use Rattle.reader.proofs.Laid.{body_back, header_back}
use Rattle.reader.proofs.Taken.{reads_same, short, wire_back, book_taken, book_short}
use Rattle.returned.specs.Returned.{Returned, DealtIsRead}
use Rattle.plan.proofs.Accepted.{Accepted, accepted, gate_reads, gate_fields, owner_small}
use Rattle.returned.proofs.Ranges.{key_dealt, mask_small}

module _ (x : Expansion) (n : ℕ) (one : Bool) (ms w : List ℕ) where
  flag_dealt : (b : GateBody) → gives_flag (head (dealt_gate x n one ms w b)) ≡ plan.gives_flag b
  flag_dealt (Sum a b) = refl
  flag_dealt (Scale a c d) = refl
  flag_dealt (Product a b) = refl
  flag_dealt (Piece a p q c) = refl
  flag_dealt (Flag a p q t) = refl
  flag_dealt (Shift a s) = refl
  flag_dealt (SignedShift a s) = refl
  flag_dealt (Xor a b) = refl

  fields_dealt : (b : GateBody) → plan_asks.fields_fit n b ≡ true → numbers_fit n (head (dealt_gate x n one ms w b)) ≡ true
  fields_dealt (Sum a b) h = refl
  fields_dealt (Scale a c d) h = h
  fields_dealt (Product a b) h = refl
  fields_dealt (Piece a p q c) h = (and_parts (interval_fits n p q) (all_below n c) h).0
  fields_dealt (Flag a p q t) h = (and_parts (interval_fits n p q) (plan_asks.below 32 t) h).0
  fields_dealt (Shift a s) h = h
  fields_dealt (SignedShift a s) h = h
  fields_dealt (Xor a b) h = refl

  reads_dealt : (p : Planned) (k : ℕ) (b : GateBody) → reads_fit (is_flag p) k (head (dealt_gate x n one ms w b)) ≡ plan_asks.reads_fit p k b
  reads_dealt p k (Sum a b) = refl
  reads_dealt p k (Scale a c d) = refl
  reads_dealt p k (Product a b) = refl
  reads_dealt p k (Piece a l h c) = refl
  reads_dealt p k (Flag a l h t) = refl
  reads_dealt p k (Shift a s) = refl
  reads_dealt p k (SignedShift a s) = refl
  reads_dealt p k (Xor a b) = refl

-- a mask that is in its range, where it is given
mask_given : (n : ℕ) (flag : Bool) (given : Bool) (m : ℕ) → m < 2 ^ cond flag 32 n → mask_allowed n flag (when given m)
mask_given n flag true m h = h
mask_given n flag false m h = tt

-- an input's mask is given exactly to its owner
input_given : (b n owner m : ℕ) → owner < 2 → m < 2 ^ n → input_allowed b n owner (when (eqb owner b) m)
input_given b n owner m h l = pick (eqb owner b) refl
  where
    pick : (c : Bool) → eqb owner b ≡ c → input_allowed b n owner (when c m)
    pick true e = (h, eqb-true owner b e, l)
    pick false e = (h, eqb-false owner b e)

pub laid : (x : Expansion) (o : Order) → dealt_book x o ≡ laid_out (header x o) (λ k. wire_bytes (dealt_wire x o k))
unfolding dealt_book
laid x o = refl

module _ (x : Expansion) (o : Order) (ok : Accepted o.plan o.box (length o.words)) (deal : o.deal < 2 ^ 32) where
  abbrev gate_at : ℕ → Gate
  gate_at k = dealt_gate x o.plan.width (eqb o.box 1) (masks o.plan o.words) (gate_words o k) (row_at o.plan k).body

  -- the wires that carry flags are the plan's
  flags_dealt : (k : ℕ) → flag_wire (dealt_wire x o k) ≡ is_flag o.plan k
  flags_dealt k = pick (is_input o.plan k)
    where
      pick : (b : Bool) → flag_wire (cond b (input (get_or o.plan.owners k 0) (when (eqb (get_or o.plan.owners k 0) o.box) (mask_of o.plan o.words k)))
          (gate (when (row_at o.plan k).shown (mask_of o.plan o.words k)) (gate_at k)))
          ≡ cond b false (plan.gives_flag (row_at o.plan k).body)
      pick true = refl
      pick false = flag_dealt x o.plan.width (eqb o.box 1) (masks o.plan o.words) (gate_words o k) (row_at o.plan k).body

  gate_dealt : (k : ℕ) → is_input o.plan k ≡ false
      → GateAllowed o.plan.width (when (row_at o.plan k).shown (mask_of o.plan o.words k)) (gate_at k)
  gate_dealt k e =
      let n = o.plan.width in
      let b = (row_at o.plan k).body in
      let m = mask_of o.plan o.words k in
      let one = eqb o.box 1 in
      let ms = masks o.plan o.words in
      let f : is_flag o.plan k ≡ gives_flag (head (gate_at k))
      = ap (λ c. cond c false (plan.gives_flag b)) e ∙ sym (flag_dealt x n one ms (gate_words o k) b) in
      let s : m < 2 ^ cond (gives_flag (head (gate_at k))) 32 n = rw (← f) (mask_small o.plan o.words ok.few_bits k) in
      record {
        mask = mask_given n (gives_flag (head (gate_at k))) (row_at o.plan k).shown m s;
        fields = fields_dealt x n one ms (gate_words o k) b (gate_fields o.plan o.box (length o.words) ok k);
        key = key_dealt x n one ms (gate_words o k) b;
      }

  dealt_allowed : (k : ℕ) → k < wires o.plan → wire_allowed (header x o) (λ j. flag_wire (dealt_wire x o j)) k (dealt_wire x o k)
  dealt_allowed k l = pick (is_input o.plan k) refl
    where
      pick : (b : Bool) → is_input o.plan k ≡ b → wire_allowed (header x o) (λ j. flag_wire (dealt_wire x o j)) k
          (cond b (input (get_or o.plan.owners k 0) (when (eqb (get_or o.plan.owners k 0) o.box) (mask_of o.plan o.words k)))
          (gate (when (row_at o.plan k).shown (mask_of o.plan o.words k)) (gate_at k)))
      pick true e =
          let f : is_flag o.plan k ≡ false = ap (λ c. cond c false (plan.gives_flag (row_at o.plan k).body)) e in
          let s : mask_of o.plan o.words k < 2 ^ o.plan.width
          = rw (ap (λ c. 2 ^ cond c 32 o.plan.width) f) at (mask_small o.plan o.words ok.few_bits k) in
          (ltb-true k (length o.plan.owners) e, input_given o.box o.plan.width (get_or o.plan.owners k 0) (mask_of o.plan o.words k) (owner_small o.plan o.box (length o.words) ok k) s)
      pick false e =
          let at : length o.plan.owners ≤ k = ltb-false k (length o.plan.owners) e in
          let r = reads_same (λ j. flag_wire (dealt_wire x o j)) (is_flag o.plan) k (λ j h. flags_dealt j) (head (gate_at k))
          ∙ reads_dealt x o.plan.width (eqb o.box 1) (masks o.plan o.words) (gate_words o k) o.plan k (row_at o.plan k).body
          ∙ gate_reads o.plan o.box (length o.words) ok k at l in
          (at, gate_dealt k e, r)

  stated : HeaderAllowed x.kind (header x o)
  stated = record { box = ok.box; own = refl; width = (ok.some_bits, ok.few_bits); deal = deal; inputs = (ok.some_inputs, ok.few_inputs); gates = (ok.some_gates, ok.few_gates) }

  -- the dealt book is a book
  pub dealt_book_of : BookOf x.kind (dealt_book x o)
  dealt_book_of = record { header = header x o; wires = dealt_wire x o; stated = stated; allowed = dealt_allowed; laid = laid x o }

  pub read_back : Returned x o
  read_back =
      let h = header x o in
      let body : ℕ → List ℕ = λ k. wire_bytes (dealt_wire x o k) in
      let s = short x.kind h (dealt_wire x o) stated dealt_allowed in
      record {
        passes = book_taken x.kind (dealt_book x o) dealt_book_of;
        header = header_back h body (dealt_book x o) (laid x o) (omega arith) deal;
        bodies = body_back h body (dealt_book x o) (laid x o) (omega arith);
        fields = wire_back x.kind h (dealt_wire x o) stated dealt_allowed (dealt_book x o) (laid x o);
        short = book_short x.kind (dealt_book x o) dealt_book_of;
      }

pub dealt_is_read : DealtIsRead
dealt_is_read x o ok deal = read_back x o (accepted o.plan o.box (length o.words) ok) deal
