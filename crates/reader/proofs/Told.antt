-- The questions tell the books exactly.
use Rattle.std.proofs.Common.{◌≡◌, ℕ, zero, suc, ◌+◌, ◌<◌, ◌≤◌, Bool, true, false, cond, ◌&&◌, eqb, ltb, ◌⊎◌, List, length, get_or, None, Ok, sym, refl, ap, ◌∙◌, inl, inr, arith}
use Rattle.std.proofs.lemmas.Bool.{and_parts, cases_eq, cases_lt, eqb-true, ltb-true, ltb-false}
use Rattle.plan.specs.Questions.{within}
use Rattle.layout.specs.Wires.{Wire, input, gate, wire_bytes}
use Rattle.layout.specs.Books.{wire_count}
use Rattle.bodies.specs.Parts.{Bytes}
use Rattle.bodies.specs.Bodies.{head_in, gate_fits, input_fits}
use Rattle.bodies.specs.Allowed.{head}
use Rattle.bodies.proofs.Spread.{number_small}
use Rattle.bodies.proofs.FoundGates.{gate_found, input_found}
use Rattle.reader.specs.Reading.{header_in, body_in, flag_in}
use Rattle.reader.specs.Questions.{reads_in, wire_fits, wires_fit, book_asks, book_answer}
use Rattle.reader.specs.Law.{flag_wire, wire_allowed, BookOf, Tells}
use Rattle.reader.proofs.Yes.{all_yes, within_tells}
use Rattle.reader.proofs.Laid.{laid_same}
use Rattle.reader.proofs.Taken.{reads_same, flag_placed, book_taken, book_short}
use Rattle.reader.proofs.Whole.{body_bytes, whole}

-- every wire of a run of wires
wires_each : (book : List ℕ) (n k j : ℕ) → wires_fit book n k ≡ true → k ≤ j → j < n + k → wire_fits book j ≡ true
wires_each book zero k j t l m = absurd (omega arith)
wires_each book (suc n) k j t l m =
    let u = and_parts (wire_fits book k) (wires_fit book n (k + 1)) t in
    elim (cases_eq j k) [ inl e ↦ ap (wire_fits book) e ∙ u.0 | inr e ↦ wires_each book n (k + 1) j u.1 (omega arith) (omega arith) ]

module _ (book : List ℕ) (f : Bytes book) where
  -- the wire that a body tells
  record WireFound (k : ℕ) : Type 0 where
    found : Wire
    is : body_in book k ≡ wire_bytes found
    allowed : wire_allowed (header_in book) (flag_in book) k found

  wire_found : (k : ℕ) → wire_fits book k ≡ true → WireFound k
  wire_found k t = pick (ltb k (get_or book 8 0)) refl t
    where
      pick : (c : Bool) → ltb k (get_or book 8 0) ≡ c
          → cond c (input_fits (get_or book 1 0) (get_or book 3 0) (body_in book k)) (gate_fits (get_or book 3 0) (body_in book k) && reads_in book k (head_in (body_in book k))) ≡ true
          → WireFound k
      pick true e t =
          let r = input_found (get_or book 1 0) (get_or book 3 0) (body_in book k) (body_bytes book k f) t in
          record { found = input r.owner r.mask; is = sym r.is; allowed = (ltb-true k (get_or book 8 0) e, r.allowed) }
      pick false e t =
          let u = and_parts (gate_fits (get_or book 3 0) (body_in book k)) (reads_in book k (head_in (body_in book k))) t in
          let r = gate_found (get_or book 3 0) (body_in book k) (body_bytes book k f) u.0 in
          record {
            found = gate r.shown r.found;
            is = sym r.is;
            allowed = (ltb-false k (get_or book 8 0) e, r.allowed, ap (reads_in book k) (sym r.told) ∙ u.1);
          }

  module _ (fit : (k : ℕ) → k < wire_count (header_in book) → wire_fits book k ≡ true) where
    -- the wires of the book; past its end any
    pick_wire : (k : ℕ) → (k < wire_count (header_in book)) ⊎ (wire_count (header_in book) ≤ k) → Wire
    pick_wire k (inl l) = (wire_found k (fit k l)).found
    pick_wire k (inr l) = input 0 None

    wire_at : ℕ → Wire
    wire_at k = pick_wire k (cases_lt k (wire_count (header_in book)))

    wire_is : (k : ℕ) → k < wire_count (header_in book) → (body_in book k ≡ wire_bytes (wire_at k)) × wire_allowed (header_in book) (flag_in book) k (wire_at k)
    unfolding wire_at pick_wire
    wire_is k l = go (cases_lt k (wire_count (header_in book)))
      where
        go : (c : (k < wire_count (header_in book)) ⊎ (wire_count (header_in book) ≤ k))
            → (body_in book k ≡ wire_bytes (pick_wire k c)) × wire_allowed (header_in book) (flag_in book) k (pick_wire k c)
        go (inl m) = ((wire_found k (fit k m)).is, (wire_found k (fit k m)).allowed)
        go (inr m) = absurd (omega arith)

    -- the wires that carry flags are those of the book
    flags_are : (k : ℕ) → k < wire_count (header_in book) → flag_in book k ≡ flag_wire (wire_at k)
    flags_are k l = let w = wire_is k l in flag_placed (header_in book) (flag_in book) book k (wire_at k) refl w.0 w.1

    at_flags : (k : ℕ) (w : Wire) → k < wire_count (header_in book) → wire_allowed (header_in book) (flag_in book) k w
        → wire_allowed (header_in book) (λ j. flag_wire (wire_at j)) k w
    at_flags k (input owner mask) l a = a
    at_flags k (gate shown g) l a =
        (a.0, a.1, sym (reads_same (flag_in book) (λ j. flag_wire (wire_at j)) k (λ j m. flags_are j (omega arith)) (head g)) ∙ a.2)

    wires_allowed : (k : ℕ) → k < wire_count (header_in book) → wire_allowed (header_in book) (λ j. flag_wire (wire_at j)) k (wire_at k)
    wires_allowed k l = at_flags k (wire_at k) l (wire_is k l).1

-- what passes every question is a book
pub book_told : (kind : ℕ) (book : List ℕ) → Bytes book → book_answer kind book ≡ Ok tt → BookOf kind book
book_told kind book f ok =
    let q = all_yes (book_asks kind book) ok in
    let n = wire_count (header_in book) in
    let fit : (k : ℕ) → k < n → wire_fits book k ≡ true = λ k l. wires_each book n 0 k q.1.1.1.1.1.0 (omega arith) (omega arith) in
    let t = and_parts (within 1 32 (get_or book 3 0)) (within 1 16 (get_or book 8 0) && within 1 32 (get_or book 9 0)) q.1.1.1.0 in
    let u = and_parts (within 1 16 (get_or book 8 0)) (within 1 32 (get_or book 9 0)) t.1 in
    let b = and_parts (eqb (get_or book 0 0) 1) (ltb (get_or book 1 0) 2 && (eqb (get_or book 10 0) 0 && eqb (get_or book 11 0) 0)) q.1.0 in
    let c = and_parts (ltb (get_or book 1 0) 2) (eqb (get_or book 10 0) 0 && eqb (get_or book 11 0) 0) b.1 in
    record {
      header = header_in book;
      wires = wire_at book f fit;
      stated = record {
        box = ltb-true (get_or book 1 0) 2 c.0;
        own = eqb-true (get_or book 2 0) kind q.1.1.0;
        width = within_tells 1 32 (get_or book 3 0) t.0;
        deal = number_small book 4 f;
        inputs = within_tells 1 16 (get_or book 8 0) u.0;
        gates = within_tells 1 32 (get_or book 9 0) u.1;
      };
      allowed = wires_allowed book f fit;
      laid = whole book f q.0 q.1.0 q.1.1.1.1.0
          ∙ laid_same (header_in book) (body_in book) (λ k. wire_bytes (wire_at book f fit k)) (λ k l. (wire_is book f fit k l).0);
    }

pub exactly_told : (kind : ℕ) (book : List ℕ) → Bytes book → Tells kind book (book_answer kind book)
exactly_told kind book f = (book_told kind book f, book_taken kind book)

pub told_short : (kind : ℕ) (book : List ℕ) → Bytes book → book_answer kind book ≡ Ok tt → length book ≤ 54880
told_short kind book f ok = book_short kind book (book_told kind book f ok)
