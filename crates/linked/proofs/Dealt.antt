-- The book of a deal says of each wire what the plan says, and its keys are those that were dealt.
use Rattle.std.proofs.Common.{◌≡◌, ℕ, ◌-◌, ◌<◌, ◌≤◌, Bool, true, false, cond, ◌&&◌, eqb, ltb, leb, List, [], ◌++◌, length, get_or, drop, Some, None, Ok, Option, sym, refl, ap, ◌∙◌, subst, ap₂, inl, inr, arith}
use Rattle.std.proofs.lemmas.List.{get_or_past}
use Rattle.std.proofs.lemmas.Bool.{ltb-false, lt-ltb, le-ltb, eq-eqb, ne_eqb, cases_lt, cases_eq, false≢true}
use Rattle.refusal.specs.Questions.{answered}
use Rattle.expander.specs.Meaning.{Expansion}
use Rattle.joining.specs.Joining.{AllWide}
use Rattle.key.specs.declared.BoxNumber.{BoxNumber}
use Rattle.key.specs.declared.BoxNumber.TheVariants.{Zero, One}
use Rattle.key.specs.Rows.{is_one}
use Rattle.plan.specs.Gates.{GateBody, GateHead}
use Rattle.plan.specs.declared.gates.Gate.TheVariants as plan
use Rattle.plan.specs.Plans.{Planned, wires, is_input, row_at, no_row, gives_flag, is_keyed, reads}
use Rattle.plan.specs.Questions.{plan_asks}
use Rattle.plan.proofs.Accepted.{Accepted, accepted, owner_small}
use Rattle.layout.specs.Wires as wire
use Rattle.layout.specs.Wires.{Gate, Wire, input, gate, wire_bytes, parameter_bytes, gate_key_bytes}
use Rattle.layout.specs.Books.{wire_count}
use Rattle.bodies.specs.declared.WireBody.{WireBody}
use Rattle.bodies.specs.declared.WireBody.TheVariants as body
use Rattle.bodies.specs.Heads.{parameters_long}
use Rattle.bodies.specs.Bodies as bodies
use Rattle.bodies.specs.Bodies.{head_in, shown_in, gate_in, input_in, key_in}
use Rattle.bodies.specs.Allowed.{head, key_allowed}
use Rattle.reader.specs.Reading.{header_in, body_in, wire_in, said}
use Rattle.masks.specs.Masks.{masks, mask_of}
use Rattle.gatebytes.specs.Dealt.{dealt_gate}
use Rattle.dealer.specs.Book.{Order, order, when, gate_words, dealt_wire, dealt_book}
use Rattle.returned.specs.Returned.{Returned}
use Rattle.returned.proofs.Back.{dealt_is_read}
use Rattle.returned.proofs.Ranges.{key_dealt}
use Rattle.runs.specs.Plans.{Wiring, Deal, is_gate, same_box}
use Rattle.runs.specs.Boxes.{Slot, Act, box_byte, step}
use Rattle.boxview.specs.Values.{values, box_of}
use Rattle.boxview.specs.Sharing.{gate_share, gate_local}
use Rattle.boxview.specs.Reading as view
use Rattle.boxview.specs.Reading.{no_wire, or_none, wire_of, wiring_in, deal_in, WholeGate, HoldsGate, SharesOf, head_local, owner_of, reads_of, keyed_of, shown_of, flag_of, local_of}
use Rattle.boxview.specs.Steps.{box_step}
use Rattle.sharing.specs.Wirings.{own, wiring_of, gate_of, deal_of}
use Rattle.sharing.proofs.Formed.{gate_place}
use Rattle.linked.specs.Linked.{BoxLinked, BoxesAreLinked}
use Rattle.linked.proofs.Alike.{DealAlike, WiringAlike, step_of_deals, step_of_wirings}
use Rattle.linked.proofs.Told.{gate_told}
use Rattle.linked.proofs.Whole.{gate_whole}

-- what a dealt gate's head says, kind by kind
module _ (x : Expansion) (n : ℕ) (one : Bool) (ms w : List ℕ) where
  dealt_reads : (b : GateBody) → reads (head (dealt_gate x n one ms w b)) ≡ reads b
  dealt_reads (plan.Sum a b) = refl
  dealt_reads b = refl

  dealt_keyed : (b : GateBody) → is_keyed (head (dealt_gate x n one ms w b)) ≡ is_keyed b
  dealt_keyed (plan.Sum a b) = refl
  dealt_keyed b = refl

  dealt_flag : (b : GateBody) → gives_flag (head (dealt_gate x n one ms w b)) ≡ gives_flag b
  dealt_flag (plan.Sum a b) = refl
  dealt_flag b = refl

  -- a local gate works alike for both boxes
  dealt_local : (b : GateBody) (hs : List ℕ) → head_local n (head (dealt_gate x n one ms w b)) hs ≡ gate_local n (dealt_gate x n false ms w b) hs
  dealt_local (plan.Sum a b) hs = refl
  dealt_local b hs = refl

given_when : (t : Bool) (m : ℕ) → view.given (when t m) ≡ t
given_when true m = refl
given_when false m = refl

-- the key's bytes in a gate's body
key_after : (g : Gate) → drop (parameters_long (head g)) (parameter_bytes g ++ gate_key_bytes g) ≡ gate_key_bytes g
key_after (wire.sum a b) = refl
key_after g = refl

key_back : (shown : Option ℕ) (g : Gate) → key_in (wire_bytes (gate shown g)) (head g) ≡ gate_key_bytes g
key_back None g = key_after g
key_back (Some m) g = key_after g

-- the head that a gate's body names
head_named : (s t : Option ℕ) (g h : GateHead) → ◌≡◌ {A = Option WireBody} (Some (body.Gate s g)) (Some (body.Gate t h)) → g ≡ h
head_named s t g h e = ap (λ o. named (view.or_none o)) e
  where
    named : WireBody → GateHead
    named (body.Input owner mask) = g
    named (body.Gate shown j) = j

box_back : (b : BoxNumber) → box_of (box_byte b) ≡ b
box_back Zero = refl
box_back One = refl

one_back : (b : BoxNumber) → eqb (box_byte b) 1 ≡ is_one b
one_back Zero = refl
one_back One = refl

module _ (d x y : Expansion) (wide : AllWide d) (p : Planned) (number : ℕ) (words : List ℕ) (b : BoxNumber)
    (a : Accepted p 0 (length words)) (ret : Returned d (order p (box_byte b) number words)) where
  abbrev o : Order
  o = order p (box_byte b) number words

  abbrev book : List ℕ
  book = dealt_book d o

  abbrev W : Wiring
  W = wiring_of p

  abbrev D : Deal
  D = deal_of d x y p number words

  count_is : wire_count (header_in book) ≡ wires p
  count_is = ap wire_count ret.header

  abbrev body_at : ℕ → GateBody
  body_at k = (row_at p k).body

  -- box b's gate at wire k
  abbrev own_gate : ℕ → Gate
  own_gate k = dealt_gate d p.width (eqb (box_byte b) 1) (masks p words) (gate_words o k) (body_at k)

  -- past the last wire there is nothing
  past : (k : ℕ) → wires p ≤ k → no_wire ≡ said (dealt_wire d o k)
  past k h =
      let i : is_input p k ≡ false = le-ltb k (length p.owners) (omega arith) in
      let r : row_at p k ≡ no_row = get_or_past p.rows (k - length p.owners) no_row (omega arith) in
      sym (ap (λ t. said (cond t (input (get_or p.owners k 0) (when (eqb (get_or p.owners k 0) (box_byte b)) (mask_of p words k)))
      (gate (when (row_at p k).shown (mask_of p words k)) (own_gate k)))) i
      ∙ ap (λ q. said (gate (when q.shown (mask_of p words k)) (dealt_gate d p.width (eqb (box_byte b) 1) (masks p words) (gate_words o k) q.body))) r)

  -- what the book says of wire k
  pub wire_is : (k : ℕ) → wire_of book k ≡ said (dealt_wire d o k)
  wire_is k = elim (cases_lt k (wires p)) [
    | inl h ↦ (let t : ltb k (wire_count (header_in book)) ≡ true = ap (ltb k) count_is ∙ lt-ltb k (wires p) h in
        ap (λ c. cond c (or_none (wire_in book k)) no_wire) t ∙ ap or_none (ret.fields k h))
    | inr h ↦ (let t : ltb k (wire_count (header_in book)) ≡ false = ap (ltb k) count_is ∙ le-ltb k (wires p) h in
        ap (λ c. cond c (or_none (wire_in book k)) no_wire) t ∙ past k h)
  ]

  -- each wire's fields, by whether it is an input
  abbrev wire_by : Bool → ℕ → Wire
  wire_by t k = cond t (input (get_or p.owners k 0) (when (eqb (get_or p.owners k 0) (box_byte b)) (mask_of p words k)))
      (gate (when (row_at p k).shown (mask_of p words k)) (own_gate k))

  owner_by : (k : ℕ) (t : Bool) → is_input p k ≡ t → owner_of (said (wire_by t k)) ≡ box_of (get_or p.owners k 0)
  owner_by k true e = refl
  owner_by k false e = sym (ap box_of (get_or_past p.owners k 0 (ltb-false k (length p.owners) e)))

  reads_by : (k : ℕ) (t : Bool) → reads_of (said (wire_by t k)) ≡ cond t [] (reads (body_at k))
  reads_by k true = refl
  reads_by k false = dealt_reads d p.width (eqb (box_byte b) 1) (masks p words) (gate_words o k) (body_at k)

  keyed_by : (k : ℕ) (t : Bool) → keyed_of (said (wire_by t k)) ≡ cond t false (is_keyed (body_at k))
  keyed_by k true = refl
  keyed_by k false = dealt_keyed d p.width (eqb (box_byte b) 1) (masks p words) (gate_words o k) (body_at k)

  shown_by : (k : ℕ) (t : Bool) → shown_of (said (wire_by t k)) ≡ cond t false (row_at p k).shown
  shown_by k true = refl
  shown_by k false = given_when (row_at p k).shown (mask_of p words k)

  flag_by : (k : ℕ) (t : Bool) → flag_of (said (wire_by t k)) ≡ cond t false (gives_flag (body_at k))
  flag_by k true = refl
  flag_by k false = dealt_flag d p.width (eqb (box_byte b) 1) (masks p words) (gate_words o k) (body_at k)

  wirings_alike : WiringAlike (wiring_in book) W
  wirings_alike = record {
    inputs = ap (λ h. h.inputs) ret.header;
    gates = ap (λ h. h.gates) ret.header;
    owner = λ k. ap owner_of (wire_is k) ∙ owner_by k (is_input p k) refl;
    reads = λ k. ap reads_of (wire_is k) ∙ reads_by k (is_input p k);
    keyed = λ k. ap keyed_of (wire_is k) ∙ keyed_by k (is_input p k);
    shown = λ k. ap shown_of (wire_is k) ∙ shown_by k (is_input p k);
    group = λ k. ap₂ values (ap (λ h. h.width) ret.header) (ap flag_of (wire_is k) ∙ flag_by k (is_input p k));
  }

  -- an input's owner by its box
  owned_number : (w : ℕ) → w < 2 → (c : BoxNumber) → same_box (box_of w) c ≡ true → eqb w (box_byte c) ≡ true
  owned_number w h Zero e = elim (cases_eq w 1) [
    | inl f ↦ absurd (false≢true (sym (ap (λ t. same_box (cond t One Zero) Zero) (eq-eqb w 1 f)) ∙ e))
    | inr f ↦ eq-eqb w 0 (omega arith)
  ]
  owned_number w h One e = elim (cases_eq w 1) [
    | inl f ↦ eq-eqb w 1 f
    | inr f ↦ absurd (false≢true (sym (ap (λ t. same_box (cond t One Zero) One) (ne_eqb w 1 f)) ∙ e))
  ]

  own_mask : (k : ℕ) (t : Bool) → is_input p k ≡ t → t ≡ true → same_box (box_of (get_or p.owners k 0)) b ≡ true
      → view.mask_of (said (wire_by t k)) ≡ mask_of p words k
  own_mask k true i e s =
      ap (λ c. view.number_or_zero (when c (mask_of p words k)))
      (owned_number (get_or p.owners k 0) (owner_small p 0 (length words) a k) b s)
  own_mask k false i e s = absurd (false≢true e)

  shown_mask : (k : ℕ) (t : Bool) → cond t false (row_at p k).shown ≡ true → view.mask_of (said (wire_by t k)) ≡ mask_of p words k
  shown_mask k true e = absurd (false≢true e)
  shown_mask k false e = ap (λ c. view.number_or_zero (when c (mask_of p words k))) e

  local_by : (k : ℕ) (hs : List ℕ) (t : Bool) → t ≡ false → local_of p.width (said (wire_by t k)) hs ≡ gate_local p.width (gate_of d p words Zero k) hs
  local_by k hs true e = absurd (false≢true (sym e))
  local_by k hs false e = dealt_local d p.width (eqb (box_byte b) 1) (masks p words) (gate_words o k) (body_at k) hs

  no_input : (k : ℕ) → is_gate W k ≡ true → is_input p k ≡ false
  no_input k g = le-ltb k (length p.owners) (gate_place p 0 (length words) a k g).0

  deals_alike : DealAlike W b (deal_in book (D.share b)) D
  deals_alike = record {
    number = ap (λ h. h.deal) ret.header;
    owned = λ k i s. ap view.mask_of (wire_is k) ∙ own_mask k (is_input p k) refl i s;
    shown = λ k g s. ap view.mask_of (wire_is k) ∙ shown_mask k (is_input p k) s;
    local = λ k hs g e. ap₂ (λ (n : ℕ) (v : WireBody). local_of n v hs) (ap (λ h. h.width) ret.header) (wire_is k) ∙ local_by k hs (is_input p k) (no_input k g);
    share = λ k hs g e. refl;
  }

  -- the gate that the book holds at a gate's wire is the one that was dealt
  held_gate : (k : ℕ) (g : Gate) → HoldsGate book k g → own_gate k ≡ g
  held_gate k g h =
      let place : is_gate W k ≡ true = ap₂ (λ (i c : ℕ). leb i k && ltb k c) (sym (ap (λ z. z.inputs) ret.header)) (sym count_is) ∙ h.place in
      let range = gate_place p 0 (length words) a k place in
      let shown : Option ℕ = when (row_at p k).shown (mask_of p words k) in
      let bytes : body_in book k ≡ wire_bytes (gate shown (own_gate k)) = ret.bodies k range.1 ∙ ap (λ t. wire_bytes (wire_by t k)) (no_input k place) in
      let first : ltb k (get_or book 8 0) ≡ false = ap (λ z. ltb k z.inputs) ret.header ∙ no_input k place in
      let told : gate_in (body_in book k) ≡ Some (body.Gate shown (head (own_gate k)))
      = sym (ap (λ t. cond t (Some (said' k)) (gate_in (body_in book k))) first) ∙ ret.fields k range.1
      ∙ ap (λ t. Some (said (wire_by t k))) (no_input k place) in
      let same : head g ≡ head (own_gate k)
      = head_named (shown_in (body_in book k)) shown (head g) (head (own_gate k)) (sym (ap (gate_by (shown_in (body_in book k))) h.names) ∙ told) in
      let key : gate_key_bytes g ≡ gate_key_bytes (own_gate k)
      = h.key ∙ ap₂ key_in bytes same ∙ key_back shown (own_gate k) in
      let width : (header_in book).width ≡ p.width = ap (λ z. z.width) ret.header in
      sym (gate_told p.width a.few_bits g (own_gate k) same key (subst (λ n. key_allowed n g) width h.rows)
      (key_dealt d p.width (eqb (box_byte b) 1) (masks p words) (gate_words o k) (body_at k)) h.whole
      (gate_whole d wide p.width (eqb (box_byte b) 1) (masks p words) (gate_words o k) (body_at k)))
    where
      said' : ℕ → WireBody
      said' k = input_in (get_or book 1 0) (body_in book k)

      gate_by : Option ℕ → Option GateHead → Option WireBody
      gate_by s h = bodies.gate_of s h

  shares_held : SharesOf (own x y b) book (D.share b)
  shares_held k g h hs =
      let one : eqb (header_in book).box 1 ≡ is_one b = ap (λ z. eqb z.box 1) ret.header ∙ one_back b in
      let width : (header_in book).width ≡ p.width = ap (λ z. z.width) ret.header in
      let same : gate_of d p words b k ≡ g = ap (λ t. dealt_gate d p.width t (masks p words) (gate_words o k) (body_at k)) (sym (one_back b)) ∙ held_gate k g h in
      λ i. gate_share (own x y b) (sym width i) (sym one i) (same i) hs

  steps_held : (s : List Slot) (c : Act) → box_step book (D.share b) s c ≡ step W D b s c
  unfolding dealt_book
  steps_held s c =
      let box : box_of (header_in book).box ≡ b = ap (λ z. box_of z.box) ret.header ∙ box_back b in
      ap (λ z. step (wiring_in book) (deal_in book (D.share b)) z s c) box
      ∙ step_of_wirings (wiring_in book) W (deal_in book (D.share b)) b s c wirings_alike
      ∙ step_of_deals W b (deal_in book (D.share b)) D deals_alike s c

  pub linked : BoxLinked d x y p number words b
  linked = record { shares = shares_held; steps = steps_held }

-- the questions do not depend on which box the book is for
asked_both : (p : Planned) (words : ℕ) (b : BoxNumber) → answered (plan_asks p 0 words) (tt {0}) ≡ Ok (tt {0})
    → answered (plan_asks p (box_byte b) words) (tt {0}) ≡ Ok (tt {0})
asked_both p words Zero h = h
asked_both p words One h = h

pub boxes_are_linked : BoxesAreLinked
boxes_are_linked d x y wide ex ey p number words h small b =
    linked d x y wide p number words b (accepted p 0 (length words) h)
    (dealt_is_read d (order p (box_byte b) number words) (asked_both p (length words) b h) small)
