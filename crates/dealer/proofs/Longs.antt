-- The bytes of a book have the lengths that are known before.
use Rattle.std.proofs.Common.{◌≡◌, ℕ, zero, suc, ◌+◌, ◌*◌, ◌^◌, Bool, true, false, cond, eqb, List, ◌++◌, length, get_or, refl, ap, ◌∙◌, arith, length-append}
use Rattle.expander.specs.Meaning.{Expansion}
use Rattle.group.specs.Groups.{OutputGroup}
use Rattle.group.specs.Flags.{flags}
use Rattle.shares.specs.Words.{Word, word, words, quads}
use Rattle.shares.specs.Shifts.{low_threshold, low_payload, high_threshold, high_payload}
use Rattle.gates.specs.Shift.{low_root0, low_root1, high_root0, high_root1}
use Rattle.stored.specs.Forms.{four_bytes}
use Rattle.dealing.specs.declared.Descent.{Descent}
use Rattle.dealing.specs.Dealing.{start, dealt_rows, next_at}
use Rattle.evaluation.specs.Evaluation.{bit_at}
use Rattle.plan.specs.declared.PlanRow.{PlanRow}
use Rattle.plan.specs.Gates.{GateBody}
use Rattle.plan.specs.declared.gates.Gate.TheVariants.{Sum, Scale, Product, Piece, Flag, Shift, SignedShift, Xor}
use Rattle.plan.specs.Plans.{Planned, is_input, row_at}
use Rattle.layout.specs.Bytes.{joined}
use Rattle.layout.specs.Keys.{Compared, compared_bytes, word_bytes, flag_bytes, quad_bytes}
use Rattle.layout.specs.Wires.{Gate, sum, scale, product, piece, flag, shift, signed_shift, xor, gate, input}
use Rattle.layout.specs.Wires.{wire_bytes, parameter_bytes, gate_key_bytes, shift_bytes}
use Rattle.keyform.proofs.Lengths.{key_long}
use Rattle.masks.specs.Masks.{masks, mask_of}
use Rattle.gatebytes.specs.Dealt.{dealt_gate, low_key, high_key}
use Rattle.dealer.specs.Book.{Order, when, gate_words, dealt_body}
use Rattle.dealer.specs.Lengths.{rest_length, body_length, lengths_below, entry}

pub rows_count : {M : Type 0} (x : Expansion) (g : OutputGroup M) (β : M) (α n : ℕ) (d : Descent M) → length (dealt_rows x g β α n d) ≡ n
rows_count x g β α zero d = refl
rows_count x g β α (suc n) d = ap suc (rows_count x g β α n (next_at x g β (bit_at α n) d))

-- a gate's parameters and key, by the rows of its comparison keys
abbrev gate_rest : Gate → ℕ
gate_rest (sum a b) = 0
gate_rest (scale a c d) = 8
gate_rest (product a b x y z) = 12
gate_rest (piece a p q k β e o) = 124 + 49 * length k.rows
gate_rest (flag a p q k β e o) = 40 + 21 * length k.rows
gate_rest (shift a s l h r) = 53 + 25 * length l.rows + 25 * length h.rows
gate_rest (signed_shift a s l h r) = 53 + 25 * length l.rows + 25 * length h.rows
gate_rest (xor a b) = 0

word_key_long : (k : Compared Word) → length (compared_bytes word_bytes k) ≡ 24 + 25 * length k.rows
word_key_long k = let l = key_long word_bytes 8 (λ w. refl) k.root k.rows k.last in omega arith

shift_long : (l h : Compared Word) (r : ℕ) → length (shift_bytes l h r) ≡ 52 + 25 * length l.rows + 25 * length h.rows
shift_long l h r =
    let a = length-append (compared_bytes word_bytes l) (compared_bytes word_bytes h ++ four_bytes r) in
    let b = length-append (compared_bytes word_bytes h) (four_bytes r) in
    let c = word_key_long l in
    let d = word_key_long h in
    omega arith

gate_rest_long : (g : Gate) → length (parameter_bytes g ++ gate_key_bytes g) ≡ gate_rest g
gate_rest_long (sum a b) = refl
gate_rest_long (scale a c d) = refl
gate_rest_long (product a b x y z) = refl
gate_rest_long (piece a p q k β e o) =
    let l = key_long quad_bytes 32 (λ v. refl) k.root k.rows k.last in
    let s = length-append (compared_bytes quad_bytes k) (quad_bytes β ++ (quad_bytes e ++ four_bytes o)) in
    omega arith
gate_rest_long (flag a p q k β e o) =
    let l = key_long flag_bytes 4 (λ v. refl) k.root k.rows k.last in
    let s = length-append (compared_bytes flag_bytes k) (flag_bytes β ++ (flag_bytes e ++ four_bytes o)) in
    omega arith
gate_rest_long (shift a s l h r) = let t = shift_long l h r in omega arith
gate_rest_long (signed_shift a s l h r) = let t = shift_long l h r in omega arith
gate_rest_long (xor a b) = refl

module _ (x : Expansion) (n : ℕ) (one : Bool) (ms w : List ℕ) where
  low_count : (s r : ℕ) → length (low_key x n one s r w).rows ≡ s
  low_count s r = rows_count x words (word low_payload) (low_threshold (2 ^ s) r) s (start words (low_root0 w) (low_root1 w))

  high_count : (s r : ℕ) → length (high_key x n one s r w).rows ≡ n
  high_count s r = rows_count x words (word (high_payload (2 ^ n) (2 ^ s))) (high_threshold r) n (start words (high_root0 w) (high_root1 w))

  dealt_rest : (b : GateBody) → gate_rest (dealt_gate x n one ms w b) ≡ rest_length n b
  dealt_rest (Sum a b) = refl
  dealt_rest (Scale a c d) = refl
  dealt_rest (Product a b) = refl
  dealt_rest (Piece a p q c) = ap (λ t. 124 + 49 * t) (rows_count x quads _ _ n _)
  dealt_rest (Flag a p q t) = ap (λ t. 40 + 21 * t) (rows_count x flags _ _ n _)
  dealt_rest (Shift a s) = λ i. 53 + 25 * low_count s (get_or ms a 0) i + 25 * high_count s (get_or ms a 0) i
  dealt_rest (SignedShift a s) = λ i. 53 + 25 * low_count s (get_or ms a 0) i + 25 * high_count s (get_or ms a 0) i
  dealt_rest (Xor a b) = refl

  pub rest_long : (b : GateBody)
      → length (parameter_bytes (dealt_gate x n one ms w b) ++ gate_key_bytes (dealt_gate x n one ms w b)) ≡ rest_length n b
  rest_long b = gate_rest_long (dealt_gate x n one ms w b) ∙ dealt_rest b

  -- a gate's body
  pub gate_long : (shown : Bool) (m : ℕ) (b : GateBody)
      → length (wire_bytes (gate (when shown m) (dealt_gate x n one ms w b))) ≡ 4 + cond shown 4 0 + rest_length n b
  gate_long true m b = let r = rest_long b in omega arith
  gate_long false m b = let r = rest_long b in omega arith

input_long : (owner : ℕ) (own : Bool) (m : ℕ) → length (wire_bytes (input owner (when own m))) ≡ 1 + cond own 4 0
input_long owner true m = refl
input_long owner false m = refl

module _ (x : Expansion) (o : Order) where
  pub body_long : (k : ℕ) → length (dealt_body x o k) ≡ body_length o.plan o.box k
  body_long k = pick (is_input o.plan k)
    where
      m : ℕ
      m = mask_of o.plan o.words k

      owner : ℕ
      owner = get_or o.plan.owners k 0

      row : PlanRow
      row = row_at o.plan k

      pick : (i : Bool)
          → length (wire_bytes (cond i (input owner (when (eqb owner o.box) m))
          (gate (when row.shown m) (dealt_gate x o.plan.width (eqb o.box 1) (masks o.plan o.words) (gate_words o k) row.body))))
          ≡ cond i (1 + cond (eqb owner o.box) 4 0) (4 + cond row.shown 4 0 + rest_length o.plan.width row.body)
      pick true = input_long owner (eqb owner o.box) m
      pick false = gate_long x o.plan.width (eqb o.box 1) (masks o.plan o.words) (gate_words o k) row.shown m row.body

  pub bodies_long : (k : ℕ) → length (joined (dealt_body x o) k) ≡ lengths_below o.plan o.box k
  bodies_long zero = refl
  bodies_long (suc k) =
      let a = length-append (joined (dealt_body x o) k) (dealt_body x o k) in
      let b = bodies_long k in
      let e = body_long k in
      a ∙ (λ i. b i + e i)

pub contents_long : (p : Planned) (b k : ℕ) → length (joined (entry p b) k) ≡ 8 * k
contents_long p b zero = refl
contents_long p b (suc k) =
    let a = length-append (joined (entry p b) k) (entry p b k) in
    let r = contents_long p b k in
    omega arith
