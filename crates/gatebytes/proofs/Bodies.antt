-- A gate's bytes by what is written: before the key, and the key by the gate's own definition.
use Rattle.std.proofs.Common.{◌≡◌, ℕ, Bool, List, [], ◌∷◌, ◌++◌, get_or, Option, sym, ap, ◌∙◌, append_assoc, ◌⊎◌, inl, inr}
use Rattle.stored.specs.Forms.{four_bytes}
use Rattle.expander.specs.Meaning.{Expansion}
use Rattle.key.specs.declared.BoxNumber.{BoxNumber}
use Rattle.key.specs.Rows.{is_one}
use Rattle.gatekeys.specs.declared.ranges.Interval.{Interval}
use Rattle.gatekeys.specs.declared.ranges.Shift as range
use Rattle.gatekeys.specs.Parameters.{interval_view, shift_view}
use Rattle.masking.specs.declared.width.Width.{Width}
use Rattle.plan.specs.Plans.{words_of}
use Rattle.plan.specs.Gates.{GateBody}
use Rattle.plan.specs.declared.gates.Gate.TheVariants.{Sum, Scale, Product, Piece, Flag, Shift, SignedShift, Xor}
use Rattle.layout.specs.Bytes.{front}
use Rattle.layout.specs.Wires.{gate, wire_bytes, gate_key_bytes, mask_bytes, given}
use Rattle.gatebytes.specs.Dealt.{dealt_gate}
use Rattle.gatebytes.specs.Heads.{before_key}
use Rattle.gates.specs.Piece.{dealt_piece_key, piece_rows}
use Rattle.gates.specs.Flag.{dealt_flag_key, flag_rows}
use Rattle.gates.specs.Product.{dealt_product}
use Rattle.layout.specs.Keys.{quad_bytes, flag_bytes}
use Rattle.gatebytes.specs.Keyed.{interval_key_bytes, shift_key_bytes, parts_bytes, piece_bytes, flag_gate_bytes, shift_gate_bytes}

-- the key that each arm writes is the gate's key: of a gate `body` for the masks ms, from its own random words on
module _ (x : Expansion) (b : BoxNumber) (n : ℕ) (ms words : List ℕ) where
  abbrev pub keyed : GateBody → List ℕ
  keyed body = gate_key_bytes (dealt_gate x n (is_one b) ms (front (words_of body) words) body)

  pub piece_is : (i : Interval) (r : ℕ) (w : List ℕ) (a p q : ℕ) (c : List ℕ) (body : GateBody) → body ≡ Piece a p q c
      → interval_view i ≡ (n, p, q) → r ≡ get_or ms a 0 → w ≡ front 14 words →
      interval_key_bytes quad_bytes (dealt_piece_key x b i r c w n) (piece_rows x i r c w n) ≡ keyed body
  unfolding interval_key_bytes
  piece_is i r w a p q c body is e f h =
      ap (λ m. interval_key_bytes quad_bytes (dealt_piece_key x b i r c w m) (piece_rows x i r c w m)) (sym (ap (λ v. v.0) e))
      ∙ (λ j. piece_bytes x b i (f j) c (h j))
      ∙ (λ j. gate_key_bytes (dealt_gate x (e j).0 (is_one b) ms (front 14 words) (Piece a (e j).1 (e j).2 c)))
      ∙ ap keyed (sym is)

  pub flag_is : (i : Interval) (r : ℕ) (w : List ℕ) (a p q t : ℕ) (body : GateBody) → body ≡ Flag a p q t
      → interval_view i ≡ (n, p, q) → r ≡ get_or ms a 0 → w ≡ front 8 words →
      interval_key_bytes flag_bytes (dealt_flag_key x b i r t w n) (flag_rows x i r t w n) ≡ keyed body
  unfolding interval_key_bytes
  flag_is i r w a p q t body is e f h =
      ap (λ m. interval_key_bytes flag_bytes (dealt_flag_key x b i r t w m) (flag_rows x i r t w m)) (sym (ap (λ v. v.0) e))
      ∙ (λ j. flag_gate_bytes x b i (f j) t (h j))
      ∙ (λ j. gate_key_bytes (dealt_gate x (e j).0 (is_one b) ms (front 8 words) (Flag a (e j).1 (e j).2 t)))
      ∙ ap keyed (sym is)

  pub product_is : (v : Width) (r s : ℕ) (w : List ℕ) (a d : ℕ) (body : GateBody) → body ≡ Product a d → v.bits ≡ n
      → r ≡ get_or ms a 0 → s ≡ get_or ms d 0 → w ≡ front 4 words → parts_bytes (dealt_product b v r s w) ≡ keyed body
  product_is v r s w a d body is e f k h =
      (λ j. parts_bytes (dealt_product b v (f j) (k j) (h j)))
      ∙ (λ j. gate_key_bytes (dealt_gate x (e j) (is_one b) ms (front 4 words) (Product a d)))
      ∙ ap keyed (sym is)

  shift_key_is : (v : range.Shift) (r : ℕ) (w : List ℕ) (a s : ℕ) → shift_view v ≡ (n, s) → r ≡ get_or ms a 0 → w ≡ front 10 words
      → shift_gate_bytes x b v r w ≡ keyed (Shift a s)
  unfolding shift_key_bytes
  shift_key_is v r w a s e f h =
      (λ j. shift_gate_bytes x b v (f j) (h j))
      ∙ (λ j. gate_key_bytes (dealt_gate x (e j).0 (is_one b) ms (front 10 words) (Shift a (e j).1)))

  pub shift_is : (v : range.Shift) (r : ℕ) (w : List ℕ) (a s : ℕ) (body : GateBody) → (body ≡ Shift a s) ⊎ (body ≡ SignedShift a s)
      → shift_view v ≡ (n, s) → r ≡ get_or ms a 0 → w ≡ front 10 words → shift_gate_bytes x b v r w ≡ keyed body
  shift_is v r w a s body (inl is) e f h = shift_key_is v r w a s e f h ∙ ap keyed (sym is)
  shift_is v r w a s body (inr is) e f h = shift_key_is v r w a s e f h ∙ ap keyed (sym is)

module _ (x : Expansion) (n : ℕ) (one : Bool) (ms w : List ℕ) (shown : Option ℕ) where
  -- after a head: the mask, parameters and the key
  parted : (k a b g : ℕ) (ps key : List ℕ) → (((k ∷ a ∷ b ∷ g ∷ []) ++ mask_bytes shown) ++ ps) ++ key ≡ (k ∷ a ∷ b ∷ g ∷ []) ++ (mask_bytes shown ++ (ps ++ key))
  parted k a b g ps key = ap (λ t. k ∷ a ∷ b ∷ g ∷ t) (append_assoc (mask_bytes shown) ps key)

  -- what is written before the key, and the key, make the body
  pub body_is : (b : GateBody) → before_key shown b ++ gate_key_bytes (dealt_gate x n one ms w b) ≡ wire_bytes (gate shown (dealt_gate x n one ms w b))
  body_is (Sum a b) = parted 1 a b (given shown) [] _
  body_is (Scale a c d) = parted 2 a 0 (given shown) (four_bytes c ++ four_bytes d) _
  body_is (Product a b) = parted 3 a b (given shown) [] _
  body_is (Piece a p q c) = parted 4 a 0 (given shown) (four_bytes p ++ four_bytes q) _
  body_is (Flag a p q t) = parted 5 a 0 (given shown) (four_bytes p ++ four_bytes q) _
  body_is (Shift a s) = parted 6 a 0 (given shown) (s ∷ []) _
  body_is (SignedShift a s) = parted 7 a 0 (given shown) (s ∷ []) _
  body_is (Xor a b) = parted 8 a b (given shown) [] _
