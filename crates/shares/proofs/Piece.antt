-- The moved coefficients of a cubic, and the join of a piece's shares.
use Rattle.std.proofs.Common.{◌≡◌, ℕ, ◌+◌, ◌%◌, ◌^◌, Bool, true, false, cond, [], ◌∷◌, refl, arith, pow_pos}
use Rattle.algebra.proofs.Modulo.{Cong, cong, is, same, equal, back, then, plus, product, reduced}
use Rattle.algebra.proofs.Residues.{Expr, var, lit, ◌⊕◌, ◌⊗◌, ◌⊖◌, red, solved}
use Rattle.interval.specs.Interval.{plain, inside}
use Rattle.shares.specs.Words.{quad}
use Rattle.shares.specs.Splits.{part_of_number}
use Rattle.shares.specs.Piece.{curve, added, multiplied, moved0, moved1, moved2, piece_share, piece_share_of}
use Rattle.shares.specs.Laws.{CurveMoves, PieceJoins}
use Rattle.shares.proofs.Splits.{plain_is, parts_join}
use Rattle.shares.proofs.Words.{power_divides, narrow, word_is, word_low}

pub curve_moves : CurveMoves
curve_moves r c0 c1 c2 c3 v =
    let R : Expr = var 0 in let V : Expr = var 5 in
    let C0 : Expr = var 1 in let C1 : Expr = var 2 in let C2 : Expr = var 3 in let C3 : Expr = var 4 in
    let R2 : Expr = red (R ⊗ R) in let R3 : Expr = red (R2 ⊗ R) in
    let M : Expr = V ⊕ R in
    let E0 : Expr = red ((C0 ⊖ red (C1 ⊗ R)) ⊕ red (C2 ⊗ R2)) ⊖ red (C3 ⊗ R3) in
    let E1 : Expr = red ((C1 ⊖ red (red (C2 ⊗ lit 2) ⊗ R)) ⊕ red (red (C3 ⊗ lit 3) ⊗ R2)) in
    let E2 : Expr = C2 ⊖ red (red (C3 ⊗ lit 3) ⊗ R) in
    is (solved (2 ^ 64) (r ∷ c0 ∷ c1 ∷ c2 ∷ c3 ∷ v ∷ [])
    (E0 ⊕ E1 ⊗ M ⊕ E2 ⊗ M ⊗ M ⊕ C3 ⊗ M ⊗ M ⊗ M) (C0 ⊕ C1 ⊗ V ⊕ C2 ⊗ V ⊗ V ⊕ C3 ⊗ V ⊗ V ⊗ V) (omega arith) (omega arith) refl)

-- a cubic by Horner's rule modulo 2^64
horner : (w0 w1 w2 w3 m : ℕ)
    → Cong (2 ^ 64) (added (multiplied (added (multiplied (added (multiplied w3 m) w2) m) w1) m) w0) (curve w0 w1 w2 w3 m)
horner w0 w1 w2 w3 m =
    let M : Expr = var 4 in
    solved (2 ^ 64) (w0 ∷ w1 ∷ w2 ∷ w3 ∷ m ∷ [])
    (red (red (red (red (red (red (var 3 ⊗ M) ⊕ var 2) ⊗ M) ⊕ var 1) ⊗ M) ⊕ var 0))
    (var 0 ⊕ var 1 ⊗ M ⊕ var 2 ⊗ M ⊗ M ⊕ var 3 ⊗ M ⊗ M ⊗ M) (omega arith) (omega arith) refl

-- the share, with the cubic worked out modulo 2^64 and brought below N before the mask's part is added
pub share_by_horner : (N m w0 w1 w2 w3 out : ℕ) → 2 ^ 64 % N ≡ 0
    → (added (multiplied (added (multiplied (added (multiplied w3 m) w2) m) w1) m) w0 % N + out) % N ≡ piece_share N m w0 w1 w2 w3 out
share_by_horner N m w0 w1 w2 w3 out h = is (plus (then (reduced _) (narrow N h (horner w0 w1 w2 w3 m))) (same {a = out}))

-- a cubic at values that are equal modulo N
same_curve : {N a b c d m a' b' c' d' m' : ℕ} → Cong N a a' → Cong N b b' → Cong N c c' → Cong N d d' → Cong N m m'
    → Cong N (curve a b c d m) (curve a' b' c' d' m')
same_curve p q r s t = plus (plus (plus p (product q t)) (product (product r t) t)) (product (product (product s t) t) t)

taken_curve : (b : Bool) (N e0 e1 e2 e3 x y : ℕ) → Cong N (curve e0 e1 e2 e3 x) y
    → Cong N (curve (cond b e0 0) (cond b e1 0) (cond b e2 0) (cond b e3 0) x) (cond b (y % N) 0)
taken_curve true N e0 e1 e2 e3 x y h = then h (back (reduced y))
taken_curve false N e0 e1 e2 e3 x y h = equal (omega arith)

curve_sum : (a0 a1 a2 a3 b0 b1 b2 b3 m : ℕ) → curve a0 a1 a2 a3 m + curve b0 b1 b2 b3 m ≡ curve (a0 + b0) (a1 + b1) (a2 + b2) (a3 + b3) m
curve_sum a0 a1 a2 a3 b0 b1 b2 b3 m = omega arith

swap : (a b c d : ℕ) → a + b + (c + d) ≡ a + c + (b + d)
swap a b c d = omega arith

taken_reduced : (b : Bool) (N e : ℕ) → Cong N (cond b (e % N) 0) (cond b e 0)
taken_reduced true N e = reduced e
taken_reduced false N e = same

pub piece_joins : PieceJoins
piece_joins n m r p q c0 c1 c2 c3 out random a0 a1 a2 a3 b0 b1 b2 b3 hn hr h0 h1 h2 h3 =
    let N : ℕ = 2 ^ n in
    let v : ℕ = plain N r m in
    let b : Bool = inside p q v in
    let d : 2 ^ 64 % N ≡ 0 = power_divides n (omega arith) in
    let e0 : ℕ = moved0 r c0 c1 c2 c3 in let e1 : ℕ = moved1 r c1 c2 c3 in let e2 : ℕ = moved2 r c2 c3 in
    let A : ℕ = curve a0 a1 a2 a3 m in let B : ℕ = curve b0 b1 b2 b3 m in
    let o0 : ℕ = part_of_number false N out random in let o1 : ℕ = part_of_number true N out random in
    let top : Cong N (a3 + b3) (cond b c3 0) = then (word_is N d h3) (narrow N d (taken_reduced b (2 ^ 64) c3)) in
    let held : Cong N m (v + r) = back (plain_is N r m (omega arith)) in
    let law : Cong N (curve e0 e1 e2 c3 (v + r)) (curve c0 c1 c2 c3 v) = narrow N d (cong (curve_moves r c0 c1 c2 c3 v)) in
    let words = same_curve (word_is N d h0) (word_is N d h1) (word_is N d h2) top held in
    let joined = then (equal (curve_sum a0 a1 a2 a3 b0 b1 b2 b3 m)) (then words (taken_curve b N e0 e1 e2 c3 (v + r) (curve c0 c1 c2 c3 v) law)) in
    is (then (plus (reduced (A + o0)) (reduced (B + o1))) (then (equal (swap A o0 B o1)) (plus joined (parts_join N out random (pow_pos n)))))

-- an answer as a quad of the numbers w0 to w3
pub share_of_quad : (N m w0 w1 w2 w3 out : ℕ) → 2 ^ 64 % N ≡ 0 → piece_share_of N m (quad w0 w1 w2 w3) out ≡ piece_share N m w0 w1 w2 w3 out
share_of_quad N m w0 w1 w2 w3 out h = is (plus (same_curve (word_low w0 N h) (word_low w1 N h) (word_low w2 N h) (word_low w3 N h) same) (same {a = out}))
