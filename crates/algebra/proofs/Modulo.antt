-- Equations of sums and products modulo N: a linear combination of congruences, the rest by omega over ℕ.
use Rattle.std.proofs.Common.{◌≡◌, ℕ, suc, ◌+◌, ◌-◌, ◌*◌, ◌/◌, ◌%◌, sym, refl, ap, ◌∙◌, inl, inr, mul_comm, arith}
use native.Mathlib.Nat.{add-mod, mod-mod, mod-add-div, add-mul-mod_self_left, dvd-mul_right, mod-mod_of_dvd, mod-zero}
use Rattle.std.proofs.lemmas.Bool.{cases_lt}

-- equal remainders; a data type, so that omega does not read the congruences in reach as facts about numbers
pub data Cong (N a b : ℕ) : Type 0 where
  cong : a % N ≡ b % N → Cong N a b

pub is : {N a b : ℕ} → Cong N a b → a % N ≡ b % N
is (cong e) = e

mul_low : (N c a : ℕ) → (c * a) % N ≡ (c * (a % N)) % N
mul_low N c a =
    let e : a % N + N * (a / N) ≡ a = mod-add-div a N in
    let s : c * a ≡ c * (a % N) + N * (c * (a / N)) = sym (ap (λ n. c * n) e) ∙ omega arith in
    ap (λ n. n % N) s ∙ add-mul-mod_self_left (c * (a % N)) N (c * (a / N))

module _ {N : ℕ} where
  pub same : {a : ℕ} → Cong N a a
  same = cong (refl)

  pub equal : {a b : ℕ} → a ≡ b → Cong N a b
  equal e = cong (ap (λ n. n % N) e)

  pub back : {a b : ℕ} → Cong N a b → Cong N b a
  back p = cong (sym (is p))

  pub then : {a b c : ℕ} → Cong N a b → Cong N b c → Cong N a c
  then p q = cong (is p ∙ is q)

  pub plus : {a b c d : ℕ} → Cong N a b → Cong N c d → Cong N (a + c) (b + d)
  plus {a} {b} {c} {d} p q = cong (add-mod a c N ∙ ap (λ n. (n + c % N) % N) (is p) ∙ ap (λ n. (b % N + n) % N) (is q) ∙ sym (add-mod b d N))

  -- c times a congruence
  pub times : (c : ℕ) {a b : ℕ} → Cong N a b → Cong N (c * a) (c * b)
  times c {a} {b} p = cong (mul_low N c a ∙ ap (λ n. (c * n) % N) (is p) ∙ sym (mul_low N c b))

  pub product : {a b c d : ℕ} → Cong N a b → Cong N c d → Cong N (a * c) (b * d)
  product {a} {b} {c} {d} p q = then (times a q) (then (equal (mul_comm a d)) (then (times d p) (equal (mul_comm d b))))

  pub reduced : (a : ℕ) → Cong N (a % N) a
  reduced a = cong (mod-mod a N)

  pub multiple : (k : ℕ) → Cong N (N * k) 0
  multiple k = cong (ap (λ n. n % N) (omega arith) ∙ add-mul-mod_self_left 0 N k)

  -- the rule: X is Y, if it is so over ℕ up to a combination of congruences
  cancel_pos : (M X Y L R : ℕ) → N ≡ suc M → Cong N L R → X + R ≡ Y + L → Cong N X Y
  cancel_pos M X Y L R h p e =
      let w : N * R ≡ M * R + R = ap (λ n. n * R) h ∙ omega arith in
      let a : Cong N (X + N * R) X = cong (add-mul-mod_self_left X N R) in
      let b : Cong N (Y + N * R) Y = cong (add-mul-mod_self_left Y N R) in
      let c : Cong N (L + (Y + M * R)) (R + (Y + M * R)) = plus p same in
      then (back a) (then (equal (omega arith)) (then c (then (equal (omega arith)) b)))

  pub since : {L R : ℕ} → Cong N L R → (X Y : ℕ) → X + R ≡ Y + L → Cong N X Y
  since {L} {R} p X Y e = elim (cases_lt 0 N) [
    | inl h ↦ cancel_pos (N - 1) X Y L R (omega arith) p e
    | inr h ↦ (let n : N ≡ 0 = omega arith in
        let q : L ≡ R = sym (mod-zero L) ∙ ap (λ k. L % k) (sym n) ∙ is p ∙ ap (λ k. R % k) n ∙ mod-zero R in
        equal (omega arith))
  ]

-- a congruence modulo N·k is one modulo N
pub coarser : {N a b : ℕ} (k : ℕ) → Cong (N * k) a b → Cong N a b
coarser {N} {a} {b} k p = cong (sym (mod-mod_of_dvd N a (dvd-mul_right N k)) ∙ ap (λ n. n % N) (is p) ∙ mod-mod_of_dvd N b (dvd-mul_right N k))
