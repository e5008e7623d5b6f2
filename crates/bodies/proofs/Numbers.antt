-- Four bytes and the number that they write, and where a part of a list lies.
use Rattle.std.proofs.Common.{◌≡◌, ℕ, ◌+◌, ◌*◌, ◌/◌, ◌%◌, ◌^◌, ◌<◌, ◌≤◌, true, cond, leb, List, [], ◌++◌, length, get_or, take, drop, sym, ap, ◌∙◌, mod-eq_of_lt, arith, length-append, take_at, get_or-append-add, drop_at, pow_mono}
use Rattle.std.proofs.lemmas.Nat.{shr-shr, div-add-mod'}
use Rattle.std.proofs.lemmas.List.{get_or_append_left}
use Rattle.std.proofs.lemmas.Bool.Decides.{nat_tests}
use Rattle.stored.specs.Forms.{four_bytes}
use Rattle.layout.specs.Bytes.{number_at}
use Rattle.plan.specs.Questions.{below}
use Rattle.bodies.specs.Parts.{part}

pub number_four : (x : ℕ) → x < 2 ^ 32 → x % 256 + x / 256 % 256 * 256 + x / 65536 % 256 * 65536 + x / 16777216 % 256 * 16777216 ≡ x
number_four x h =
    let d1 : x / 256 / 256 ≡ x / 65536 = shr-shr x 8 8 in
    let d2 : x / 65536 / 256 ≡ x / 16777216 = shr-shr x 16 8 in
    let e0 = div-add-mod' x 256 in
    let e1 : x / 65536 * 256 + x / 256 % 256 ≡ x / 256 = ap (λ q. q * 256 + x / 256 % 256) (sym d1) ∙ div-add-mod' (x / 256) 256 in
    let e2 : x / 16777216 * 256 + x / 65536 % 256 ≡ x / 65536 = ap (λ q. q * 256 + x / 65536 % 256) (sym d2) ∙ div-add-mod' (x / 65536) 256 in
    let e3 : x / 16777216 % 256 ≡ x / 16777216 = mod-eq_of_lt (omega arith) in
    ap (λ q. x % 256 + x / 256 % 256 * 256 + x / 65536 % 256 * 65536 + q * 16777216) e3
    ∙ sums x (x / 256) (x / 65536) (x / 16777216) (x % 256) (x / 256 % 256) (x / 65536 % 256) e0 e1 e2
  where
    sums : (x q1 q2 q3 m0 m1 m2 : ℕ) → q1 * 256 + m0 ≡ x → q2 * 256 + m1 ≡ q1 → q3 * 256 + m2 ≡ q2
        → m0 + m1 * 256 + m2 * 65536 + q3 * 16777216 ≡ x
    sums x q1 q2 q3 m0 m1 m2 a b c = omega arith

pub below_from : (n x : ℕ) → x < 2 ^ n → below n x ≡ true
below_from n x h = grind (arith, nat_tests)

pub below_tells : (n x : ℕ) → below n x ≡ true → x < 2 ^ n
below_tells n x h = grind (arith, nat_tests)

-- below N is below 2^32
pub small : (n x : ℕ) → n ≤ 32 → x < 2 ^ n → x < 2 ^ 32
small n x h l = omega (arith, pow_mono h)

module _ (bs pre x post : List ℕ) (e : bs ≡ pre ++ (x ++ post)) where
  pub part_at : (at n : ℕ) → length pre ≡ at → length x ≡ n → part bs at n ≡ x
  part_at at n p q =
      let l : length bs ≡ length pre + (length x + length post)
      = ap length e ∙ length-append pre (x ++ post) ∙ ap (λ m. length pre + m) (length-append x post) in
      let t : leb (at + n) (length bs) ≡ true = grind (arith, nat_tests) in
      ap (λ b. cond b (take n (drop at bs)) []) t ∙ ap (λ b. take n (drop at b)) e ∙ ap (take n) (drop_at pre (x ++ post) at p) ∙ take_at x post n q

  pub byte_at : (i j : ℕ) → i ≡ length pre + j → j < length x → get_or bs i 0 ≡ get_or x j 0
  byte_at i j p h =
      ap (λ b. get_or b i 0) e ∙ ap (λ m. get_or (pre ++ (x ++ post)) m 0) p ∙ get_or-append-add pre (x ++ post) j 0 ∙ get_or_append_left x post 0 j h

  pub number_from : (i j : ℕ) → i ≡ length pre + j → j + 4 ≤ length x → number_at bs i ≡ number_at x j
  number_from i j p h =
      let a = byte_at i j p (omega arith) in
      let b = byte_at (i + 1) (j + 1) (omega arith) (omega arith) in
      let c = byte_at (i + 2) (j + 2) (omega arith) (omega arith) in
      let d = byte_at (i + 3) (j + 3) (omega arith) (omega arith) in
      λ k. a k + b k * 256 + c k * 65536 + d k * 16777216

-- a number that was written is read back
pub number_back : (bs pre post : List ℕ) (x i : ℕ) → bs ≡ pre ++ (four_bytes x ++ post) → i ≡ length pre → x < 2 ^ 32 → number_at bs i ≡ x
number_back bs pre post x i e p h = number_from bs pre (four_bytes x) post e i 0 (omega arith) (omega arith) ∙ number_four x h
