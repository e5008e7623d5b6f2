-- Shifts of masked numbers, and the join of their shares.
use Rattle.std.proofs.Common.{◌≡◌, ℕ, suc, ◌+◌, ◌-◌, ◌*◌, ◌/◌, ◌%◌, ◌^◌, ◌<◌, ◌≤◌, Bool, true, false, cond, ltb, pos, negsuc, sym, refl, ap, ◌∙◌, inl, inr, mod-lt, mod-eq_of_lt, mul-le-mul_left, div-le_self, arith, pow_pos, pow-add}
use native.Mathlib.Nat.{mod-add-mod}
use lib.IntN.{sub_ℕ}
use lib.Signed.{shr_z}
use lib.Arith.{digits_div}
use lib.Pow.{shl-shr}
use Rattle.std.proofs.lemmas.Bool.{cases_lt, lt-ltb, le-ltb}
use Rattle.std.proofs.lemmas.Nat.{div-add-mod', div_below}
use Rattle.algebra.proofs.Modulo.{Cong, cong, is, same, equal, then, back, plus, since, reduced, multiple}
use Rattle.interval.specs.Interval.{bit, plain}
use Rattle.interval.proofs.Tests.{wrap, tell_lt}
use Rattle.shares.specs.Words.{word}
use Rattle.shares.specs.Splits.{part_of_number}
use Rattle.shares.specs.Shifts.{low_payload, shift_rest, shift_share, signed_held, signed_share}
use Rattle.shares.specs.Plain.{remainder, plain_signed_shift}
use Rattle.shares.specs.Laws.{ShiftJoins, SignedShiftJoins, ShiftPowers}
use Rattle.shares.proofs.Splits.{parts_join}
use Rattle.shares.proofs.Words.{power_divides, narrow, word_is, word_low}

same_digit : (S a b x y : ℕ) → b < S → y < S → a * S + b ≡ x * S + y → a ≡ x
same_digit S a b x y hb hy e = sym (digits_div a hb) ∙ ap (λ n. n / S) e ∙ digits_div x hy

-- v + r = A-as-S + b, digit by digit: the low digits carry exactly if b is below r's
carry : (S v r A b : ℕ) → 0 < S → b < S → v + r ≡ A * S + b → v / S + r / S + bit (ltb b (r % S)) ≡ A
carry S v r A b ps hb e =
    let y : ℕ = v % S in let d : ℕ = r % S in let x : ℕ = v / S in let c : ℕ = r / S in
    let ev : x * S + y ≡ v = div-add-mod' v S in
    let er : c * S + d ≡ r = div-add-mod' r S in
    let hy : y < S = mod-lt v ps in
    let hd : d < S = mod-lt r ps in
    elim (cases_lt (y + d) S) [
      | inl h ↦ (let k : A ≡ x + c = same_digit S A b (x + c) (y + d) hb h (omega arith) in
          let j : b ≡ y + d = (let m : A * S ≡ (x + c) * S = ap (λ n. n * S) k in omega arith) in
          omega (arith, tell_lt b d))
      | inr h ↦ (let k : A ≡ x + c + 1 = same_digit S A b (x + c + 1) (y + d - S) hb (omega arith) (omega arith) in
          let j : b + S ≡ y + d = (let m : A * S ≡ (x + c + 1) * S = ap (λ n. n * S) k in omega arith) in
          omega (arith, tell_lt b d))
    ]

-- floor(v / S) + floor(r / S) + 1{m mod S < r mod S} = floor(m / S) + T·1{m < r}, with N = T-as-S numbers
shift_is : (S T N m r : ℕ) → N ≡ T * S → 0 < S → m < N → r < N
    → plain N r m / S + r / S + bit (ltb (m % S) (r % S)) ≡ m / S + T * bit (ltb m r)
shift_is S T N m r eN ps hm hr =
    let v : ℕ = plain N r m in
    let em : m / S * S + m % S ≡ m = div-add-mod' m S in
    let hb : m % S < S = mod-lt m ps in
    elim (cases_lt m r) [
      | inl h ↦ (let w : bit (ltb m r) ≡ 1 = ap bit (lt-ltb m r h) in
          let e : v + r ≡ m + N = omega (arith, wrap (m + (N - r)) N (omega arith)) in
          carry S v r (m / S + T) (m % S) ps hb (omega arith) ∙ sym (ap (λ n. m / S + T * n) w ∙ omega arith))
      | inr h ↦ (let w : bit (ltb m r) ≡ 0 = ap bit (le-ltb m r h) in
          let e : v + r ≡ m = omega (arith, wrap (m + (N - r)) N (omega arith)) in
          carry S v r (m / S) (m % S) ps hb (omega arith) ∙ sym (ap (λ n. m / S + T * n) w ∙ omega arith))
    ]

minus_one : (b : Bool) → Cong (2 ^ 64) (cond b low_payload 0 + bit b) 0
minus_one true = cong refl
minus_one false = cong refl

taken_times : (b : Bool) (T : ℕ) → cond b T 0 ≡ T * bit b
taken_times true T = omega arith
taken_times false T = omega arith

-- both boxes' sums, where box 1 adds floor(m / S) and any more
sums_join : (S T N m r out low0 low1 high0 high1 rest0 rest1 own more : ℕ)
    → N ≡ T * S → 0 < S → 2 ^ 64 % N ≡ 0 → m < N → r < N
    → (low0 + low1) % 2 ^ 64 ≡ cond (ltb (m % S) (r % S)) low_payload 0
    → (high0 + high1) % 2 ^ 64 ≡ cond (ltb m r) T 0
    → Cong N (rest0 + rest1) (shift_rest N S r out) → own ≡ m / S + more
    → Cong N ((low0 % N + high0 % N + rest0 + 0) % N + (low1 % N + high1 % N + rest1 + own) % N) (plain N r m / S + out + more)
sums_join S T N m r out low0 low1 high0 high1 rest0 rest1 own more eN ps d hm hr hl hh hq eo =
    let e = shift_is S T N m r eN ps hm hr in
    let low : Cong N (low0 + low1 + bit (ltb (m % S) (r % S))) 0
    = then (plus (word_is N d hl) same) (narrow N d (minus_one (ltb (m % S) (r % S)))) in
    let high : Cong N (high0 + high1) (T * bit (ltb m r))
    = then (word_is N d hh) (equal (taken_times (ltb m r) T)) in
    let f : r / S ≤ N = omega (arith, div-le_self r S) in
    since (plus (reduced (low0 % N + high0 % N + rest0 + 0)) (plus (reduced (low1 % N + high1 % N + rest1 + own))
    (plus (reduced low0) (plus (reduced low1) (plus (reduced high0) (plus (reduced high1) (plus low (plus high (plus hq (multiple 1))))))))))
    _ _ (omega arith)

-- 2^n as steps of 2^s, and as two halves of them
steps : (n s : ℕ) → s ≤ n → 2 ^ n ≡ 2 ^ (n - s) * 2 ^ s
steps n s h = ap (λ k. 2 ^ k) (let e : n ≡ n - s + s = omega arith in e) ∙ pow-add 2 (n - s) s

steps_count : (n s : ℕ) → s ≤ n → 2 ^ n / 2 ^ s ≡ 2 ^ (n - s)
steps_count n s h = ap (λ k. k / 2 ^ s) (steps n s h) ∙ shl-shr (2 ^ (n - s)) s

half_is : (n : ℕ) → 0 < n → 2 ^ n / 2 ≡ 2 ^ (n - 1)
half_is n h = steps_count n 1 h

half_steps : (n s : ℕ) → s < n → 2 ^ n / 2 ≡ 2 ^ (n - 1 - s) * 2 ^ s
half_steps n s h = half_is n (omega arith) ∙ steps (n - 1) s (omega arith)

half_steps_count : (n s : ℕ) → s < n → 2 ^ n / 2 / 2 ^ s ≡ 2 ^ (n - 1 - s)
half_steps_count n s h = ap (λ k. k / 2 ^ s) (half_is n (omega arith)) ∙ steps_count (n - 1) s (omega arith)

two_halves : (n s : ℕ) → s < n → 2 ^ n ≡ 2 * 2 ^ (n - 1 - s) * 2 ^ s
two_halves n s h =
    let a : 2 ^ n ≡ 2 ^ (n - 1) * 2 = steps n 1 (omega arith) in
    let b : 2 ^ (n - 1) ≡ 2 ^ (n - 1 - s) * 2 ^ s = steps (n - 1) s (omega arith) in
    a ∙ ap (λ k. k * 2) b ∙ omega arith

pub shift_powers : ShiftPowers
shift_powers = (steps_count, half_steps_count)

pub shift_joins : ShiftJoins
shift_joins n s m r out random low0 low1 high0 high1 hs hn hm hr hl hh =
    let N : ℕ = 2 ^ n in let S : ℕ = 2 ^ s in
    is (then
    (sums_join S (2 ^ (n - s)) N m r out low0 low1 high0 high1
    (part_of_number false N (shift_rest N S r out) random) (part_of_number true N (shift_rest N S r out) random) (m / S) 0
    (steps n s hs) (pow_pos s) (power_divides n (omega arith)) hm hr hl (hh ∙ ap (λ k. cond (ltb m r) k 0) (steps_count n s hs))
    (parts_join N (shift_rest N S r out) random (pow_pos n)) (omega arith))
    (equal (omega arith)))

-- the signed shift of one of N numbers, negative from H up
abbrev shifted_sign : ℕ → ℕ → ℕ → ℕ → ℕ
shifted_sign N H S v = remainder (shr_z (cond (ltb v H) (pos v) (sub_ℕ v N)) S) N

sign_low : (N H S v : ℕ) → v < N → v < H → shifted_sign N H S v ≡ v / S
sign_low N H S v hv h =
    ap (λ b. remainder (shr_z (cond b (pos v) (sub_ℕ v N)) S) N) (lt-ltb v H h)
    ∙ mod-eq_of_lt (let k : v / S < N = omega (arith, div-le_self v S) in k)

sign_high : (N H S U v : ℕ) → N ≡ 2 * U * S → 0 < S → v < N → H ≤ v → shifted_sign N H S v + 2 * U ≡ v / S + N
sign_high N H S U v eN ps hv h =
    let ev : v / S * S + v % S ≡ v = div-add-mod' v S in
    let hy : v % S < S = mod-lt v ps in
    let q : v / S < 2 * U = div_below v S (2 * U) ps (omega arith) in
    let p : ℕ = 2 * U - 1 - v / S in
    let w : p * S + v / S * S + S ≡ N = (let t : 2 * U ≡ p + v / S + 1 = omega arith in sym (eN ∙ ap (λ n. n * S) t ∙ omega arith)) in
    let e : N - suc v ≡ p * S + (S - 1 - v % S) = omega arith in
    let d : (N - suc v) / S ≡ p = ap (λ n. n / S) e ∙ digits_div p (let k : S - 1 - v % S < S = omega arith in k) in
    let f : 2 * U ≤ N = omega (arith, mul-le-mul_left (2 * U) ps) in
    let l : p < N = omega arith in
    ap (λ n. n + 2 * U)
    (ap (λ b. remainder (shr_z (cond b (pos v) (sub_ℕ v N)) S) N) (le-ltb v H h)
    ∙ ap (λ b. remainder (shr_z (cond b (negsuc (N - suc v)) (pos (v - N))) S) N) (lt-ltb v N hv)
    ∙ ap (λ n. N - 1 - n % N) d
    ∙ ap (λ n. N - 1 - n) (mod-eq_of_lt l))
    ∙ omega arith

-- a number moved by a half and shifted is its signed shift, moved
moved_sign : (N H S U v : ℕ) → N ≡ 2 * U * S → H ≡ U * S → 0 < S → v < N → Cong N (shifted_sign N H S v + U) ((v + H) % N / S)
moved_sign N H S U v eN eH ps hv =
    let ev : v / S * S + v % S ≡ v = div-add-mod' v S in
    let hy : v % S < S = mod-lt v ps in
    let v' : ℕ = (v + H) % N in
    elim (cases_lt v H) [
      | inl h ↦ (let e : v' ≡ (v / S + U) * S + v % S = omega (arith, wrap (v + H) N (omega arith)) in
          equal (ap (λ n. n + U) (sign_low N H S v hv h) ∙ sym (ap (λ n. n / S) e ∙ digits_div (v / S + U) hy)))
      | inr h ↦ (let e : v' + H ≡ v / S * S + v % S = omega (arith, wrap (v + H) N (omega arith)) in
          let ew : v' / S * S + v' % S ≡ v' = div-add-mod' v' S in
          let hw : v' % S < S = mod-lt v' ps in
          let k : v' / S + U ≡ v / S = same_digit S (v' / S + U) (v' % S) (v / S) (v % S) hw hy (omega arith) in
          let z : shifted_sign N H S v + 2 * U ≡ v / S + N = sign_high N H S U v eN ps hv h in
          since {N = N} (multiple 1) _ _ (omega arith))
    ]

swap3 : (a b c : ℕ) → a + b + c ≡ a + c + b
swap3 a b c = omega arith

-- a held value moved by h holds the plain value moved by h
plain_moved : (N r m h : ℕ) → plain N r ((m + h) % N) ≡ (plain N r m + h) % N
plain_moved N r m h = mod-add-mod (m + h) N (N - r) ∙ ap (λ n. n % N) (swap3 m h (N - r)) ∙ sym (mod-add-mod (m + (N - r)) N h)

pub signed_shift_joins : SignedShiftJoins
signed_shift_joins n s m r out random low0 low1 high0 high1 hs hn hm hr hl hh =
    let N : ℕ = 2 ^ n in let S : ℕ = 2 ^ s in let H : ℕ = N / 2 in let U : ℕ = 2 ^ (n - 1 - s) in
    let v : ℕ = plain N r m in let k : ℕ = signed_held N m in
    let eN : N ≡ 2 * U * S = two_halves n s hs in
    let positive : 0 < N = pow_pos n in
    let small : U ≤ N = omega (arith, mul-le-mul_left U (pow_pos s)) in
    let p : Cong N (plain_signed_shift N S v + U) ((v + H) % N / S)
    = moved_sign N H S U v eN (half_steps n s hs) (pow_pos s) (mod-lt (m + (N - r)) positive) in
    let q = sums_join S (2 ^ (n - s)) N k r out low0 low1 high0 high1
    (part_of_number false N (shift_rest N S r out) random) (part_of_number true N (shift_rest N S r out) random)
    (k / S + (N - H / S)) (N - H / S)
    (steps n s (omega arith)) (pow_pos s) (power_divides n (omega arith)) (mod-lt (m + H) positive) hr hl
    (hh ∙ ap (λ j. cond (ltb k r) j 0) (steps_count n s (omega arith)))
    (parts_join N (shift_rest N S r out) random positive) refl in
    let x : plain N r k / S ≡ (v + H) % N / S = ap (λ j. j / S) (plain_moved N r m H) in
    let u : H / S ≡ U = half_steps_count n s hs in
    is (then q (since (plus (back p) (multiple 1)) _ _ (omega arith)))

-- answers as words of the numbers low and high
pub shares_of_words : (one : Bool) (N S m low high rest : ℕ) → 2 ^ 64 % N ≡ 0
    → (shift_share one N S m (word low).0 (word high).0 rest ≡ shift_share one N S m low high rest)
    × (signed_share one N S m (word low).0 (word high).0 rest ≡ signed_share one N S m low high rest)
shares_of_words one N S m low high rest h =
    let a : (word low).0 % N ≡ low % N = is (word_low low N h) in
    let b : (word high).0 % N ≡ high % N = is (word_low high N h) in
    (cc (a, b), cc (a, b))
