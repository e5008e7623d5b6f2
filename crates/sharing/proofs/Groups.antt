-- The values of a wire form a group, and local gates act on held values as on plain ones.
use Rattle.std.proofs.Common.{◌≡◌, ℕ, ◌+◌, ◌-◌, ◌*◌, ◌/◌, ◌%◌, ◌^◌, ◌<◌, ◌≤◌, Bool, true, false, sym, ap, ◌∙◌, mod-lt, mod-eq_of_lt, add_comm, arith, pow_pos, pow_mono}
use native.Mathlib.Nat.{mod-add-mod, add-mod-mod, add-mod_right, add-mul-mod_self_left, mod-add-div}
use lib.Bits.{bit_xor, xor_comm, xor_lt, xor_assoc, xor_self, xor_zero_r}
use Rattle.std.proofs.lemmas.Bool.{ltb-true, lt-ltb}
use Rattle.runs.specs.Plans.{Lawful}
use Rattle.boxview.specs.Values.{numbers, flag_values, values}

-- what was added is taken off again
pub added_off : (N a b : ℕ) → a < N → b < N → ((a + b) % N + (N - b)) % N ≡ a
added_off N a b h g =
    let s : a + b + (N - b) ≡ a + N = omega arith in
    mod-add-mod (a + b) N (N - b) ∙ ap (λ (x : ℕ). x % N) s ∙ add-mod_right a N ∙ mod-eq_of_lt h

numbers_lawful : (N : ℕ) → 0 < N → N ≤ 2 ^ 32 → Lawful (numbers N)
numbers_lawful N some narrow = record {
  small = λ a h. let z = ltb-true a N h in omega arith;
  closed = λ a b h g. lt-ltb _ _ (mod-lt (a + b) some);
  comm = λ a b. ap (λ (x : ℕ). x % N) (add_comm a b);
  cancels = λ a b h g. added_off N a b (ltb-true a N h) (ltb-true b N g);
}

flags_lawful : Lawful flag_values
flags_lawful = record {
  small = λ a h. ltb-true a (2 ^ 32) h;
  closed = λ a b h g. lt-ltb _ _ (xor_lt 32 a b (ltb-true a (2 ^ 32) h) (ltb-true b (2 ^ 32) g));
  comm = xor_comm;
  cancels = λ a b h g. xor_assoc a b b ∙ ap (bit_xor a) (xor_self b) ∙ xor_zero_r a;
}

pub values_lawful : (n : ℕ) → n ≤ 32 → (t : Bool) → Lawful (values n t)
values_lawful n h true = flags_lawful
values_lawful n h false = numbers_lawful (2 ^ n) (pow_pos n) (pow_mono h)

pub sum_held : (N x y a b : ℕ) → ((x + a) % N + (y + b) % N) % N ≡ ((x + y) % N + (a + b) % N) % N
sum_held N x y a b =
    let s : x + a + (y + b) ≡ x + y + (a + b) = omega arith in
    mod-add-mod (x + a) N ((y + b) % N) ∙ add-mod-mod (x + a) (y + b) N ∙ ap (λ (z : ℕ). z % N) s
    ∙ sym (mod-add-mod (x + y) N ((a + b) % N) ∙ add-mod-mod (x + y) (a + b) N)

times_mod : (N c a e : ℕ) → (c * (a % N) + e) % N ≡ (c * a + e) % N
times_mod N c a e =
    let m : a % N + N * (a / N) ≡ a = mod-add-div a N in
    let s : c * (a % N) + e + N * (c * (a / N)) ≡ c * (a % N + N * (a / N)) + e = omega arith in
    sym (add-mul-mod_self_left (c * (a % N) + e) N (c * (a / N))) ∙ ap (λ (z : ℕ). z % N) (s ∙ ap (λ (z : ℕ). c * z + e) m)

pub scale_held : (N c x e a : ℕ) → (c * ((x + a) % N) + e) % N ≡ ((c * x + e) % N + (c * a) % N) % N
scale_held N c x e a =
    let s : c * (x + a) + e ≡ c * x + e + c * a = omega arith in
    times_mod N c (x + a) e ∙ ap (λ (z : ℕ). z % N) s ∙ sym (mod-add-mod (c * x + e) N ((c * a) % N) ∙ add-mod-mod (c * x + e) (c * a) N)

pub xor_held : (x y a b : ℕ) → bit_xor (bit_xor x a) (bit_xor y b) ≡ bit_xor (bit_xor x y) (bit_xor a b)
xor_held x y a b =
    xor_assoc x a (bit_xor y b)
    ∙ ap (bit_xor x) (sym (xor_assoc a y b) ∙ ap (λ (z : ℕ). bit_xor z b) (xor_comm a y) ∙ xor_assoc y a b)
    ∙ sym (xor_assoc x y (bit_xor a b))
