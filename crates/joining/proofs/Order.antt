-- The first bit that differs tells which of two numbers is smaller.
use Rattle.std.proofs.Common.{◌≡◌, ℕ, zero, suc, ◌+◌, ◌*◌, ◌/◌, ◌%◌, ◌^◌, ◌<◌, ◌≤◌, Bool, true, false, eqb, ltb, sym, ap, ◌∙◌, inl, inr, mod-lt, mod-eq_of_lt, one-add, arith, lit<}
use native.Mathlib.Nat.{mod-one}
use Rattle.std.proofs.lemmas.Nat.{mod-pow-add, pow_pos}
use Rattle.std.proofs.lemmas.Bool.{lt-ltb, le-ltb, cases_lt}
use Rattle.evaluation.specs.Evaluation.{bit_at}

-- whether m is below α, by their k lowest bits: the first that differs, from the highest, decides
abbrev pub pick : Bool → Bool → Bool → Bool
pick true true rest = rest
pick true false rest = true
pick false true rest = false
pick false false rest = rest

abbrev pub below : ℕ → ℕ → ℕ → Bool
below zero m α = false
below (suc k) m α = pick (bit_at α k) (bit_at m k) (below k m α)

same_ltb : (a b c d : ℕ) → (a < b → c < d) → (b ≤ a → d ≤ c) → ltb a b ≡ ltb c d
same_ltb a b c d p q = elim (cases_lt a b) [ inl h ↦ lt-ltb a b h ∙ sym (lt-ltb c d (p h)) | inr h ↦ le-ltb a b h ∙ sym (le-ltb c d (q h)) ]

digit : (a b w p q : ℕ) → a < w → b < w → p < 2 → q < 2 → pick (eqb q 1) (eqb p 1) (ltb a b) ≡ ltb (p * w + a) (q * w + b)
digit a b w zero zero h k _ _ = same_ltb a b (0 * w + a) (0 * w + b) (λ e. omega arith) (λ e. omega arith)
digit a b w zero (suc zero) h k _ _ = sym (lt-ltb (0 * w + a) (1 * w + b) (omega arith))
digit a b w (suc zero) zero h k _ _ = sym (le-ltb (1 * w + a) (0 * w + b) (omega arith))
digit a b w (suc zero) (suc zero) h k _ _ = same_ltb a b (1 * w + a) (1 * w + b) (λ e. omega arith) (λ e. omega arith)
digit a b w zero (suc (suc q)) h k i j = absurd (omega arith)
digit a b w (suc zero) (suc (suc q)) h k i j = absurd (omega arith)
digit a b w (suc (suc p)) q h k i j = absurd (omega arith)

bit_split : (n k : ℕ) → n % 2 ^ suc k ≡ (n / 2 ^ k % 2) * 2 ^ k + n % 2 ^ k
bit_split n k = ap (λ j. n % 2 ^ j) (sym (one-add k)) ∙ mod-pow-add n 1 k

below_mod : (k m α : ℕ) → below k m α ≡ ltb (m % 2 ^ k) (α % 2 ^ k)
below_mod zero m α = sym (le-ltb (m % 1) (α % 1) (omega (arith, mod-one m, mod-one α)))
below_mod (suc k) m α =
    ap (pick (bit_at α k) (bit_at m k)) (below_mod k m α)
    ∙ digit (m % 2 ^ k) (α % 2 ^ k) (2 ^ k) (m / 2 ^ k % 2) (α / 2 ^ k % 2) (mod-lt m (pow_pos k)) (mod-lt α (pow_pos k)) (mod-lt (m / 2 ^ k) (lit< tt))
    (mod-lt (α / 2 ^ k) (lit< tt))
    ∙ sym (ap (λ n. ltb n (α % 2 ^ suc k)) (bit_split m k) ∙ ap (λ n. ltb ((m / 2 ^ k % 2) * 2 ^ k + m % 2 ^ k) n) (bit_split α k))

pub below_is : (n m α : ℕ) → m < 2 ^ n → α < 2 ^ n → below n m α ≡ ltb m α
below_is n m α h k = below_mod n m α ∙ ap (λ v. ltb v (α % 2 ^ n)) (mod-eq_of_lt h) ∙ ap (ltb m) (mod-eq_of_lt k)
