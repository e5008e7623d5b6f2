-- From words, quads and flags as group elements to the numbers that they are, and from 2^64 to a smaller power of two.
use Rattle.std.proofs.Common.{◌≡◌, ℕ, ◌+◌, ◌-◌, ◌*◌, ◌/◌, ◌%◌, ◌^◌, ◌<◌, ◌≤◌, Bool, true, false, cond, sym, ap, ◌∙◌, subst, mod-eq_of_lt, arith, pow-add}
use native.Mathlib.Nat.{mul-mod_right, add-mod}
use lib.Bits.{bit_xor}
use Rattle.std.proofs.lemmas.Nat.{div-add-mod'}
use Rattle.group.specs.Residues.{Residue}
use Rattle.group.specs.Flags.{flags, xor_fits}
use Rattle.algebra.proofs.Modulo.{Cong, equal, back, then, reduced, coarser}
use Rattle.interval.specs.Interval.{taken}
use Rattle.shares.specs.Words.{Word, word, words, Quad, quad, quads, flag_word}

-- a width's power of two divides 2^64
pub power_divides : (n : ℕ) → n ≤ 64 → 2 ^ 64 % 2 ^ n ≡ 0
power_divides n h =
    ap (λ k. 2 ^ k % 2 ^ n) (let e : 64 ≡ n + (64 - n) = omega arith in e)
    ∙ ap (λ k. k % 2 ^ n) (pow-add 2 n (64 - n)) ∙ mul-mod_right (2 ^ n) (2 ^ (64 - n))

-- what is equal modulo 2^64 is equal modulo N
pub narrow : {a b : ℕ} (N : ℕ) → 2 ^ 64 % N ≡ 0 → Cong (2 ^ 64) a b → Cong N a b
narrow {a} {b} N h p =
    let e : 2 ^ 64 / N * N + 2 ^ 64 % N ≡ 2 ^ 64 = div-add-mod' (2 ^ 64) N in
    let f : 2 ^ 64 ≡ N * (2 ^ 64 / N) = omega arith in
    coarser (2 ^ 64 / N) (subst (λ k. Cong k a b) f p)

-- what is e modulo 2^64 is e modulo N
pub word_is : {a e : ℕ} (N : ℕ) → 2 ^ 64 % N ≡ 0 → a % 2 ^ 64 ≡ e → Cong N a e
word_is {a} N h p = narrow N h (then (back (reduced a)) (equal p))

-- a number as a word is the same modulo N
pub word_low : (a N : ℕ) → 2 ^ 64 % N ≡ 0 → Cong N (word a).0 a
word_low a N h = narrow N h (reduced a)

-- two words that join to a payload or to zero
pub word_join : (b : Bool) (x y : Word) (e : ℕ) → words.sum x y ≡ taken words b (word e) → (x.0 + y.0) % 2 ^ 64 ≡ cond b (e % 2 ^ 64) 0
word_join true x y e h = ap (λ p. p.0) h
word_join false x y e h = ap (λ p. p.0) h

pub words_join : (b : Bool) (a c e : ℕ) → words.sum (word a) (word c) ≡ taken words b (word e) → (a + c) % 2 ^ 64 ≡ cond b (e % 2 ^ 64) 0
words_join b a c e h = add-mod a c (2 ^ 64) ∙ word_join b (word a) (word c) e h

-- the words of two quads that join to a payload or to zero
pub quad_join : (b : Bool) (x y : Quad) (e0 e1 e2 e3 : ℕ) → quads.sum x y ≡ taken quads b (quad e0 e1 e2 e3)
    → ((x.0.0.0 + y.0.0.0) % 2 ^ 64 ≡ cond b (e0 % 2 ^ 64) 0) × ((x.0.1.0 + y.0.1.0) % 2 ^ 64 ≡ cond b (e1 % 2 ^ 64) 0)
    × ((x.1.0.0 + y.1.0.0) % 2 ^ 64 ≡ cond b (e2 % 2 ^ 64) 0) × ((x.1.1.0 + y.1.1.0) % 2 ^ 64 ≡ cond b (e3 % 2 ^ 64) 0)
quad_join true x y e0 e1 e2 e3 h = (ap (λ p. p.0.0.0) h, ap (λ p. p.0.1.0) h, ap (λ p. p.1.0.0) h, ap (λ p. p.1.1.0) h)
quad_join false x y e0 e1 e2 e3 h = (ap (λ p. p.0.0.0) h, ap (λ p. p.0.1.0) h, ap (λ p. p.1.0.0) h, ap (λ p. p.1.1.0) h)

-- two flag elements that join to a pattern or to zero
pub flag_join : (b : Bool) (x y : Residue (2 ^ 32)) (e : ℕ) → e < 2 ^ 32 → flags.sum x y ≡ taken flags b (flag_word e)
    → bit_xor x.0 y.0 ≡ cond b e 0
flag_join true x y e k h = sym (xor_fits x y) ∙ ap (λ p. p.0) h ∙ mod-eq_of_lt k
flag_join false x y e k h = sym (xor_fits x y) ∙ ap (λ p. p.0) h

pub flags_join : (b : Bool) (a c e : ℕ) → a < 2 ^ 32 → c < 2 ^ 32 → e < 2 ^ 32
    → flags.sum (flag_word a) (flag_word c) ≡ taken flags b (flag_word e) → bit_xor a c ≡ cond b e 0
flags_join b a c e ha hc he h =
    sym (ap (λ n. bit_xor n (c % 2 ^ 32)) (mod-eq_of_lt ha) ∙ ap (bit_xor a) (mod-eq_of_lt hc)) ∙ flag_join b (flag_word a) (flag_word c) e he h
