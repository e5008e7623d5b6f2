-- A number's bytes and its remainder modulo a power of 256 tell each other.
use Rattle.std.specs.Prelude.{◌≡◌, ℕ, zero, ◌+◌, ◌*◌, ◌/◌, ◌%◌, ◌<◌}
use Rattle.std.proofs.Common.{sym, ap, ◌∙◌, mod-lt, arith, lit<}
use Rattle.std.proofs.Math.Arith.{mod-mul, digits_div, digits_mod}
use Rattle.stored.specs.Forms.{four_bytes, eight_bytes}

-- the highest byte, and what is below it
peel : (c n k : ℕ) → zero < c → n % (256 * c) ≡ k % (256 * c) → (n / c % 256 ≡ k / c % 256) × (n % c ≡ k % c)
peel c n k pos h =
    let split : (m : ℕ) → m % (256 * c) ≡ (m / c % 256) * c + m % c = λ m. mod-mul m (lit< tt) pos in
    let high : (m : ℕ) → m % (256 * c) / c ≡ m / c % 256 = λ m. ap (λ v. v / c) (split m) ∙ digits_div (m / c % 256) (mod-lt m pos) in
    let low : (m : ℕ) → m % (256 * c) % c ≡ m % c = λ m. ap (λ v. v % c) (split m) ∙ digits_mod (m / c % 256) (mod-lt m pos) in
    (sym (high n) ∙ ap (λ v. v / c) h ∙ high k, sym (low n) ∙ ap (λ v. v % c) h ∙ low k)

pub four_same : (n k : ℕ) → n % 4294967296 ≡ k % 4294967296 → four_bytes n ≡ four_bytes k
four_same n k h =
    let (p3, h3) = peel 16777216 n k (lit< tt) h in
    let (p2, h2) = peel 65536 n k (lit< tt) h3 in
    let (p1, h1) = peel 256 n k (lit< tt) h2 in
    cc

pub four_told : (n k : ℕ) → four_bytes n ≡ four_bytes k → n % 4294967296 ≡ k % 4294967296
four_told n k h =
    let p0 : n % 256 ≡ k % 256 = cc in
    let p1 : n / 256 % 256 ≡ k / 256 % 256 = cc in
    let p2 : n / 65536 % 256 ≡ k / 65536 % 256 = cc in
    let p3 : n / 16777216 % 256 ≡ k / 16777216 % 256 = cc in
    omega arith

pub eight_same : (n k : ℕ) → n % 18446744073709551616 ≡ k % 18446744073709551616 → eight_bytes n ≡ eight_bytes k
eight_same n k h =
    let (p7, h7) = peel 72057594037927936 n k (lit< tt) h in
    let (p6, h6) = peel 281474976710656 n k (lit< tt) h7 in
    let (p5, h5) = peel 1099511627776 n k (lit< tt) h6 in
    let (p4, h4) = peel 4294967296 n k (lit< tt) h5 in
    let (p3, h3) = peel 16777216 n k (lit< tt) h4 in
    let (p2, h2) = peel 65536 n k (lit< tt) h3 in
    let (p1, h1) = peel 256 n k (lit< tt) h2 in
    cc

pub eight_told : (n k : ℕ) → eight_bytes n ≡ eight_bytes k → n % 18446744073709551616 ≡ k % 18446744073709551616
eight_told n k h =
    let p0 : n % 256 ≡ k % 256 = cc in
    let p1 : n / 256 % 256 ≡ k / 256 % 256 = cc in
    let p2 : n / 65536 % 256 ≡ k / 65536 % 256 = cc in
    let p3 : n / 16777216 % 256 ≡ k / 16777216 % 256 = cc in
    let p4 : n / 4294967296 % 256 ≡ k / 4294967296 % 256 = cc in
    let p5 : n / 1099511627776 % 256 ≡ k / 1099511627776 % 256 = cc in
    let p6 : n / 281474976710656 % 256 ≡ k / 281474976710656 % 256 = cc in
    let p7 : n / 72057594037927936 % 256 ≡ k / 72057594037927936 % 256 = cc in
    omega arith
