use Rattle.std.proofs.Common.{ℕ, ◌*◌, ◌≤◌, ◌<◌, ◌^◌, arith}
use Rattle.std.proofs.Math.Nat.{mul-le-mul}
use Rattle.plain.proofs.curve.Goals as goal

-- products of numbers of 32 bits
two : (c v : ℕ) → c < 2 ^ 32 → v < 2 ^ 32 → c * v ≤ 4294967295 * 4294967295
two c v h k =
    let a : c ≤ 4294967295 = omega arith in
    let b : v ≤ 4294967295 = omega arith in
    mul-le-mul a b

three : (c v : ℕ) → c < 2 ^ 32 → v < 2 ^ 32 → c * v * v ≤ 4294967295 * 4294967295 * 4294967295
three c v h k = let b : v ≤ 4294967295 = omega arith in mul-le-mul (two c v h k) b

four : (c v : ℕ) → c < 2 ^ 32 → v < 2 ^ 32 → c * v * v * v ≤ 4294967295 * 4294967295 * 4294967295 * 4294967295
four c v h k = let b : v ≤ 4294967295 = omega arith in mul-le-mul (three c v h k) b

pub overflow_mul-cube-3 : goal.overflow_mul-cube-3
overflow_mul-cube-3 c =
    let v : c.from-v.result < 2 ^ 32 = omega arith in
    let h : c.from-2.result < 2 ^ 32 = omega (arith, c.element_fits4.fits) in
    omega (arith, four c.from-2.result c.from-v.result h v)

pub overflow_add-result-3 : goal.overflow_add-result-3
overflow_add-result-3 c =
    let v : c.from-v.result < 2 ^ 32 = omega arith in
    let h : c.from-2.result < 2 ^ 32 = omega (arith, c.element_fits4.fits) in
    let i : c.from.result < 2 ^ 32 = omega (arith, c.element_fits3.fits) in
    let j : c.from-4.result < 2 ^ 32 = omega (arith, c.element_fits2.fits) in
    let k : c.from-3.result < 2 ^ 32 = omega (arith, c.element_fits.fits) in
    let a = two c.from-4.result c.from-v.result j v in
    let b = three c.from.result c.from-v.result i v in
    let d = four c.from-2.result c.from-v.result h v in
    omega arith
