use Rattle.std.proofs.Common.{ℕ, ◌%◌, ◌^◌, ◌<◌, ◌≤◌, eqb, sym, ap, ◌∙◌, arith, pow_mono}
use native.Mathlib.Nat.{div-eq_of_lt}
use Rattle.std.proofs.lemmas.Bool.{le-ltb}
use Rattle.evaluation.proofs.bit_at.Goals as goal

pub returns-else-k-lt32 : goal.returns-else-k-lt32
returns-else-k-lt32 c =
    let n : ℕ = c.args.number in
    let k : ℕ = c.args.k in
    let past : 32 ≤ k = c.if-k-lt32.false in
    let low : 2 ^ 32 ≤ 2 ^ k = pow_mono past in
    let fits : n < 2 ^ k = omega arith in
    le-ltb k 32 past ∙ ap (λ m. eqb (m % 2) 1) (sym (div-eq_of_lt fits))
