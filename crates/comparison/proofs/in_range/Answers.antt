use Rattle.std.proofs.Common.{ℕ, ◌^◌, ◌<◌, ◌≤◌, sym, ◌∙◌, arith, pow_mono}
use Rattle.std.proofs.lemmas.Bool.{lt-ltb, le-leb}
use Rattle.comparison.proofs.in_range.Goals as goal

pub returns-then-width-ge32 : goal.returns-then-width-ge32
returns-then-width-ge32 c =
    let n : ℕ = c.args.number in
    let w : ℕ = c.args.width in
    let wide : 32 ≤ w = c.if-width-ge32.true in
    let low : 2 ^ 32 ≤ 2 ^ w = pow_mono wide in
    let fits : n < 2 ^ w = omega arith in
    le-leb 32 w wide ∙ sym (lt-ltb n (2 ^ w) fits)
