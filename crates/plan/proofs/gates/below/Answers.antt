use Rattle.std.proofs.Common.{◌≤◌, ◌^◌, arith, lit<}
use Rattle.std.proofs.Math.Nat.{pow-le-pow_right}
use Rattle.std.proofs.lemmas.Bool.Decides.{nat_tests}
use Rattle.plan.proofs.gates.below.Goals as goal

pub returns-then-width-ge32 : goal.returns-then-width-ge32
returns-then-width-ge32 c =
    let m : 2 ^ 32 ≤ 2 ^ c.args.width = pow-le-pow_right (lit< tt) c.if-width-ge32.true in
    let f = c.ranges.number.fits in
    grind (arith, nat_tests)
