use Rattle.std.proofs.Common.{arith}
use Rattle.orders.proofs.Numbers.{value_more}
use Rattle.orders.proofs.text.value_of.Goals as goal

pub loop-b-preserved : goal.loop-b-preserved
loop-b-preserved c =
    let w = c.args.word.now in
    let i = c.loop-b.b-index in
    let more = value_more w i (omega arith) in
    omega (arith, c.loop-b.invariant, c.min-sum.ensures)
