use Rattle.std.proofs.Common.{◌+◌, ◌*◌, ◌≤◌, ◌∙◌, arith, rules}
use Rattle.plan.specs.Plans.{stated, wires}
use Rattle.dealer.proofs.Shorts.{bodies_sum, lengths_short, of_passed}
use Rattle.dealer.proofs.Book.long.Goals as goal

pub bodies_long-requires : goal.bodies_long-requires
bodies_long-requires c =
    let a = c.args.self in
    let p = stated a.plan.plan in
    let e = bodies_sum p a.number (wires p) in
    let s = lengths_short p a.number (wires p) (of_passed p a.plan.allowed) in
    let i = a.plan.allowed.inputs in
    let g = a.plan.allowed.gates in
    omega arith

pub overflow_add-result-2 : goal.overflow_add-result-2
overflow_add-result-2 c =
    let a = c.args.self in
    let p = stated a.plan.plan in
    let e = c.bodies_long.ensures ∙ bodies_sum p a.number (wires p) in
    let s = lengths_short p a.number (wires p) (of_passed p a.plan.allowed) in
    let i = a.plan.allowed.inputs in
    let g = a.plan.allowed.gates in
    let n = c.wires.ensures.wires in
    let few : 16 + 8 * c.wires.result + c.bodies_long.result ≤ 1000000 = omega arith in
    search rules

pub returns : goal.returns
returns c =
    let a = c.args.self in
    let p = stated a.plan.plan in
    let e = c.bodies_long.ensures ∙ bodies_sum p a.number (wires p) in
    let n = c.wires.ensures.wires in
    omega arith
