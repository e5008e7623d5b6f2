use Rattle.keyform.proofs.Threes.{third_in, second_in, without_third, without_second}
use Rattle.keyform.proofs.gate_keys.read_product.Goals as goal

pub returns-in_err-two : goal.returns-in_err-two
returns-in_err-two c = rw c.from_residual.ensures (λ i. c.in_err-two.ensures (third_in c.args.bytes.now i))

pub returns-in_err-one : goal.returns-in_err-one
returns-in_err-one c =
    let two = c.in_ok-two.two.now in
    rw c.from_residual-in_err-one.ensures (λ i.
    c.in_err-one.ensures (second_in two (without_third c.args.bytes.now two c.in_ok-two.c c.in_ok-two.ensures i)))

pub returns-in_err-a : goal.returns-in_err-a
returns-in_err-a c =
    let two = c.in_ok-two.two.now in
    let one = c.in_ok-one.one.now in
    rw c.from_residual-in_err-a.ensures (λ i.
    let p = without_third c.args.bytes.now two c.in_ok-two.c c.in_ok-two.ensures i in
    c.in_err-a.ensures (record { 0 = p.a }) (without_second two one c.in_ok-one.b c.in_ok-one.ensures p))
