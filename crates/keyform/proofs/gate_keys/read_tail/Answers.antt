use Rattle.keyform.proofs.Tails.{out_in, extra_in, without_out, without_extra}
use Rattle.keyform.proofs.gate_keys.read_tail.Goals as goal

pub returns-in_err-elements : goal.returns-in_err-elements
returns-in_err-elements g c =
    rw c.from_residual.ensures (λ i. c.in_err-elements.ensures (out_in g.G.StoredGroup.form c.args.bytes.now i))

pub returns-in_err-keyed : goal.returns-in_err-keyed
returns-in_err-keyed g c =
    let form = g.G.StoredGroup.form in
    let elements = c.in_ok-elements.elements.now in
    rw c.from_residual-in_err-keyed.ensures (λ i.
    c.in_err-keyed.ensures (extra_in form elements
    (without_out form c.args.bytes.now elements c.in_ok-elements.out c.in_ok-elements.ensures i)))

pub returns-in_err-key : goal.returns-in_err-key
returns-in_err-key g c =
    let form = g.G.StoredGroup.form in
    let elements = c.in_ok-elements.elements.now in
    let keyed = c.in_ok-keyed.keyed.now in
    rw c.from_residual-in_err-key.ensures (λ i.
    c.in_err-key.ensures
    (without_extra form g.G.StoredGroup.size g.met.G.StoredGroup.sized elements keyed c.in_ok-keyed.extra
    c.in_ok-keyed.ensures (without_out form c.args.bytes.now elements c.in_ok-elements.out c.in_ok-elements.ensures i)))
