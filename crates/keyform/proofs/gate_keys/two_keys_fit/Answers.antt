use Rattle.keyform.specs.Forms.{word_form}
use Rattle.keyform.proofs.Decided.{decided_some}
use Rattle.keyform.proofs.TwoKeys.{two_from}
use Rattle.keyform.proofs.gate_keys.two_keys_fit.Goals as goal

pub returns : goal.returns
returns c =
    decided_some c.two_keys.result c.is_some.result c.is_some.ensures c.two_keys.ensures (λ none i. none i)
    (λ t r. two_from word_form c.args.low c.args.high c.args.bytes.now t.0.now t.1.now r)
