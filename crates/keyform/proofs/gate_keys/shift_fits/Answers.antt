use Rattle.std.proofs.Common.{Decides, rules}
use Rattle.keyform.specs.Forms.{word_form}
use Rattle.keyform.specs.GateKeys.{TwoIn}
use Rattle.keyform.proofs.Decided.{decided_by}
use Rattle.keyform.proofs.TwoKeys.{rest_in, without_rest, shift_from}
use Rattle.keyform.proofs.gate_keys.shift_fits.Goals as goal

pub returns : goal.returns
returns c =
    let bytes = c.args.bytes.now in
    let low = c.args.low in
    let high = c.args.high in
    decided_by c.read_last.result c.is_some_and.result c.read_last.ensures c.is_some_and.ensures
    (λ none i. none (rest_in word_form low high bytes i))
    (λ l r p.
    let fit : Decides c.is_some_and.result (TwoIn word_form low high l.0.now) = search rules in (
      λ h. shift_from word_form low high bytes l.0.now l.1 r (fit.0 h),
      λ i. fit.1 (without_rest word_form low high bytes l.0.now l.1 r i),
    ))
