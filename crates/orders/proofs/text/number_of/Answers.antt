use Rattle.std.proofs.Common.{Ok, Err, sym, ap, ◌∙◌}
use Rattle.std.proofs.lemmas.Result.{err_from_is_err_and}
use Rattle.orders.specs.Grammar.{and_then}
use Rattle.orders.specs.Text.{number_of}
use Rattle.orders.proofs.Numbers.{number_held}
use Rattle.orders.proofs.text.number_of.Goals as goal

pub returns-in_err-number : goal.returns-in_err-number
returns-in_err-number g c =
    let held = g.N.Number.held in
    let w = c.args.word.now in
    let whole = sym (number_held held c.MOST.result w) ∙ ap (λ most. number_of held most w) c.MOST.ensures in
    let p = err_from_is_err_and c.from_residual.result c.from_residual.ensures.1 in
    p.1 ∙ ap Err p.2 ∙ ap (λ r. and_then r (λ n. Ok (held n))) c.in_err-number.ensures.is ∙ whole

pub returns : goal.returns
returns g c =
    let held = g.N.Number.held in
    let w = c.args.word.now in
    let whole = sym (number_held held c.MOST.result w) ∙ ap (λ most. number_of held most w) c.MOST.ensures in
    ap Ok c.hold.ensures ∙ ap (λ r. and_then r (λ n. Ok (held n))) c.in_ok-number.ensures.is ∙ whole
