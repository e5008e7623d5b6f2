use Rattle.std.proofs.Common.{Err, sym, ap, ◌∙◌, arith}
use Rattle.std.proofs.lemmas.List.{at_drop_all}
use Rattle.std.proofs.lemmas.Result.{err_from_is_err_and}
use Rattle.orders.specs.Text.{hex_of}
use Rattle.planlines.specs.Grammar.{all_read}
use Rattle.planlines.proofs.ReadAll.{read_more, read_stop}
use Rattle.planlines.proofs.lists.digits_read.Goals as goal

pub returns-in_err-hex_digit : goal.returns-in_err-hex_digit
returns-in_err-hex_digit c =
    let p = err_from_is_err_and c.from_residual.result c.from_residual.ensures.1 in
    let stop = read_stop hex_of c.args.word.now c.loop-b.b-index 0 (omega arith) _ c.in_err-hex_digit.ensures in
    p.1 ∙ ap Err p.2 ∙ sym (c.loop-b.invariant ∙ stop)

pub loop-b-preserved : goal.loop-b-preserved
loop-b-preserved c =
    c.loop-b.invariant ∙ read_more hex_of c.args.word.now c.loop-b.b-index 0 (omega arith) _ c.in_ok-hex_digit.ensures

pub returns : goal.returns
returns c = sym (c.loop-b.invariant ∙ at_drop_all (all_read hex_of) c.args.word.now c.loop-b.b-index (omega arith))
