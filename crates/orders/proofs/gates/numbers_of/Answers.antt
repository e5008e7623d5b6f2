use Rattle.std.proofs.Common.{◌+◌, take, drop, Err, sym, ap, ◌∙◌, arith, length-set}
use lib.ListN.{length-replicate}
use Rattle.std.proofs.lemmas.List.{take_more_set}
use Rattle.std.proofs.lemmas.Result.{err_from_is_err_and}
use Rattle.orders.specs.Grammar.{numbers_from}
use Rattle.orders.specs.Text.{pieces}
use Rattle.orders.proofs.Read.{onto_none, onto_read, read_step, read_stop, read_all, right_count, wrong_count}
use Rattle.orders.proofs.gates.numbers_of.Goals as goal

pub returns-then-pieces_of : goal.returns-then-pieces_of
returns-then-pieces_of g c =
    wrong_count g.N.Number.held g.N.Number.MOST g.row.K c.args.wrong c.args.word.now (λ e. c.if-pieces_of.true (c.pieces_of.ensures ∙ e))

pub loop-i-init : goal.loop-i-init
loop-i-init g c =
    (length-replicate g.row.K c.hold-numbers.result, onto_none (numbers_from g.N.Number.held g.N.Number.MOST (pieces 44 c.args.word.now)))

pub returns-in_err-numbers : goal.returns-in_err-numbers
returns-in_err-numbers g c =
    let held = g.N.Number.held in
    let most = g.N.Number.MOST in
    let w = c.args.word.now in
    let p = err_from_is_err_and c.from_residual.result c.from_residual.ensures.1 in
    let full = sym c.pieces_of.ensures ∙ c.if-pieces_of.false in
    let stop = read_stop held most (take c.loop-i.i c.loop-i.numbers) (pieces 44 w) c.loop-i.i _ (omega arith) c.in_err-numbers.ensures in
    p.1 ∙ ap Err p.2 ∙ sym (right_count held most g.row.K c.args.wrong w full ∙ c.loop-i.invariant.1 ∙ stop)

pub loop-i-preserved : goal.loop-i-preserved
loop-i-preserved g c =
    let held = g.N.Number.held in
    let most = g.N.Number.MOST in
    let ps = pieces 44 c.args.word.now in
    let i = c.loop-i.i in
    let n = c.in_ok-numbers.field-0 in
    let full = sym c.pieces_of.ensures ∙ c.if-pieces_of.false in
    let xs = c.loop-i.numbers in
    let on = read_step held most (take i xs) ps i n (omega arith) c.in_ok-numbers.ensures in (
      length-set xs i n ∙ c.loop-i.invariant.0,
      c.loop-i.invariant.1 ∙ on ∙ ap (λ before. onto_read before (numbers_from held most (drop (i + 1) ps))) (sym (take_more_set xs i n (omega arith))),
    )

pub returns : goal.returns
returns g c =
    let held = g.N.Number.held in
    let most = g.N.Number.MOST in
    let w = c.args.word.now in
    let full = sym c.pieces_of.ensures ∙ c.if-pieces_of.false in
    sym (right_count held most g.row.K c.args.wrong w full ∙ c.loop-i.invariant.1
    ∙ read_all held most c.loop-i.numbers (pieces 44 w) c.loop-i.i (omega arith) (omega arith))
