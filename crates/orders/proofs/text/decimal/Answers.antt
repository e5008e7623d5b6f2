use Rattle.std.proofs.Common.{sym}
use Rattle.orders.proofs.Numbers.{not_numeral, decimal_small, decimal_large}
use Rattle.orders.proofs.text.decimal.Goals as goal

pub returns-then-not-is_numeral-clause-is : goal.returns-then-not-is_numeral-clause-is
returns-then-not-is_numeral-clause-is c = not_numeral c.args.word.now c.args.most (sym c.if-not-is_numeral.ensures)

pub returns-then-n-most-clause-is : goal.returns-then-n-most-clause-is
returns-then-n-most-clause-is c =
    decimal_small c.args.word.now c.args.most c.value_of-n.result (sym c.if-not-is_numeral.ensures) c.value_of-n.ensures c.if-n-most.true

pub returns-else-n-most-clause-is : goal.returns-else-n-most-clause-is
returns-else-n-most-clause-is c =
    decimal_large c.args.word.now c.args.most c.value_of-n.result (sym c.if-not-is_numeral.ensures) c.value_of-n.ensures c.if-n-most.false
