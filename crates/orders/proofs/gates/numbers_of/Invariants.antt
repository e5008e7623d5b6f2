use Rattle.std.proofs.Common.{◌≡◌, length, take, drop}
use Rattle.orders.specs.Grammar.{numbers_from}
use Rattle.orders.specs.Text.{pieces}
use Rattle.orders.proofs.Read.{onto_read}
use Rattle.orders.proofs.gates.numbers_of.Given as goal

abbrev pub invariant-loop-i : goal.invariant-loop-i
invariant-loop-i g l =
    (length l.numbers ≡ g.row.K)
    × (numbers_from g.N.Number.held g.N.Number.MOST (pieces 44 l.word) ≡ onto_read (take l.i l.numbers) (numbers_from g.N.Number.held g.N.Number.MOST (drop l.i (pieces 44 l.word))))
