use Rattle.std.proofs.Common.{◌≡◌, drop}
use Rattle.orders.specs.Text.{hex_of}
use Rattle.planlines.specs.Grammar.{all_read}
use Rattle.planlines.proofs.lists.digits_read.Given as goal

abbrev pub invariant-loop-b : goal.invariant-loop-b
invariant-loop-b l = all_read hex_of l.word ≡ all_read hex_of (drop l.b-index l.word)
