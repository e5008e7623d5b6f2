use Rattle.std.proofs.Common.{◌≡◌, min, take}
use Rattle.orders.specs.Text.{value}
use Rattle.orders.proofs.text.value_of.Given as goal

abbrev pub invariant-loop-b : goal.invariant-loop-b
invariant-loop-b l = l.sum ≡ min (value (take l.b-index l.word)) l.top
