use Rattle.std.proofs.Common.{ap, ◌∙◌}
use Rattle.orders.specs.Grammar.{parsed}
use Rattle.orders.proofs.Orders.{reads_back}
use Rattle.orders.proofs.parse.Goals as goal

pub returns : goal.returns
returns c = record { is = c.order_of.ensures; back = λ o h e. c.order_of.ensures ∙ ap parsed e ∙ reads_back o h }
