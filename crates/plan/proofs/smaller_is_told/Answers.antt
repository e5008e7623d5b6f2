use Rattle.plan.proofs.Order.{smaller_is_told}
use Rattle.plan.proofs.smaller_is_told.Goals as goal

pub returns : goal.returns
returns c = smaller_is_told
