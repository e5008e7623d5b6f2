use Rattle.sharing.proofs.Formed.{plans_are_formed}
use Rattle.sharing.proofs.Dealt.{deals_fit}
use Rattle.sharing.proofs.real_gates_fit.Goals as goal

pub returns : goal.returns
returns c = record { formed = plans_are_formed; fits = deals_fit }
