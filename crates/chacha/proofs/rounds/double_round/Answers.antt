use Rattle.standards.specs.Rfc8439.{double_round}
use Rattle.chacha.proofs.rounds.double_round.Goals as goal

pub returns : goal.returns
unfolding double_round
returns c = cc
