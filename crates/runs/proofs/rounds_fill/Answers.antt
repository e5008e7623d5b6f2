use Rattle.runs.proofs.Rounds.{rounds_fill}
use Rattle.runs.proofs.rounds_fill.Goals as goal

pub returns : goal.returns
returns c = rounds_fill
