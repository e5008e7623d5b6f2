use Rattle.runs.proofs.CountsOfRuns.{counts_stand}
use Rattle.runs.proofs.counts_stand.Goals as goal

pub returns : goal.returns
returns c = counts_stand
