use Rattle.runs.proofs.RoundRuns.{rounds_run}
use Rattle.runs.proofs.rounds_run.Goals as goal

pub returns : goal.returns
returns c = rounds_run
