use Rattle.runs.proofs.ShownRight.{shown_values_stand}
use Rattle.runs.proofs.shown_values_stand.Goals as goal

pub returns : goal.returns
returns c = shown_values_stand
