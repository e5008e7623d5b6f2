use Rattle.rehearsal.proofs.Rehearsed.{rehearsals_stand}
use Rattle.rehearsal.proofs.rehearsals_stand.Goals as goal

pub returns : goal.returns
returns c = rehearsals_stand
