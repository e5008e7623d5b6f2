use Rattle.figures.proofs.Figures.{figures_hold}
use Rattle.figures.proofs.figures_hold.Goals as goal

pub returns-clause-hold : goal.returns-clause-hold
returns-clause-hold c = figures_hold
