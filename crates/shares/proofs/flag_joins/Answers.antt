use Rattle.shares.proofs.Xors as xors
use Rattle.shares.proofs.flag_joins.Goals as goal

pub returns : goal.returns
returns c = xors.flag_joins
