use Rattle.std.proofs.Common.{add-one}
use Rattle.chacha.proofs.rounds.twenty_rounds.Goals as goal

pub loop-round-preserved : goal.loop-round-preserved
loop-round-preserved c = rw add-one (cc)
