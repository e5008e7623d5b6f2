use Rattle.bench.proofs.Chain.{level_of}
use Rattle.bench.proofs.level.Goals as goal

pub returns : goal.returns
returns g c =
    level_of g.X.Expander.meaning c.args.seed _ _ _ _
    c.branch-b.ensures c.draw-words.ensures c.root_from.ensures c.xor.ensures
