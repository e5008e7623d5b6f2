use Rattle.std.proofs.Common.{length, ◌∙◌}
use Rattle.bench.specs.Workloads.{place, root}
use Rattle.bench.proofs.Chain.{evaluates}
use Rattle.bench.proofs.evaluate_key.Goals as goal

pub returns : goal.returns
returns g c =
    c.evaluate_rows.ensures
    ∙ evaluates g.X.Expander.meaning g.G.Group.group g.G.Group.mean (length c.args.memory.now) 3000000000 (g.G.Group.mean c.args.payload)
    (root 0) (root 16) _ c.deal_one-last.result place c.args.count c.deal_one-last.ensures.rows c.deal_one-last.ensures.last
