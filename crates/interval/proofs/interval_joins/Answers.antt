use Rattle.interval.proofs.Ends.{extra_count}
use Rattle.interval.proofs.Rule as rule
use Rattle.interval.proofs.interval_joins.Goals as goal

pub returns : goal.returns
returns g c = record {
  joins = rule.interval_joins g.G.Group.group;
  extra = rule.extra_taken g.G.Group.group;
  count = extra_count;
}
