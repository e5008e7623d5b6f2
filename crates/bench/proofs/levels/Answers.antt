use Rattle.std.proofs.Common.{refl, add-one, rules}
use Rattle.bench.specs.Workloads.{level, levels}
use Rattle.bench.proofs.Chain.{counted}
use Rattle.bench.proofs.levels.Goals as goal

pub returns : goal.returns
returns g c =
    let x = g.X.Expander.meaning in
    counted (λ s k. level x s) (λ n. levels x n c.args.first) (λ k. rw add-one) _ _ (λ s. s) (λ a b k f call. (search rules, search rules))
    c.args.count c.args.first c.fold.result refl c.fold.ensures.ran
