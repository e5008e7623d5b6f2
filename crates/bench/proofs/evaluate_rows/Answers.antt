use Rattle.std.proofs.Common.{ℕ, true, add-one, rules}
use Rattle.evaluation.specs.Evaluation.{evaluated}
use Rattle.bench.specs.Workloads.{place, root, sum_of}
use Rattle.bench.proofs.Chain.{counted}
use Rattle.bench.proofs.evaluate_rows.Goals as goal

pub returns : goal.returns
returns g c =
    let x = g.X.Expander.meaning in
    let m = g.G.Group in
    let answers = λ (i : ℕ). evaluated x m.group m.mean true (root 16) c.args.rows.now c.args.last (place i) in
    counted (λ v k. m.group.sum v (answers k)) (λ n. sum_of m.group answers n) (λ k. rw add-one) _ _ m.mean
    (λ a b k f call. (search rules, search rules))
    c.args.count c.zero.result c.fold.result c.zero.ensures c.fold.ensures.ran
