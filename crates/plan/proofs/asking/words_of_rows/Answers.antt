use Rattle.std.proofs.Common.{rules, ◌≡◌, ◌≤◌, ◌*◌, length, arith}
use Rattle.std.proofs.iter.runs.Made.{chains}
use Rattle.plan.specs.Plans.{words_of_rows}
use Rattle.plan.proofs.Words.{words_few}
use Rattle.plan.proofs.asking.words_of_rows.Goals as goal

pub returns-clause-few : goal.returns-clause-few
returns-clause-few c =
    let m : words_of_rows c.args.rows.now ≤ length c.args.rows.now * 14 = words_few c.args.rows.now in
    let e : c.sum.result ≡ words_of_rows c.args.rows.now = search (rules, chains) in
    omega arith
