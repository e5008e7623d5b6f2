use Rattle.std.proofs.Common.{rules, ◌≡◌, ℕ, ◌<◌, false, get_or, refl}
use Rattle.std.proofs.iter.runs.Sources.{ranges}
use Rattle.bodies.proofs.Rows.{row_fits, all_rows, row_fails, told}
use Rattle.bodies.proofs.asking.rows_fit.Goals as goal

pub returns : goal.returns
returns c =
    let key = c.args.key.now in
    told c.all.result _
    (λ yes. all_rows c.args.size key c.args.rows c.args.start (λ k l. let here : get_or key k 0 ≡ get_or key k 0 = refl in search (rules, ranges)))
    (λ no.
    let p : (k : ℕ) × (k < c.args.rows) × (row_fits c.args.size key c.args.start k ≡ false) = search (rules, ranges) in
    row_fails c.args.size key c.args.rows c.args.start p.0 p.1 p.2)
