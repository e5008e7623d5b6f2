use Rattle.std.proofs.Common.{length, refl}
use Rattle.std.proofs.lemmas.Bool.{both_ways}
use Rattle.keyform.specs.Reads.{RowsIn}
use Rattle.keyform.proofs.Ends.{ends_in, rows_between}
use Rattle.keyform.proofs.reading.read_key.Goals as goal

pub returns-in_err-between-clause-read : goal.returns-in_err-between-clause-read
returns-in_err-between-clause-read g c =
    let n = length c.args.rows.now.rows.now in
    rw c.from_residual.ensures (λ k. c.in_err-between.ensures (ends_in g.G.StoredGroup.form n c.args.bytes.now k), refl)

pub returns-then-not-rows_fit-clause-read : goal.returns-then-not-rows_fit-clause-read
returns-then-not-rows_fit-clause-read g c =
    let s = g.G.StoredGroup in
    let between = c.in_ok-between.between.now in (
      λ k.
          let t = rows_between s.form s.size g.met.G.StoredGroup.sized (length c.args.rows.now.rows.now) c.args.bytes.now between
          c.in_ok-between.ends c.in_ok-between.ensures k in
          let here : RowsIn s.form c.count.result between = rw c.count.ensures t in
          both_ways c.rows_fit.result c.if-not-rows_fit.true (c.rows_fit.ensures.1 here),
      refl,
    )
