use Rattle.std.proofs.Common.{Decides, rules}
use Rattle.keyform.specs.Reads.{RowsIn}
use Rattle.keyform.proofs.Decided.{decided_by}
use Rattle.keyform.proofs.Ends.{ends_in, key_in, rows_between}
use Rattle.keyform.proofs.reading.key_fits.Goals as goal

pub returns : goal.returns
returns g c =
    let s = g.G.StoredGroup in
    let bytes = c.args.bytes.now in
    let n = c.args.count in
    decided_by c.read_ends.result c.is_some_and.result c.read_ends.ensures c.is_some_and.ensures
    (λ none k. none (ends_in s.form n bytes k))
    (λ e r p.
    let fit : Decides c.is_some_and.result (RowsIn s.form n e.0.now) = search rules in (
      λ h. key_in s.form n bytes e.0.now e.1 r (fit.0 h),
      λ k. fit.1 (rows_between s.form s.size g.met.G.StoredGroup.sized n bytes e.0.now e.1 r k),
    ))
