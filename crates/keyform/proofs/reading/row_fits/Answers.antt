use Rattle.keyform.proofs.Decided.{decided_some}
use Rattle.keyform.proofs.reading.row_fits.Goals as goal

pub returns : goal.returns
returns g c =
    decided_some c.read_row.result c.is_some.result c.is_some.ensures c.read_row.ensures (λ none i. none i)
    (λ row r. record { row = row; same = r.same })
