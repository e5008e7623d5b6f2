use Rattle.std.proofs.Common.{ℕ, List, [], get_or, ap, arith}
use Rattle.std.proofs.lemmas.List.FromFn.{get_or-map-range_with_len}
use Rattle.aes.specs.Rows.{row_table}
use Rattle.aes.proofs.tables.mixed_row.Goals as goal

pub returns : goal.returns
returns g c = ap (λ (row : List ℕ). get_or row c.args.b 0) (get_or-map-range_with_len row_table 0 4 g.row.ROW g.row.ROW [] c.requires (omega arith))
