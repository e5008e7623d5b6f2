use Rattle.std.proofs.Common.{drop}
use Rattle.buffers.proofs.Puts.{Owes}
use Rattle.layout.specs.Keys.{rows_bytes}
use Rattle.keyform.proofs.writing.put_rows.Given as goal

abbrev pub invariant-loop-row : goal.invariant-loop-row
invariant-loop-row g l =
    Owes l.initial.writer (rows_bytes g.G.StoredGroup.form l.rows) l.writer
    (rows_bytes g.G.StoredGroup.form (drop l.row-index l.rows))
