use Rattle.std.proofs.Common.{◌≡◌, ◌-◌, ◌++◌, length, take}
use Rattle.layout.specs.Keys.{rows_bytes}
use Rattle.keyform.specs.Reads.{RowsIn, WholeRows}
use Rattle.keyform.proofs.reading.fill.Given as goal

abbrev pub invariant-loop-row : goal.invariant-loop-row
invariant-loop-row g l =
    let form = g.G.StoredGroup.form in
    (l.chunks.size ≡ l.initial.chunks.size)
    × (RowsIn form (length l.initial.row-items - l.row-index) l.chunks.rest.now)
    × (rows_bytes form (take l.row-index l.row-items) ++ l.chunks.rest.now ≡ l.bytes)
    × (WholeRows (take l.row-index l.row-items))
