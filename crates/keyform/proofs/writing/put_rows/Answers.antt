use Rattle.std.proofs.Common.{◌≡◌, ℕ, ◌+◌, ◌<◌, List, ◌++◌, length, get_or, drop, sym, ap, ◌∙◌}
use Rattle.std.proofs.lemmas.List.{at_drop_more, at_drop_all}
use Rattle.key.specs.declared.Row.{Row}
use Rattle.buffers.proofs.Puts.{owes_as, owes_less, owes_none}
use Rattle.layout.specs.Keys.{rows_bytes, row_bytes}
use Rattle.keyform.proofs.writing.put_rows.Goals as goal

more : {G : Type 0} (form : G → List ℕ) (rows : List (Row G)) (i : ℕ) (row : Row G) → i < length rows → row ≡ get_or rows i row
    → rows_bytes form (drop i rows) ≡ row_bytes form row ++ rows_bytes form (drop (i + 1) rows)
more form rows i row h e =
    at_drop_more (rows_bytes form) rows i row h ∙ ap (λ r. row_bytes form r ++ rows_bytes form (drop (i + 1) rows)) (sym e)

pub loop-row-preserved : goal.loop-row-preserved
loop-row-preserved g c =
    owes_less
    (owes_as (more g.G.StoredGroup.form c.args.rows.now c.loop-row.row-index c.row-item.result
    c.loop-row-test.true c.row-item.is) c.loop-row.invariant)
    c.put_row.ensures

pub returns : goal.returns
returns g c =
    owes_none
    (owes_as (at_drop_all (rows_bytes g.G.StoredGroup.form) c.args.rows.now c.loop-row.row-index
    c.loop-row-test.false) c.loop-row.invariant)
