use Rattle.std.proofs.Common.{◌≡◌, Some, codes, rules, ap, arith}
use Rattle.std.proofs.lemmas.Slice.Eq.{text_from_reads}
use Rattle.planlines.proofs.said.Goals as goal

pub returns-in-hidden : goal.returns-in-hidden
returns-in-hidden c =
    let e : c.args.word.now ≡ codes "hidden" = text_from_reads c.args.word.now (codes "hidden") (omega arith) (search rules) in
    rw e (ap Some c.gate_row-in-hidden.ensures)

pub returns-in-outline : goal.returns-in-outline
returns-in-outline c =
    let e : c.args.word.now ≡ codes "outline" = text_from_reads c.args.word.now (codes "outline") (omega arith) (search rules) in
    rw e (ap Some c.books_line-in-outline.ensures)
