use Rattle.std.proofs.Common.{length, Ok, sym, ap, ◌∙◌}
use Rattle.comparison.proofs.Asked.{compare_accepted, compare_fits, compare_rows}
use Rattle.comparison.proofs.Joined.{answers_are, join_is}
use Rattle.comparison.proofs.compare.Goals as goal

pub returns-clause-answers : goal.returns-clause-answers
returns-clause-answers g c =
    let m = g.G.Group in
    let a = c.args in
    let both = c.answer_both in
    let said = both.ensures in
    let deal = c.deal-last.ensures in
    let n = length a.rows.now.rows.now in
    let asked = c.in_ok-ask_key.ensures in
    let all = compare_rows a.width a.threshold a.point n m.group.count asked in
    ap Ok (answers_are m.group m.mean g.D.Expander.meaning a.width a.threshold (m.mean a.payload) a.roots.zero a.roots.one a.point
    a.rows.now.rows.now _ _ c.deal-last.result all deal.rows c.as_slice.ensures deal.last g.X.Expander.meaning g.Y.Expander.meaning
    both.result.answer0 both.result.answer1 both.result.joined said.zero said.one said.sum)
    ∙ sym (compare_accepted a.width a.threshold a.point n m.group.count asked _)

pub returns-clause-joins : goal.returns-clause-joins
returns-clause-joins g c ex ey =
    let m = g.G.Group in
    let a = c.args in
    let both = c.answer_both in
    let said = both.ensures in
    let deal = c.deal-last.ensures in
    let n = length a.rows.now.rows.now in
    let asked = c.in_ok-ask_key.ensures in
    let all = compare_rows a.width a.threshold a.point n m.group.count asked in
    ap Ok (join_is m.group m.mean g.D.Expander.meaning a.width a.threshold (m.mean a.payload) a.roots.zero a.roots.one a.point
    a.rows.now.rows.now _ _ c.deal-last.result all deal.rows c.as_slice.ensures deal.last g.X.Expander.meaning g.Y.Expander.meaning
    both.result.answer0 both.result.answer1 both.result.joined said.zero said.one said.sum
    g.met.D.Expander.wide ex ey (compare_fits a.width a.threshold a.point n m.group.count asked))
    ∙ sym (compare_accepted a.width a.threshold a.point n m.group.count asked _)
