use Rattle.std.proofs.Common.{ap, ◌∙◌}
use Rattle.gates.proofs.ShiftShares.{share_by_sign}
use Rattle.gates.proofs.shift.Fresh+ShiftKey+Word.answer_shift.Goals as goal

pub returns-clause-share : goal.returns-clause-share
returns-clause-share g c =
    ap (λ s. s.0) c.new.ensures.own ∙ c.share_at-own.ensures
    ∙ share_by_sign g.X.Expander.meaning c.args.sign c.args.self.key c.args.low.now.rows.now c.args.high.now.rows.now c.args.m.0
