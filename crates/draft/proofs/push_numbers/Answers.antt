use Rattle.std.proofs.Common.{[], get_or, ap, ◌∙◌}
use Rattle.orders.specs.Text.{pieces, decimal_of, or_zero}
use Rattle.draft.proofs.Numbers.{numbers_more}
use Rattle.draft.proofs.push_numbers.Goals as goal

pub loop-k-preserved : goal.loop-k-preserved
loop-k-preserved g c =
    let held = g.N.Number.held in
    let piece = get_or (pieces 44 c.args.word.now) c.loop-k.k [] in
    numbers_more held g.N.Number.MOST c.args.word.now c.loop-k.k _ _ _ _ c.loop-k.invariant c.in_ok-push.ensures.items
    (c.hold.ensures ∙ ap held c.number_in.ensures.is ∙ ap (λ most. held (or_zero (decimal_of most piece))) c.MOST.ensures)
