use Rattle.std.proofs.Common.{rules, eqb, ap, ◌∙◌}
use Rattle.std.proofs.lemmas.Iterator.Consumers.{nth_from_yields_List}
use Rattle.std.proofs.lemmas.Iterator.Splits.{YieldsList-from_slice_split}
use Rattle.orders.specs.Text.{pieces}
use Rattle.orders.proofs.Chosen.{chosen}
use Rattle.orders.proofs.text.piece_at.Goals as goal

pub returns : goal.returns
returns c =
    let by = c.args.by in
    let text = c.args.text.now in
    ap (λ x. x.now) c.unwrap_or.ensures ∙ chosen c.nth.result _ (pieces by text) c.args.k
    (nth_from_yields_List c.nth.result _ c.args.k c.nth.ensures.ran
    (YieldsList-from_slice_split _ (λ b. eqb b by) text c.split.ensures.rest c.split.ensures.done c.split.ensures.closure (λ x b q k. search rules)))
