use Rattle.std.proofs.Common.{eqb, length, Ok, Err, refl, rules, sym, ap, ◌∙◌}
use Rattle.std.proofs.lemmas.Iterator.Splits.{YieldsList-from_slice_split}
use Rattle.std.proofs.lemmas.Result.{err_from_is_err_and}
use Rattle.orders.specs.Grammar.{and_then}
use Rattle.orders.specs.Text.{decimal_of, pieces}
use Rattle.planlines.specs.Grammar.{all_read}
use Rattle.planlines.proofs.Yielded.{yields_more, yields_end}
use Rattle.planlines.proofs.lists.numbers_in.Goals as goal

pub loop-piece-init : goal.loop-piece-init
loop-piece-init c =
    let w = c.args.word.now in
    let same = c.into_iter-piece-iterator.ensures.into_iter_gives in (
      pieces 44 w,
      YieldsList-from_slice_split _ (λ b. eqb b 44) w (ap (λ s. s.rest.now) same ∙ c.split-piece-items.ensures.rest)
          (ap (λ s. s.done) same ∙ c.split-piece-items.ensures.done) (ap (λ s. s.pred) same ∙ c.split-piece-items.ensures.closure)
          (λ x b q k. search rules),
      refl,
    )

pub loop-piece-preserved : goal.loop-piece-preserved
loop-piece-preserved c =
    let read = decimal_of c.args.most in
    let so_far = c.loop-piece.invariant in
    let more = yields_more _ _ _ c.in-Some.piece so_far.0 so_far.1 c.in-Some.ensures.steps in (
      more.0,
      more.2,
      so_far.2 ∙ ap (all_read read) more.1 ∙ ap (λ r. and_then r (λ n. all_read read more.0)) (sym c.in_ok-decimal.ensures.is),
    )

pub returns-in_err-decimal : goal.returns-in_err-decimal
returns-in_err-decimal c =
    let read = decimal_of c.args.most in
    let so_far = c.loop-piece.invariant in
    let p = err_from_is_err_and c.from_residual.result c.from_residual.ensures.1 in
    let more = yields_more _ _ c.next.new.self c.in-Some.piece so_far.0 so_far.1 c.in-Some.ensures.steps in
    let stop = so_far.2 ∙ ap (all_read read) more.1 ∙ ap (λ r. and_then r (λ n. all_read read more.0)) (sym c.in_err-decimal.ensures.is) in
    p.1 ∙ ap Err p.2 ∙ sym (ap (λ r. and_then r (λ all. Ok (length (pieces 44 c.args.word.now)))) stop)

pub returns : goal.returns
returns c =
    let read = decimal_of c.args.most in
    let so_far = c.loop-piece.invariant in
    let end = so_far.2 ∙ ap (all_read read) (yields_end _ _ _ so_far.0 so_far.1 c.in-None.ensures.steps) in
    ap Ok c.pieces_of.ensures ∙ sym (ap (λ r. and_then r (λ all. Ok (length (pieces 44 c.args.word.now)))) end)
