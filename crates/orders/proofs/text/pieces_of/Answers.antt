use Rattle.std.proofs.Common.{◌+◌, eqb, cond, sym, ap, ◌∙◌, arith, rules, tests, of_calls}
use Rattle.std.proofs.lemmas.Iterator.{YieldsList-from_slice, YieldsList-from_map}
use Rattle.std.proofs.lemmas.Iterator.Consumers.{sum_by_from_yields_List, fits_by_from_yields_list}
use Rattle.std.proofs.lemmas.List.Splits.{length-slice_split}
use Rattle.std.proofs.lemmas.List.Sums.{count_by-le-length}
use Rattle.orders.proofs.text.pieces_of.Goals as goal

pub sum-requires : goal.sum-requires
sum-requires c =
    let by = c.args.by in
    let text = c.args.text.now in
    record {
      can = search of_calls;
      finite = search of_calls;
      fits = fits_by_from_yields_list _ text c.map.result _
          (YieldsList-from_map _ (λ b. cond (eqb b by) 1 0) (YieldsList-from_slice text cc) c.map.ensures.closure (λ x r q k. search (rules, tests)))
          (omega (arith, count_by-le-length (λ b. eqb b by) text));
    }

pub overflow_add-result : goal.overflow_add-result
overflow_add-result c =
    let by = c.args.by in
    let text = c.args.text.now in
    let counted = sum_by_from_yields_List _ text c.map.result _ c.sum.ensures.ran
    (YieldsList-from_map _ (λ b. cond (eqb b by) 1 0) (YieldsList-from_slice text cc) c.map.ensures.closure (λ x r q k. search (rules, tests))) in
    omega (arith, counted, count_by-le-length (λ b. eqb b by) text)

pub returns : goal.returns
returns c =
    let by = c.args.by in
    let text = c.args.text.now in
    ap (λ n. n + 1) (sum_by_from_yields_List _ text c.map.result _ c.sum.ensures.ran
    (YieldsList-from_map _ (λ b. cond (eqb b by) 1 0) (YieldsList-from_slice text cc) c.map.ensures.closure (λ x r q k. search (rules, tests))))
    ∙ sym (length-slice_split (λ b. eqb b by) text)
