use Rattle.std.proofs.Common.{rules, tests, ◌≡◌, ◌+◌, get_or, ap, sym, ◌∙◌, arith}
use Rattle.masks.proofs.Fronts.{is_front, given_each}
use Rattle.masks.proofs.words_from.Goals as goal

pub returns : goal.returns
returns g c =
    let h = c.from_fn.ensures.items in
    let words = c.args.words.now in
    is_front g.row.K c.from_fn.result words h.long
    (λ k l.
    let z : 0 + k ≡ k = omega arith in
    ap (λ j. get_or c.from_fn.result j 0) (sym z)
    ∙ given_each _ _ (λ i. get_or words i 0) c.from_fn.result 0 g.row.K (λ x y q called. search (rules, tests)) h.each k l
    ∙ ap (λ j. get_or words j 0) z)
