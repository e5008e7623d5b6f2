use Rattle.std.proofs.Common.{rules, tests, ◌≡◌, ◌+◌, ◌-◌, ◌*◌, eqb, length, Some, ap, ◌∙◌, arith}
use Rattle.std.specs.Option.{option_eq}
use Rattle.reader.proofs.Gapless.{last_end, ends_book, try_folded}
use Rattle.reader.proofs.asking.is_gapless.Goals as goal

pub returns : goal.returns
returns c =
    let book = c.args.book.now in
    let start = 16 + 8 * c.args.wires in
    let n : c.args.wires - 0 ≡ c.args.wires = omega arith in
    let f = try_folded book _ _ (record { 0 = c.args.book }) (record { start = 0; end = c.args.wires }) c.try_fold.new.self start c.try_fold.result c.try_fold.ensures.ran (λ a x v q called. search (rules, tests)) in
    c.eq.ensures ∙ ap (λ o. option_eq eqb o (Some (length book))) (f ∙ ap (λ m. last_end book m 0 start) n)
    ∙ ends_book book c.args.wires 0 start (omega arith)
