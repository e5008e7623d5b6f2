use Rattle.std.proofs.Common.{◌≡◌, ◌+◌, ◌-◌, drop, sym, refl, ap, ◌∙◌, inl, inr, arith}
use Rattle.std.proofs.lemmas.List.{drop-drop, drop_all}
use Rattle.orders.specs.Text.{words, nth}
use Rattle.orders.proofs.Words.{ahead, before, later_word, word_is}
use Rattle.orders.proofs.text.word_at.Goals as goal
use Rattle.orders.proofs.text.word_at.Goals.{then-loop-left-test+else-start-line, else-loop-left-test}

pub loop-left-init : goal.loop-left-init
loop-left-init c =
    let line = c.args.line.now in
    let skipped : c.past_spaces-start.result ≡ ahead line = omega (arith, c.past_spaces-start.ensures.is) in
    let all : c.args.n - 1 + 1 ≡ c.args.n = omega arith in
    (line, ap (λ k. drop k line) skipped, ap (λ k. nth (words line) k) all, c.past_spaces-start.ensures.within)

pub loop-left-preserved : goal.loop-left-preserved
loop-left-preserved c =
    let line = c.args.line.now in
    let w = drop c.loop-left.start line in
    let rest = drop c.past_word.result line in
    let left = c.loop-left.left in
    let m = c.loop-left.invariant in
    let less : left - 1 + 1 ≡ left + 1 - 1 = omega arith in
    let after : drop (before w) w ≡ rest = drop-drop (before w) c.loop-left.start line ∙ sym (ap (λ k. drop k line) c.past_word.ensures.is) in (
      rest,
      ap (λ k. drop k line) c.past_spaces-start-in-loop-left.ensures.is ∙ sym (drop-drop (ahead rest) c.past_word.result line),
      ap (λ k. nth (words rest) k) less ∙ sym (later_word m.0 w (before w) m.1 refl (left + 1) (omega arith) ∙ ap (λ l. nth (words l) (left + 1 - 1)) after) ∙ m.2,
      c.past_spaces-start-in-loop-left.ensures.within,
    )

pub returns : goal.returns
returns c =
    let line = c.args.line.now in
    let start = c.loop-left.start in
    let end = c.past_word-2.result in
    let m = c.loop-left.invariant in
    let long : end - start ≡ before (drop start line) = omega (arith, c.past_word-2.ensures.is) in
    word_is m.0 (drop start line) (end - start) m.1 long c.loop-left.left (elim c.loop-left-test.branch [
      | then-loop-left-test+else-start-line w ↦ inr (drop_all start line (omega (arith, w.if-start-line.false)))
      | else-loop-left-test w ↦ inl (omega (arith, w.loop-left-test.false))
    ]) ∙ m.2
