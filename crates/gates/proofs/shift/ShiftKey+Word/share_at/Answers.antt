use Rattle.std.proofs.Common.{ℕ, ◌%◌, ap, ◌∙◌}
use Rattle.key.specs.Rows.{is_one}
use Rattle.masking.specs.Masking.{size}
use Rattle.shares.specs.Words.{Word}
use Rattle.gatemath.specs.Elements.{step_of, word_mean}
use Rattle.gatemath.specs.Signs.{asked_at, share_by}
use Rattle.gates.specs.Shift.{low_at, high_at}
use Rattle.gates.proofs.shift.ShiftKey+Word.share_at.Goals as goal

pub returns : goal.returns
returns g c =
    let x = g.X.Expander.meaning in
    let k = c.args.self.now in
    let lows = c.args.low.now.rows.now in
    let highs = c.args.high.now.rows.now in
    let sign = c.args.sign in
    let m = c.args.m in
    let S : ℕ = step_of k.shift in
    let at = c.point_at-at.ensures ∙ ap (λ w. asked_at sign (size w) m) c.width.ensures in
    let low = c.answer-low.ensures ∙ ap (λ t. low_at x word_mean k t c.low_bits-below.result) c.as_slice.ensures
    ∙ ap (low_at x word_mean k lows) (c.low_bits-below.ensures ∙ ap (λ n. n % S) at) in
    let high = c.answer-high.ensures ∙ ap (λ t. high_at x word_mean k t c.point_at-at.result) c.as_slice-2.ensures
    ∙ ap (high_at x word_mean k highs) at in
    let share : Word → Word → ℕ = λ l h. share_by sign (is_one k.number) (size k.shift.width) S m l.0 h.0 k.parts.rest in
    c.shift_share.ensures ∙ ap (λ l. share l (word_mean c.answer-high.result)) low
    ∙ ap (share (low_at x word_mean k lows (asked_at sign (size k.shift.width) m % S))) high
