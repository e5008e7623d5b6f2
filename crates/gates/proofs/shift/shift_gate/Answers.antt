use Rattle.std.proofs.Common.{ℕ, false, length, Ok, sym, ap, ◌∙◌}
use Rattle.refusal.proofs.Answered.{answered_alike}
use Rattle.key.specs.declared.BoxNumber.TheVariants.{Zero, One}
use Rattle.masking.specs.Masking.{size}
use Rattle.shares.specs.Local.{sum_of}
use Rattle.gates.specs.Shift.{dealt_shift_key, low_rows_of, high_rows_of, numbers_by, held_by}
use Rattle.gates.specs.ShiftQuestions.{shift_asks}
use Rattle.gates.proofs.Asked.{shift_allowed}
use Rattle.gates.proofs.Shares.{three_alike}
use Rattle.gates.proofs.ShiftShares.{dealt_by, share_is, numbers_are, shifts_join}
use Rattle.gates.proofs.shift.shift_gate.Goals as goal

pub returns : goal.returns
returns g c =
    let d = g.D.Expander.meaning in
    let x = g.X.Expander.meaning in
    let y = g.Y.Expander.meaning in
    let s = c.args.gate.now.shift in
    let sign = c.args.gate.now.sign in
    let r : ℕ = c.args.gate.now.mask in
    let m : ℕ = c.args.m.0 in
    let N : ℕ = size s.width in
    let n : ℕ = s.width.bits in
    let ws = c.args.gate.now.words in
    let u = c.in_ok-ask_shift.field-0 in
    let asked = sym c.in_ok-ask_shift.ensures in
    let l0 : ℕ = length c.args.rows0.low.now.rows.now in
    let h0 : ℕ = length c.args.rows0.high.now.rows.now in
    let l1 : ℕ = length c.args.rows1.low.now.rows.now in
    let h1 : ℕ = length c.args.rows1.high.now.rows.now in
    let fine = shift_allowed s r m l0 h0 l1 h1 u asked in
    let key0 = c.shift_key-key0 in
    let key1 = c.shift_key-key1 in
    let half0 = c.answer_shift-half0 in
    let half1 = c.answer_shift-half1 in
    let low0 = key0.ensures.low ∙ ap (low_rows_of d s r ws) fine.low0 in
    let high0 = key0.ensures.high ∙ ap (high_rows_of d s r ws) fine.high0 in
    let low1 = key1.ensures.low ∙ ap (low_rows_of d s r ws) fine.low1 in
    let high1 = key1.ensures.high ∙ ap (high_rows_of d s r ws) fine.high1 in
    let k0 = key0.ensures.key ∙ ap (λ t. dealt_shift_key d Zero s r ws t h0) fine.low0 ∙ ap (dealt_shift_key d Zero s r ws s.by) fine.high0 in
    let k1 = key1.ensures.key ∙ ap (λ t. dealt_shift_key d One s r ws t h1) fine.low1 ∙ ap (dealt_shift_key d One s r ws s.by) fine.high1 in
    let s0 = share_is d s r ws m x Zero key0.result.key key0.new.low.rows.now key0.new.high.rows.now half0.result.own.0
    k0 low0 high0 sign half0.ensures.share in
    let s1 = share_is d s r ws m y One key1.result.key key1.new.low.rows.now key1.new.high.rows.now half1.result.own.0
    k1 low1 high1 sign half1.ensures.share in
    let width = half0.ensures.width ∙ ap (λ k. k.shift.width) key0.ensures.key in
    let both = c.exchange.ensures.held ∙ ap (λ w. sum_of (size w) half0.result.own.0 half1.result.own.0) width
    ∙ ap (λ t. sum_of N t half1.result.own.0) s0 ∙ ap (sum_of N (dealt_by d s r ws m sign x false)) s1 in
    record {
      numbers = ap Ok (three_alike (ap (λ t. t.0) c.exchange.ensures.share0 ∙ s0) (ap (λ t. t.0) c.exchange.ensures.share1 ∙ s1) both
          ∙ numbers_are d s r ws m x y sign)
          ∙ sym (answered_alike (shift_asks s r m l0 h0 l1 h1) (tt {0}) u (numbers_by d x y s r ws m sign) asked);
      joins = λ ex ey. ap Ok (both ∙ shifts_join d s r ws m x y g.met.D.Expander.wide ex ey fine.mask fine.held sign)
          ∙ sym (answered_alike (shift_asks s r m l0 h0 l1 h1) (tt {0}) u (held_by sign s r ws m) asked);
      low0 = low0;
      high0 = high0;
      low1 = low1;
      high1 = high1;
    }
