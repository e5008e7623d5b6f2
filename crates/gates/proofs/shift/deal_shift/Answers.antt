use Rattle.std.proofs.Common.{ℕ, length, Ok, sym, ap, ◌∙◌}
use Rattle.refusal.proofs.Answered.{answered_alike}
use Rattle.gates.specs.Shift.{dealt_shift_key, low_rows_of, high_rows_of}
use Rattle.gates.specs.ShiftQuestions.{shift_row_asks}
use Rattle.gates.proofs.Asked.{tables_allowed}
use Rattle.gates.proofs.shift.deal_shift.Goals as goal

pub returns : goal.returns
returns g c =
    let x = g.X.Expander.meaning in
    let s = c.args.gate.now.shift in
    let r : ℕ = c.args.gate.now.mask in
    let ws = c.args.gate.now.words in
    let b = c.args.number in
    let l : ℕ = length c.args.rows.low.now.rows.now in
    let h : ℕ = length c.args.rows.high.now.rows.now in
    let u = c.in_ok-ask_shift_rows.field-0 in
    let asked = sym c.in_ok-ask_shift_rows.ensures in
    let fine = tables_allowed s l h u asked in
    let said = c.shift_key.ensures in
    record {
      key = ap Ok (said.key ∙ ap (λ n. dealt_shift_key x b s r ws n h) fine.0 ∙ ap (dealt_shift_key x b s r ws s.by) fine.1)
          ∙ sym (answered_alike (shift_row_asks s l h) _ u (dealt_shift_key x b s r ws s.by s.width.bits) asked);
      low = said.low ∙ ap (low_rows_of x s r ws) fine.0;
      high = said.high ∙ ap (high_rows_of x s r ws) fine.1;
      same_low = said.same_low;
      same_high = said.same_high;
    }
