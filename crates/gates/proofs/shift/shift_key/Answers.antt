use Rattle.std.proofs.Common.{◌≡◌, ℕ, length, refl, ap, ◌∙◌}
use Rattle.shares.specs.Words as group
use Rattle.gatemath.specs.Elements.{word_mean}
use Rattle.gates.specs.Shift.{shift_key_mean}
use Rattle.gates.proofs.Ends.{same_ends, same_rows, same_key}
use Rattle.gates.proofs.shift.shift_key.Goals as goal

pub returns : goal.returns
returns g c =
    let x = g.X.Expander.meaning in
    let b = c.args.number in
    let mask : ℕ = c.args.gate.now.mask in
    let l : ℕ = length c.args.low.now.rows.now in
    let h : ℕ = length c.args.high.now.rows.now in
    let r : mask ≡ mask = refl in
    let below = c.low_bits-below.ensures in
    let minus = c.low_key_payload.ensures in
    let steps = ap group.word c.step_count.ensures in
    let low_ends = c.deal_ends.ensures.ends ∙ same_ends x group.words below minus c.roots_at.ensures l b in
    let high_ends = c.deal_ends-2.ensures.ends ∙ same_ends x group.words r steps c.roots_at-2.ensures h b in
    record {
      key = ap (shift_key_mean word_mean) c.new.ensures ∙ same_key low_ends high_ends c.rest_part.ensures;
      low = c.deal_ends.ensures.rows ∙ same_rows x group.words below minus c.roots_at.ensures l;
      high = c.deal_ends-2.ensures.rows ∙ same_rows x group.words r steps c.roots_at-2.ensures h;
      same_low = c.deal_ends.ensures.same;
      same_high = c.deal_ends-2.ensures.same;
    }
