use Rattle.std.proofs.Common.{◌≡◌, ℕ, length, true, false, Ok, sym, refl, ap, ◌∙◌}
use Rattle.key.specs.declared.BoxNumber.TheVariants.{Zero, One}
use Rattle.masking.specs.Masking.{size}
use Rattle.refusal.specs.Questions.{answered}
use Rattle.refusal.proofs.Answered.{answered_alike}
use Rattle.gates.specs.Interval.{key_of, rows_of}
use Rattle.gates.specs.Questions.{gate_asks}
use Rattle.gates.proofs.Asked.{gate_allowed}
use Rattle.gates.proofs.Shares.{Share, numbers_are, held_is, three_alike}
use Rattle.gates.proofs.intervals.interval_gate.Goals as goal

pub returns : goal.returns
returns g c =
    let d = g.D.Expander.meaning in
    let x = g.X.Expander.meaning in
    let y = g.Y.Expander.meaning in
    let group = g.G.Group.group in
    let mean = g.G.Group.mean in
    let t = c.args.gate.now in
    let T = g.T.IntervalGate in
    let laws = g.met.T.IntervalGate.laws in
    let deal = T.deal t in
    let n : ℕ = deal.interval.width.bits in
    let m : ℕ = c.args.m.0 in
    let n0 : ℕ = length c.args.rows0.now.rows.now in
    let n1 : ℕ = length c.args.rows1.now.rows.now in
    let u = c.in_ok-ask_gate.field-0 in
    let asked : answered (gate_asks n deal.mask m n0 n1) (tt {0}) ≡ Ok u = cc (c.in_ok-ask_gate.ensures, c.deal-mask.ensures.deal) in
    let fine = gate_allowed n deal.mask m n0 n1 u asked in
    let key0 = c.interval_key-key0 in
    let key1 = c.interval_key-key1 in
    let half0 = c.answer-half0 in
    let half1 = c.answer-half1 in
    let out = T.out_part t in
    let k0 = key0.ensures.key ∙ ap (key_of d group mean deal Zero (out false)) fine.rows0 in
    let k1 = key1.ensures.key ∙ ap (key_of d group mean deal One (out true)) fine.rows1 in
    let rows0 = key0.ensures.rows ∙ ap (rows_of d group mean deal) fine.rows0 in
    let rows1 = key1.ensures.rows ∙ ap (rows_of d group mean deal) fine.rows1 in
    let share0 : Share group mean T.share deal d x Zero (out false) m half0.result.own.0 = record {
      key = key0.result.key;
      rows = key0.new.rows.rows.now;
      key_is = k0;
      rows_are = rows0;
      answer = half0.ensures.share;
    } in
    let share1 : Share group mean T.share deal d y One (out true) m half1.result.own.0 = record {
      key = key1.result.key;
      rows = key1.new.rows.rows.now;
      key_is = k1;
      rows_are = rows1;
      answer = half1.ensures.share;
    } in
    let width = half0.ensures.width ∙ ap (λ k. k.interval.width) k0 in
    let join = c.exchange.ensures.held ∙ ap (λ w. g.G.Shared.together (size w) half0.result.own.0 half1.result.own.0) width in
    let own0 = ap (λ s. s.0) c.exchange.ensures.share0 in
    let own1 = ap (λ s. s.0) c.exchange.ensures.share1 in
    let numbers = numbers_are laws t share0 share1 join in
    record {
      numbers = ap Ok (three_alike own0 own1 refl ∙ numbers)
          ∙ sym (answered_alike (gate_asks n deal.mask m n0 n1) (tt {0}) u (T.numbers d x y t m) asked);
      joins = λ ex ey. ap Ok (held_is laws t share0 share1 join g.met.D.Expander.wide ex ey c.deal-mask.ensures.allowed fine.mask fine.held)
          ∙ sym (answered_alike (gate_asks n deal.mask m n0 n1) (tt {0}) u (T.held t m) asked);
      rows0 = rows0;
      rows1 = rows1;
    }
