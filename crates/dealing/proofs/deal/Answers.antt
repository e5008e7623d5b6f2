use Rattle.std.proofs.Common.{◌≡◌, ℕ, suc, ◌+◌, ◌-◌, ◌≤◌, length, refl, ap, ◌∙◌, arith}
use native.Mathlib.Nat.{sub-zero}
use Rattle.evaluation.specs.Evaluation.{bit_at}
use Rattle.dealing.specs.Dealing.{descent_mean, dealt_rows, dealt_last}
use Rattle.dealing.proofs.Dealt.{rows_next, last_next, rows_end, last_end}
use Rattle.dealing.proofs.deal.Goals as goal

pub loop-i-init : goal.loop-i-init
loop-i-init g c =
    let x = g.X.Expander.meaning in
    let m = g.G.Group in
    let β = m.mean c.args.payload in
    let α = c.args.threshold in
    let d = descent_mean m.mean c.begin-at.result in
    let all = sub-zero (length c.args.rows.now.rows.now) in
    (ap (λ k. dealt_rows x m.group β α k d) all, ap (λ k. dealt_last x m.group β α k d) all)

pub loop-i-preserved : goal.loop-i-preserved
loop-i-preserved g c =
    let x = g.X.Expander.meaning in
    let m = g.G.Group in
    let inv = c.loop-i.invariant in
    let n = length c.args.rows.now.rows.now in
    let i = c.loop-i.i in
    let k : ℕ = n - (i + 1) in
    let row = c.row.result in
    let d = descent_mean m.mean c.loop-i.at in
    let d' = descent_mean m.mean c.past-at.result in
    let β = m.mean c.args.payload in
    let α = c.args.threshold in
    let is : n - i ≡ suc k = omega arith in
    let bit = c.bit_at-bit.ensures ∙ ap (bit_at α) (omega arith) in (
      rows_next x m.group m.mean β α d d' k (n - i) c.bit_at-bit.result c.branch-b0.result c.branch-b1.result row is
          bit c.branch-b0.ensures c.branch-b1.ensures c.row.ensures c.past-at.ensures c.loop-i.row-items i (omega arith)
          ∙ inv.0,
      last_next x m.group m.mean β α d d' k (n - i) c.bit_at-bit.result c.branch-b0.result c.branch-b1.result row is
          bit c.branch-b0.ensures c.branch-b1.ensures c.row.ensures c.past-at.ensures
          ∙ inv.1,
    )

pub returns : goal.returns
returns g c =
    let x = g.X.Expander.meaning in
    let m = g.G.Group in
    let inv = c.loop-i.invariant in
    let xs = c.loop-i.row-items in
    let i = c.loop-i.i in
    let n = length c.args.rows.now.rows.now in
    let d = descent_mean m.mean c.loop-i.at in
    let β = m.mean c.args.payload in
    let α = c.args.threshold in
    let none : n - i ≡ 0 = omega arith in
    let all : length xs ≤ i = omega arith in
    record {
      rows = rows_end x m.group m.mean β α xs i (n - i) d all none ∙ inv.0 ∙ ap (dealt_rows x m.group β α n) c.begin-at.ensures;
      last = c.last.ensures ∙ last_end x m.group m.mean β α (n - i) d none ∙ inv.1 ∙ ap (dealt_last x m.group β α n) c.begin-at.ensures;
      same = refl;
    }
