use Rattle.std.proofs.Common.{◌≡◌, ◌-◌, length}
use Rattle.dealing.specs.Dealing.{descent_mean, dealt_rows, dealt_last}
use Rattle.dealing.proofs.Dealt.{dealing}
use Rattle.dealing.proofs.deal.Given as goal

abbrev pub invariant-loop-i : goal.invariant-loop-i
invariant-loop-i g l =
    let x = g.X.Expander.meaning in
    let m = g.G.Group in
    let β = m.mean l.payload in
    let n = length l.initial.row-items in
    let d = descent_mean m.mean l.at in
    let d0 = descent_mean m.mean l.initial.at in
    (dealing x m.group m.mean β l.threshold l.row-items l.i (n - l.i) d ≡ dealt_rows x m.group β l.threshold n d0)
    × (dealt_last x m.group β l.threshold (n - l.i) d ≡ dealt_last x m.group β l.threshold n d0)
