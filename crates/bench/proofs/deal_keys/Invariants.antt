use Rattle.std.proofs.Common.{◌≡◌, length}
use Rattle.dealing.specs.Dealing.{dealt_last, start}
use Rattle.bench.specs.Workloads.{place, root, sum_of}
use Rattle.bench.proofs.deal_keys.Given as goal

abbrev pub invariant-loop-i : goal.invariant-loop-i
invariant-loop-i g l =
    let x = g.X.Expander.meaning in
    let m = g.G.Group in
    let n = length l.initial.memory in
    let p = m.mean l.payload in
    let s = start m.group (root 0) (root 16) in
    m.mean l.all ≡ sum_of m.group (λ i. dealt_last x m.group p (place i) n s) l.i
