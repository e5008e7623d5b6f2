use Rattle.std.proofs.Common.{length, refl}
use Rattle.keyform.proofs.Tails.{tail_in, before_tail}
use Rattle.keyform.proofs.gate_keys.read_interval.Goals as goal

pub returns-in_err-key-clause-read : goal.returns-in_err-key-clause-read
returns-in_err-key-clause-read g c =
    let n = length c.args.rows.now.rows.now in
    rw c.from_residual.ensures (λ i. c.in_err-key.ensures (tail_in g.G.StoredGroup.form n c.args.bytes.now i), refl)

pub returns-in_err-ends-clause-read : goal.returns-in_err-ends-clause-read
returns-in_err-ends-clause-read g c =
    let s = g.G.StoredGroup in
    let n = length c.args.rows.now.rows.now in
    let kept = c.in_err-ends.ensures in
    rw c.from_residual-in_err-ends.ensures (
      λ i. kept.read.0 (before_tail s.form s.size g.met.G.StoredGroup.sized n c.args.bytes.now c.in_ok-key.key.now
          c.in_ok-key.payload c.in_ok-key.extra c.in_ok-key.out c.in_ok-key.ensures i),
      kept.read.1,
    )
