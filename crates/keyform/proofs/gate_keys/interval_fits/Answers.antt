use Rattle.std.proofs.Common.{Decides, rules}
use Rattle.keyform.specs.Reads.{KeyIn}
use Rattle.keyform.proofs.Decided.{decided_by}
use Rattle.keyform.proofs.Tails.{tail_in, interval_in, before_tail}
use Rattle.keyform.proofs.gate_keys.interval_fits.Goals as goal

pub returns : goal.returns
returns g c =
    let s = g.G.StoredGroup in
    let bytes = c.args.bytes.now in
    let n = c.args.count in
    decided_by c.read_tail.result c.is_some_and.result c.read_tail.ensures c.is_some_and.ensures
    (λ none i. none (tail_in s.form n bytes i))
    (λ t r p.
    let fit : Decides c.is_some_and.result (KeyIn s.form n t.0.now) = search rules in (
      λ h. interval_in s.form n bytes t.0.now t.1 t.2 t.3 r (fit.0 h),
      λ i. fit.1 (before_tail s.form s.size g.met.G.StoredGroup.sized n bytes t.0.now t.1 t.2 t.3 r i),
    ))
