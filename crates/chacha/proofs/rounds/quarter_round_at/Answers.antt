use Rattle.std.proofs.Common.{ℕ, ◌%◌, set, ap}
use Rattle.standards.specs.Rfc8439.{quarter_round_at}
use Rattle.chacha.proofs.rounds.quarter_round_at.Goals as goal

pub returns : goal.returns
unfolding quarter_round_at
returns c =
    let s = c.args.state.now in
    let x = c.args.x % 16 in
    let y = c.args.y % 16 in
    let z = c.args.z % 16 in
    let w = c.args.w % 16 in
    ap (λ (q : ℕ × ℕ × ℕ × ℕ). set (set (set (set s x q.0) y q.1) z q.2) w q.3) c.quarter_round-a.ensures
