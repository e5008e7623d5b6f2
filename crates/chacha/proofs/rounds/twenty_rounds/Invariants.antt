use Rattle.std.proofs.Common.{◌≡◌}
use Rattle.standards.specs.Rfc8439.{double_rounds}
use Rattle.chacha.proofs.rounds.twenty_rounds.Given as goal

abbrev pub invariant-loop-round : goal.invariant-loop-round
invariant-loop-round l = l.state ≡ double_rounds l._round l.initial.state
