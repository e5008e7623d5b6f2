use Rattle.std.proofs.Common.{rules}
use Rattle.standards.specs.Rfc8439.{add_xor_rotate}
use Rattle.chacha.proofs.rounds.add_xor_rotate.Goals as goal

pub returns : goal.returns
unfolding add_xor_rotate
returns c = search rules
