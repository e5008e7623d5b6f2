use Rattle.shares.proofs.Local.{sum_is_plain, scale_is_plain}
use Rattle.shares.proofs.Xors.{xor_is_plain}
use Rattle.shares.proofs.local_gates_are_plain.Goals as goal

pub returns : goal.returns
returns c = record { sum = sum_is_plain; scale = scale_is_plain; xor = xor_is_plain }
