use Prim.Native.Nat.{◌^◌}
use Rattle.group.specs.Residues.{reduce_sum}
use Rattle.group.proofs.WordGroup.add.Goals as goal

pub returns : goal.returns
returns c = reduce_sum (2 ^ 64) c.args.self.0 c.args.other.0
