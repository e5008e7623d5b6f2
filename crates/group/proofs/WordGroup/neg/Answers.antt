use Prim.Native.Nat.{◌^◌}
use native.Mathlib.Omega.{arith}
use Rattle.group.specs.Residues.{residue_path}
use Rattle.group.proofs.WordGroup.neg.Goals as goal

pub returns : goal.returns
returns c = residue_path (2 ^ 64) _ _ (omega arith)
