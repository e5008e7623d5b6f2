use mathlib.Core.Path.{ap, ◌∙◌}
use Prim.Native.Nat.{◌^◌, ◌%◌}
use native.Mathlib.Nat.{mod-mod}
use Rattle.group.specs.Residues.{residue_path}
use Rattle.group.proofs.FlagsGroup.from_draw.Goals as goal

pub returns : goal.returns
returns c = residue_path (2 ^ 32) _ _ (ap (λ n. n % 2 ^ 32) c.low_half.ensures ∙ mod-mod _ (2 ^ 32))
