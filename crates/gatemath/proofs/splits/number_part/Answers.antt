use Rattle.std.proofs.Common.{◌%◌, ap, ◌∙◌}
use Rattle.std.proofs.Math.Nat.{mod-mod}
use Rattle.masking.specs.Masking.{size}
use Rattle.gatemath.proofs.splits.number_part.Goals as goal

pub returns-else-is_one : goal.returns-else-is_one
returns-else-is_one c =
    let N = size c.args.width in
    let drawn = ap (λ n. n % N) c.reduce-drawn.ensures ∙ mod-mod c.args.random N in
    cc
