use Rattle.standards.specs.Rfc8439.{block}
use Rattle.chacha.proofs.blocks.block.Goals as goal

pub returns : goal.returns
unfolding block
returns c = cc
