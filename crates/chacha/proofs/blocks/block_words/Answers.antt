use Rattle.standards.specs.Rfc8439.{block_words}
use Rattle.chacha.proofs.blocks.block_words.Goals as goal

pub returns : goal.returns
unfolding block_words
returns c = cc
