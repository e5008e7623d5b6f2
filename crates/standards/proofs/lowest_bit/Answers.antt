use borrow.Author.Rules.{rules}
use Rattle.standards.specs.Kinds.{lowest_bit}
use Rattle.standards.proofs.lowest_bit.Goals as goal

pub returns : goal.returns
unfolding lowest_bit
returns c = search rules
