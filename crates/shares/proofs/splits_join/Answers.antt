use Rattle.shares.proofs.Splits as splits
use Rattle.shares.proofs.splits_join.Goals as goal

pub returns-clause-numbers : goal.returns-clause-numbers
returns-clause-numbers g c = splits.numbers_split

pub returns-clause-held : goal.returns-clause-held
returns-clause-held g c = splits.held_is_plain
