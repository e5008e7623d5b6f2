use Rattle.returned.proofs.Back.{dealt_is_read}
use Rattle.returned.proofs.dealt_books_are_read.Goals as goal

pub returns : goal.returns
returns c = dealt_is_read
