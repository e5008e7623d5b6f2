-- What a dealer is given of the plan that was read.
use Rattle.std.specs.Prelude.{ℕ}
use Rattle.plan.specs.Plans.{planned}
use Rattle.dealer.specs.Book.{Order, order}
use Rattle.draft.specs.Drafts.{Drafted}

abbrev pub order_of : Drafted → ℕ → ℕ → Order
order_of d number deal = order (planned d.width d.owners d.rows) number deal d.words
