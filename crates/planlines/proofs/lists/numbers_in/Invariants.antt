use Rattle.std.proofs.Common.{◌≡◌, ℕ, List}
use Rattle.std.proofs.lemmas.Iterator.{YieldsList}
use Rattle.orders.specs.Text.{decimal_of, pieces}
use Rattle.planlines.specs.Grammar.{all_read}
use Rattle.planlines.proofs.lists.numbers_in.Given as goal

abbrev pub invariant-loop-piece : goal.invariant-loop-piece
invariant-loop-piece l =
    (rest : List (List ℕ)) × YieldsList (goal.iterator-loop-piece).next_gives (λ x. x.now) l.piece-iterator rest
    × (all_read (decimal_of l.most) (pieces 44 l.word) ≡ all_read (decimal_of l.most) rest)
