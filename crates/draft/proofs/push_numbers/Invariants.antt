use Rattle.std.proofs.Common.{◌≡◌, ◌++◌, vec_items}
use Rattle.draft.specs.Drafts.{numbers_held}
use Rattle.draft.proofs.push_numbers.Given as goal

abbrev pub invariant-loop-k : goal.invariant-loop-k
invariant-loop-k g l = vec_items l.list ≡ vec_items l.initial.list ++ numbers_held g.N.Number.held g.N.Number.MOST l.word l.k
