use Rattle.std.proofs.Common.{◌≡◌, ℕ, ◌+◌, ◌≤◌, List, length, drop}
use Rattle.orders.specs.Text.{words, nth}
use Rattle.orders.proofs.Words.{trimmed}
use Rattle.orders.proofs.text.word_at.Given as goal

abbrev pub invariant-loop-left : goal.invariant-loop-left
invariant-loop-left l =
    (from : List ℕ) × (drop l.start l.line ≡ trimmed from) × (nth (words from) (l.left + 1) ≡ nth (words l.line) l.n) × (l.start ≤ length l.line)

abbrev pub decreases-loop-left : goal.decreases-loop-left
decreases-loop-left l = l.left
