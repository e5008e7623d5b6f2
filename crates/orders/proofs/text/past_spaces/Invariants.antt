use Rattle.std.proofs.Common.{◌≡◌, ◌+◌, ◌-◌, ◌≤◌, eqb, length, drop}
use Rattle.std.specs.List.{prefix_len}
use Rattle.orders.proofs.text.past_spaces.Given as goal

abbrev pub invariant-loop-i : goal.invariant-loop-i
invariant-loop-i l =
    (l.i + prefix_len (λ b. eqb b 32) (drop l.i l.line) ≡ l.from + prefix_len (λ b. eqb b 32) (drop l.from l.line)) × (l.i ≤ length l.line)

abbrev pub decreases-loop-i : goal.decreases-loop-i
decreases-loop-i l = length l.line - l.i
