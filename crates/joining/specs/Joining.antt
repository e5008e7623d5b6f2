-- What two boxes' answers come to: the comparison function.
use Rattle.std.specs.Prelude.{ℕ, Bool, cond, nat_lt}
use Rattle.group.specs.Groups.{OutputGroup}
use Rattle.expander.specs.Meaning.{Expansion, Wide}
use Rattle.expander.specs.declared.Seed.{Seed}
use Rattle.evaluation.specs.Evaluation.{evaluated}
use Rattle.dealing.specs.Dealing.{start, dealt_rows, dealt_last}

-- every branch gives whole seeds
abbrev pub AllWide : Expansion → Type 0
AllWide x = (s : Seed) → Wide (x.branch s)

-- the payload below the threshold, zero elsewhere
abbrev pub compared : {M : Type 0} → OutputGroup M → ℕ → M → ℕ → M
compared g α β m = cond (nat_lt m α) β g.zero

-- a box's answer from the key that a dealer deals: the dealer's expansion is d, the box's is x
abbrev pub dealt_answer : {M : Type 0} → OutputGroup M → Expansion → Expansion → ℕ → ℕ → M → Seed → Seed → Bool → Seed → ℕ → M
dealt_answer {M} g d x n α β root0 root1 one root m =
    evaluated x g (λ (v : M). v) one root (dealt_rows d g β α n (start g root0 root1)) (dealt_last d g β α n (start g root0 root1)) m
