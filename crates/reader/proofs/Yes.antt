-- Questions that were all answered yes.
use Rattle.std.proofs.Common.{◌≡◌, ℕ, ◌≤◌, Bool, true, leb, List, [], ◌∷◌, Ok}
use Rattle.std.proofs.lemmas.Bool.{and_parts, leb-true}
use Rattle.refusal.specs.declared.Refusal.{Refusal}
use Rattle.refusal.specs.Questions.{answered}
use Rattle.refusal.proofs.Answered.{first_yes, rest_yes}
use Rattle.plan.specs.Questions.{within}

abbrev pub AllYes : List (Bool × Refusal) → Type 0
AllYes [] = Unit {0}
AllYes (q ∷ qs) = (q.0 ≡ true) × AllYes qs

pub all_yes : (qs : List (Bool × Refusal)) → answered {Y = Unit {0}} qs tt ≡ Ok tt → AllYes qs
all_yes [] h = tt
all_yes (q ∷ qs) h = (first_yes q.0 q.1 qs tt tt h, all_yes qs (rest_yes q.0 q.1 qs tt tt h))

pub within_tells : (low high x : ℕ) → within low high x ≡ true → (low ≤ x) × (x ≤ high)
within_tells low high x h = let t = and_parts (leb low x) (leb x high) h in (leb-true low x t.0, leb-true x high t.1)
