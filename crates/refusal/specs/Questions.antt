-- What a list of questions comes to: the first no decides.
use Rattle.std.specs.Prelude.{Bool, true, false, cond, List, [], ◌∷◌, Ok, Err, Result}
use Rattle.refusal.specs.declared.Refusal.{Refusal}

-- one question: a no gives its refusal
abbrev pub asked : Bool → Refusal → Result Unit Refusal
asked true e = Ok tt
asked false e = Err e

-- the first question that is answered no gives its refusal; without one the answer is y
abbrev pub answered : {Y : Type 0} → List (Bool × Refusal) → Y → Result Y Refusal
answered [] y = Ok y
answered (q ∷ qs) y = cond q.0 (answered qs y) (Err q.1)
