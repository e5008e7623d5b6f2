-- What follows from a list of questions that was answered.
use Rattle.std.proofs.Common.{◌≡◌, Bool, true, false, List, [], ◌∷◌, Ok, Err, sym, refl, ap}
use Rattle.refusal.specs.declared.Refusal.{Refusal}
use Rattle.refusal.specs.Questions.{asked, answered}

-- a refusal does not depend on what the answer would have been
pub refused_alike : {X Y : Type 0} (qs : List (Bool × Refusal)) (x : X) (y : Y) (e : Refusal) → answered qs x ≡ Err e → answered qs y ≡ Err e
refused_alike [] x y e h = cc
refused_alike ((true, no') ∷ qs) x y e h = refused_alike qs x y e h
refused_alike ((false, no') ∷ qs) x y e h = cc

pub answered_alike : {X Y : Type 0} (qs : List (Bool × Refusal)) (x z : X) (y : Y) → answered qs x ≡ Ok z → answered qs y ≡ Ok y
answered_alike [] x z y h = refl
answered_alike ((true, no') ∷ qs) x z y h = answered_alike qs x z y h
answered_alike ((false, no') ∷ qs) x z y h = cc

-- an answer was given, so the first question was answered yes, and the others give an answer too
pub first_yes : {X : Type 0} (b : Bool) (e : Refusal) (qs : List (Bool × Refusal)) (x z : X) → answered ((b, e) ∷ qs) x ≡ Ok z → b ≡ true
first_yes true e qs x z h = refl
first_yes false e qs x z h = cc

pub rest_yes : {X : Type 0} (b : Bool) (e : Refusal) (qs : List (Bool × Refusal)) (x z : X) → answered ((b, e) ∷ qs) x ≡ Ok z → answered qs x ≡ Ok z
rest_yes true e qs x z h = h
rest_yes false e qs x z h = cc

-- one question alone
pub one_refused : {Y : Type 0} (b : Bool) (e f : Refusal) (y : Y) → Err f ≡ asked b e → answered ((b, e) ∷ []) y ≡ Err f
one_refused true e f y h = cc
one_refused false e f y h = ap Err (sym (cc))

pub one_yes : (b : Bool) (e : Refusal) (u : Unit {0}) → Ok u ≡ asked b e → b ≡ true
one_yes true e u h = refl
one_yes false e u h = cc
