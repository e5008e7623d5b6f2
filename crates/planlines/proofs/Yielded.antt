-- An iterator that gives a list, one call on.
use Rattle.std.proofs.Common.{◌≡◌, List, [], ◌∷◌, Some, None, Option, sym, refl, ap, Bor}
use Rattle.std.proofs.lemmas.Iterator.{YieldsList}

module _ {S A : Type 0} (steps : S → Option (Bor A) → S → Type 0) where
  pub yields_more : (s t : S) (x : Bor A) (rest : List A) → YieldsList steps (λ y. y.now) s rest → steps s (Some x) t
      → (ys : List A) × (rest ≡ x.now ∷ ys) × YieldsList steps (λ y. y.now) t ys
  yields_more s t x [] gives e = absurd (gives.runs x t e)
  yields_more s t x (z ∷ ys) gives e =
      let p = gives.runs.1 x t e in
      (ys, ap (λ w. w ∷ ys) (sym p.0), record { runs = p.1 })

  pub yields_end : (s t : S) (rest : List A) → YieldsList steps (λ y. y.now) s rest → steps s None t → rest ≡ []
  yields_end s t [] gives e = refl
  yields_end s t (z ∷ ys) gives e = absurd (gives.runs.0 t e)
