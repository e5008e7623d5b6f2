-- What a closure that keeps its captures gave at each index.
use Rattle.std.proofs.Common.{◌≡◌, ℕ, zero, suc, ◌+◌, ◌<◌, List, [], ◌∷◌, get_or, sym, refl, ap, ◌∙◌, subst, arith}
use Rattle.std.specs.Array.{IsFromFnResultFrom, index_steps}
use Rattle.std.specs.Iterator.{CallableAtEachTurn}
use Rattle.std.specs.List.{FoldsTo}
use Rattle.std.specs.Fn.{Called, Mut}

module _ {F B : Type 0} (g : Mut F (ℕ × Unit {0}) B) (h : ℕ → B) (f : F)
    (acts : (i : ℕ) (y : B) (q : F) → Called g f (i, tt) y q → (q ≡ f) × (y ≡ h i)) where
  made_from : (ys : List B) (i n k j : ℕ) (d : B) → IsFromFnResultFrom g f ys i n → k < n → j ≡ i + k → get_or ys j d ≡ h j
  made_from ys i zero k j d e lt at = absurd (omega arith)
  made_from ys i (suc n) zero j d e lt at =
      let here : j ≡ i = omega arith in
      ap (λ m. get_or ys m d) here ∙ e.2.1 d ∙ (acts i e.1 e.0 e.3).1 ∙ ap h (omega arith)
  made_from ys i (suc n) (suc k) j d e lt at =
      made_from ys (i + 1) n k j d (subst (λ q. IsFromFnResultFrom g q ys (i + 1) n) (acts i e.1 e.0 e.3).0 e.4) (omega arith) (omega arith)

  pub made_at : (ys : List B) (n k : ℕ) (d : B) → IsFromFnResultFrom g f ys 0 n → k < n → get_or ys k d ≡ h k
  made_at ys n k d e lt = made_from ys 0 n k k d e lt (omega arith)

-- it may be called at each index, where it may be called at each with its captures as they are
module _ {F : Type 0} (R : F → ℕ → F → Type 0) (Q : F → ℕ → Type 0) (f : F) (keeps : (i : ℕ) (q : F) → R f i q → q ≡ f) where
  kept : (xs : List ℕ) (p q : F) → p ≡ f → FoldsTo R p xs q → q ≡ f
  kept [] p q a c = sym c ∙ a
  kept (x ∷ xs) p q a c = kept xs c.0 q (keeps x c.0 (subst (λ w. R w x c.0) a c.1)) c.2

  pub callable_at : (n : ℕ) → ((i : ℕ) → i < n → Q f i) → CallableAtEachTurn (index_steps n) R Q 0 f
  callable_at n takes = record {
    at = λ xs t q x u yields folds step. subst (λ w. Q w x) (sym (kept xs f q refl folds)) (takes x (omega (arith, step.0, step.1)));
  }
