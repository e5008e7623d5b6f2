-- The rows of a key, asked one by one.
use Rattle.std.proofs.Common.{◌≡◌, ℕ, zero, suc, ◌+◌, ◌*◌, ◌<◌, Bool, true, false, ◌&&◌, leb, List, get_or, refl, ap, ◌∙◌, sym, arith}
use Rattle.bodies.specs.Bodies.{rows_fit}

module _ (size : ℕ) (key : List ℕ) where
  -- the bits of row k from a place on
  abbrev pub row_fits : ℕ → ℕ → Bool
  row_fits at k = leb (get_or key (at + k * (17 + size) + 16) 0) 3

  -- the place of a row counted from the next
  next : (at k : ℕ) → row_fits (at + (17 + size)) k ≡ row_fits at (k + 1)
  next at k =
      let e : at + (17 + size) + k * (17 + size) + 16 ≡ at + (k + 1) * (17 + size) + 16 = grind arith in
      ap (λ i. leb (get_or key i 0) 3) e

  first : (at : ℕ) → row_fits at 0 ≡ leb (get_or key (at + 16) 0) 3
  first at = let e : at + 0 * (17 + size) + 16 ≡ at + 16 = omega arith in ap (λ i. leb (get_or key i 0) 3) e

  pub all_rows : (n at : ℕ) → ((k : ℕ) → k < n → row_fits at k ≡ true) → rows_fit size key n at ≡ true
  all_rows zero at h = refl
  all_rows (suc n) at h =
      let a : leb (get_or key (at + 16) 0) 3 ≡ true = sym (first at) ∙ h 0 (omega arith) in
      let b = all_rows n (at + (17 + size)) (λ k l. next at k ∙ h (k + 1) (omega arith)) in
      λ i. a i && b i

  pub row_fails : (n at k : ℕ) → k < n → row_fits at k ≡ false → rows_fit size key n at ≡ false
  row_fails zero at k l h = absurd (omega arith)
  row_fails (suc n) at zero l h = ap (λ b. b && rows_fit size key n (at + (17 + size))) (sym (first at) ∙ h)
  row_fails (suc n) at (suc k) l h =
      let e : suc k ≡ k + 1 = omega arith in
      let b = row_fails n (at + (17 + size)) k (omega arith) (next at k ∙ ap (row_fits at) (sym e) ∙ h) in
      ap (λ r. leb (get_or key (at + 16) 0) 3 && r) b ∙ none (leb (get_or key (at + 16) 0) 3)
    where
      none : (b : Bool) → (b && false) ≡ false
      none true = refl
      none false = refl

-- an answer that is right where it is yes and where it is no
pub told : (r f : Bool) → (r ≡ true → f ≡ true) → (r ≡ false → f ≡ false) → r ≡ f
told true f t u = sym (t refl)
told false f t u = sym (u refl)
