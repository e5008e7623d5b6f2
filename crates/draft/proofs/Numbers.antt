-- Numbers of a word, added one by one.
use Rattle.std.proofs.Common.{◌≡◌, ℕ, ◌+◌, List, [], ◌∷◌, ◌++◌, get_or, sym, ap, ◌∙◌, append_assoc, add-one}
use Rattle.orders.specs.Text.{pieces, decimal_of, or_zero}
use Rattle.draft.specs.Drafts.{numbers_held}

pub numbers_more : {A : Type 0} (held : ℕ → A) (most : ℕ) (w : List ℕ) (k : ℕ) (x : A) (before xs ys : List A)
    → xs ≡ before ++ numbers_held held most w k → ys ≡ xs ++ (x ∷ []) → x ≡ held (or_zero (decimal_of most (get_or (pieces 44 w) k [])))
    → ys ≡ before ++ numbers_held held most w (k + 1)
numbers_more held most w k x before xs ys start more is =
    more ∙ ap (λ l. l ++ (x ∷ [])) start ∙ append_assoc before (numbers_held held most w k) (x ∷ [])
    ∙ ap (λ n. before ++ (numbers_held held most w k ++ (n ∷ []))) is ∙ ap (λ n. before ++ numbers_held held most w n) (sym (add-one k))
