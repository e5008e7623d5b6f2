-- One row more is dealt.
use Rattle.std.proofs.Common.{◌≡◌, ℕ, suc, ◌+◌, ◌<◌, ◌≤◌, Bool, List, [], ◌∷◌, ◌++◌, map, length, take, set, sym, ap, ◌∙◌, append_assoc, append-nil}
use mathlib.Core.List.{map-append}
use Rattle.std.proofs.lemmas.List.{take_more_set, take_all}
use Rattle.group.specs.Groups.{OutputGroup}
use Rattle.expander.specs.Meaning.{Expansion}
use Rattle.expander.specs.declared.Branches.{Branches}
use Rattle.key.specs.declared.Row.{Row}
use Rattle.key.specs.Rows.{row_mean}
use Rattle.evaluation.specs.Evaluation.{bit_at}
use Rattle.dealing.specs.declared.Descent.{Descent}
use Rattle.dealing.specs.Dealing.{row_from, next_from, row_at, next_at, dealt_rows, dealt_last, final_from}

module _ {G M : Type 0} (x : Expansion) (g : OutputGroup M) (mean : G → M) (β : M) (α : ℕ) where
  abbrev pub dealing : List (Row G) → ℕ → ℕ → Descent M → List (Row M)
  dealing xs i left d = map (row_mean mean) (take i xs) ++ dealt_rows x g β α left d

  pub rows_end : (xs : List (Row G)) (i left : ℕ) (d : Descent M) → length xs ≤ i → left ≡ 0 → map (row_mean mean) xs ≡ dealing xs i left d
  rows_end xs i left d h e =
      sym (append-nil (map (row_mean mean) xs)) ∙ ap (λ l. map (row_mean mean) l ++ []) (sym (take_all i xs h)) ∙ ap (λ n. map (row_mean mean)
      (take i xs) ++ dealt_rows x g β α n d) (sym e)

  pub last_end : (left : ℕ) (d : Descent M) → left ≡ 0 → final_from x g d ≡ dealt_last x g β α left d
  last_end left d e = ap (λ n. dealt_last x g β α n d) (sym e)

  module _ (d d' : Descent M) (k left : ℕ) (bit : Bool) (b0 b1 : Branches) (row : Row G) (is : left ≡ suc k) (eb : bit ≡ bit_at α k) (e0 : b0 ≡ x.branch
      d.seed0) (e1 : b1 ≡ x.branch d.seed1)
      (er : row_mean mean row ≡ row_from x g β bit d b0 b1) (ed : d' ≡ next_from x g bit d b0 b1 (row_mean mean row)) where
    row_is : row_mean mean row ≡ row_at x g β (bit_at α k) d
    row_is = er ∙ ap (λ b. row_from x g β bit d b b1) e0 ∙ ap (λ b. row_from x g β bit d (x.branch d.seed0) b) e1 ∙ ap (λ c. row_at x g β c d) eb

    next_is : d' ≡ next_at x g β (bit_at α k) d
    next_is = ed ∙ ap (λ b. next_from x g bit d b b1 (row_mean mean row)) e0 ∙ ap (λ b. next_from x g bit d (x.branch d.seed0) b (row_mean mean row)) e1
        ∙ ap (λ c. next_from x g c d (x.branch d.seed0) (x.branch d.seed1) (row_mean mean row)) eb
        ∙ ap (next_from x g (bit_at α k) d (x.branch d.seed0) (x.branch d.seed1)) row_is

    pub rows_next : (xs : List (Row G)) (i : ℕ) → i < length xs → dealing (set xs i row) (i + 1) k d' ≡ dealing xs i left d
    rows_next xs i h =
        let front : List (Row M) = map (row_mean mean) (take i xs) in
        ap (λ l. map (row_mean mean) l ++ dealt_rows x g β α k d') (take_more_set xs i row h)
        ∙ ap (λ l. l ++ dealt_rows x g β α k d') (map-append (row_mean mean) (take i xs) (row ∷ []))
        ∙ append_assoc front (row_mean mean row ∷ []) (dealt_rows x g β α k d')
        ∙ ap (λ r. front ++ (r ∷ dealt_rows x g β α k d')) row_is
        ∙ ap (λ e. front ++ (row_at x g β (bit_at α k) d ∷ dealt_rows x g β α k e)) next_is
        ∙ ap (λ n. front ++ dealt_rows x g β α n d) (sym is)

    pub last_next : dealt_last x g β α k d' ≡ dealt_last x g β α left d
    last_next = ap (dealt_last x g β α k) next_is ∙ ap (λ n. dealt_last x g β α n d) (sym is)
