-- Numbers read one after the other.
use Rattle.std.proofs.Common.{◌≡◌, ℕ, ◌+◌, ◌<◌, ◌≤◌, eqb, List, [], ◌∷◌, ◌++◌, length, get_or, take, drop, Ok, Err, Result, sym, refl, ap, ◌∙◌, append_assoc, append-nil, eq-eqb, ne_eqb}
use Rattle.std.proofs.lemmas.List.{at_drop_more, at_drop_all, take_all}
use Rattle.std.proofs.lemmas.Bool.{cond-true, cond-false}
use Rattle.orders.specs.declared.types.Wrong.{Wrong}
use Rattle.orders.specs.Grammar.{and_then, numbers_from, numbers_of}
use Rattle.orders.specs.Text.{pieces, number_of}

-- what was read, with the numbers before it
abbrev pub onto_read : {A : Type 0} → List A → Result (List A) Wrong → Result (List A) Wrong
onto_read before (Ok ns) = Ok (before ++ ns)
onto_read before (Err what) = Err what

onto_one : {A : Type 0} (before : List A) (n : A) (r : Result (List A) Wrong)
    → onto_read before (and_then r (λ ns. Ok (n ∷ ns))) ≡ onto_read (before ++ (n ∷ [])) r
onto_one before n (Ok ns) = ap Ok (sym (append_assoc before (n ∷ []) ns))
onto_one before n (Err what) = refl

module _ {A : Type 0} (held : ℕ → A) (most : ℕ) where
  pub read_step : (before : List A) (ps : List (List ℕ)) (i : ℕ) (n : A) → i < length ps → Ok n ≡ number_of held most (get_or ps i [])
      → onto_read before (numbers_from held most (drop i ps)) ≡ onto_read (before ++ (n ∷ [])) (numbers_from held most (drop (i + 1) ps))
  read_step before ps i n h e =
      ap (onto_read before) (at_drop_more (numbers_from held most) ps i [] h)
      ∙ ap (λ r. onto_read before (and_then r (λ a. and_then (numbers_from held most (drop (i + 1) ps)) (λ rest. Ok (a ∷ rest))))) (sym e)
      ∙ onto_one before n (numbers_from held most (drop (i + 1) ps))

  pub read_stop : (before : List A) (ps : List (List ℕ)) (i : ℕ) (what : Wrong) → i < length ps
      → Err what ≡ number_of held most (get_or ps i []) → onto_read before (numbers_from held most (drop i ps)) ≡ Err what
  read_stop before ps i what h e =
      ap (onto_read before) (at_drop_more (numbers_from held most) ps i [] h)
      ∙ ap (λ r. onto_read before (and_then r (λ a. and_then (numbers_from held most (drop (i + 1) ps)) (λ rest. Ok (a ∷ rest))))) (sym e)

  pub read_all : (ns : List A) (ps : List (List ℕ)) (i : ℕ) → length ns ≤ i → length ps ≤ i
      → onto_read (take i ns) (numbers_from held most (drop i ps)) ≡ Ok ns
  read_all ns ps i short less =
      ap (onto_read (take i ns)) (at_drop_all (numbers_from held most) ps i less) ∙ ap (λ b. Ok (b ++ [])) (take_all i ns short) ∙ ap Ok (append-nil ns)

  pub right_count : (count : ℕ) (wrong : Wrong) (w : List ℕ) → length (pieces 44 w) ≡ count
      → numbers_of held most count wrong w ≡ numbers_from held most (pieces 44 w)
  right_count count wrong w e =
      cond-true (eqb (length (pieces 44 w)) count) (numbers_from held most (pieces 44 w)) (Err wrong) (eq-eqb (length (pieces 44 w)) count e)

  pub wrong_count : (count : ℕ) (wrong : Wrong) (w : List ℕ) → (length (pieces 44 w) ≡ count → ⊥)
      → Err wrong ≡ numbers_of held most count wrong w
  wrong_count count wrong w e =
      sym (cond-false (eqb (length (pieces 44 w)) count) (numbers_from held most (pieces 44 w)) (Err wrong) (ne_eqb (length (pieces 44 w)) count e))

pub onto_none : {A : Type 0} (r : Result (List A) Wrong) → r ≡ onto_read [] r
onto_none (Ok ns) = refl
onto_none (Err what) = refl
