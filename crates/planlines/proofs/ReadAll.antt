-- Reading one after the other.
use Rattle.std.proofs.Common.{◌≡◌, ℕ, ◌+◌, ◌<◌, List, length, get_or, drop, Ok, Err, Result, sym, ap, ◌∙◌}
use Rattle.std.proofs.lemmas.List.{at_drop_more}
use Rattle.orders.specs.declared.types.Wrong.{Wrong}
use Rattle.orders.specs.Grammar.{and_then}
use Rattle.planlines.specs.Grammar.{all_read}

module _ {A : Type 0} (read : A → Result ℕ Wrong) (xs : List A) (i : ℕ) (d : A) (h : i < length xs) where
  -- the next is read
  pub read_more : (number : ℕ) → Ok number ≡ read (get_or xs i d) → all_read read (drop i xs) ≡ all_read read (drop (i + 1) xs)
  read_more number e =
      at_drop_more (all_read read) xs i d h ∙ ap (λ r. and_then r (λ n. all_read read (drop (i + 1) xs))) (sym e)

  -- the next is wrong
  pub read_stop : (what : Wrong) → Err what ≡ read (get_or xs i d) → all_read read (drop i xs) ≡ Err what
  read_stop what e =
      at_drop_more (all_read read) xs i d h ∙ ap (λ r. and_then r (λ n. all_read read (drop (i + 1) xs))) (sym e)
