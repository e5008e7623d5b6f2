-- The entry of a wire in the contents of a book.
use Rattle.std.proofs.Common.{◌≡◌, ℕ, ◌+◌, ◌-◌, ◌*◌, ◌<◌, ◌≤◌, List, length, drop, take, slice_range, Some, None, Option, Bor, sym, ap, ◌∙◌, arith, MatchOption, length-drop, ◌⊎◌}

-- the first 8 bytes from the entry's place on
pub entry_told : (book : List ℕ) (k at : ℕ) (o : Option (Bor (List ℕ))) (xs : List ℕ)
    → at ≡ 16 + 8 * k → xs ≡ drop at book
    → MatchOption o ((8 < 0) ⊎ (length xs < 8)) (λ x. (0 ≤ 8) × (8 ≤ length xs) × (x.now ≡ slice_range xs 0 8) × (length x.now + 0 ≡ 8))
    → MatchOption o (length book < 24 + 8 * k) (λ x. (24 + 8 * k ≤ length book) × (x.now ≡ slice_range book (16 + 8 * k) (24 + 8 * k)))
entry_told book k at None xs there ex m = omega (arith, ap length ex, length-drop at book)
entry_told book k at (Some x) xs there ex m =
    let u : 24 + 8 * k - (16 + 8 * k) ≡ 8 = omega arith in (
      omega (arith, ap length ex, length-drop at book),
      m.2 ∙ ap (take 8) (ex ∙ ap (λ j. drop j book) there) ∙ ap (λ j. take j (drop (16 + 8 * k) book)) (sym u),
    )
