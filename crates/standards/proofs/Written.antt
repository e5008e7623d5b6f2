-- Lists of a known length, written out.
use Rattle.std.proofs.Common.{◌≡◌, ℕ, List, map, length, get_or, refl}
use Rattle.std.proofs.lemmas.List.FromFn.{fill_by_all}
use Rattle.std.specs.List.{range_with_len}

-- the elements of a list at the places 0 to n - 1
abbrev pub written : ℕ → List ℕ → List ℕ
written n xs = map (λ k. get_or xs k 0) (range_with_len 0 n)

pub written_out : (n : ℕ) (xs : List ℕ) → length xs ≡ n → xs ≡ written n xs
written_out n xs h = fill_by_all (λ k. get_or xs k 0) xs n 0 h (λ k l. refl)
