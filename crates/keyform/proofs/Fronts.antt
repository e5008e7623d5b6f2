-- The first n bytes of a list that has n.
use Rattle.std.proofs.Common.{◌≡◌, ℕ, zero, suc, List, [], ◌∷◌, length, refl, ap, arith}
use Rattle.layout.specs.Bytes.{front}

pub front_all : (n : ℕ) (xs : List ℕ) → length xs ≡ n → front n xs ≡ xs
front_all zero [] h = refl
front_all zero (x ∷ xs) h = absurd (omega arith)
front_all (suc n) [] h = absurd (omega arith)
front_all (suc n) (x ∷ xs) h = ap (λ t. x ∷ t) (front_all n xs (omega arith))
