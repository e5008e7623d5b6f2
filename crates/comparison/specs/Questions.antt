-- The questions that dealing, evaluating and comparing ask, in their order.
use Rattle.std.specs.Prelude.{ℕ, ◌^◌, Bool, ◌&&◌, List, [], ◌∷◌, Result, ◌==◌, nat_le, nat_lt}
use Rattle.refusal.specs.Questions.{answered}
use Rattle.refusal.specs.declared.Refusal.{Refusal}
use Rattle.refusal.specs.declared.Refusal.TheVariants.{KeyWidth, KeyRange, KeyRows, KeyWords}

-- whether a number is below 2^width
abbrev pub is_in_range : ℕ → ℕ → Bool
is_in_range width number = nat_lt number (2 ^ width)

-- width 1 to 32? in range? as many rows as the width? at most 8 draw words?
abbrev pub asks_for : ℕ → Bool → ℕ → ℕ → List (Bool × Refusal)
asks_for width fits rows words =
    (nat_le 1 width && nat_le width 32, KeyWidth)
    ∷ (fits, KeyRange)
    ∷ ((rows == width), KeyRows)
    ∷ (nat_le words 8, KeyWords)
    ∷ []

-- for one threshold, or one point
abbrev pub key_asks : ℕ → ℕ → ℕ → ℕ → List (Bool × Refusal)
key_asks width number rows words = asks_for width (is_in_range width number) rows words

-- for a threshold and a point together
abbrev pub compare_asks : ℕ → ℕ → ℕ → ℕ → ℕ → List (Bool × Refusal)
compare_asks width threshold point rows words = asks_for width (is_in_range width threshold && is_in_range width point) rows words

abbrev pub asked_all : ℕ → Bool → ℕ → ℕ → Result Unit Refusal
asked_all width fits rows words = answered (asks_for width fits rows words) tt
