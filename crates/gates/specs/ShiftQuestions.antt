-- The questions that a shift's calls ask, in their order.
use Rattle.std.specs.Prelude.{ℕ, ◌^◌, Bool, List, [], ◌∷◌, ◌==◌, nat_lt}
use Rattle.refusal.specs.declared.Refusal.{Refusal}
use Rattle.refusal.specs.declared.Refusal.TheVariants.{PlanFields, KeyRange, KeyRows}
use Rattle.gatekeys.specs.declared.ranges.Shift.{Shift}

-- as many rows in the low table as the shift, and in the high one as the width?
abbrev pub shift_row_asks : Shift → ℕ → ℕ → List (Bool × Refusal)
shift_row_asks s low high = ((low == s.by), KeyRows) ∷ ((high == s.width.bits), KeyRows) ∷ []

-- is the mask below N? is the held value below N? have box 0's tables their rows, and box 1's?
abbrev pub shift_asks : Shift → ℕ → ℕ → ℕ → ℕ → ℕ → ℕ → List (Bool × Refusal)
shift_asks s r m low0 high0 low1 high1 =
    (nat_lt r (2 ^ s.width.bits), PlanFields) ∷ (nat_lt m (2 ^ s.width.bits), KeyRange)
    ∷ ((low0 == s.by), KeyRows) ∷ ((high0 == s.width.bits), KeyRows) ∷ shift_row_asks s low1 high1
