-- The questions that gate calls ask, in their order.
use Rattle.std.specs.Prelude.{ℕ, ◌^◌, Bool, List, [], ◌∷◌, ◌==◌, nat_lt}
use Rattle.refusal.specs.declared.Refusal.{Refusal}
use Rattle.refusal.specs.declared.Refusal.TheVariants.{PlanFields, KeyRange, KeyRows}
use Rattle.gates.specs.declared.states.GateAnswers.{GateAnswers}

-- both boxes' shares and what they join to
abbrev pub numbers_of : GateAnswers → ℕ × ℕ × ℕ
numbers_of a = (a.share0.0, a.share1.0, a.held.0)

-- the held value that both boxes come to
abbrev pub held_of : GateAnswers → ℕ
held_of a = a.held.0

-- as many rows as the width?
abbrev pub row_asks : ℕ → ℕ → List (Bool × Refusal)
row_asks rows n = ((rows == n), KeyRows) ∷ []

-- is the mask below N? is the held value below N? has each box's table as many rows as the width?
abbrev pub gate_asks : ℕ → ℕ → ℕ → ℕ → ℕ → List (Bool × Refusal)
gate_asks n r m rows0 rows1 = (nat_lt r (2 ^ n), PlanFields) ∷ (nat_lt m (2 ^ n), KeyRange) ∷ ((rows0 == n), KeyRows) ∷ ((rows1 == n), KeyRows) ∷ []

-- are both masks below N, and both held values?
abbrev pub product_asks : ℕ → ℕ → ℕ → ℕ → ℕ → List (Bool × Refusal)
product_asks n r s m k =
    (nat_lt r (2 ^ n), PlanFields) ∷ (nat_lt s (2 ^ n), PlanFields) ∷ (nat_lt m (2 ^ n), KeyRange) ∷ (nat_lt k (2 ^ n), KeyRange) ∷ []
